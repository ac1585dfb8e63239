-- The numbers of places in a list of slots, part by part.
use Rattle.std.proofs.Common.{◌≡◌, ℕ, zero, suc, ◌+◌, Bool, true, false, cond, ◌&&◌, List, [], ◌∷◌, ◌++◌, map, length, Option, Some, None, zero-add, refl, sym, ap, ◌∙◌, arith}
use Rattle.std.specs.List.{AllByRecursion}
use Rattle.lus_meaning.specs.Slots.{Slot, slots}
use Rattle.lus_meaning.specs.Trace.{same_numbers}
use Rattle.lus_meaning.proofs.Lists.{all_from}
use Rattle.sys_meaning.specs.Slot.{Spot, beat, named, memory, starting, so_far, held, Place, in_call, spot_of, place_of, same_spot, same_place, number_in}
use Rattle.sys_meaning.proofs.Found.{self_number}
use Rattle.sys_meaning.proofs.Shows.{same_places}
use Rattle.path_laws.proofs.OnePlace.{behind}
use Rattle.sys_places.specs.Places.{number_from, StandsAtRoot}

-- ---- parts

pub from_parts : (missing base : ℕ) (xs ys : List Slot) (p : Place)
    → number_from missing base (xs ++ ys) p ≡ number_from (number_from missing (base + length xs) ys p) base xs p
from_parts missing base [] ys p = ap (λ b. number_from missing b ys p) same
  where
    same : base ≡ base + 0
    same = omega arith
from_parts missing base (x ∷ xs) ys p =
    ap (λ r. cond (same_place p (place_of x)) base r)
    (from_parts missing (suc base) xs ys p ∙ ap (λ b. number_from (number_from missing b ys p) (suc base) xs p) (moved (length xs)))
  where
    moved : (l : ℕ) → suc base + l ≡ base + suc l
    moved l = omega arith

-- no slot is at the place
abbrev pub NoneAt : Place → List Slot → Type 0
NoneAt p qs = AllByRecursion (λ q. same_place p (place_of q) ≡ false) qs

pub none_there : (missing base : ℕ) (xs : List Slot) (p : Place) → NoneAt p xs → number_from missing base xs p ≡ missing
none_there missing base [] p a = refl
none_there missing base (x ∷ xs) p a =
    ap (λ b. cond b base (number_from missing (suc base) xs p)) a.0 ∙ none_there missing (suc base) xs p a.1

-- behind a part that has none there
pub behind_none : (missing base : ℕ) (xs ys : List Slot) (p : Place) → NoneAt p xs
    → number_from missing base (xs ++ ys) p ≡ number_from missing (base + length xs) ys p
behind_none missing base xs ys p a =
    from_parts missing base xs ys p ∙ none_there (number_from missing (base + length xs) ys p) base xs p a

-- before one that has none there
pub before_none : (missing base : ℕ) (xs ys : List Slot) (p : Place) → NoneAt p ys
    → number_from missing base (xs ++ ys) p ≡ number_from missing base xs p
before_none missing base xs ys p a =
    from_parts missing base xs ys p ∙ ap (λ m. number_from m base xs p) (none_there missing (base + length xs) ys p a)

-- the slots of a call's frame, each by way of the call
pub numbered_in_call : (missing base k : ℕ) (qs : List Slot) (p : Place)
    → number_from missing base (map (behind k) qs) (in_call k p) ≡ number_from missing base qs p
numbered_in_call missing base k [] p = refl
numbered_in_call missing base k (q ∷ qs) p =
    ap (λ b. cond ((b && same_numbers p.0 q.path) && same_spot p.1 (spot_of q.cell)) base
    (number_from missing (suc base) (map (behind k) qs) (in_call k p))) (self_number k)
    ∙ ap (λ r. cond (same_place p (place_of q)) base r) (numbered_in_call missing (suc base) k qs p)

-- ---- whose a place is

abbrev pub holder : Spot → Option ℕ
holder (held k x) = Some k
holder beat = None
holder (named x) = None
holder (memory k) = None
holder (starting k) = None
holder so_far = None

-- the number of the call that a place is of: held of it, or of its frame
abbrev pub call_of : Place → Option ℕ
call_of ([], s) = holder s
call_of (k ∷ ks, s) = Some k

abbrev pub IsOf : Option ℕ → Slot → Type 0
IsOf o q = call_of (place_of q) ≡ o

other_place : (p : Place) (q : Slot) → (call_of p ≡ call_of (place_of q) → ⊥) → same_place p (place_of q) ≡ false
other_place p q h = go (same_place p (place_of q)) refl
  where
    go : (b : Bool) → same_place p (place_of q) ≡ b → b ≡ false
    go true e = absurd (h (ap call_of (same_places p (place_of q) e)))
    go false e = refl

pub none_of_others : (o : Option ℕ) (p : Place) (qs : List Slot) → (call_of p ≡ o → ⊥) → AllByRecursion (IsOf o) qs → NoneAt p qs
none_of_others o p qs h a =
    all_from (IsOf o) (λ q. same_place p (place_of q) ≡ false) (λ q e. other_place p q (λ f. h (f ∙ e))) qs a

-- ---- all

all_numbered : (base : ℕ) (qs : List Slot) (p : Place) → base + number_in qs p ≡ number_from (base + length qs) base qs p
all_numbered base [] p = refl
all_numbered base (q ∷ qs) p = go (same_place p (place_of q)) (number_in qs p) (length qs) (all_numbered (suc base) qs p)
  where
    go : (b : Bool) (n l : ℕ) → suc base + n ≡ number_from (suc base + l) (suc base) qs p
        → base + cond b zero (suc n) ≡ cond b base (number_from (base + suc l) (suc base) qs p)
    go true n l r = omega arith
    go false n l r = first ∙ r ∙ ap (λ m. number_from m (suc base) qs p) last
      where
        first : base + suc n ≡ suc base + n
        first = omega arith

        last : suc base + l ≡ base + suc l
        last = omega arith

pub stands_at_root : StandsAtRoot
stands_at_root i p =
    sym (zero-add (number_in (slots i) p)) ∙ all_numbered 0 (slots i) p
    ∙ ap (λ m. number_from m 0 (slots i) p) (zero-add (length (slots i)))
