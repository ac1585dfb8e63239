-- The numbers of a frame's own variables, kind by kind.
use Rattle.std.proofs.Common.{◌≡◌, ℕ, zero, suc, ◌+◌, Bool, true, false, cond, ◌&&◌, ◌||◌, List, [], ◌∷◌, map, length, Option, Some, None, is_some, refl, sym, ap, ◌∙◌, arith, slice_get}
use Rattle.std.specs.Prelude.{◌==◌, nat_lt}
use Rattle.std.specs.Str.{bytes_eq}
use Rattle.std.proofs.lemmas.Bool.{eq-eqb, ne_eqb}
use Rattle.std.proofs.lemmas.Bool.Decides.{nat_tests}
use Rattle.lus_tree.specs.Tree.{Name, Variable, Expression, ContractStatement, Component}
use Rattle.lus_meaning.specs.Depends.{named_in}
use Rattle.lus_meaning.specs.Scene.{Manner, plain, while_true, as_import, Site, Instance, no_instance}
use Rattle.lus_meaning.specs.Slots.{Cell, name_cell, Slot, slot, contract_cells, held_each, held_cells}
use Rattle.lus_meaning.specs.WellMade.{AreDistinct}
use Rattle.name_table.specs.Names.{number_of}
use Rattle.lus_streams.specs.Streams.{names_of}
use Rattle.sys_meaning.specs.Slot.{Spot, named, so_far, held, Place, own, spot_of, place_of, same_spot, same_place}
use Rattle.sys_meaning.specs.System.{has_so_far}
use Rattle.sys_meaning.specs.WellTyped.{IsKnown}
use Rattle.sys_meaning.proofs.Cells.{same_place_self, Apart, names_apart, slots_apart}
use Rattle.sys_meaning.proofs.Follows.{some_same, none_some}
use Rattle.sys_meaning.proofs.Found.{self_number}
use Rattle.sys_meaning.proofs.PathStates.{at_index}
use Rattle.path_laws.proofs.Numbers.{CountedFrom}
use Rattle.path_laws.proofs.Places.{HeldMany}
use Rattle.sys_places.specs.Own.{name_number, counted_number, held_number}
use Rattle.sys_places.specs.Places.{number_from}
use Rattle.sys_places.proofs.Numbers.{NoneAt}

-- ---- names

-- the first of some streams, or one of the others
pub name_step : (missing base : ℕ) (v : Variable) (vs : List Variable) (x : Name)
    → cond (bytes_eq x v.name.text) base (name_number missing (suc base) vs x) ≡ name_number missing base (v ∷ vs) x
name_step missing base v vs x = go (bytes_eq x v.name.text) (named_in x (names_of vs)) (number_of (names_of vs) x)
  where
    go : (b c : Bool) (k : ℕ) → cond b base (cond c (suc base + k) missing) ≡ cond (b || c) (base + cond b 0 (suc k)) missing
    go true c k = omega arith
    go false true k = omega arith
    go false false k = refl

module _ (i : Instance) where
  pub names_numbered : (missing base : ℕ) (vs : List Variable) (x : Name)
      → number_from missing base (map (slot i []) (map name_cell vs)) (own (named x)) ≡ name_number missing base vs x
  names_numbered missing base [] x = refl
  names_numbered missing base (v ∷ vs) x =
      ap (λ r. cond (bytes_eq x v.name.text) base r) (names_numbered missing (suc base) vs x) ∙ name_step missing base v vs x

  -- ---- what is held of a call

  held_each_numbered : (missing base : ℕ) (s : Site) (vs : List Variable) (ds : List Expression) (x : Name) → length ds ≡ length vs
      → number_from missing base (map (slot i []) (held_each s vs ds)) (own (held s.number x)) ≡ name_number missing base vs x
  held_each_numbered missing base s [] ds x l = refl
  held_each_numbered missing base s (v ∷ vs) [] x l = absurd (omega (arith, l))
  held_each_numbered missing base s (v ∷ vs) (d ∷ ds) x l =
      ap (λ b. cond (b && bytes_eq x v.name.text) base (number_from missing (suc base) (map (slot i []) (held_each s vs ds)) (own (held s.number x))))
      (self_number s.number)
      ∙ ap (λ r. cond (bytes_eq x v.name.text) base r) (held_each_numbered missing (suc base) s vs ds x (omega (arith, l)))
      ∙ name_step missing base v vs x

  pub held_numbered : (missing base : ℕ) (s : Site) (n : Component) (m : Manner) (x : Name) → HeldMany m s.defaults n.outputs
      → number_from missing base (map (slot i []) (held_cells s n m)) (own (held s.number x)) ≡ held_number missing base m n.outputs x
  held_numbered missing base s n (while_true a) x h = held_each_numbered missing base s n.outputs s.defaults x h
  held_numbered missing base s n plain x h = refl
  held_numbered missing base s n (as_import xs) x h = refl

-- ---- what is numbered from 1 on

-- one after the other, from the number j on
abbrev pub counted_in : ℕ → ℕ → ℕ → ℕ → ℕ → ℕ
counted_in missing base j zero k = missing
counted_in missing base j (suc l) k = cond (k == j) base (counted_in missing (suc base) (suc j) l k)

none_counted : (missing base j l : ℕ) → counted_in missing base (suc j) l 0 ≡ missing
none_counted missing base j zero = refl
none_counted missing base j (suc l) = rw (ne_eqb 0 (suc j) other) (none_counted missing (suc base) (suc j) l)
  where
    other : 0 ≡ suc j → ⊥
    other e = omega (arith, e)

none_below : (d : ℕ) → nat_lt d 0 ≡ false
none_below d = grind (arith, nat_tests)

first_below : (l : ℕ) → nat_lt 0 (suc l) ≡ true
first_below l = grind (arith, nat_tests)

both_below : (e l : ℕ) → nat_lt e l ≡ nat_lt (suc e) (suc l)
both_below e l = grind (arith, nat_tests)

counted_far : (missing base j l d : ℕ) → counted_in missing base j l (j + d) ≡ cond (nat_lt d l) (base + d) missing
counted_far missing base j zero d = ap (λ b. cond b (base + d) missing) (sym (none_below d))
counted_far missing base j (suc l) zero =
    ap (λ b. cond b base (counted_in missing (suc base) (suc j) l (j + 0))) (eq-eqb (j + 0) j same) ∙ ends
    ∙ ap (λ b. cond b (base + 0) missing) (sym (first_below l))
  where
    same : j + 0 ≡ j
    same = omega arith

    ends : base ≡ base + 0
    ends = omega arith
counted_far missing base j (suc l) (suc e) =
    ap (λ b. cond b base (counted_in missing (suc base) (suc j) l (j + suc e))) (ne_eqb (j + suc e) j other)
    ∙ ap (λ k. counted_in missing (suc base) (suc j) l k) moved ∙ counted_far missing (suc base) (suc j) l e
    ∙ ap (λ b. cond b (suc base + e) missing) (both_below e l) ∙ ap (λ k. cond (nat_lt (suc e) (suc l)) k missing) ends
  where
    other : j + suc e ≡ j → ⊥
    other h = omega (arith, h)

    moved : j + suc e ≡ suc j + e
    moved = omega arith

    ends : suc base + e ≡ base + suc e
    ends = omega arith

from_one : (missing base l k : ℕ) → counted_in missing base 1 l k ≡ counted_number missing base l k
from_one missing base l zero = none_counted missing base 0 l
from_one missing base l (suc k) = ap (λ z. counted_in missing base 1 l z) same ∙ counted_far missing base 1 l k
  where
    same : suc k ≡ 1 + k
    same = omega arith

-- cells of which each has a number, and the spot of a number
module _ {A : Type 0} (number : A → ℕ) (cell : A → Cell) (spot : ℕ → Spot)
    (tells : (k : ℕ) (x : A) → same_spot (spot k) (spot_of (cell x)) ≡ (k == number x)) (i : Instance) where
  in_turn : (missing base j : ℕ) (xs : List A) → CountedFrom number j xs → (k : ℕ)
      → number_from missing base (map (slot i []) (map cell xs)) (own (spot k)) ≡ counted_in missing base j (length xs) k
  in_turn missing base j [] c k = refl
  in_turn missing base j (x ∷ xs) c k =
      ap (λ b. cond b base (number_from missing (suc base) (map (slot i []) (map cell xs)) (own (spot k))))
      (tells k x ∙ ap (λ z. k == z) c.0)
      ∙ ap (λ r. cond (k == j) base r) (in_turn missing (suc base) (suc j) xs c.1 k)

  pub counted_numbered : (missing base : ℕ) (xs : List A) → CountedFrom number 1 xs → (k : ℕ)
      → number_from missing base (map (slot i []) (map cell xs)) (own (spot k)) ≡ counted_number missing base (length xs) k
  counted_numbered missing base xs c k = in_turn missing base 1 xs c k ∙ from_one missing base (length xs) k

-- ---- whether the assumptions were true

module _ (i : Instance) where
  contract_numbered_so : (missing base : ℕ) (m : Manner) (n : Component) (o : Option (List ContractStatement)) → n.contract ≡ o
      → number_from missing base (map (slot i []) (contract_cells m o)) (own so_far) ≡ cond (has_so_far m n) base missing
  contract_numbered_so missing base plain n None e = ap (λ o. cond (is_some o) base missing) (sym e)
  contract_numbered_so missing base (while_true a) n None e = ap (λ o. cond (is_some o) base missing) (sym e)
  contract_numbered_so missing base (as_import xs) n None e = refl
  contract_numbered_so missing base plain n (Some cs) e = ap (λ o. cond (is_some o) base missing) (sym e)
  contract_numbered_so missing base (while_true a) n (Some cs) e = ap (λ o. cond (is_some o) base missing) (sym e)
  contract_numbered_so missing base (as_import xs) n (Some cs) e = refl

  pub contract_numbered : (missing base : ℕ) (m : Manner) (n : Component)
      → number_from missing base (map (slot i []) (contract_cells m n.contract)) (own so_far) ≡ cond (has_so_far m n) base missing
  contract_numbered missing base m n = contract_numbered_so missing base m n n.contract refl

  -- ---- other kinds

  pub none_of_kind : {A : Type 0} (y : Place) (cell : A → Cell) → ((x : A) → same_place y ([], spot_of (cell x)) ≡ false) → (xs : List A)
      → NoneAt y (map (slot i []) (map cell xs))
  none_of_kind y cell h [] = tt
  none_of_kind y cell h (x ∷ xs) = (h x, none_of_kind y cell h xs)

  pub none_of_contract : (y : Place) → same_place y ([], so_far) ≡ false → (m : Manner) (o : Option (List ContractStatement))
      → NoneAt y (map (slot i []) (contract_cells m o))
  none_of_contract y h plain None = tt
  none_of_contract y h (while_true a) None = tt
  none_of_contract y h (as_import xs) None = tt
  none_of_contract y h plain (Some cs) = (h, tt)
  none_of_contract y h (while_true a) (Some cs) = (h, tt)
  none_of_contract y h (as_import xs) (Some cs) = tt

-- ---- each by its place

pub got_mapped : {A B : Type 0} (f : A → B) (xs : List A) (k : ℕ) (x : A) → slice_get xs k ≡ Some x → slice_get (map f xs) k ≡ Some (f x)
got_mapped f [] k x e = absurd (none_some x e)
got_mapped f (y ∷ xs) zero x e = ap (λ z. Some (f z)) (some_same y x e)
got_mapped f (y ∷ xs) (suc k) x e = got_mapped f xs k x e

pub apart_numbered : (missing base : ℕ) (qs : List Slot) → Apart qs → (k : ℕ) (q : Slot) → slice_get qs k ≡ Some q
    → number_from missing base qs (place_of q) ≡ base + k
apart_numbered missing base [] a k q e = absurd (none_some q e)
apart_numbered missing base (r ∷ qs) a zero q e = rw (sym (some_same r q e), same_place_self (place_of r)) ends
  where
    ends : base ≡ base + 0
    ends = omega arith
apart_numbered missing base (r ∷ qs) a (suc k) q e =
    rw (at_index (λ z. same_place (place_of z) (place_of r) ≡ false) qs a.0 k q e) (apart_numbered missing (suc base) qs a.1 k q e ∙ ends)
  where
    ends : suc base + k ≡ base + suc k
    ends = omega arith

-- streams of different names
pub stream_numbered : (missing base : ℕ) (vs : List Variable) → AreDistinct (map (λ v. v.name.text) vs) → (k : ℕ) (v : Variable)
    → slice_get vs k ≡ Some v → name_number missing base vs v.name.text ≡ base + k
stream_numbered missing base vs d k v e =
    sym (names_numbered no_instance missing base vs v.name.text)
    ∙ apart_numbered missing base (map (slot no_instance []) (map name_cell vs))
    (slots_apart IsKnown no_instance (map name_cell vs) (names_apart vs d)) k (slot no_instance [] (name_cell v))
    (got_mapped (slot no_instance []) (map name_cell vs) k (name_cell v) (got_mapped name_cell vs k v e))
