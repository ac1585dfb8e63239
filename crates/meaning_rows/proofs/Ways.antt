-- When no way of needs leads from one place to another: a test that computes.
use Rattle.std.proofs.Common.{◌≡◌, ℕ, zero, suc, Bool, true, false, not, ◌&&◌, ◌||◌, List, [], ◌∷◌, Option, Some, None, refl, ap, ◌∙◌, subst}
use Rattle.std.specs.List.{list_all}
use Rattle.std.specs.Str.{bytes_eq}
use Rattle.std.proofs.lemmas.Bool.{false≢true}
use Rattle.lus_tree.specs.Tree.{Name}
use Rattle.lus_meaning.specs.Scene.{Instance}
use Rattle.lus_meaning.specs.Depends.{named_in}
use Rattle.lus_meaning.specs.Trace.{same_numbers}
use Rattle.lus_meaning.specs.Cycle.{Place, next_places, IsWay, last_place, Reaches}
use Rattle.lus_meaning.proofs.Acyclic.{all_at_place}
use Rattle.lus_meaning.proofs.FirstFault.{both}
use Rattle.lus_meaning.proofs.Unique.{same_bytes}

abbrev pub at_name : Name → Place
at_name x = ([], Some x)

abbrev same_option : Option Name → Option Name → Bool
same_option None None = true
same_option (Some x) (Some y) = bytes_eq x y
same_option _ _ = false

abbrev pub is_place : Place → Place → Bool
is_place p q = same_numbers p.0 q.0 && same_option p.1 q.1

-- whether all ways from a place end within so many steps, none of them at the target
abbrev pub avoids : ℕ → Instance → Place → Place → Bool
avoids zero i target p = false
avoids (suc m) i target p = list_all (λ q. not (is_place target q) && avoids m i target q) (next_places i p.0 p.1)

avoids_next : (i : Instance) (target : Place) (m : ℕ) (p : Place) (q : ℕ × Place) (qs : List (ℕ × Place)) →
    avoids (suc m) i target p ≡ true → IsWay i p (q ∷ qs) →
    (not (is_place target q.1) ≡ true) × (avoids m i target q.1 ≡ true)
avoids_next i target m p q qs a w =
    both (not (is_place target q.1)) (avoids m i target q.1)
    (all_at_place (λ q. not (is_place target q) && avoids m i target q) q.1 q.0 (next_places i p.0 p.1) w.0 a)

never_there : (i : Instance) (target : Place) → is_place target target ≡ true → (m : ℕ) (p : Place) →
    avoids m i target p ≡ true → (q : ℕ × Place) (qs : List (ℕ × Place)) → IsWay i p (q ∷ qs) →
    last_place q.1 qs ≡ target → ⊥
never_there i target same zero p a q qs w e = false≢true a
never_there i target same (suc m) p a q [] w e =
    let other : not (is_place target target) ≡ true = subst (λ r. not (is_place target r) ≡ true) e (avoids_next i target m p q [] a w).0 in
    false≢true (subst (λ c. not c ≡ true) same other)
never_there i target same (suc m) p a q (r ∷ rs) w e =
    never_there i target same m q.1 (avoids_next i target m p q (r ∷ rs) a w).1 r rs w.1 e

only_name : (x y : Name) → named_in x (y ∷ []) ≡ true → x ≡ y
only_name x y h = same_bytes x y (first (bytes_eq x y) h)
  where
    first : (a : Bool) → (a || false) ≡ true → a ≡ true
    first true e = refl
    first false e = e

pub no_way : (i : Instance) (m : ℕ) (x y : Name) → is_place (at_name y) (at_name y) ≡ true →
    avoids m i (at_name y) (at_name x) ≡ true → Reaches i (x ∷ []) (y ∷ []) → ⊥
no_way i m x y same a r =
    never_there i (at_name y) same m (at_name x) a r.first r.rest
    (subst (λ z. IsWay i (at_name z) (r.first ∷ r.rest)) (only_name r.start x r.starts) r.way)
    (r.last ∙ ap at_name (only_name r.finish y r.finishes))

-- a way that is written out
pub by_way : (i : Instance) (x y : Name) → named_in x (x ∷ []) ≡ true → named_in y (y ∷ []) ≡ true →
    (q : ℕ × Place) (qs : List (ℕ × Place)) → IsWay i (at_name x) (q ∷ qs) → last_place q.1 qs ≡ at_name y →
    Reaches i (x ∷ []) (y ∷ [])
by_way i x y s f q qs w e = record { start = x; starts = s; first = q; rest = qs; way = w; finish = y; finishes = f; last = e }
