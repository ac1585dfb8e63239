-- What a place needs in one step, by the calls of an instance that is unfolded.
use Rattle.std.proofs.Common.{◌≡◌, refl, ap, sym, ◌∙◌, ℕ, zero, suc, pred, ◌≤◌, ◌-◌, List, [], ◌∷◌, ◌++◌, map, length, take, drop, get_or, Option, Some, slice_get, append_assoc, arith}
use Rattle.std.proofs.lemmas.List.{take_all}
use Rattle.lus_tree.specs.Tree.{Name, Program}
use Rattle.lus_meaning.specs.Cycle.{Place, at_top, caller_needs, deeper, next_places, next_in_call}
use Rattle.lus_meaning.specs.Scene.{Instance}
use Rattle.lus_meaning.proofs.Lists.{map_append}
use Rattle.evaluation_parts.specs.Unfolded.{Linked, Declared, calls_with, unfolded, called_instance, calls_at}
use Rattle.evaluation_order.specs.Steps.{under, all_under, places_of, next_at}

next_called : (i : Instance) (f : ℕ → Instance) (ls : List Linked) (n j : ℕ) (ks : List ℕ) (x : Option Name) →
    next_in_call i (calls_with f ls) n j ks x ≡ next_at i f n ks x (slice_get ls j)
next_called i f [] n j ks x = refl
next_called i f (l ∷ ls) n zero ks x = refl
next_called i f (l ∷ ls) n (suc j) ks x = next_called i f ls n j ks x

pub next_through : (p : Program) (ts : List Declared) (d : ℕ) (t : Declared) (j : ℕ) (ks : List ℕ) (x : Option Name) →
    next_places (unfolded p ts d t) (j ∷ ks) x ≡ next_at (unfolded p ts d t) (called_instance p ts (pred d)) j ks x (slice_get (calls_at d t) j)
next_through p ts zero t j ks x = refl
next_through p ts (suc d) t j ks x = next_called (unfolded p ts (suc d) t) (called_instance p ts d) t.calls j j ks x

pub under_deeper : (v : List ℕ) (j : ℕ) (ps : List Place) → all_under v (map (deeper j) ps) ≡ all_under (v ++ j ∷ []) ps
under_deeper v j [] = refl
under_deeper v j (p ∷ ps) = rw (append_assoc v (j ∷ []) p.0, under_deeper v j ps) refl

-- what is pushed for the caller's frame, and behind it what is pushed for the call's
pub through_is : (i : Instance) (f : ℕ → Instance) (v w : List ℕ) (j : ℕ) (ks : List ℕ) (x : Option Name) (o : Option Linked) (l : Linked) (k : Instance) (old mid : List Place)
    → o ≡ Some l → k ≡ f l.place → w ≡ v ++ j ∷ [] → mid ≡ old ++ all_under v (places_of (at_top ks (caller_needs i l.site k x)))
    → mid ++ all_under w (next_places k ks x) ≡ old ++ all_under v (next_at i f j ks x o)
through_is i f v w j ks x o l k old mid is there way m =
    ap (λ z. z ++ all_under w (next_places k ks x)) m
    ∙ append_assoc old (all_under v (places_of (at_top ks (caller_needs i l.site k x)))) (all_under w (next_places k ks x))
    ∙ ap (λ z. old ++ (all_under v (places_of (at_top ks (caller_needs i l.site z x))) ++ all_under w (next_places z ks x))) there
    ∙ ap (λ z. old ++ (all_under v caller ++ all_under z below)) way
    ∙ ap (λ z. old ++ (all_under v caller ++ z)) (sym (under_deeper v j below))
    ∙ ap (λ z. old ++ z) (sym (map_append (under v) caller (map (deeper j) below)))
    ∙ ap (λ z. old ++ all_under v (next_at i f j ks x z)) (sym is)
  where
    caller : List Place
    caller = places_of (at_top ks (caller_needs i l.site (f l.place) x))

    below : List Place
    below = next_places (f l.place) ks x

front : (xs : List ℕ) (d : ℕ) → 1 ≤ length xs → xs ≡ get_or xs 0 d ∷ take (length xs - 1) (drop 1 xs)
front [] d l = absurd (omega (arith, l))
front (x ∷ xs) d l = ap (λ z. x ∷ z) (sym (take_all (length (x ∷ xs) - 1) xs (omega arith)))

-- by the first call of a way, where there is one
pub by_first : (p : Program) (ts : List Declared) (d : ℕ) (t : Declared) (way : List ℕ) (n : ℕ) (x : Option Name) (o : Option Linked) → 1 ≤ length way
    → o ≡ slice_get (calls_at d t) (get_or way 0 n)
    → next_at (unfolded p ts d t) (called_instance p ts (pred d)) (get_or way 0 n) (take (length way - 1) (drop 1 way)) x o ≡ next_places (unfolded p ts d t) way x
by_first p ts d t way n x o l e =
    ap (next_at (unfolded p ts d t) (called_instance p ts (pred d)) (get_or way 0 n) (take (length way - 1) (drop 1 way)) x) e
    ∙ sym (next_through p ts d t (get_or way 0 n) (take (length way - 1) (drop 1 way)) x)
    ∙ ap (λ z. next_places (unfolded p ts d t) z x) (sym (front way n l))

pub under_nothing : (ps : List Place) → all_under [] ps ≡ ps
under_nothing [] = refl
under_nothing (p ∷ ps) = ap (λ z. p ∷ z) (under_nothing ps)
