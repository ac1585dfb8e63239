-- The worked row of a local on a slow clock follows the rules: its clock has no clock, and nothing in it needs itself.
use Rattle.std.proofs.Common.{◌≡◌, ℕ, zero, suc, ◌<◌, Bool, true, false, List, [], ◌∷◌, map, get_or, codes, refl, sym, ap, subst, arith}
use Rattle.std.specs.Prelude.{Contains}
use Rattle.std.specs.List.{list_all}
use Rattle.std.proofs.lemmas.Bool.{false≢true}
use Rattle.lus_tree.specs.Tree.{Name, text_of, Spelled, Variable, Component}
use Rattle.lus_tree.specs.Reason.{Refused}
use Rattle.lus_meaning.specs.Scene.{Instance, clock_of, variables, no_component}
use Rattle.lus_meaning.specs.Program.{instance_of}
use Rattle.lus_meaning.specs.Cycle.{Reaches}
use Rattle.lus_meaning.specs.ClockFaults.{components}
use Rattle.lus_meaning.specs.EquationFaults.{clock_names, IsClockChain, last_name, IsOnClockCircle, IsCircleFault, of_equation, of_clocks, IsEquationFault, of_left, of_circle}
use Rattle.lus_meaning.specs.Refusals.{HasNone, FollowsRules}
use Rattle.meaning_rows.specs.PlacedParts.{word}
use Rattle.meaning_rows.specs.AcceptedRows.{slow_as_its_clock}
use Rattle.lus_meaning.proofs.FirstFault.{both, each_passes, none_of, has_no_clock, all_left_faults, clocked_row}
use Rattle.meaning_rows.proofs.Ways.{no_way}

-- ---- clocks that have no clock make no circle

abbrev is_bare : Component → Name → Bool
is_bare n x = has_no_clock (λ r. false) (clock_names (clock_of n x))

abbrev has_bare_clock : Component → Variable → Bool
has_bare_clock n v = list_all (is_bare n) (clock_names (clock_of n v.name.text))

clock_of_bare : (y : Name) (c : List Name) → c ≡ y ∷ [] → has_no_clock (λ r. false) c ≡ true → ⊥
clock_of_bare y [] e h = absurd (false≢true (sym (ap (has_no_clock (λ r. false)) e)))
clock_of_bare y (x ∷ xs) e h = absurd (false≢true h)

chain_ends : (n : Component) (x y : Name) (ys : List Name) → is_bare n y ≡ true → IsClockChain n x (y ∷ ys) → last_name y ys ≡ x → ⊥
chain_ends n x y [] b c e = clock_of_bare y (clock_names (clock_of n x)) c.0 (subst (λ z. is_bare n z ≡ true) e b)
chain_ends n x y (z ∷ zs) b c e = clock_of_bare z (clock_names (clock_of n y)) c.2.0 b

no_clock_circle : (n : Component) (v : Variable) → has_bare_clock n v ≡ true → IsOnClockCircle n v → ⊥
no_clock_circle n v t c =
    let bare : list_all (is_bare n) (c.next ∷ []) ≡ true = subst (λ ys. list_all (is_bare n) ys ≡ true) c.chain.0 t in
    chain_ends n v.name.text c.next c.rest (both (is_bare n c.next) true bare).0 c.chain c.last

-- ---- the row

only_one : {A : Type 0} (x y : A) → Contains (x ∷ []) y → x ≡ y
only_one x y (zero, l, e) = e
only_one x y (suc k, l, e) = absurd (none l)
  where
    none : {k : ℕ} → suc k < 1 → ⊥
    none h = omega arith

abbrev slow : Component
slow = get_or (components slow_as_its_clock) 0 no_component

abbrev frame_of_slow : Instance
frame_of_slow = instance_of slow_as_its_clock slow

no_circle : (r : Refused) → IsCircleFault slow_as_its_clock slow r → ⊥
no_circle r (of_equation w ws c d e) = no_way frame_of_slow 9 (codes "z") (codes "z") refl refl
    (subst (λ (vs : List Spelled). Reaches frame_of_slow (map text_of vs) (map text_of vs))
    (sym (only_one (word (codes "z") 3 5 ∷ []) (w ∷ ws) c)) d)
no_circle r (of_clocks v c e) = no_clock_circle slow v (each_passes (has_bare_clock slow) (variables slow) v refl c.declared) c

pub slow_follows : FollowsRules slow_as_its_clock
slow_follows = record { clocked = clocked_row slow_as_its_clock refl refl; equations = none }
  where
    none : HasNone (IsEquationFault slow_as_its_clock)
    none r (of_left f) = none_of (all_left_faults slow_as_its_clock) refl r f
    none r (of_circle n i f) = no_circle r (subst (λ m. IsCircleFault slow_as_its_clock m r) (sym (only_one slow n i)) f)
