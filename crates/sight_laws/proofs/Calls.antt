-- The calls of a sight are those of the translation.
use Rattle.std.proofs.Common.{◌≡◌, ℕ, zero, suc, ◌+◌, ◌-◌, ◌≤◌, Bool, true, false, cond, List, [], ◌∷◌, length, map, Some, refl, sym, ap, ◌∙◌, arith}
use Rattle.std.specs.Prelude.{slice_get}
use Rattle.std.specs.Option.{option_map_or}
use Rattle.std.specs.Str.{bytes_eq}
use Rattle.lus_tree.specs.Tree.{Name, Variable, Component, Program}
use Rattle.lus_meaning.specs.Run.{first_sort, output_sort}
use Rattle.lus_meaning.specs.Scene.{Manner, plain, while_true, as_import, Site, component_of, instance_at, called_among}
use Rattle.lus_meaning.specs.Program.{instances_with}
use Rattle.lus_limits.specs.Calls.{way_of}
use Rattle.lus_limits.specs.Instances.{callee, instance_called_so}
use Rattle.lus_limits.proofs.Instances.{component_called}
use Rattle.lus_layouts.specs.declared.placing.CallSlots.{CallSlots}
use Rattle.path_laws.proofs.Numbers.{CountedFrom}
use Rattle.sys_meaning.specs.Slot.{Place, own, in_call, beat, named, held}
use Rattle.sys_places.specs.Own.{CallVariablesAt, held_number}
use Rattle.sys_places.specs.Places.{OfEachCall}
use Rattle.sys_texts.specs.Sights.{Call, called_sort, first_output_sort}
use Rattle.sys_tables.specs.Numbers.{call_at, held_or, outputs_from}
use Rattle.sys_tables.specs.Tabled.{all_linked, linked}
use Rattle.sight_laws.specs.Sights.{call_of, output_of}

-- ---- one call

module _ (p : Program) (at : Place → ℕ) (missing end : ℕ) (s : Site) (q : CallSlots) (a : CallVariablesAt at missing end p s q) where
  abbrev outs : List Variable
  outs = (callee p s.callee).outputs

  held_so : (m : Manner) → s.manner ≡ m → (i : ℕ) (v : Variable) → slice_get outs i ≡ Some v
      → held_or (way_of m) ((end + (q.frame - q.held)) + i) missing ≡ at (own (held s.number v.name.text))
  held_so plain e i v g =
      sym (a.holds (q.frame - q.held) (let r : q.held ≤ q.frame = a.room in omega arith) v.name.text
      ∙ ap (λ z. held_number missing (end + (q.frame - q.held)) z outs v.name.text) e)
  held_so (while_true b) e i v g =
      sym (a.held_outputs b e (q.frame - q.held) (let r : q.held ≤ q.frame = a.room in omega arith) i v g)
  held_so (as_import xs) e i v g =
      sym (a.holds (q.frame - q.held) (let r : q.held ≤ q.frame = a.room in omega arith) v.name.text
      ∙ ap (λ z. held_number missing (end + (q.frame - q.held)) z outs v.name.text) e)

  outputs_so : (vs : List Variable) (i k h : ℕ) → k ≡ ((end + q.frame) + suc (length (callee p s.callee).inputs)) + i
      → h ≡ (end + (q.frame - q.held)) + i
      → ((j : ℕ) (v : Variable) → slice_get vs j ≡ Some v → slice_get outs (i + j) ≡ Some v)
      → outputs_from (way_of s.manner) k h missing vs ≡ map (output_of at s.number) vs
  outputs_so [] i k h e f g = refl
  outputs_so (v ∷ vs) i k h e f g =
      let there : slice_get outs i ≡ Some v = ap (slice_get outs) (omega arith) ∙ g 0 v refl in
      let number : k ≡ at (in_call s.number (own (named v.name.text))) =
      e ∙ omega arith ∙ sym (a.outputs i v there) in
      let holder : held_or (way_of s.manner) h missing ≡ at (own (held s.number v.name.text)) =
      ap (λ z. held_or (way_of s.manner) z missing) f ∙ held_so s.manner refl i v there in
      ap (λ z. record { sort = v.sort; number = z; held = held_or (way_of s.manner) h missing } ∷ outputs_from (way_of s.manner) (suc k) (suc h) missing vs) number
      ∙ ap (λ z. record { sort = v.sort; number = at (in_call s.number (own (named v.name.text))); held = z } ∷ outputs_from (way_of s.manner) (suc k) (suc h) missing vs)
      holder
      ∙ ap (λ os. output_of at s.number v ∷ os)
      (outputs_so vs (suc i) (suc k) (suc h) (ap suc e ∙ omega arith) (ap suc f ∙ omega arith)
      (λ j w r. ap (slice_get outs) (omega arith) ∙ g (suc j) w r))

  call_so : (n : Component) → call_at end missing (linked p n s q) ≡ call_of p at s
  call_so n =
      ap (λ z. record { callee = s.callee; beat = z; outputs = (call_at end missing (linked p n s q)).outputs }) (sym a.active)
      ∙ ap (λ z. record { callee = s.callee; beat = at (in_call s.number (own beat)); outputs = z })
      (outputs_so outs 0 ((end + q.frame) + suc (length (callee p s.callee).inputs)) (end + (q.frame - q.held)) (omega arith) (omega arith)
      (λ j v r. ap (slice_get outs) (omega arith) ∙ r))

-- ---- all of them

pub calls_so : (p : Program) (n : Component) (at : Place → ℕ) (missing end : ℕ) (ss : List Site) (qs : List CallSlots)
    → OfEachCall (CallVariablesAt at missing end p) ss qs → map (call_at end missing) (all_linked p n ss qs) ≡ map (call_of p at) ss
calls_so p n at missing end [] [] a = refl
calls_so p n at missing end [] (q ∷ qs) a = absurd a
calls_so p n at missing end (s ∷ ss) [] a = absurd a
calls_so p n at missing end (s ∷ ss) (q ∷ qs) a = rw (call_so p at missing end s q a.0 n, calls_so p n at missing end ss qs a.1) refl

-- ---- what is found by them

first_sort_so : (at : Place → ℕ) (k : ℕ) (vs : List Variable) → first_output_sort (map (output_of at k) vs) ≡ first_sort vs
first_sort_so at k [] = refl
first_sort_so at k (v ∷ vs) = refl

pub called_so : (p : Program) (at : Place → ℕ) (f : Name) (ss : List Site)
    → called_sort (map (call_of p at) ss) f ≡ output_sort (called_among (instances_with (instance_called_so p) ss) f)
called_so p at f [] = refl
called_so p at f (s ∷ ss) = go (bytes_eq f s.callee) (called_so p at f ss)
  where
    here : first_output_sort (map (output_of at s.number) (callee p s.callee).outputs) ≡ output_sort (instance_called_so p s.callee)
    here = first_sort_so at s.number (callee p s.callee).outputs
        ∙ ap (λ (c : Component). first_sort c.outputs) (sym (component_called p (callee p s.callee)))

    go : (b : Bool) → called_sort (map (call_of p at) ss) f ≡ output_sort (called_among (instances_with (instance_called_so p) ss) f)
        → cond b (first_output_sort (map (output_of at s.number) (callee p s.callee).outputs)) (called_sort (map (call_of p at) ss) f)
        ≡ output_sort (cond b (instance_called_so p s.callee) (called_among (instances_with (instance_called_so p) ss) f))
    go true h = here
    go false h = h

module _ {A : Type 0} (p : Program) (at : Place → ℕ) (of_call : Call → List A) (of_output : ℕ → Variable → A)
    (same : (s : Site) → of_call (call_of p at s) ≡ map (of_output s.number) (callee p s.callee).outputs) where
  -- of the call at a place, where calls are numbered on from one
  pub at_call : (ss : List Site) (m : ℕ) → CountedFrom (λ (s : Site). s.number) m ss → (k : ℕ)
      → option_map_or of_call (slice_get (map (call_of p at) ss) k) []
      ≡ map (of_output (m + k)) (component_of (instance_at (instances_with (instance_called_so p) ss) k)).outputs
  at_call [] m c zero = refl
  at_call [] m c (suc k) = refl
  at_call (s ∷ ss) m c zero =
      same s ∙ ap (λ j. map (of_output j) (callee p s.callee).outputs) (c.0 ∙ omega arith)
      ∙ ap (λ (d : Component). map (of_output (m + zero)) d.outputs) (sym (component_called p (callee p s.callee)))
  at_call (s ∷ ss) m c (suc k) =
      at_call ss (suc m) c.1 k
      ∙ ap (λ j. map (of_output j) (component_of (instance_at (instances_with (instance_called_so p) ss) k)).outputs) (omega arith)
