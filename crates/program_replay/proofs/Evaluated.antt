-- The parts of an instant of a node, over its slots.
use Rattle.std.proofs.Common.{◌≡◌, ℕ, List, map, Some, None, Result, Ok, Err, slice_get, sym, ap, ◌∙◌, subst}
use Rattle.std.specs.Prelude.{IfOk}
use Rattle.std.specs.declared.alloc.Global.{Global}
use Rattle.std.specs.declared.vec.Vec.{Vec}
use Rattle.lus_tree.specs.Tree.{Component, Name, Program}
use Rattle.lus_meaning.specs.ClockFaults.{components}
use Rattle.lus_meaning.specs.Program.{instance_of}
use Rattle.lus_evaluation.specs.Evaluation.{IsEvaluation}
use Rattle.lus_evaluation.specs.Part.{Part}
use Rattle.evaluation_turns.specs.Turned.{OfDeclaration}
use Rattle.slot_replay.specs.Parts.{part_view, Part as SlotPart}
use Rattle.slot_replay.specs.declared.parts.PartAt.{PartAt}
use Rattle.replay_laws.specs.OverSlots.{AreDeclaredParts, over_slots}
use Rattle.program_replay.specs.Instants.{AreNamedParts}
use Rattle.program_replay.specs.Named.{Numbered, numbers_from}

some_same : {A : Type 0} (x y : A) → Some x ≡ Some y → x ≡ y
some_same x y e = cc

none_some : {A : Type 0} (x : A) → None ≡ Some x → ⊥
none_some x e = cc

pub parts_declared : {E : Type 0} (p q : Program) → q ≡ p → (k : ℕ) (d : Component) → slice_get (components p) k ≡ Some d → (qs : List Part)
    → OfDeclaration p k (λ i. IsEvaluation i qs) → (r : Result (Vec PartAt Global) E)
    → IfOk r (λ v. map part_view v.items ≡ map (over_slots (instance_of q d)) qs) → IfOk r (λ v. AreDeclaredParts p k (map part_view v.items))
parts_declared p q s k d e qs ev (Ok v) h = λ n f. record {
  parts = qs;
  evaluation = ev n f;
  over = h ∙ (ap (λ p. map (over_slots (instance_of p d)) qs) s ∙ ap (λ n. map (over_slots (instance_of p n)) qs) (some_same d n (sym e ∙ f)));
}
parts_declared p q s k d e qs ev (Err x) h = tt

pub parts_named : {E : Type 0} (p : Program) (x : Name) (m : Numbered) → numbers_from 0 0 x p ≡ Some m → (r : Result (Vec PartAt Global) E)
    → IfOk r (λ v. AreDeclaredParts p m.place (map part_view v.items)) → IfOk r (λ v. AreNamedParts p x (map part_view v.items))
parts_named p x m e (Ok v) h = λ o f. subst (λ k. AreDeclaredParts p k (map part_view v.items)) (ap (λ z. z.place) (some_same m o (sym e ∙ f))) h
parts_named p x m e (Err y) h = tt

pub no_parts : (p : Program) (x : Name) → None ≡ numbers_from 0 0 x p → (ps : List SlotPart) → AreNamedParts p x ps
no_parts p x e ps = λ m f. absurd (none_some m (e ∙ f))
