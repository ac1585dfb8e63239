-- The parts in turn, in the least order by what each waits for, are the evaluation of an instant of a checked program.
use Rattle.std.proofs.Common.{◌≡◌, ◌∙◌, ap, sym, subst, ℕ, ◌<◌, List, map, length, Some, get_or, option_map, slice_get}
use Rattle.std.proofs.lemmas.Option.{slice_get-map, slice_get-get_or}
use Rattle.lus_tree.specs.Tree.{Component, Program}
use Rattle.lus_meaning.specs.ClockFaults.{components}
use Rattle.lus_meaning.specs.Order.{IsLeastOrder}
use Rattle.lus_meaning.specs.Program.{instance_of}
use Rattle.lus_meaning.specs.Refusals.{IsChecked}
use Rattle.lus_meaning.specs.Scene.{Instance, no_component}
use Rattle.lus_evaluation.specs.Evaluation.{IsEvaluation, Waits}
use Rattle.lus_evaluation.specs.Frame.{picked}
use Rattle.lus_evaluation.specs.Part.{Part}
use Rattle.lus_evaluation.specs.Turn.{in_turn}
use Rattle.evaluation_laws.specs.Laws.{HasOneEvaluation}
use Rattle.evaluation_laws.proofs.Evaluations.{each_has_one_evaluation}
use Rattle.evaluation_parts.specs.Declares.{declared_in, all_declared}
use Rattle.evaluation_parts.specs.Unfolded.{Declared, unfolded}
use Rattle.evaluation_parts.proofs.Declares.{instances_unfold}
use Rattle.sys_tables.specs.Tabled.{Tabled, table_of}
use Rattle.evaluation_turns.specs.Seen.{declared_seen}
use Rattle.evaluation_turns.specs.Turned.{IsTurn, IsTurnByAll, OfDeclaration}
use Rattle.evaluation_turns.proofs.Places.{contained}
use Rattle.evaluation_turns.proofs.Seen.{all_seen}
use Rattle.evaluation_order.specs.Ordered.{IsOrdered, AreStuck, OfPlace}
use Rattle.evaluation_order.proofs.Orders.{never_stuck}

evaluated : (i : Instance) (qs rs : List Part) → IsTurn i qs → IsOrdered i qs rs → IsEvaluation i rs
evaluated i qs rs t o = record {
  orders = t.orders;
  least = t.least;
  numbers = o.numbers;
  turn = subst (λ z. IsLeastOrder (length z) (Waits i z) o.numbers) t.parts o.order;
  parts = o.parts ∙ ap (picked o.numbers) t.parts;
}

not_stuck : (i : Instance) (qs : List Part) → IsTurnByAll i qs → HasOneEvaluation i → AreStuck i qs → ⊥
not_stuck i qs all h s =
    let e : IsEvaluation i h.parts = h.evaluation in
    let same : qs ≡ in_turn e.orders i = all e.orders e.least in
    let o : IsLeastOrder (length qs) (Waits i qs) e.numbers = subst (λ z. IsLeastOrder (length z) (Waits i z) e.numbers) (sym same) e.turn in
    never_stuck (length qs) (Waits i qs) e.numbers s.0 o.order s.1

module _ (p : Program) (k : ℕ) (F : Instance → Type 0) where
  -- of the frame of a declaration it is of its instance
  of_place : OfPlace (all_declared p) k (λ t. F (unfolded p (all_declared p) (length p) t)) → OfDeclaration p k F
  of_place h n e =
      subst F (instances_unfold p (length p) n)
      (h (declared_in p n) (slice_get-map (declared_in p) (components p) k ∙ ap (option_map (declared_in p)) e))

  -- the same by what the code makes of the tables
  pub of_made : (q : Program) (ts : List Tabled) (all : List Declared) (d : ℕ)
      → q ≡ p → ts ≡ map (table_of q) (components q) → all ≡ map declared_seen ts → d ≡ length q
      → OfPlace all k (λ t. F (unfolded q all d t)) → OfDeclaration p k F
  of_made q ts all d same known seen deep h =
      of_place
      (subst (λ z. OfPlace (all_declared z) k (λ t. F (unfolded z (all_declared z) (length z) t))) same
      (subst (λ z. OfPlace (all_declared q) k (λ t. F (unfolded q (all_declared q) z t))) deep
      (subst (λ z. OfPlace z k (λ t. F (unfolded q z d t))) (seen ∙ ap (map declared_seen) known ∙ all_seen q (components q)) h)))

module _ (p : Program) (k : ℕ) (qs : List Part) where
  pub found : (rs : List Part) → OfDeclaration p k (λ i. IsTurn i qs) → OfDeclaration p k (λ i. IsOrdered i qs rs) → OfDeclaration p k (λ i. IsEvaluation i rs)
  found rs turn o n e = evaluated (instance_of p n) qs rs (turn n e) (o n e)

  pub never : IsChecked p → k < length (components p) → OfDeclaration p k (λ i. IsTurnByAll i qs) → OfDeclaration p k (λ i. AreStuck i qs) → ⊥
  never c below all s =
      let n : Component = get_or (components p) k no_component in
      let e : slice_get (components p) k ≡ Some n = slice_get-get_or (components p) k no_component below in
      not_stuck (instance_of p n) qs (all n e) (each_has_one_evaluation p c n (contained (components p) k n e)) (s n e)
