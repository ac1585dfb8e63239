-- What is evaluated by the orders of the declarations of a checked program is what is evaluated by the least orders of the frames.
use Rattle.std.proofs.Common.{◌≡◌, sym, ap, ◌∙◌, subst, ℕ, List, map, length, Some, option_map, slice_get}
use Rattle.std.specs.Prelude.{Contains}
use Rattle.std.proofs.lemmas.Option.{slice_get-map}
use Rattle.lus_tree.specs.Tree.{Component, Program}
use Rattle.lus_meaning.specs.ClockFaults.{components}
use Rattle.lus_meaning.specs.Program.{instance_of}
use Rattle.lus_meaning.specs.Refusals.{IsChecked}
use Rattle.lus_meaning.specs.Scene.{Instance, component_of}
use Rattle.rule_laws.proofs.Unfolded.{component_within, each_unfolded}
use Rattle.lus_evaluation.specs.Frame.{Orders}
use Rattle.lus_evaluation.specs.Part.{Part}
use Rattle.lus_evaluation.specs.Turn.{in_turn}
use Rattle.evaluation_laws.proofs.Orders.{order_on}
use Rattle.evaluation_parts.specs.Declares.{declared_in, all_declared}
use Rattle.evaluation_parts.specs.Framed.{turn_within}
use Rattle.evaluation_parts.specs.Unfolded.{Declared}
use Rattle.evaluation_parts.proofs.Declares.{instances_unfold}
use Rattle.evaluation_parts.proofs.Turns.{turn_is}
use Rattle.sys_tables.specs.Tabled.{Tabled, table_of}
use Rattle.evaluation_turns.specs.Seen.{declared_seen}
use Rattle.evaluation_turns.specs.Turned.{AreLeast, AreOrders, IsTurn, IsTurnByAll, OfDeclaration, turn_at, turn_if}
use Rattle.evaluation_turns.proofs.Agreeing.{agreed}
use Rattle.evaluation_turns.proofs.Places.{contained}
use Rattle.evaluation_turns.proofs.Seen.{all_seen}

module _ (p : Program) (c : IsChecked p) (os : List (List ℕ)) (least : AreOrders p os) (k : ℕ) (qs : List Part)
    (turn : qs ≡ turn_at p (all_declared p) os (length p) k) where
  within : (n : Component) → slice_get (components p) k ≡ Some n → qs ≡ turn_within p (all_declared p) os (length p) k (declared_in p n)
  within n e =
      turn
      ∙ ap (turn_if (turn_within p (all_declared p) os (length p) k))
      (slice_get-map (declared_in p) (components p) k ∙ ap (option_map (declared_in p)) e)

  pub by_all : OfDeclaration p k (λ i. IsTurnByAll i qs)
  by_all n e o frames =
      within n e
      ∙ turn_is o p (all_declared p) os (length p) k (declared_in p n) (agreed p c os least k n e (contained (components p) k n e) o frames)
      ∙ ap (in_turn o) (instances_unfold p (length p) n)

  pub by_some : OfDeclaration p k (λ i. IsTurn i qs)
  by_some n e =
      let j : Contains (components p) n = contained (components p) k n e in
      let i : Instance = instance_of p n in
      let there : Contains (components p) (component_of i) = subst (Contains (components p)) (sym (component_within (length p) p n)) j in
      let orders : Orders = λ w. (order_on p c i record { unfolded = each_unfolded p c n j; declared = there } w).0 in
      let frames : AreLeast i orders = λ w. (order_on p c i record { unfolded = each_unfolded p c n j; declared = there } w).1 in
      record { orders = orders; least = frames; parts = by_all n e orders frames }

-- the same by what the code makes of the tables
pub made : (p q : Program) (os : List (List ℕ)) (ts : List Tabled) (all : List Declared) (d k : ℕ) (qs : List Part)
    → q ≡ p → ts ≡ map (table_of q) (components q) → all ≡ map declared_seen ts → d ≡ length q → qs ≡ turn_at q all os d k
    → qs ≡ turn_at p (all_declared p) os (length p) k
made p q os ts all d k qs same known seen deep turn =
    turn
    ∙ ap (λ z. turn_at q z os d k) (seen ∙ ap (map declared_seen) known ∙ all_seen q (components q))
    ∙ ap (λ z. turn_at q (all_declared q) os z k) deep
    ∙ ap (λ z. turn_at z (all_declared z) os (length z) k) same
