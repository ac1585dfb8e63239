-- An instant of a checked declaration has exactly one evaluation.
use Rattle.std.proofs.Common.{ℕ, suc, List, [], length, refl, sym, subst}
use Rattle.std.specs.Prelude.{Contains}
use Rattle.std.specs.List.{AllByRecursion}
use Rattle.lus_tree.specs.Tree.{Component, Program}
use Rattle.lus_meaning.specs.Scene.{Instance, component_of}
use Rattle.lus_meaning.specs.Program.{instance_of}
use Rattle.lus_meaning.specs.Order.{IsLeastOrder}
use Rattle.lus_meaning.specs.ClockFaults.{components}
use Rattle.lus_meaning.specs.Refusals.{IsChecked}
use Rattle.rule_laws.specs.Laws.{IsUnfolded}
use Rattle.rule_laws.proofs.Unfolded.{component_within, each_unfolded}
use Rattle.clock_laws.proofs.AllPlaces.{all_places}
use Rattle.clock_laws.proofs.Circles.{no_circle}
use Rattle.clock_laws.proofs.Ranks.{rank_here, rank_lowers, rank_bound}
use Rattle.frame_laws.proofs.Along.{tree_along}
use Rattle.lus_evaluation.specs.Frame.{Orders, picked}
use Rattle.lus_evaluation.specs.Turn.{in_turn}
use Rattle.lus_evaluation.specs.Evaluation.{Waits, IsEvaluation}
use Rattle.lus_evaluation.proofs.OneEvaluation.{one_evaluation}
use Rattle.evaluation_laws.specs.Laws.{EachHasOneEvaluation}
use Rattle.evaluation_laws.proofs.EachPart.{each_part}
use Rattle.evaluation_laws.proofs.Wholes.{NeedsItsWhole, gives_nothing, right_sides}
use Rattle.evaluation_laws.proofs.Turns.{least_turn}
use Rattle.evaluation_laws.proofs.Orders.{order_on}

module _ (p : Program) (c : IsChecked p) (n : Component) (j : Contains (components p) n) where
  abbrev i : Instance
  i = instance_of p n

  unfolded : IsUnfolded p i
  unfolded = each_unfolded p c n j

  declared : Contains (components p) (component_of i)
  declared = subst (Contains (components p)) (sym (component_within _ p n)) j

  orders : Orders
  orders w = (order_on p c i record { unfolded = unfolded; declared = declared } w).0

  whole : AllByRecursion (NeedsItsWhole i) (in_turn orders i)
  whole =
      each_part (NeedsItsWhole i) (gives_nothing i) orders i (right_sides i [] i (tree_along p c i [] i refl unfolded declared))

  turn : (ks : List ℕ) × IsLeastOrder (length (in_turn orders i)) (Waits i (in_turn orders i)) ks
  turn =
      least_turn i (rank_here i) (rank_lowers i (no_circle p c i unfolded declared)) (in_turn orders i) whole
      (suc (suc (length (all_places i)))) (rank_bound i)

  evaluation : IsEvaluation i (picked turn.0 (in_turn orders i))
  unfolding orders
  evaluation = record {
    orders = orders;
    least = λ w. (order_on p c i record { unfolded = unfolded; declared = declared } w).1;
    numbers = turn.0;
    turn = turn.1;
    parts = refl;
  }

pub each_has_one_evaluation : EachHasOneEvaluation
each_has_one_evaluation p c n j = record {
  parts = picked (turn p c n j).0 (in_turn (orders p c n j) (instance_of p n));
  evaluation = evaluation p c n j;
  one = λ qs e. one_evaluation (instance_of p n) qs (picked (turn p c n j).0 (in_turn (orders p c n j) (instance_of p n))) e (evaluation p c n j);
}
