-- The numbers of the parts in the order in which they are evaluated, row by row.
use Rattle.std.proofs.Common.{◌≡◌, ℕ, true, List, [], ◌∷◌, refl}
use Rattle.lus_meaning.specs.Scene.{Instance}
use Rattle.lus_evaluation.specs.Frame.{picked}
use Rattle.lus_evaluation.specs.Turn.{in_turn}
use Rattle.evaluation_rows.specs.Orders.{OrderTree, order_tree, no_trees, with_tree, orders_of}
use Rattle.evaluation_rows.specs.OrderRows.{Evaluated, shown, Evaluates, operating, operating_parts, calling_next, calling_parts, condact_next, condact_parts, with_import, import_parts, late_pre, late_parts, calling_late, late_call_parts, late_condact, late_condact_parts, with_conditions, condition_parts, with_mode, mode_parts, one_equation, in_one_call}
use Rattle.evaluation_rows.proofs.EvaluationTest.{least_in, least_waits, evaluation_by}

evaluates : (m : ℕ) (i : Instance) (t : OrderTree) (ks : List ℕ) (es : Evaluated) → least_in m i t ≡ true →
    least_waits m i (in_turn (orders_of t) i) ks ≡ true → shown (picked ks (in_turn (orders_of t) i)) ≡ es → Evaluates i es
evaluates m i t ks es a b e =
    record { parts = picked ks (in_turn (orders_of t) i); evaluation = evaluation_by m i t ks a b; are = e }

pub operands : Evaluates operating operating_parts
operands = evaluates 4 operating one_equation (0 ∷ 1 ∷ 2 ∷ 3 ∷ 4 ∷ 5 ∷ []) operating_parts refl refl refl

pub call : Evaluates calling_next calling_parts
call = evaluates 8 calling_next in_one_call (0 ∷ 1 ∷ 2 ∷ 3 ∷ 4 ∷ 5 ∷ 6 ∷ []) calling_parts refl refl refl

pub condact : Evaluates condact_next condact_parts
condact = evaluates 8 condact_next in_one_call (0 ∷ 1 ∷ 2 ∷ 3 ∷ 4 ∷ 5 ∷ 6 ∷ []) condact_parts refl refl refl

pub imported : Evaluates with_import import_parts
imported =
    evaluates 8 with_import (order_tree (0 ∷ []) (with_tree (order_tree (0 ∷ 1 ∷ []) no_trees) no_trees))
    (0 ∷ 1 ∷ 2 ∷ 6 ∷ 7 ∷ 8 ∷ 9 ∷ 10 ∷ 11 ∷ 3 ∷ 4 ∷ 5 ∷ 12 ∷ 13 ∷ 14 ∷ []) import_parts refl refl refl

pub late : Evaluates late_pre late_parts
late =
    evaluates 6 late_pre (order_tree (0 ∷ 1 ∷ 2 ∷ []) no_trees) (0 ∷ 4 ∷ 5 ∷ 6 ∷ 7 ∷ 8 ∷ 1 ∷ 2 ∷ 3 ∷ 9 ∷ 10 ∷ 11 ∷ [])
    late_parts refl refl refl

pub late_callee : Evaluates calling_late late_call_parts
late_callee =
    evaluates 10 calling_late (order_tree (0 ∷ 1 ∷ []) (with_tree (order_tree (0 ∷ 1 ∷ []) no_trees) no_trees))
    (1 ∷ 5 ∷ 6 ∷ 10 ∷ 11 ∷ 12 ∷ 13 ∷ 14 ∷ 15 ∷ 0 ∷ 7 ∷ 8 ∷ 9 ∷ 2 ∷ 3 ∷ 4 ∷ []) late_call_parts refl refl refl

pub late_condition : Evaluates late_condact late_condact_parts
late_condition =
    evaluates 10 late_condact (order_tree (0 ∷ []) (with_tree one_equation (with_tree one_equation no_trees)))
    (1 ∷ 2 ∷ 3 ∷ 4 ∷ 5 ∷ 6 ∷ 7 ∷ 8 ∷ 9 ∷ 13 ∷ 15 ∷ 16 ∷ 17 ∷ 0 ∷ 10 ∷ 11 ∷ 12 ∷ 14 ∷ []) late_condact_parts refl refl refl

pub conditions : Evaluates with_conditions condition_parts
conditions =
    evaluates 8 with_conditions in_one_call
    (0 ∷ 1 ∷ 2 ∷ 3 ∷ 4 ∷ 5 ∷ 6 ∷ 7 ∷ 8 ∷ 9 ∷ 10 ∷ 11 ∷ 12 ∷ 13 ∷ 14 ∷ 15 ∷ 16 ∷ []) condition_parts refl refl refl

pub by_mode : Evaluates with_mode mode_parts
by_mode =
    evaluates 6 with_mode one_equation
    (0 ∷ 1 ∷ 2 ∷ 3 ∷ 4 ∷ 5 ∷ 6 ∷ 7 ∷ 8 ∷ 9 ∷ 10 ∷ 11 ∷ 12 ∷ 13 ∷ 14 ∷ 15 ∷ []) mode_parts refl refl refl
