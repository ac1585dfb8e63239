use Rattle.std.specs.Prelude.{◌≡◌, ◌≤◌, List, length}
use Rattle.sys_terms.specs.View.{Machine}
use Rattle.board_core.specs.declared.plan.Plan.{Plan}
use Rattle.board_core.specs.Entries.{Posting}
use Rattle.kind_engine.specs.Tasks.{AreTasks}
use Rattle.kind_engine.proofs.induction.first_tasks.Given as goal

abbrev pub invariant-loop-i : goal.invariant-loop-i
invariant-loop-i l =
    (length l.tasks.items ≡ l.i) ×
    ((m : Machine) (plan : Plan) (known : List Posting) → 1 ≤ plan.depth → AreTasks m plan known 1 1 0 l.tasks.items)
