use Rattle.std.proofs.Common.{◌∙◌, sym, arith}
use Rattle.lus_scopes.specs.Least.{least_view}
use Rattle.lus_types.proofs.Levels.{found_circle}
use Rattle.lus_types.proofs.circles.is_circle.Goals as goal

pub returns : goal.returns
returns c = λ p g t.
    found_circle p c.args.graph.now g c.row_with-number.result (omega arith) (least_view c.new-found.result) (least_view c.recursion.new.least)
    c.new-found.ensures c.in_ok-recursion.ensures c.args.at (sym c.stands_at.ensures ∙ t)
