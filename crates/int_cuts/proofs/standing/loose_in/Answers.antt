use Rattle.std.specs.Prelude.{Bool}
use Rattle.std.proofs.Common.{subst, get_or}
use lib.IntN.{pos}
use Rattle.int_cuts.specs.Parts.{IsLooseAt}
use Rattle.int_cuts.proofs.Stands.{stand_more}
use Rattle.int_cuts.proofs.standing.loose_in.Goals as goal

pub loop-t-preserved : goal.loop-t-preserved
loop-t-preserved c =
    stand_more c.args.tableau.now c.args.row.now c.args.x c.loop-t.t-index (0, pos 0) c.loop-t-test.true
    (subst (λ (b : Bool). IsLooseAt c.args.tableau.now c.args.x (get_or c.args.row.now c.loop-t.t-index (0, pos 0)).0 b) c.if-is_loose.false c.is_loose.ensures)
    c.loop-t.invariant
