use Rattle.std.proofs.Common.{◌∙◌, arith}
use Rattle.lus_scopes.specs.Least.{least_view}
use Rattle.lus_types.proofs.Levels.{next_row}
use Rattle.lus_types.proofs.circles.note_levels.Goals as goal

pub loop-row-preserved : goal.loop-row-preserved
loop-row-preserved c =
    next_row c.args.ranks.now c.args.rows.now c.loop-row.row-index c.row-item.result (omega arith) c.row-item.is c.rank_of.result
    c.rank_of.ensures (least_view c.loop-row.least) (least_view c.note_level.new.least) (rw c.deref.ensures.value at c.note_level.ensures)
    ∙ c.loop-row.invariant
