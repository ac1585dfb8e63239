use Rattle.std.proofs.Common.{arith}
use Rattle.lus_types.proofs.Spread.{read_spreads}
use Rattle.lus_types.proofs.marks.step_at.Goals as goal

pub returns-then-place-rows : goal.returns-then-place-rows
returns-then-place-rows c =
    read_spreads c.args.rows.now c.args.place c.index-rows-place.result c.args.marks.now c.step.new.marks (omega arith) c.index-rows-place.is
    c.step.ensures
