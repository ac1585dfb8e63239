use Rattle.std.proofs.Common.{rules}
use Rattle.lus_scopes.specs.Least.{least_view}
use Rattle.lus_types.proofs.RepeatedLabels.{all_noted}
use Rattle.lus_types.proofs.labels.note_twice.Goals as goal

pub returns : goal.returns
returns c = all_noted (least_view c.args.least.now) (least_view c.loop-left.least) c.args.labels.now c.loop-left.left
    (search rules) c.loop-left.invariant.noted
