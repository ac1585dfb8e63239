use Rattle.std.proofs.Common.{refl, sym}
use Rattle.lus_types.specs.Labels.{label_view, labels_view}
use Rattle.lus_types.proofs.RepeatedLabels.{none_met}
use Rattle.lus_types.proofs.labels.note_if_seen.Goals as goal

pub returns-else-has : goal.returns-else-has
returns-else-has c = rw (none_met c.args.seen.now (label_view c.args.label) (labels_view c.args.behind.now) c.requires
    (sym c.if-has.ensures)) refl
