use Rattle.std.proofs.Common.{add-one, suc}
use Rattle.lus_scopes.specs.Least.{least_view}
use Rattle.lus_types.proofs.RepeatedLabels.{noted_front, seen_front, whole_rest}
use Rattle.lus_types.proofs.labels.note_label.Goals as goal

pub returns-clause-noted : goal.returns-clause-noted
returns-clause-noted c = λ o e. noted_front c.args.labels.now c.args.number c.label_at-label.result c.requires.within c.label_at-label.ensures
    o (least_view c.args.least.now) (least_view c.note_if_seen.new.least) e
    (rw (add-one, whole_rest c.args.labels.now (suc c.args.number)) at c.note_if_seen.ensures)

pub returns-clause-seen : goal.returns-clause-seen
returns-clause-seen c = seen_front c.args.labels.now c.args.number c.label_at-label.result c.requires.within c.label_at-label.ensures
    c.args.seen.now c.add.new.self c.in_ok-add.ensures.names c.requires.seen
