use Rattle.std.proofs.Common.{◌≡◌, ◌≤◌, drop, length}
use Rattle.lus_types.specs.Labels.{HasLabels, labels_view, tags_from_last}
use Rattle.lus_scopes.specs.Least.{least_view, noted_all}
use Rattle.lus_types.proofs.labels.note_twice.Given as goal

abbrev pub invariant-loop-left : goal.invariant-loop-left
invariant-loop-left l = record {
  within : l.left ≤ length l.labels;
  seen : HasLabels l.seen (labels_view (drop l.left l.labels));
  noted : least_view l.least ≡ noted_all (least_view l.initial.least) (tags_from_last (labels_view (drop l.left l.labels)));
}

abbrev pub decreases-loop-left : goal.decreases-loop-left
decreases-loop-left l = l.left
