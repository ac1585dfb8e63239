use Rattle.std.proofs.Common.{◌≡◌, drop}
use Rattle.lus_tree.specs.Reason.{name_twice}
use Rattle.lus_meaning.specs.Faults.{meets}
use Rattle.lus_meaning.specs.NameFaults.{same_tag}
use Rattle.lus_types.specs.Labels.{label_view, labels_view}
use Rattle.lus_scopes.specs.Least.{least_view, noted_all}
use Rattle.lus_types.proofs.labels.note_meets.Given as goal

abbrev pub invariant-loop-other : goal.invariant-loop-other
invariant-loop-other l =
    noted_all (least_view l.least) (meets same_tag (λ t. t.2) name_twice (label_view l.label) (labels_view (drop l.other-index l.labels)))
    ≡ noted_all (least_view l.initial.least) (meets same_tag (λ t. t.2) name_twice (label_view l.label) (labels_view l.labels))
