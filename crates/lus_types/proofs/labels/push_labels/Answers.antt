use Rattle.std.proofs.Common.{arith}
use Rattle.lus_tree.specs.View.{named_view}
use Rattle.lus_meaning.specs.NameFaults.{tag}
use Rattle.lus_types.specs.Labels.{labels_view}
use Rattle.lus_types.proofs.Steps.{one_given}
use Rattle.lus_types.proofs.labels.push_labels.Goals as goal

pub loop-named-preserved : goal.loop-named-preserved
loop-named-preserved c =
    one_given (tag c.args.of.now) named_view c.args.all.now c.loop-named.named-index c.named-item.result (labels_view c.loop-named.labels.items)
    (labels_view c.push_label.new.labels.items) _ (omega arith) c.named-item.is c.loop-named.invariant c.in_ok-push_label.ensures
