use Rattle.std.proofs.Common.{◌≡◌, ◌++◌, drop, map, flat_map}
use Rattle.lus_tree.specs.View.{named_view}
use Rattle.lus_meaning.specs.NameFaults.{tag}
use Rattle.lus_types.specs.Labels.{labels_view}
use Rattle.lus_types.proofs.labels.push_labels.Given as goal

-- what is there, followed by what is to come, is all
abbrev pub invariant-loop-named : goal.invariant-loop-named
invariant-loop-named l = labels_view l.labels.items ++ flat_map (tag l.of) (map named_view (drop l.named-index l.all))
    ≡ labels_view l.initial.labels.items ++ flat_map (tag l.of) (map named_view l.all)
