use Rattle.std.proofs.Common.{◌≡◌, ◌++◌, map, drop}
use Rattle.lus_tree.specs.View.{named_view}
use Rattle.evaluation_parts.specs.Needed.{modes_needs_view, needs_view, requires_need}
use Rattle.evaluation_parts.specs.Views.{frame_instance}
use Rattle.evaluation_parts.proofs.mode_needs.push_requires.Given as goal

abbrev pub invariant-loop-one : goal.invariant-loop-one
invariant-loop-one l = needs_view l.needs.items
    ++ requires_need (frame_instance l.frame) (modes_needs_view l.modes) (map named_view (drop l.one-index l.asked))
    ≡ needs_view l.initial.needs.items ++ requires_need (frame_instance l.frame) (modes_needs_view l.modes) (map named_view l.asked)
