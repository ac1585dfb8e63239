use Rattle.std.proofs.Common.{◌≡◌, ◌++◌, map, drop}
use Rattle.evaluation_parts.specs.Views.{all_view}
use Rattle.evaluation_turns.specs.Seen.{declared_seen}
use Rattle.evaluation_turns.specs.Sources.{sources_view}
use Rattle.evaluation_turns.proofs.sources.all_declared.Given as goal

abbrev pub invariant-loop-source : goal.invariant-loop-source
invariant-loop-source l = all_view l.all.items ++ map declared_seen (sources_view (drop l.source-index l.sources))
    ≡ map declared_seen (sources_view l.sources)
