-- What contracts see of clocks.
use Rattle.std.specs.Prelude.{Option, option_map}
use Rattle.lus_tree.specs.View.{word_view}
use Rattle.lus_meaning.specs.Scene.{Clock, base, sampled_by}
use Rattle.lus_streams.specs.declared.clock.Clock.{Clock as CodeClock}
use Rattle.lus_streams.specs.declared.clock.Clock.TheVariants.{Base, Sampled}

abbrev pub clock_seen : CodeClock → Clock
clock_seen Base = base
clock_seen (Sampled b x) = sampled_by b (word_view x.now).text

abbrev pub clocks_seen : Option CodeClock → Option Clock
clocks_seen = option_map clock_seen
