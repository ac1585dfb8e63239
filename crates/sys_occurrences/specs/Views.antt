-- What contracts see of places and calls.
use Rattle.std.specs.Prelude.{map}
use Rattle.lus_tree.specs.View.{expr_view}
use Rattle.lus_meaning.specs.Scene.{Site}
use Rattle.lus_streams.specs.Clocks.{clock_seen}
use Rattle.sys_conditions.specs.Views.{manner_view}
use Rattle.sys_occurrences.specs.declared.places.Placed.{Placed as PlacedCode}
use Rattle.sys_occurrences.specs.declared.sites.Site.{Site as SiteCode}
use Rattle.sys_occurrences.specs.Occurring.{Placed}

abbrev pub placed_view : PlacedCode → Placed
placed_view x = (clock_seen x.clock, expr_view x.expression.now)

abbrev pub site_view : SiteCode → Site
site_view s = record {
  number = s.number;
  callee = s.callee.now;
  clock = clock_seen s.clock;
  arguments = map expr_view s.arguments.now;
  defaults = map expr_view s.defaults.now;
  manner = manner_view s.manner;
}
