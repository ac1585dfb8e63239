use Rattle.std.proofs.Common.{◌≡◌, drop, map}
use Rattle.lus_tree.specs.View.{expr_view, joined}
use Rattle.std.specs.Prelude.{None}
use Rattle.lus_meaning.specs.ClockFaults.{clock_among, or_else}
use Rattle.lus_scopes.specs.Least.{least_view, noted_all}
use Rattle.lus_streams.specs.Clocks.{clocks_seen}
use Rattle.lus_streams.specs.Names.{names_view}
use Rattle.lus_clocks.specs.Walk.{walk_among, walk_each}
use Rattle.lus_clocks.proofs.part.+part.Given as goal

-- what was noted, followed by what is to come, is all
abbrev pub invariant-among-loop-value : goal.invariant-among-loop-value
invariant-among-loop-value l = record {
  noted : noted_all (least_view l.least) (walk_among (names_view l.names) (clocks_seen l.clock)
      (joined (map expr_view (drop l.value-index l.values))))
      ≡ noted_all (least_view l.initial.least) (walk_among (names_view l.names) None (joined (map expr_view l.values)));
  clocks : or_else (clocks_seen l.clock) (clock_among (names_view l.names) (joined (map expr_view (drop l.value-index l.values))))
      ≡ clock_among (names_view l.names) (joined (map expr_view l.values));
}

abbrev pub invariant-each-loop-value : goal.invariant-each-loop-value
invariant-each-loop-value l =
    noted_all (least_view l.least) (walk_each (names_view l.names) (joined (map expr_view (drop l.value-index l.values))))
    ≡ noted_all (least_view l.initial.least) (walk_each (names_view l.names) (joined (map expr_view l.values)))
