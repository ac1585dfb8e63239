use Rattle.std.proofs.Common.{◌≡◌, ◌++◌, map, drop}
use Rattle.lus_tree.specs.View.{exprs_view, joined}
use Rattle.lus_streams.specs.Clocks.{clock_seen}
use Rattle.lus_streams.specs.Names.{names_view}
use Rattle.sys_occurrences.specs.Views.{site_view}
use Rattle.sys_occurrences.specs.Occurring.{sites_among}
use Rattle.sys_occurrences.proofs.sites.+sites.Given as goal

-- what is there, and what is to come, is all
abbrev pub invariant-push_sites_among-loop-value : goal.invariant-push_sites_among-loop-value
invariant-push_sites_among-loop-value l =
    map site_view l.sites.items ++ sites_among (names_view l.names) (clock_seen l.clock) (joined (exprs_view (drop l.value-index l.values)))
    ≡ map site_view l.initial.sites.items ++ sites_among (names_view l.names) (clock_seen l.clock) (joined (exprs_view l.values))
