use Rattle.std.proofs.Common.{◌≡◌, ◌++◌, map, drop}
use Rattle.lus_streams.specs.Owner.{owner_view}
use Rattle.lus_streams.specs.Streams.{params_view}
use Rattle.sys_tables.specs.Tabled.{named_stream}
use Rattle.sys_tables.specs.Views.{named_view}
use Rattle.sys_tables.proofs.streams.all_named.Given as goal

-- what is there, and what is to come, is all
abbrev pub invariant-loop-param : goal.invariant-loop-param
invariant-loop-param l =
    map named_view l.streams.items ++ map (named_stream (owner_view l.owner)) (params_view (drop l.param-index l.params))
    ≡ map (named_stream (owner_view l.owner)) (params_view l.params)
