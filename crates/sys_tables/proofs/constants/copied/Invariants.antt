use Rattle.std.proofs.Common.{◌≡◌, ◌++◌, map, drop}
use Rattle.sys_tables.specs.Known.{IsBare, values_seen}
use Rattle.sys_tables.specs.Views.{fixed_view}
use Rattle.sys_tables.proofs.constants.copied.Given as goal

-- what is there, and what is to come, is all
abbrev pub invariant-loop-fixed : goal.invariant-loop-fixed
invariant-loop-fixed l = record {
  values : values_seen l.known ++ map fixed_view (drop l.fixed-index l.outer) ≡ map fixed_view l.outer;
  bare : IsBare l.known;
}
