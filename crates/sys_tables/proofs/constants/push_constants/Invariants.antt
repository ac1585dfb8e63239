use Rattle.std.proofs.Common.{◌≡◌, map, drop}
use Rattle.lus_tree.specs.View.{definition_view}
use Rattle.sys_tables.specs.Known.{IsBare, values_seen}
use Rattle.sys_tables.specs.Tabled.{small_values}
use Rattle.sys_tables.proofs.constants.push_constants.Given as goal

-- what is there, and what is to come, is all
abbrev pub invariant-loop-constant : goal.invariant-loop-constant
invariant-loop-constant l = record {
  values : small_values (values_seen l.known) (map definition_view (drop l.constant-index l.constants))
      ≡ small_values (values_seen l.initial.known) (map definition_view l.constants);
  bare : IsBare l.known;
}
