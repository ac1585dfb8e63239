use Rattle.std.proofs.Common.{◌≡◌, map, drop}
use Rattle.lus_tree.specs.View.{contract_item_view}
use Rattle.lus_meaning.specs.Program.{contract_statement_constants}
use Rattle.sys_tables.specs.Known.{IsBare, values_seen}
use Rattle.sys_tables.specs.Tabled.{small_values}
use Rattle.sys_tables.proofs.constants.push_items.Given as goal

-- what is there, and what is to come, is all
abbrev pub invariant-loop-item : goal.invariant-loop-item
invariant-loop-item l = record {
  values : small_values (values_seen l.known) (contract_statement_constants (map contract_item_view (drop l.item-index l.items)))
      ≡ small_values (values_seen l.initial.known) (contract_statement_constants (map contract_item_view l.items));
  bare : IsBare l.known;
}
