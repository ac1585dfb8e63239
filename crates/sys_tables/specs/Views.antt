-- What contracts see of what is known of a declaration.
use Rattle.std.specs.Prelude.{List, map, option_map}
use Rattle.lus_tree.specs.Tree.{Name}
use Rattle.lus_tree.specs.View.{param_view}
use Rattle.lus_meaning.specs.Value.{Value}
use Rattle.lus_streams.specs.Owner.{owner_view}
use Rattle.lus_layouts.specs.Layouts.{layout_view}
use Rattle.sys_parts.specs.Constants.{constant_view}
use Rattle.sys_conditions.specs.Views.{memory_view, right_view, start_view}
use Rattle.sys_occurrences.specs.Views.{site_view}
use Rattle.sys_tables.specs.declared.table.Fixed.{Fixed}
use Rattle.sys_tables.specs.declared.table.Named.{Named as NamedCode}
use Rattle.sys_tables.specs.declared.table.Linked.{Linked as LinkedCode}
use Rattle.sys_tables.specs.declared.table.Table.{Table}
use Rattle.sys_tables.specs.Tabled.{Named, Linked, Tabled}

abbrev pub fixed_view : Fixed → Name × Value
fixed_view f = (f.name.now, constant_view f.value)

abbrev pub named_view : NamedCode → Named
named_view s = record { variable = param_view s.param.now; right = option_map right_view s.right; input = s.input }

abbrev pub linked_view : LinkedCode → Linked
linked_view l = record {
  site = site_view l.site;
  place = l.place;
  inputs = l.inputs;
  outputs = map param_view l.outputs.now;
  defaults = map constant_view l.defaults.items;
  slots = l.slots;
}

abbrev pub table_view : Table → Tabled
table_view t = record {
  component = owner_view t.owner;
  constants = map fixed_view t.constants.items;
  streams = map named_view t.streams.items;
  memories = map memory_view t.memories.items;
  starts = map start_view t.starts.items;
  calls = map linked_view t.calls.items;
  layout = layout_view t.layout;
  contract = t.contract;
}

abbrev pub tables_view : List Table → List Tabled
tables_view ts = map table_view ts
