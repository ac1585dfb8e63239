-- What contracts see of the items of a contract.
use Rattle.std.specs.Prelude.{List, map}
use Rattle.sys_terms.specs.View.{terms_view}
use Rattle.sys_texts.specs.Views.{modes_view}
use Rattle.sys_contracts.specs.declared.items.Items.{Items as ItemsCode}
use Rattle.sys_contracts.specs.Items.{Items}

abbrev pub items_view : ItemsCode → Items
items_view i = record {
  assumes = terms_view i.assumes.items;
  guarantees = terms_view i.guarantees.items;
  modes = modes_view i.modes.items;
}

abbrev pub all_items_view : List ItemsCode → List Items
all_items_view = map items_view
