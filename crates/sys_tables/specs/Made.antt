-- What is known of a declaration, by the names of all declarations and the constants of the program.
use Rattle.std.specs.Prelude.{is_none, not, List, [], ◌∷◌, map, length, get_or}
use Rattle.lus_tree.specs.Tree.{Name, Component}
use Rattle.lus_meaning.specs.Occurrences as o
use Rattle.lus_meaning.specs.Program.{all_sites, in_order}
use Rattle.lus_meaning.specs.Scene.{Site, no_component, variables}
use Rattle.lus_meaning.specs.Value.{Value}
use Rattle.name_table.specs.Names.{number_of}
use Rattle.lus_layouts.specs.declared.placing.CallSlots.{CallSlots}
use Rattle.lus_layouts.specs.Layouts.{LaidOut}
use Rattle.sys_tables.specs.Tabled.{Linked, Tabled, named_stream, own_constants, small_value, small_values}

module _ (names : List Name) (parts : List Component) where
  abbrev pub callee_by : Name → Component
  callee_by x = get_or parts (number_of names x) no_component

  abbrev pub linked_by : List (Name × Value) → Site → CallSlots → Linked
  linked_by cs s q = record {
    site = s;
    place = number_of names s.callee;
    inputs = length (callee_by s.callee).inputs;
    outputs = (callee_by s.callee).outputs;
    defaults = map (small_value cs) s.defaults;
    slots = q;
  }

  abbrev pub all_linked_by : List (Name × Value) → List Site → List CallSlots → List Linked
  all_linked_by cs (s ∷ ss) (q ∷ qs) = linked_by cs s q ∷ all_linked_by cs ss qs
  all_linked_by cs _ _ = []

  -- of a declaration, where the program has these constants
  abbrev pub table_by : List (Name × Value) → Component → LaidOut → Tabled
  table_by outer n l = record {
    component = n;
    constants = small_values outer (own_constants n);
    streams = map (named_stream n) (variables n);
    memories = in_order (λ m. m.number) (o.memories n);
    starts = in_order (λ a. a.number) (o.starts n);
    calls = all_linked_by (small_values outer (own_constants n)) (all_sites n) l.calls;
    layout = l;
    contract = not (is_none n.contract);
  }

  abbrev pub tables_by : List (Name × Value) → List Component → List LaidOut → List Tabled
  tables_by outer (n ∷ ns) (l ∷ ls) = table_by outer n l ∷ tables_by outer ns ls
  tables_by outer _ _ = []
