-- What is known of the declarations that others call and import.
use Rattle.std.specs.Prelude.{cond, List, [], map, get_or}
use Rattle.std.specs.Borrow.{Bor}
use Rattle.lus_tree.specs.Tree.{Name}
use Rattle.lus_meaning.specs.Depends.{named_in}
use Rattle.name_table.specs.Names.{number_of}
use Rattle.way_laws.specs.OwnGraph.{Summary}
use Rattle.lus_order.specs.declared.library.KnownMode.{KnownMode}
use Rattle.lus_order.specs.declared.library.Known.{Known}
use Rattle.lus_order.specs.declared.library.Library.{Library}

abbrev pub texts_seen : List (Bor Name) → List Name
texts_seen xs = map (λ x. x.now) xs

abbrev pub known_modes : List KnownMode → List (Name × List Name)
known_modes ms = map (λ m. (m.name.now, m.reads)) ms

abbrev pub known_view : Known → Summary
known_view s = record {
  inputs = texts_seen s.inputs.items;
  outputs = texts_seen s.outputs.items;
  reads = s.reads;
  modes = known_modes s.modes.items;
}

-- of a declaration that is not there
abbrev pub nothing_known : Summary
nothing_known = record { inputs = []; outputs = []; reads = []; modes = [] }

abbrev pub library_view : Library → Name → Summary
library_view l f =
    cond (named_in f l.callees.names) (get_or (map known_view l.summaries.items) (number_of l.callees.names f) nothing_known) nothing_known
