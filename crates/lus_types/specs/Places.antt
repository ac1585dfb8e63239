-- What names and callees have at a place, by its tables.
use Rattle.std.specs.Prelude.{map, Option, slice_get}
use Rattle.std.specs.Option.{option_and_then, option_or}
use Rattle.indexmap.specs.IndexMap.{get_by_text}
use Rattle.lus_tree.specs.declared.place.Sort.{Sort}
use Rattle.lus_tree.specs.Tree.{Name}
use Rattle.lus_tree.specs.View.{decl_view}
use Rattle.lus_types.specs.declared.place.Place.{Place}
use Rattle.lus_types.specs.Names.{found_in, output_sort}

abbrev pub names_at : Place → Name → Option Sort
names_at l x = option_and_then (λ q. q.sort) (option_or (found_in l.own.now x) (found_in l.tables.now.constants x))

abbrev pub calls_at : Place → Name → Option Sort
calls_at l f =
    option_and_then (λ i. option_and_then output_sort (slice_get (map decl_view l.decls.now) i)) (get_by_text l.tables.now.declared f)
