use Rattle.std.proofs.Common.{◌≡◌, drop}
use Rattle.std.specs.Option.{option_or}
use Rattle.lus_tree.specs.Tree.{Name}
use Rattle.lus_streams.specs.Streams.{names_of, params_view}
use Rattle.path_traces.specs.Indexed.{by_name, place_from}
use Rattle.path_traces.proofs.names.note_all.Given as goal

-- what is noted, and what is to come, is all
abbrev pub invariant-loop-param : goal.invariant-loop-param
invariant-loop-param l = record {
  at : l.place ≡ l.param-index;
  noted : (x : Name) → option_or (by_name l.places x) (place_from l.place (names_of (params_view (drop l.param-index l.params))) x)
      ≡ option_or (by_name l.initial.places x) (place_from 0 (names_of (params_view l.params)) x);
}
