use Rattle.std.proofs.Common.{◌≡◌, drop}
use Rattle.std.specs.Prelude.{option_map, option_to_list}
use Rattle.std.specs.Map.{lookup}
use Rattle.lus_tree.specs.View.{word_view}
use Rattle.lus_meaning.specs.Meaning.{mode_key}
use Rattle.lus_limits.specs.Measured.{modes_view, name_seen}
use Rattle.lus_limits.proofs.measuring.mode_size.Given as goal

-- the mode is looked up in what is to come
abbrev pub invariant-loop-entry : goal.invariant-loop-entry
invariant-loop-entry l =
    lookup (mode_key (option_to_list (option_map name_seen l.contract), (word_view l.mode).text)) (modes_view (drop l.entry-index l.modes))
    ≡ lookup (mode_key (option_to_list (option_map name_seen l.contract), (word_view l.mode).text)) (modes_view l.modes)
