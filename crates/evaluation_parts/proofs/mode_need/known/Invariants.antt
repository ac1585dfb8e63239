use Rattle.std.proofs.Common.{◌≡◌, drop, option_map}
use Rattle.std.specs.Map.{lookup}
use Rattle.lus_tree.specs.Tree.{text_of}
use Rattle.lus_tree.specs.View.{word_view}
use Rattle.lus_meaning.specs.Meaning.{mode_key}
use Rattle.lus_evaluation.specs.Part.{key_of}
use Rattle.evaluation_parts.specs.Needed.{modes_needs_view}
use Rattle.evaluation_parts.proofs.mode_need.known.Given as goal

abbrev pub invariant-loop-known : goal.invariant-loop-known
invariant-loop-known l =
    lookup (mode_key (key_of (option_map text_of (option_map word_view l.contract)) (word_view l.mode).text)) (modes_needs_view (drop l.known-index l.modes))
    ≡ lookup (mode_key (key_of (option_map text_of (option_map word_view l.contract)) (word_view l.mode).text)) (modes_needs_view l.modes)
