use Rattle.std.proofs.Common.{◌≡◌, drop, map, option_map}
use Rattle.std.specs.Map.{lookup}
use Rattle.lus_tree.specs.Tree.{text_of}
use Rattle.lus_tree.specs.View.{word_view}
use Rattle.lus_meaning.specs.Meaning.{mode_key}
use Rattle.lus_evaluation.specs.Part.{key_of}
use Rattle.evaluation_parts.specs.Texts.{mode_texts_view}
use Rattle.evaluation_parts.proofs.parts.named.Given as goal

abbrev pub invariant-loop-text : goal.invariant-loop-text
invariant-loop-text l =
    lookup (mode_key (key_of (option_map text_of (option_map word_view l.contract)) (word_view l.mode).text))
    (map (λ m. (m.key, m.asked)) (mode_texts_view (drop l.text-index l.modes)))
    ≡ lookup (mode_key (key_of (option_map text_of (option_map word_view l.contract)) (word_view l.mode).text))
    (map (λ m. (m.key, m.asked)) (mode_texts_view l.modes))
