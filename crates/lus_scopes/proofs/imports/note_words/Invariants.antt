use Rattle.std.proofs.Common.{◌≡◌, drop, map}
use Rattle.lus_tree.specs.View.{param_view, word_view}
use Rattle.lus_meaning.specs.NameFaults.{output_sorts}
use Rattle.lus_scopes.specs.Least.{least_view, noted_all}
use Rattle.lus_scopes.specs.Scopes.{scope_view}
use Rattle.lus_scopes.proofs.imports.note_words.Given as goal

abbrev pub invariant-loop-stream : goal.invariant-loop-stream
invariant-loop-stream l =
    noted_all (least_view l.least) (output_sorts (scope_view l.scope) (map param_view (drop l.stream-index l.streams)) (map word_view l.left))
    ≡ noted_all (least_view l.initial.least) (output_sorts (scope_view l.scope) (map param_view l.streams) (map word_view l.words))
