use Rattle.std.proofs.Common.{◌≡◌, drop, map, flat_map}
use Rattle.lus_tree.specs.View.{word_view}
use Rattle.lus_meaning.specs.ExpressionFaults.{used}
use Rattle.lus_scopes.specs.Least.{least_view, noted_all}
use Rattle.lus_scopes.specs.Scopes.{scope_view}
use Rattle.lus_scopes.proofs.equation.note_names.Given as goal

abbrev pub invariant-loop-word : goal.invariant-loop-word
invariant-loop-word l =
    noted_all (least_view l.least) (flat_map (λ x. used (scope_view l.scope) x.text x.at) (map word_view (drop l.word-index l.words)))
    ≡ noted_all (least_view l.initial.least) (flat_map (λ x. used (scope_view l.scope) x.text x.at) (map word_view l.words))
