use Rattle.std.proofs.Common.{◌≡◌, drop}
use Rattle.lus_meaning.specs.NameFaults.{outer_twice}
use Rattle.lus_scopes.specs.Least.{least_view, noted_all}
use Rattle.lus_types.specs.Words.{words_view}
use Rattle.lus_types.proofs.repeated.outer_twice.Given as goal

abbrev pub invariant-loop-word : goal.invariant-loop-word
invariant-loop-word l = noted_all (least_view l.least) (outer_twice (words_view l.outer) (words_view (drop l.word-index l.words)))
    ≡ noted_all (least_view l.initial.least) (outer_twice (words_view l.outer) (words_view l.words))
