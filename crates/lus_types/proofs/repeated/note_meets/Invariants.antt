use Rattle.std.proofs.Common.{◌≡◌, drop}
use Rattle.lus_tree.specs.Reason.{name_twice}
use Rattle.lus_tree.specs.View.{word_view}
use Rattle.lus_meaning.specs.Faults.{meets, same_word}
use Rattle.lus_scopes.specs.Least.{least_view, noted_all}
use Rattle.lus_types.specs.Words.{words_view}
use Rattle.lus_types.proofs.repeated.note_meets.Given as goal

abbrev pub invariant-loop-other : goal.invariant-loop-other
invariant-loop-other l = noted_all (least_view l.least) (meets same_word (λ w. w.at) name_twice (word_view l.word) (words_view (drop l.other-index l.words)))
    ≡ noted_all (least_view l.initial.least) (meets same_word (λ w. w.at) name_twice (word_view l.word) (words_view l.words))
