use Rattle.lus_scopes.specs.Least.{least_view}
use Rattle.lus_types.specs.Words.{words_view}
use Rattle.lus_types.proofs.RepeatedWords.{outer_front}
use Rattle.lus_types.proofs.repeated.outer_twice.Goals as goal

pub loop-word-preserved : goal.loop-word-preserved
loop-word-preserved c = outer_front c.args.words.now c.loop-word.word-index c.word-item.result c.loop-word-test.true c.word-item.is
    (words_view c.args.outer.now) (least_view c.loop-word.least) (least_view c.note_if_seen.new.least) _ c.loop-word.invariant c.note_if_seen.ensures
