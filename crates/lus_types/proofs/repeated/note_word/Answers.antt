use Rattle.std.proofs.Common.{add-one, suc}
use Rattle.lus_scopes.specs.Least.{least_view}
use Rattle.lus_types.proofs.RepeatedWords.{noted_front, seen_front, whole_rest}
use Rattle.lus_types.proofs.repeated.note_word.Goals as goal

pub returns-clause-noted : goal.returns-clause-noted
returns-clause-noted c = λ o e. noted_front c.args.words.now c.args.number c.index-words-number.result c.requires.within c.index-words-number.is
    o (least_view c.args.least.now) (least_view c.note_if_seen.new.least) e
    (rw (add-one, whole_rest c.args.words.now (suc c.args.number)) at c.note_if_seen.ensures)

pub returns-clause-seen : goal.returns-clause-seen
returns-clause-seen c = seen_front c.args.words.now c.args.number c.index-words-number.result c.requires.within c.index-words-number.is
    c.args.seen.now c.add.new.self (rw c.deref.ensures at c.in_ok-add.ensures.names) c.requires.seen
