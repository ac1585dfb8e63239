use Rattle.lus_types.proofs.RepeatedWords.{seen_front}
use Rattle.lus_types.proofs.repeated.add_word.Goals as goal

pub returns : goal.returns
returns c = seen_front c.args.words.now c.args.number c.index-words-number.result c.requires.within c.index-words-number.is
    c.args.seen.now c.add.new.self (rw c.deref.ensures at c.in_ok-add.ensures.names) c.requires.seen
