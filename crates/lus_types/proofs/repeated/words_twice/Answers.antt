use Rattle.std.proofs.Common.{rules}
use Rattle.lus_scopes.specs.Least.{least_view}
use Rattle.lus_types.proofs.RepeatedWords.{all_noted}
use Rattle.lus_types.proofs.repeated.words_twice.Goals as goal

pub returns : goal.returns
returns c = λ fs i. all_noted (least_view c.args.least.now) (least_view c.loop-left.least) fs c.args.words.now c.loop-left.left
    (search rules) c.loop-left.invariant.noted i
