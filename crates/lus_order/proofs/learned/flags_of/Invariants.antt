use Rattle.std.proofs.Common.{◌≡◌, ◌++◌, drop, map}
use Rattle.lus_meaning.specs.Depends.{named_in}
use Rattle.lus_order.specs.Library.{texts_seen}
use Rattle.lus_order.proofs.learned.flags_of.Given as goal

abbrev pub invariant-loop-input : goal.invariant-loop-input
invariant-loop-input l = l.flags.items ++ map (λ x. named_in x l.known.reads) (texts_seen (drop l.input-index l.known.inputs.items))
    ≡ map (λ x. named_in x l.known.reads) (texts_seen l.known.inputs.items)
