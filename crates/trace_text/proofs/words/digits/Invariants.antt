use Rattle.std.proofs.Common.{◌≡◌, length}
use Rattle.trace_text.specs.Reading.{number_from}
use Rattle.trace_text.proofs.words.digits.Given as goal

abbrev pub invariant-loop-rest : goal.invariant-loop-rest
invariant-loop-rest l = number_from l.number l.rest ≡ number_from 0 l.word

abbrev pub decreases-loop-rest : goal.decreases-loop-rest
decreases-loop-rest l = length l.rest
