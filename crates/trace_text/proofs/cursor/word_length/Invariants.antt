use Rattle.std.proofs.Common.{◌≡◌, ◌+◌, ◌≤◌, ◌-◌, length}
use Rattle.trace_text.specs.Reading.{word_length}
use Rattle.trace_text.proofs.cursor.word_length.Given as goal

abbrev pub invariant-loop-rest : goal.invariant-loop-rest
invariant-loop-rest l = record { shorter : length l.rest ≤ length l.bytes; same : length l.bytes - length l.rest + word_length l.rest ≡ word_length l.bytes }

abbrev pub decreases-loop-rest : goal.decreases-loop-rest
decreases-loop-rest l = length l.rest
