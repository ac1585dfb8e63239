use Rattle.std.proofs.Common.{◌≡◌, length}
use Rattle.trace_text.specs.Reading.{left_of, first_of, IsWithin}
use Rattle.trace_text.proofs.cursor.first_word.Given as goal

abbrev pub invariant-loop-found : goal.invariant-loop-found
invariant-loop-found l = record { same : first_of (left_of l.here) ≡ first_of (left_of l.start); within : IsWithin l.here }

abbrev pub decreases-loop-found : goal.decreases-loop-found
decreases-loop-found l = length l.here.rest.now
