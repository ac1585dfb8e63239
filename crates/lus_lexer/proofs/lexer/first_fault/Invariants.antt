use Rattle.std.proofs.Common.{◌≤◌, ◌-◌, length}
use Rattle.lus_lexer.specs.Tokens.{byte, IsCursor}
use Rattle.lus_lexer.specs.Promise.{Leads}
use Rattle.lus_lexer.proofs.lexer.first_fault.Given as goal

abbrev pub invariant-loop-here : goal.invariant-loop-here
invariant-loop-here l = record {
  within : l.here.at ≤ length l.bytes;
  cursor : IsCursor (byte l.bytes) l.here.at l.here.pos;
  leads : Leads l.bytes l.here.at;
}

abbrev pub decreases-loop-here : goal.decreases-loop-here
decreases-loop-here l = length l.bytes - l.here.at
