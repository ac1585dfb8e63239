use Rattle.std.proofs.Common.{sym, rules}
use Rattle.slot_values.proofs.ByZero.{remainder_by_zero}
use Rattle.slot_values.proofs.operation.remainder.Goals as goal

pub returns-then-b-eq0 : goal.returns-then-b-eq0
returns-then-b-eq0 c =
    sym (remainder_by_zero c.args.at c.args.a c.args.b _ (search rules) (search rules))
