use Rattle.std.proofs.Common.{sym, rules}
use Rattle.slot_values.proofs.ByZero.{remainder_applied}
use Rattle.slot_values.proofs.quick_operation.remainder.Goals as goal

pub returns-then-b-eq0 : goal.returns-then-b-eq0
returns-then-b-eq0 c =
    sym (remainder_applied c.args.a c.args.b _ (search rules) (search rules))
