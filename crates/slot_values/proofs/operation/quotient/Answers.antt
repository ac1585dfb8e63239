use Rattle.std.proofs.Common.{sym, rules}
use Rattle.slot_values.proofs.ByZero.{quotient_by_zero}
use Rattle.slot_values.proofs.operation.quotient.Goals as goal

pub returns-then-b-eq0 : goal.returns-then-b-eq0
returns-then-b-eq0 c =
    sym (quotient_by_zero c.args.at c.args.a c.args.b _ (search rules) (search rules))
