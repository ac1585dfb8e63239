use Rattle.std.proofs.Common.{rules}
use Rattle.cnf_maker.proofs.Merged.{same-there}
use Rattle.cnf_maker.proofs.linear.coefficient.Goals as goal

pub returns-then-left-i-clause-found : goal.returns-then-left-i-clause-found
returns-then-left-i-clause-found c = λ op b.
    let g = same-there op c.args.left.now c.args.i c.args.x b c.if-i-left.true c.if-left-i.true in
    search rules
