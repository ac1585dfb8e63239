use Rattle.std.proofs.Common.{rules, ◌≡◌, Ok}
use Rattle.cnf_maker.specs.Linear.{with_terms}
use Rattle.cnf_maker.specs.View.{op_of}
use Rattle.cnf_maker.proofs.Increasing.{terms-increasing}
use Rattle.cnf_maker.proofs.linear.combined.Goals as goal

pub returns-clause-increasing : goal.returns-clause-increasing
returns-clause-increasing c =
    let e : with_terms (op_of c.args.sign) c.args.left.now.terms.items c.args.right.now.terms.items ≡ Ok
    c.in_ok-terms.terms.items = search rules in
    terms-increasing (op_of c.args.sign) c.args.left.now.terms.items c.args.right.now.terms.items
    c.in_ok-terms.terms.items c.requires.left e
