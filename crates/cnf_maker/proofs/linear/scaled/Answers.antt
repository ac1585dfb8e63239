use Rattle.std.proofs.Common.{rules, ◌≡◌, Ok}
use Rattle.cnf_maker.specs.Linear.{scaled_terms}
use Rattle.cnf_maker.proofs.Increasing.{scaled-increasing}
use Rattle.cnf_maker.proofs.linear.scaled.Goals as goal

pub returns-clause-increasing : goal.returns-clause-increasing
returns-clause-increasing c =
    let e : scaled_terms c.args.n c.args.sum.now.terms.items ≡ Ok c.in_ok-terms.terms.items = search rules in
    scaled-increasing c.args.n c.args.sum.now.terms.items c.in_ok-terms.terms.items c.requires e
