use Rattle.std.proofs.Common.{rules, subst, sym}
use Rattle.kind_num.specs.Division.{IsFloor}
use Rattle.kind_num.proofs.Quotients.{floor_is}
use Rattle.kind_num.proofs.division.div_floor.Goals as goal

pub returns-clause-exact : goal.returns-clause-exact
returns-clause-exact c = search rules

pub returns-clause-floor : goal.returns-clause-floor
returns-clause-floor c =
    subst (IsFloor c.args.n c.args.d) (sym (returns-clause-exact c)) (floor_is c.args.n c.args.d c.requires)
