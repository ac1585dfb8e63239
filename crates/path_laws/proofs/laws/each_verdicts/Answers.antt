use Rattle.path_laws.proofs.Main.{each_bounds, each_breaks, each_holds}
use Rattle.path_laws.proofs.laws.each_verdicts.Goals as goal

pub returns-clause-valid : goal.returns-clause-valid
returns-clause-valid c = each_holds

pub returns-clause-bounded : goal.returns-clause-bounded
returns-clause-bounded c = each_bounds

pub returns-clause-broken : goal.returns-clause-broken
returns-clause-broken c = each_breaks
