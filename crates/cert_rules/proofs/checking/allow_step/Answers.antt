use Rattle.std.proofs.Common.{rules}
use Rattle.sys_terms.specs.View.{terms_view, system_view}
use Rattle.cert_rules.proofs.Terms.{terms_fit}
use Rattle.cert_rules.proofs.checking.allow_step.Goals as goal

pub refute-requires-clause-cited : goal.refute-requires-clause-cited
refute-requires-clause-cited c = terms_fit (system_view c.args.system.now) (terms_view c.args.cites.now) (search rules)
