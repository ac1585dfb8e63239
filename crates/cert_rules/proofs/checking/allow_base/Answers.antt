use Rattle.std.proofs.Common.{rules}
use Rattle.sys_terms.specs.View.{terms_view, system_view}
use Rattle.cert_rules.proofs.Terms.{terms_fit}
use Rattle.cert_rules.proofs.checking.allow_base.Goals as goal

pub refute_bases-requires-clause-cited : goal.refute_bases-requires-clause-cited
refute_bases-requires-clause-cited c = terms_fit (system_view c.args.system.now) (terms_view c.args.cites.now)
    (search rules)
