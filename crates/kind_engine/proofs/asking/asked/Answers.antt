use Rattle.sys_terms.specs.View.{system_view, terms_view}
use Rattle.kind_engine.proofs.Citing.{all-fit, are-light}
use Rattle.kind_engine.proofs.asking.asked.Goals as goal

pub solve-requires-clause-cited : goal.solve-requires-clause-cited
solve-requires-clause-cited c = all-fit (system_view c.args.subject.now.system)
    (terms_view c.args.cites.now) c.requires.citable

pub solve-requires-clause-light_cites : goal.solve-requires-clause-light_cites
solve-requires-clause-light_cites c = are-light (system_view c.args.subject.now.system)
    (terms_view c.args.cites.now) c.requires.citable
