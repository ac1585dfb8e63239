use Rattle.sight_laws.proofs.Defaults.{defaults_known_so}
use Rattle.sight_laws.proofs.Kept.{constants_known_so}
use Rattle.sight_laws.proofs.laws.constants_are_known.Goals as goal

pub returns-clause-constants : goal.returns-clause-constants
returns-clause-constants c = constants_known_so c.constants_are_kept.ensures.outer c.constants_are_kept.ensures.own

pub returns-clause-defaults : goal.returns-clause-defaults
returns-clause-defaults c =
    defaults_known_so (constants_known_so c.constants_are_kept.ensures.outer c.constants_are_kept.ensures.own)
    c.values_are_kept.ensures.folded c.texts_are_steady.ensures.sites c.values_are_kept.ensures.defaults
