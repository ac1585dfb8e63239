use Rattle.sys_terms.proofs.Divided.{fits-divided}
use Rattle.sys_terms.proofs.laws.fitting_terms_are_divided.Goals as goal

pub returns : goal.returns
returns c = fits-divided
