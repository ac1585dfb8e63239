use Rattle.within_laws.proofs.Texts.{texts_are_quiet}
use Rattle.within_laws.proofs.laws.texts_are_quiet.Goals as goal

pub returns : goal.returns
returns c = texts_are_quiet
