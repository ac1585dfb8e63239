use Rattle.within_laws.proofs.Frames.{all_sides_are_quiet, all_texts_are_quiet}
use Rattle.within_laws.proofs.laws.all_texts_are_quiet.Goals as goal

pub returns-clause-texts : goal.returns-clause-texts
returns-clause-texts c = all_texts_are_quiet

pub returns-clause-equations : goal.returns-clause-equations
returns-clause-equations c = all_sides_are_quiet
