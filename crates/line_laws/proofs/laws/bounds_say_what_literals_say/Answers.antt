use Rattle.line_laws.proofs.Said.{literal_said}
use Rattle.line_laws.proofs.laws.bounds_say_what_literals_say.Goals as goal

pub returns : goal.returns
returns c = literal_said
