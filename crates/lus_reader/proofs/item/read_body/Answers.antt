use Rattle.std.proofs.Common.{refl}
use Rattle.lus_reader.proofs.Answered.{is_text, is_no_text}
use Rattle.lus_reader.proofs.item.read_body.Goals as goal

pub returns-in-Ok-clause-found : goal.returns-in-Ok-clause-found
returns-in-Ok-clause-found c = is_text refl c.in-Ok.ensures.run

pub returns-in-Err-clause-refused : goal.returns-in-Err-clause-refused
returns-in-Err-clause-refused c = is_no_text refl c.in-Err.ensures.stop
