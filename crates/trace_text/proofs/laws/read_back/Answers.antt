use Rattle.trace_text.proofs.Written.{read_back}
use Rattle.trace_text.proofs.laws.read_back.Goals as goal

pub returns : goal.returns
returns c = read_back
