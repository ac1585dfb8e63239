use Rattle.lus_layouts.proofs.Fits.{callees_fit, nodes_fit}
use Rattle.lus_layouts.proofs.laws.frames_fit.Goals as goal

pub returns-clause-nodes : goal.returns-clause-nodes
returns-clause-nodes c = nodes_fit

pub returns-clause-callees : goal.returns-clause-callees
returns-clause-callees c = callees_fit
