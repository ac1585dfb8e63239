use Rattle.depth_laws.proofs.Causes.{played-causes}
use Rattle.depth_laws.proofs.Decided.{played-whole}
use Rattle.depth_laws.proofs.laws.played_have_causes.Goals as goal

pub returns-clause-causes : goal.returns-clause-causes
returns-clause-causes c = played-causes

pub returns-clause-whole : goal.returns-clause-whole
returns-clause-whole c = played-whole played-causes
