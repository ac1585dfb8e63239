use Rattle.evaluation_laws.specs.Resolvings.{resolvings}
use Rattle.frame_sources.proofs.Contracted.{modes_are}
use Rattle.frame_sources.proofs.Sights.{resolved_as, rights_as, switch_as}
use Rattle.frame_sources.proofs.laws.resolutions_are_resolved.Goals as goal

pub returns-clause-modes : goal.returns-clause-modes
returns-clause-modes c = λ s i at h a. modes_are s i at h a

pub returns-clause-expressions : goal.returns-clause-expressions
returns-clause-expressions c = λ s i at h e. resolved_as s i at h (resolvings i) e

pub returns-clause-rights : goal.returns-clause-rights
returns-clause-rights c = λ s i at h e. rights_as s i at h (resolvings i) e

pub returns-clause-switches : goal.returns-clause-switches
returns-clause-switches c = λ s i at h k. switch_as s i at h (resolvings i) k
