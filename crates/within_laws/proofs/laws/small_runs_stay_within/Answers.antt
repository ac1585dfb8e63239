use Rattle.within_laws.proofs.Small.{small_paths_stay_within, small_runs_stay_within}
use Rattle.within_laws.proofs.laws.small_runs_stay_within.Goals as goal

pub returns-clause-runs : goal.returns-clause-runs
returns-clause-runs c = small_runs_stay_within

pub returns-clause-paths : goal.returns-clause-paths
returns-clause-paths c = small_paths_stay_within
