use Rattle.path_laws.proofs.Main.{each_lemmas, each_properties, each_runs_are_paths}
use Rattle.path_laws.proofs.laws.each_runs_are_paths.Goals as goal

pub returns-clause-runs : goal.returns-clause-runs
returns-clause-runs c = each_runs_are_paths

pub returns-clause-lemmas : goal.returns-clause-lemmas
returns-clause-lemmas c = each_lemmas

pub returns-clause-properties : goal.returns-clause-properties
returns-clause-properties c = each_properties
