use Rattle.std.proofs.Common.{◌≡◌, drop}
use Rattle.lus_tree.specs.Reason.{not_stateless}
use Rattle.lus_meaning.specs.Faults.{faults_at}
use Rattle.lus_scopes.specs.Least.{least_view, noted_all}
use Rattle.lus_types.proofs.state.note_places.Given as goal

abbrev pub invariant-loop-place : goal.invariant-loop-place
invariant-loop-place l = noted_all (least_view l.least) (faults_at not_stateless (drop l.place-index l.places))
    ≡ noted_all (least_view l.initial.least) (faults_at not_stateless l.places)
