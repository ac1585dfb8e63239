use Rattle.std.specs.Prelude.{None, ◌<◌, ◌^◌, ◌++◌, length, map}
use Rattle.std.proofs.Common.{sym, subst, ap, arith, ◌∙◌}
use Rattle.std.proofs.lemmas.List.{length-map}
use Rattle.proof_steps.specs.View.{clause_view, step_view, atom_view}
use Rattle.sat_core.specs.Shown.{with_clauses, flags_from, atoms_from}
use Rattle.cnf_maker.specs.View.{form_view}
use Rattle.sat_core.proofs.Guards.{watched_new}
use Rattle.sat_core.proofs.Widening.{held_first}
use Rattle.sat_core.specs.Waiting.{IsReady}
use Rattle.sat_core.proofs.Waits.{ready_new}
use Rattle.sat_core.proofs.search.Search.new.Goals as goal

pub invariant_of-result : goal.invariant_of-result
invariant_of-result c =
    let m = length-map c.args.cnf.now.clauses.items clause_view in
    let few : length (map clause_view c.args.cnf.now.clauses.items) < 2 ^ 32 = omega arith in (
      held_first (form_view c.args.cnf.now) _ _ _ _ 0
          (c.in_ok-admit_all.ensures.clauses
          ∙ ap (λ xs. xs ++ map clause_view c.deref-4.result.now) c.new-clauses.ensures
          ∙ ap (map clause_view) c.deref-4.ensures.value)
          (ap (map step_view) c.new-log.ensures.items)
          (c.in_ok-admit_all.ensures.variables
          ∙ ap (λ x. with_clauses c.add_atoms.new.variables.items (map clause_view x)) c.deref-4.ensures.value
          ∙ ap (λ x. with_clauses x (map clause_view c.args.cnf.now.clauses.items))
          (c.in_ok-add_atoms.ensures
          ∙ ap (λ x. c.in_ok-variables.variables.items ++ atoms_from 1 (map atom_view x)) c.deref-2.ensures.value
          ∙ ap (λ x. x ++ atoms_from 1 (map atom_view c.args.cnf.now.atoms.items)) (c.in_ok-variables.ensures ∙ ap (flags_from 0) c.deref.ensures.value)))
          c.new-assignment.ensures
          few,
      subst (λ x. IsReady c.admit_all.new.clauses c.new-assignment.result c.admit_all.new.watches 0 x None) (sym c.new-waiting.ensures.items)
          (ready_new c.admit_all.new.clauses c.new-assignment.result c.admit_all.new.watches c.new-assignment.ensures
          (watched_new c.admit_all.new.clauses c.new-assignment.result c.admit_all.new.watches c.new-assignment.ensures
          c.in_ok-admit_all.ensures.watching)),
    )
