use Rattle.std.specs.Prelude.{◌≡◌, ◌≤◌, Some, length}
use Rattle.std.proofs.Common.{sym, subst, arith}
use Rattle.std.proofs.lemmas.List.{length-map}
use Rattle.proof_steps.specs.View.{clause_view}
use Rattle.proof_steps.specs.Meaning.{at}
use Rattle.sat_core.proofs.Places.{at-mapped}
use Rattle.sat_core.proofs.store.ClauseStore.look.Goals as goal

pub returns-clause-clause : goal.returns-clause-clause
returns-clause-clause c =
    let m = length-map c.self.inside.clauses.items clause_view in
    let l : c.args.number ≤ length c.self.inside.clauses.items =
    subst (λ n. c.args.number ≤ n) m (subst (λ k. c.args.number ≤ length k) (sym c.self.view_is) c.requires.within) in
    subst (λ k. at k c.args.number ≡ Some (clause_view c.index.result.now)) c.self.view_is
    (at-mapped clause_view c.self.inside.clauses.items c.args.number _ c.index.result.now (let p = c.requires.positive in omega arith)
    (let p = c.requires.positive in omega arith) c.index.ensures)
