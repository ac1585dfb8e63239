use Rattle.std.specs.Prelude.{◌≡◌, ◌-◌, ◌++◌, length, map, take, drop}
use Rattle.std.proofs.Common.{sym, ap, ◌∙◌, arith}
use Rattle.std.proofs.lemmas.List.{map-append, length-map, length-take-le, take-append-drop}
use Rattle.proof_steps.specs.View.{clause_view}
use Rattle.smt_solver.specs.Kept.{own_form, solver_view}
use Rattle.smt_solver.proofs.Ends.{listed-end}
use Rattle.smt_solver.proofs.run.counted.Goals as goal

pub returns : goal.returns
returns c =
    let s = solver_view c.args.solver.now in
    let old = c.args.solver.now.work.listed.items in
    let new = c.pop.new.self.items in
    let n : c.len.result ≡ length old = c.len.ensures ∙ c.args.solver.now.work.listed.ok.0 in
    let m : length (map clause_view old) ≡ length old = length-map old clause_view in
    let w : length (map clause_view new) ≡ length new = length-map new clause_view in
    let k = length old - 1 in
    let r : new ≡ take k old = c.pop.ensures.rest ∙ ap (λ j. take (j - 1) old) c.args.solver.now.work.listed.ok.0 in
    let l : length (take k old) ≡ k = length-take-le k old (omega arith) in
    let q = ap length r in
    let a = c.requires.listed in
    let b = c.if-len-budgets.false in
    listed-end c.listed_are_of_the_query.ensures (own_form s) c.args.budgets s c.requires.kept (map clause_view new)
    (map clause_view (drop k old))
    (ap (map clause_view) (sym (take-append-drop k old) ∙ ap (λ xs. xs ++ drop k old) (sym r)) ∙ map-append clause_view new (drop k old))
    (omega arith)
