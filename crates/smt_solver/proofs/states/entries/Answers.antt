use Rattle.std.specs.Prelude.{◌∷◌, [], ◌++◌, take}
use Rattle.std.proofs.Common.{ap, ◌∙◌, sym}
use Rattle.kind_num.specs.declared.Shape.TheVariants as k
use Rattle.smt_solver.specs.NumberStates.{number_entries}
use Rattle.smt_solver.proofs.Split.{entries-more}
use Rattle.smt_solver.proofs.states.entries.Goals as goal

pub loop-i-preserved : goal.loop-i-preserved
loop-i-preserved c =
    let so_far = number_entries c.args.search.now.trail c.args.tableau.now.values 0 (take c.loop-i.i c.args.shapes.now) in
    c.in_ok-push.ensures.items ∙ ap (λ es. es ++ c.entry.result ∷ []) c.loop-i.invariant
    ∙ ap (λ e. so_far ++ e ∷ []) c.entry.ensures
    ∙ sym (entries-more c.args.search.now.trail c.args.tableau.now.values c.loop-i.i c.args.shapes.now k.Flag c.loop-i-test.true)
