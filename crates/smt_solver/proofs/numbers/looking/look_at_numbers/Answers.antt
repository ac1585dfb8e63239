use Rattle.smt_solver.specs.Looking.{LooksFrom, Looks}
use Rattle.smt_solver.specs.Run.{work_view}
use Rattle.smt_solver.proofs.Looking.{looks}
use Rattle.smt_solver.proofs.Valued.{if-ok}
use Rattle.smt_solver.proofs.numbers.looking.look_at_numbers.Goals as goal

pub returns-in-None : goal.returns-in-None
returns-in-None c =
    if-ok
    (LooksFrom (work_view c.args.work.now) (work_view c.checked.new.work) c.assert_all.new.tableau c.checked.new.tableau
    c.args.meanings.now c.args.pivots)
    (Looks (work_view c.args.work.now) (work_view c.checked.new.work) c.args.tableau.now c.checked.new.tableau
    c.args.meanings.now c.args.pivots)
    c.checked.result
    (λ l h. looks (work_view c.args.work.now) (work_view c.checked.new.work) c.args.tableau.now c.assert_all.new.tableau
    c.checked.new.tableau c.args.meanings.now c.args.pivots c.columns-columns.ensures.sound c.in_ok-assert_all.field-0 c.in-None.is c.in_ok-assert_all.ensures l h)
    c.checked.ensures
