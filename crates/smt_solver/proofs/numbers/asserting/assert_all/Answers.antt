use Rattle.std.specs.Prelude.{false}
use lib.IntN.{pos}
use Rattle.smt_solver.specs.declared.numbers.meanings.Meaning.{Meaning}
use Rattle.smt_solver.proofs.Meant.{asserted-more, crossed-all}
use Rattle.smt_solver.proofs.numbers.asserting.assert_all.Goals as goal

pub returns-in-Some : goal.returns-in-Some
returns-in-Some c =
    let d : Meaning = record { column = 0; upper = false; limit = pos 0; divisor = pos 0 } in
    crossed-all c.args.search.now.trail c.args.tableau.now c.loop-i.tableau c.assert_atom.new.tableau c.args.meanings.now
    c.loop-i.i d c.loop-i-test.true c.loop-i.invariant c.in_ok-first.field-0 c.in-Some.first c.in-Some.is
    c.in_ok-first.ensures

pub loop-i-preserved : goal.loop-i-preserved
loop-i-preserved c =
    let d : Meaning = record { column = 0; upper = false; limit = pos 0; divisor = pos 0 } in
    asserted-more c.args.search.now.trail c.args.tableau.now c.loop-i.tableau c.assert_atom.new.tableau
    c.args.meanings.now c.loop-i.i d c.loop-i-test.true c.loop-i.invariant c.in_ok-first.field-0 c.in_default.is
    c.in_ok-first.ensures
