use Rattle.std.specs.Prelude.{◌≡◌, true, length}
use Rattle.std.proofs.Common.{ap, arith, rules}
use Rattle.sys_terms.specs.View.{query_view}
use Rattle.smt_solver.specs.Judging.{is_met_by}
use Rattle.smt_solver.proofs.Judged.{met-length}
use Rattle.smt_solver.proofs.solving.judged_values.Goals as goal

pub states-requires : goal.states-requires
states-requires c =
    let h : is_met_by (query_view c.args.query.now) c.args.values.items ≡ true = search rules in
    let e = met-length (query_view c.args.query.now) c.args.values.items h in
    let d = ap length c.deref.ensures.value in
    let r = c.requires.room in
    omega arith
