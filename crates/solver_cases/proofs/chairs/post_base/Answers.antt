use Rattle.std.proofs.Common.{subst, sym}
use Rattle.cert_rules.specs.Facts.{AreCited}
use Rattle.board_core.specs.Entries.{IsTrueAfter, facts_in}
use Rattle.board_core.specs.View.{entry_view}
use Rattle.solver_cases.proofs.Cited.{none-cited}
use Rattle.solver_cases.proofs.chairs.post_base.Goals as goal

pub post-requires-clause-true_one : goal.post-requires-clause-true_one
post-requires-clause-true_one g c =
    let seen = g.B.BoardSeat.seen c.args.seat.now in
    let plan = g.B.BoardSeat.plan c.args.seat.now in
    let cited = subst (AreCited (facts_in seen)) (sym c.requires.alone) (none-cited (facts_in seen)) in
    subst (λ m. IsTrueAfter m plan seen (entry_view c.base.result)) c.requires.system (c.base.ensures.is_true plan seen cited)
