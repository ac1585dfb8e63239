use Rattle.std.proofs.Common.{◌≡◌, sym, subst, Some, None}
use Rattle.board_core.specs.Books.{machine_of, plan_of, history_of}
use Rattle.board_core.specs.Verdicts.{cause_of}
use Rattle.board_core.specs.View.{cause_view}
use Rattle.kind_main.specs.Causes.{IsTrueCause}
use Rattle.kind_main.specs.Options.{number_of}
use Rattle.kind_main.proofs.Causes.{cause-found, cause-true}
use Rattle.kind_main.proofs.cause.cause_in.Goals as goal

pub unreachable-requires : goal.unreachable-requires
unreachable-requires c =
    let none : None ≡ cause_of (number_of c.args.engine) c.args.property (history_of c.args.book.now) =
    rw (c.in_default.is, c.number.ensures) at c.spent.ensures in
    cause-found (number_of c.args.engine) (number_of c.args.engine) c.args.property (history_of c.args.book.now) c.requires.posted (sym none)

pub returns-clause-is_true : goal.returns-clause-is_true
returns-clause-is_true c =
    let some : cause_of (number_of c.args.engine) c.args.property (history_of c.args.book.now) ≡ Some (cause_view c.in-Some.cause.now) =
    sym (rw (c.in-Some.is, c.number.ensures) at c.spent.ensures) in
    let h = cause-true (machine_of c.args.book.now) (plan_of c.args.book.now) (history_of c.args.book.now) c.count-entries.ensures.sound
    (number_of c.args.engine) c.args.property (cause_view c.in-Some.cause.now) some in
    subst (λ w. IsTrueCause (machine_of c.args.book.now) (plan_of c.args.book.now) (history_of c.args.book.now) c.args.property (record { engine = number_of c.args.engine; why = w }))
    (sym c.in_ok-cause.ensures) h
