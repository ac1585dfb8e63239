use Rattle.std.proofs.Common.{◌≡◌, sym, subst}
use Rattle.lus_tree.specs.View.{node_view, program_view}
use Rattle.board_core.specs.Books.{machine_of, plan_of, history_of}
use Rattle.board_core.specs.Verdicts.{valid_by, judged, IsJudged}
use Rattle.kind_main.specs.Verdicts.{outcome_view}
use Rattle.kind_main.proofs.Judging.{open-property, valid_by_book, broken_by_book, causes_by, broken-place, ok_as}
use Rattle.kind_main.proofs.outcome.said_of.Goals as goal

pub broken_at-requires-clause-broken : goal.broken_at-requires-clause-broken
broken_at-requires-clause-broken c =
    let b = c.args.book.now in
    let law = c.verdicts_are_true.ensures (machine_of b) (plan_of b) (history_of b) c.args.property c.requires.played.ready.mild.fit
    c.requires.played.sound in
    broken-place b c.requires.played.sound c.args.property c.in-Falsifiable.place
    (subst (IsJudged (machine_of b) c.args.property (history_of b)) (sym (rw c.in-Falsifiable.is at c.verdict.ensures.first)) law)

pub undecided-requires-clause-open : goal.undecided-requires-clause-open
undecided-requires-clause-open c =
    open-property c.args.property (history_of c.args.book.now) (sym (rw c.in-Unknown.is at c.verdict.ensures.first))

pub returns-in-Valid : goal.returns-in-Valid
returns-in-Valid c =
    let b = c.args.book.now in
    let law = c.verdicts_are_true.ensures (machine_of b) (plan_of b) (history_of b) c.args.property c.requires.played.ready.mild.fit
    c.requires.played.sound in
    let says : judged c.args.property (history_of b) ≡ valid_by c.in-Valid.field-0 = sym (rw c.in-Valid.is at c.verdict.ensures.first) in
    valid_by_book (program_view c.args.program.now) (node_view c.args.node.now) c.requires.analysed (machine_of b) c.requires.system
    c.args.property c.each_verdicts.ensures.valid c.args.options (history_of b) _ says
    (subst (IsJudged (machine_of b) c.args.property (history_of b)) says law)

pub returns-in-Falsifiable : goal.returns-in-Falsifiable
returns-in-Falsifiable c =
    ok_as _ _ (λ o h. broken_by_book (program_view c.args.program.now) (node_view c.args.node.now) c.args.options c.args.book.now c.args.property
    c.in-Falsifiable.place (sym (rw c.in-Falsifiable.is at c.verdict.ensures.first)) (outcome_view o) h)
    c.broken_at.result c.broken_at.ensures

pub returns-in-Unknown : goal.returns-in-Unknown
returns-in-Unknown c =
    ok_as _ _ (λ o h. causes_by (program_view c.args.program.now) (node_view c.args.node.now) c.args.options c.args.book.now c.requires.system
    c.args.property (sym (rw c.in-Unknown.is at c.verdict.ensures.first)) (outcome_view o) h)
    c.undecided.result c.undecided.ensures
