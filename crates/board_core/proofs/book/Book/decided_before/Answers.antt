use Rattle.std.proofs.Common.{rules, ◌≡◌, length, take, min, subst, ap, ◌∙◌}
use Rattle.board_core.specs.Verdicts.{decides}
use Rattle.board_core.specs.Books.{Contents, history_of}
use Rattle.board_core.proofs.Tellings.{front-in}
use Rattle.board_core.proofs.book.Book.decided_before.Goals as goal

-- src/book.rt:123:5
pub returns : goal.returns
returns c =
    let entries = c.self.inside.entries.items in
    let e : c.deref.result.now ≡ entries = search rules in
    let n : c.min-end.result ≡ min (length entries) c.args.front = search rules in
    subst (λ (v : Contents). c.decide.result ≡ decides c.args.property (take c.args.front (history_of v))) c.self.view_is
    (c.decide.ensures ∙ ap (decides c.args.property) (front-in entries c.deref.result.now c.args.front c.min-end.result e n))
