use Rattle.std.proofs.Common.{rules, ◌≡◌, ◌<◌, length, subst, sym, slice_index_or}
use Rattle.board_core.specs.View.{IsMadeFor, IsShownFor}
use Rattle.board_core.specs.Books.{Contents, history_of, machine_of}
use Rattle.board_core.specs.declared.posted.Posted.{Posted}
use Rattle.board_core.proofs.Grown.{count-in}
use Rattle.board_core.proofs.book.Book.entry.Goals as goal

-- src/book.rt:139:5
pub returns-clause-system : goal.returns-clause-system
returns-clause-system c =
    let b : Contents = (c.self.inside.system, c.self.inside.plan, c.self.inside.entries.items) in
    let r = subst (λ (v : Contents). c.args.place < length (history_of v)) (sym c.self.view_is) c.requires in
    let l = subst (λ n. c.args.place < n) (count-in c.self.inside.entries.items) r in
    let e : slice_index_or c.self.inside.entries.items c.args.place c.index.result.now ≡ c.index.result.now = search rules in
    let h = subst (λ (p : Posted). IsMadeFor (machine_of b) p.made) e
    (c.self.invariant.of_system c.args.place c.index.result.now l) in
    subst (λ (v : Contents). IsShownFor (machine_of v) c.shown.result) c.self.view_is
    (c.shown.ensures.system (machine_of b) h)
