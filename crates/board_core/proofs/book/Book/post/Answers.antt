use Rattle.std.proofs.Common.{rules, ◌≡◌, ◌++◌, ◌∷◌, [], subst, sym}
use Rattle.board_core.specs.Books.{Contents, IsBook, machine_of, plan_of, history_of}
use Rattle.board_core.specs.Entries.{IsTrueAfter}
use Rattle.board_core.specs.View.{IsFor, entry_view}
use Rattle.board_core.specs.declared.posted.Posted.{Posted}
use Rattle.board_core.proofs.Grown.{book-more}
use Rattle.board_core.proofs.book.Book.post.Goals as goal
use Rattle.board_core.proofs.book.Book.post.Goals.{in-Ok, in-Err}

pub invariant_of-self : goal.invariant_of-self
invariant_of-self c =
    elim c.match-push.branch [
      | in-Ok w ↦
          (let p : Posted = record { seat = c.args.seat; made = c.args.entry.made } in
          let e : c.push.new.self.items ≡ c.self.inside.entries.items ++ p ∷ [] = search rules in
          subst (λ l. IsBook (c.self.inside.system, c.self.inside.plan, l)) (sym e)
          (book-more c.self.inside.system c.self.inside.plan c.self.inside.entries.items p c.self.invariant
          (subst (λ (b : Contents). IsFor (machine_of b) c.args.entry) (sym c.self.view_is) c.requires.system)
          (subst (λ (b : Contents). IsTrueAfter (machine_of b) (plan_of b) (history_of b) (entry_view c.args.entry))
          (sym c.self.view_is) c.requires.true_one)))
      | in-Err w ↦
          (let e : c.push.new.self.items ≡ c.self.inside.entries.items = search rules in
          subst (λ l. IsBook (c.self.inside.system, c.self.inside.plan, l)) (sym e) c.self.invariant)
    ]
