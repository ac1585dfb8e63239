use Rattle.std.proofs.Common.{rules, ◌≡◌, ap, ◌∙◌, sym, length}
use Rattle.lus_tree.specs.View.{program_view}
use Rattle.lus_meaning.specs.ClockFaults.{components}
use Rattle.lus_checked.specs.Program.{Marked, tree_of}
use Rattle.lus_checked.proofs.Joined.{as_many_orders, as_many}
use Rattle.lus_checked.proofs.checked_program.Checked.parts.Goals as goal

pub returns : goal.returns
returns c =
    let len : c.len.result ≡ length c.self.inside.kept.orders.items = search rules in
    len ∙ sym (as_many c.self.inside.kept.orders.items)
    ∙ as_many_orders (program_view c.self.inside.clocked) _ _ c.self.invariant.ordered
    ∙ ap (λ (m : Marked). length (components (tree_of m))) c.self.view_is
