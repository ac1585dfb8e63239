use Rattle.std.proofs.Common.{rules, ◌≡◌, ◌<◌, Some, ap, ◌∙◌, sym, subst, refl, length}
use Rattle.std.specs.Prelude.{slice_get}
use Rattle.std.proofs.lemmas.Option.{slice_get_read}
use Rattle.lus_tree.specs.View.{program_view}
use Rattle.lus_meaning.specs.ClockFaults.{components}
use Rattle.lus_checked.specs.Program.{Marked, IsOrderOf, tree_of}
use Rattle.lus_checked.proofs.Joined.{as_many_orders, as_many, order_of}
use Rattle.lus_checked.proofs.checked_program.Checked.order.Goals as goal

pub index-requires : goal.index-requires
index-requires c =
    let same : length c.self.inside.kept.orders.items ≡ length (components (tree_of c.args.self.now)) =
    sym (as_many c.self.inside.kept.orders.items)
    ∙ as_many_orders (program_view c.self.inside.clocked) _ _ c.self.invariant.ordered
    ∙ ap (λ (m : Marked). length (components (tree_of m))) c.self.view_is in
    let within : c.args.number < length c.self.inside.kept.orders.items = subst (λ n. c.args.number < n) (sym same) c.requires in
    search rules

pub returns : goal.returns
returns c =
    let same : length c.self.inside.kept.orders.items ≡ length (components (tree_of c.args.self.now)) =
    sym (as_many c.self.inside.kept.orders.items)
    ∙ as_many_orders (program_view c.self.inside.clocked) _ _ c.self.invariant.ordered
    ∙ ap (λ (m : Marked). length (components (tree_of m))) c.self.view_is in
    let within : c.args.number < length c.self.inside.kept.orders.items = subst (λ n. c.args.number < n) (sym same) c.requires in
    let found : slice_get c.self.inside.kept.orders.items c.args.number ≡ Some c.index.result.now =
    slice_get_read c.self.inside.kept.orders.items (length c.self.inside.kept.orders.items) c.args.number c.index.result.now refl within c.index.ensures in
    let items : c.as_slice.result.now ≡ c.index.result.now.items = search rules in
    subst (λ (m : Marked). IsOrderOf (tree_of m) c.args.number c.as_slice.result.now) c.self.view_is
    (subst (IsOrderOf (program_view c.self.inside.clocked) c.args.number) (sym items)
    (order_of (program_view c.self.inside.clocked) (components (program_view c.self.inside.clocked)) c.self.inside.kept.orders.items
    c.self.invariant.ordered c.args.number c.index.result.now found))
