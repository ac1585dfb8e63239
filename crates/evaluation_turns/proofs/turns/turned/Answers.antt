use Rattle.std.proofs.Common.{rules, ◌≡◌, IfOk, length, option_map, slice_get, Some, List, ℕ, sym, ap, ◌∙◌, subst}
use Rattle.lus_tree.specs.Tree.{Program}
use Rattle.lus_tree.specs.View.{program_view}
use Rattle.evaluation_parts.specs.Framed.{orders_view, turn_within}
use Rattle.evaluation_parts.specs.PartViews.{parts_view}
use Rattle.evaluation_parts.specs.Unfolded.{Declared}
use Rattle.evaluation_parts.specs.Views.{all_view, declared_view}
use Rattle.evaluation_turns.specs.Turned.{turn_if}
use Rattle.evaluation_turns.proofs.turns.turned.Goals as goal

pub returns-in-Some : goal.returns-in-Some
returns-in-Some c =
    let p : Program = program_view c.args.program.now in
    let ts : List Declared = all_view c.args.all.now in
    let os : List (List ℕ) = orders_view c.args.orders.now in
    let d : ℕ = length c.args.program.now.decls.items in
    let t : Declared = declared_view c.in-Some.declared.now in
    let deep : c.len.result ≡ d = search rules in
    let there : Some t ≡ slice_get ts c.args.place = ap (option_map (λ b. declared_view b.now)) (sym c.in-Some.is) ∙ c.declared_at.ensures in
    subst (λ z. IfOk c.in_turn.result (λ v. parts_view v.items ≡ z))
    (ap (λ z. turn_within p ts os z c.args.place t) deep ∙ ap (turn_if (turn_within p ts os d c.args.place)) there)
    c.in_turn.ensures
