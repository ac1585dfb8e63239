use Rattle.std.proofs.Common.{◌≡◌, ℕ, true, ap, ◌∙◌, subst, []}
use Rattle.lus_tree.specs.Tree.{Name, Component}
use Rattle.lus_meaning.specs.Depends.{named_in}
use Rattle.lus_meaning.specs.Order.{left_at}
use Rattle.lus_order.specs.Library.{library_view}
use Rattle.lus_order.specs.OwnNodes.{own_modes}
use Rattle.lus_order.specs.OwnRows.{own_rows}
use Rattle.lus_streams.specs.Owner.{owner_view}
use Rattle.lus_order.specs.Rows.{mode_rows_after, modes_view}
use Rattle.lus_order.specs.Sides.{equations_view}
use Rattle.lus_order.specs.Streams.{AreTabled, params_view}
use Rattle.lus_order.specs.declared.setting.Clocks.{Clocks}
use Rattle.lus_order.proofs.own.own_of.Goals as goal

pub returns : goal.returns
returns c =
    let s : Clocks = c.in_ok-clocks.clocks in
    let n : Component = owner_view c.args.owner in
    let vs = ap params_view c.deref.ensures.value ∙ c.in_ok-params.ensures in
    let es = ap equations_view c.deref-2.ensures.value ∙ c.in_ok-sides.ensures.equations in
    let qs = ap equations_view c.deref-4.ensures.value ∙ c.in_ok-sides.ensures.equations in
    let ms : modes_view c.in_ok-modes.modes.items ≡ own_modes s c.args.library.now.callees (library_view c.args.library.now) n =
    c.in_ok-modes.ensures ∙ ap (mode_rows_after s c.args.library.now.callees (library_view c.args.library.now) []) c.contract.ensures in
    record {
      streams = c.in_ok-params.ensures;
      equated = c.in_ok-sides.ensures.equations;
      spelled = c.in_ok-sides.ensures.words;
      tabled = subst (λ z. AreTabled z s) vs c.in_ok-clocks.ensures.tabled;
      distinct = c.in_ok-clocks.ensures.distinct;
      lefts = subst (λ z. (k : ℕ) (x : Name) → named_in x (left_at z k) ≡ true → named_in x s.names ≡ true) es c.in_ok-clocks.ensures.lefts;
      modes = ms;
      graph = c.in_ok-graph.ensures ∙ ap (λ z. own_rows s c.args.library.now.callees z (equations_view c.deref-4.result.now))
          (ap modes_view c.deref-3.ensures.value ∙ ms)
          ∙ ap (own_rows s c.args.library.now.callees (own_modes s c.args.library.now.callees (library_view c.args.library.now) n)) qs;
    }
