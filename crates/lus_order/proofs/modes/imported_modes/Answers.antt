use Rattle.std.proofs.Common.{◌≡◌, ◌<◌, length, get_or, refl, subst, map}
use Rattle.lus_tree.specs.View.{expr_view, word_view}
use Rattle.lus_order.specs.Library.{known_modes, known_view}
use Rattle.lus_order.specs.Rows.{imported_row, mode_view, modes_view}
use Rattle.lus_order.proofs.Steps.{one_pushed}
use Rattle.lus_order.proofs.modes.imported_modes.Goals as goal

pub loop-mode-preserved : goal.loop-mode-preserved
loop-mode-preserved c =
    one_pushed mode_view (λ z. imported_row c.args.clocks.now c.args.callees.now (modes_view c.args.modes.now) (word_view c.args.import.contract.now).text
    (known_view c.args.known.now) (map expr_view c.args.import.arguments.now) (map word_view c.args.import.outputs.now) (z.name.now, z.reads))
    (λ zs. map (imported_row c.args.clocks.now c.args.callees.now (modes_view c.args.modes.now) (word_view c.args.import.contract.now).text
    (known_view c.args.known.now) (map expr_view c.args.import.arguments.now) (map word_view c.args.import.outputs.now)) (known_modes zs)) (λ z zs. refl)
    c.args.known.now.modes.items c.loop-mode.mode-index c.mode-item.result c.loop-mode.imported.items c.push.new.self.items c.in_ok-imported_mode.field-0 _
    (subst (λ zs. c.loop-mode.mode-index < length zs) c.deref-mode-items.ensures.value c.loop-mode-test.true)
    (subst (λ zs. c.mode-item.result ≡ get_or zs c.loop-mode.mode-index c.mode-item.result) c.deref-mode-items.ensures.value c.mode-item.is)
    c.loop-mode.invariant c.in_ok-push.ensures.items c.in_ok-imported_mode.ensures
