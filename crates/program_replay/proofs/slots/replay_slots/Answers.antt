use Rattle.std.proofs.Common.{◌≡◌, map, ap, ◌∙◌, subst, sym}
use Rattle.lus_tree.specs.View.{node_view, program_view}
use Rattle.lus_meaning.specs.Program.{instance_of}
use Rattle.lus_meaning.specs.TraceView.{lines_of, trace_view}
use Rattle.slot_sources.specs.Source.{source_view}
use Rattle.slot_sources.specs.Sources.{HasRanks, sources_of}
use Rattle.slot_rows.specs.Order.{IsSlotOrder}
use Rattle.slot_replay.specs.Conditions.{conditions_view}
use Rattle.trace_fits.specs.Views.{fitted_at}
use Rattle.replay_laws.specs.Chosen.{choices_by}
use Rattle.program_replay.proofs.Shown.{are_chosen, shown, told}
use Rattle.program_replay.proofs.slots.replay_slots.Goals as goal

pub slot_order-requires : goal.slot_order-requires
slot_order-requires g c =
    let p = program_view c.args.program.now in
    let d = node_view c.args.node.now in
    subst HasRanks (sym (ap (map source_view) c.deref.ensures.value ∙ c.in_ok-sources.ensures.exact))
    (c.sources_have_ranks.ensures p c.requires.checked d c.requires.declared)

pub returns : goal.returns
returns g c =
    let p = program_view c.args.program.now in
    let i = instance_of p (node_view c.args.node.now) in
    let t = trace_view c.args.trace.now in
    let ls = lines_of t in
    let cs = choices_by c.in_ok-shapes.shapes.items (fitted_at c.args.fitted) in
    let h = are_chosen c.shapes_choose.ensures i ls c.in_ok-shapes.shapes.items c.in_ok-shapes.ensures (fitted_at c.args.fitted) c.requires.listed in
    let es = map source_view c.deref-2.result.now in
    let s : es ≡ sources_of i = ap (map source_view) c.deref-2.ensures.value ∙ c.in_ok-sources.ensures.exact in
    let o : IsSlotOrder es c.deref-3.result.now =
    subst (λ ks. IsSlotOrder es ks) (sym c.deref-3.ensures.value)
    (subst (λ xs. IsSlotOrder (map source_view xs) c.in_ok-order.order.items) (c.deref.ensures.value ∙ sym c.deref-2.ensures.value) c.in_ok-order.ensures) in
    record {
      shown = shown i ls t.length cs h es s c.deref-3.result.now o (conditions_view c.in_ok-conditions.conditions) c.in_ok-conditions.ensures _ c.replay.result
          c.replay.ensures.going_on c.replay.ensures.breaks c.replay.ensures.lawful c.replay.ensures.value;
      told = told i ls t.length cs h es s c.deref-3.result.now o (conditions_view c.in_ok-conditions.conditions) c.in_ok-conditions.ensures _ c.replay.result
          c.replay.ensures.past;
    }
