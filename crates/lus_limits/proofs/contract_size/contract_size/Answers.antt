use Rattle.std.proofs.Common.{◌≡◌, ℕ, ◌+◌, ◌∷◌, drop, map, ap, sym, ◌∙◌}
use Rattle.std.proofs.lemmas.List.{drop_more}
use Rattle.lus_tree.specs.Tree.{ContractStatement, Component}
use Rattle.lus_tree.specs.View.{contract_item_view}
use Rattle.lus_limits.specs.Contracted.{contract_seen, item_after, summaries_seen}
use Rattle.lus_limits.specs.SizeCuts.{cut_peaks}
use Rattle.lus_limits.specs.SizeSummaries.{ContractPeaks, contract_at, no_peaks, peaks_after}
use Rattle.lus_streams.specs.Names.{names_view}
use Rattle.lus_limits.proofs.Contracted.{items_after}
use Rattle.lus_limits.proofs.SizeCuts.{twice_peaks}
use Rattle.lus_limits.proofs.contract_size.contract_size.Goals as goal

pub loop-item-preserved : goal.loop-item-preserved
loop-item-preserved c =
    let n : Component = names_view c.args.names in
    let sub : ℕ → ContractPeaks = contract_at (summaries_seen c.args.links.now) in
    let r : ContractPeaks = contract_seen c.loop-item.contract in
    let q : ContractPeaks = contract_seen c.add_item.new.contract in
    let v : ContractStatement = contract_item_view c.item-item.result in
    let e : q ≡ cut_peaks (item_after n sub r v) = c.in_ok-add_item.ensures in
    let d : drop c.loop-item.item-index c.args.items.now ≡ c.item-item.result ∷ drop (c.loop-item.item-index + 1) c.args.items.now =
    drop_more c.args.items.now c.loop-item.item-index c.item-item.result c.loop-item-test.true
    ∙ ap (λ x. x ∷ drop (c.loop-item.item-index + 1) c.args.items.now) (sym c.item-item.is) in (
      ap cut_peaks e ∙ twice_peaks (item_after n sub r v) ∙ sym e,
      c.loop-item.invariant.1,
      items_after n sub r q (cut_peaks (peaks_after n sub no_peaks (map contract_item_view c.args.items.now))) v
          (map contract_item_view (drop (c.loop-item.item-index + 1) c.args.items.now)) e
          (ap (λ xs. cut_peaks (peaks_after n sub r (map contract_item_view xs))) (sym d) ∙ c.loop-item.invariant.2),
    )
