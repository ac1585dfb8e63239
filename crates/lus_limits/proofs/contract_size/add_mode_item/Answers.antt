use Rattle.std.proofs.Common.{List, map, ap, ◌∙◌}
use Rattle.lus_tree.specs.Tree.{Labelled}
use Rattle.lus_tree.specs.View.{named_view, word_view}
use Rattle.lus_meaning.specs.Sizes.{all_of, asked_size, sizes_of}
use Rattle.lus_limits.specs.Contracted.{contract_seen}
use Rattle.lus_limits.specs.Measured.{modes_view, size_view}
use Rattle.lus_limits.specs.Peaks.{peak}
use Rattle.lus_limits.specs.SizeCuts.{cut_term}
use Rattle.lus_streams.specs.Names.{names_view}
use Rattle.lus_limits.proofs.Contracted.{mode_item_added}
use Rattle.lus_limits.proofs.contract_size.add_mode_item.Goals as goal

pub returns : goal.returns
returns c =
    let rs : List Labelled = map named_view c.args.conditions.now in
    let es : List Labelled = map named_view c.args.promises.now in
    mode_item_added (names_view c.args.names) (contract_seen c.args.contract.now) (contract_seen c.add_promises.new.contract)
    (contract_seen c.add_mode.new.contract) (word_view c.args.mode.now).text rs es (size_view c.required-asked.result)
    (size_view c.ensured-promised.result) c.requires
    (c.required-asked.ensures ∙ ap (λ ms. cut_term (all_of (sizes_of (names_view c.args.names) (modes_view ms) rs))) c.deref.ensures.value)
    (c.ensured-promised.ensures
    ∙ ap (λ ms. cut_term (peak (map (asked_size (size_view c.required-asked.result)) (sizes_of (names_view c.args.names) (modes_view ms) es))))
    c.deref.ensures.value)
    c.add_promises.ensures c.in_ok-add_mode.ensures
