use Rattle.std.proofs.Common.{List, map, ap, sym, ◌∙◌}
use Rattle.std.proofs.lemmas.List.{take_all}
use Rattle.lus_tree.specs.declared.declaration.Named.{Named}
use Rattle.lus_tree.specs.View.{named_view}
use Rattle.lus_meaning.specs.Sizes.{Size, all_of, size_in}
use Rattle.lus_limits.specs.Chained.{chain_view}
use Rattle.lus_limits.specs.Measured.{modes_view, size_view}
use Rattle.lus_limits.specs.Peaks.{by_and, chain, followed}
use Rattle.lus_limits.specs.SizeCuts.{cut_chain, cut_term}
use Rattle.lus_streams.specs.Names.{names_view}
use Rattle.lus_limits.proofs.Peaks.{all_chained}
use Rattle.lus_limits.proofs.SizeSummaries.{mapped_twice}
use Rattle.lus_limits.proofs.Contracted.{joined_more}
use Rattle.lus_limits.proofs.contract_size.required.Goals as goal

pub loop-named-preserved : goal.loop-named-preserved
loop-named-preserved c =
    joined_more (λ x. size_in (names_view c.args.scope.now.names) (modes_view c.args.scope.now.modes.now) (named_view x).value) c.args.labelled.now
    c.loop-named.named-index c.named-item.result (chain_view c.loop-named.chain) (chain_view c.followed-chain.result) (size_view c.measure.result.size)
    c.loop-named-test.true c.named-item.is c.loop-named.invariant c.measure.ensures.size
    (c.followed-chain.ensures ∙ ap (λ d. cut_chain (followed (chain_view c.loop-named.chain) d)) c.asked.ensures)

pub returns : goal.returns
returns c =
    let view : Named → Size = λ x. size_in (names_view c.args.scope.now.names) (modes_view c.args.scope.now.modes.now) (named_view x).value in
    let xs : List Named = c.args.labelled.now in
    ap (λ d. d.whole) c.loop-named.invariant
    ∙ ap (λ ys. cut_term (chain by_and (map view ys)).whole) (take_all c.loop-named.named-index xs c.loop-named-test.false)
    ∙ ap cut_term (sym (all_chained (map view xs)))
    ∙ ap (λ ss. cut_term (all_of ss))
    (sym (mapped_twice (λ l. size_in (names_view c.args.scope.now.names) (modes_view c.args.scope.now.modes.now) l.value) named_view xs))
