use Rattle.std.proofs.Common.{◌≡◌, map, take}
use Rattle.lus_tree.specs.View.{named_view}
use Rattle.lus_meaning.specs.Sizes.{size_in}
use Rattle.lus_limits.specs.Chained.{chain_view}
use Rattle.lus_limits.specs.Measured.{modes_view}
use Rattle.lus_limits.specs.Peaks.{by_and, chain}
use Rattle.lus_limits.specs.SizeCuts.{cut_chain}
use Rattle.lus_streams.specs.Names.{names_view}
use Rattle.lus_limits.proofs.contract_size.required.Given as goal

-- what is joined so far, cut
abbrev pub invariant-loop-named : goal.invariant-loop-named
invariant-loop-named l = chain_view l.chain
    ≡ cut_chain (chain by_and (map (λ x. size_in (names_view l.scope.names) (modes_view l.scope.modes.now) (named_view x).value)
    (take l.named-index l.labelled)))
