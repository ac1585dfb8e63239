use Rattle.std.proofs.Common.{◌≡◌, ◌++◌, drop, map, flat_map}
use Rattle.lus_tree.specs.View.{contract_item_view}
use Rattle.lus_meaning.specs.NameFaults.{restricted}
use Rattle.lus_types.specs.Reads.{read_in, read_view}
use Rattle.lus_types.proofs.reads.restricted_reads.Given as goal

-- what is there, followed by what is to come, is all
abbrev pub invariant-loop-item : goal.invariant-loop-item
invariant-loop-item l = map read_view l.reads.items ++ flat_map (λ c. flat_map read_in (restricted c)) (map contract_item_view (drop l.item-index l.items))
    ≡ flat_map (λ c. flat_map read_in (restricted c)) (map contract_item_view l.items)
