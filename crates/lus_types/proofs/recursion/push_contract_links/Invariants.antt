use Rattle.std.proofs.Common.{◌≡◌, ◌++◌, drop, map}
use Rattle.lus_tree.specs.View.{program_view}
use Rattle.lus_types.specs.Called.{contract_links}
use Rattle.lus_types.specs.Marks.{link_view}
use Rattle.lus_types.specs.Words.{words_view}
use Rattle.lus_types.proofs.recursion.push_contract_links.Given as goal

-- what is there, followed by what is to come, is all
abbrev pub invariant-loop-word : goal.invariant-loop-word
invariant-loop-word l = map link_view l.links.items ++ contract_links (program_view l.declarations) l.names (words_view (drop l.word-index l.words))
    ≡ map link_view l.initial.links.items ++ contract_links (program_view l.declarations) l.names (words_view l.words)
