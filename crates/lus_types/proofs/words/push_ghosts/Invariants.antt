use Rattle.std.proofs.Common.{◌≡◌, ◌++◌, drop, map}
use Rattle.lus_tree.specs.View.{contract_item_view}
use Rattle.lus_meaning.specs.Scene.{ghosts}
use Rattle.lus_types.specs.Words.{words_view}
use Rattle.lus_types.proofs.words.push_ghosts.Given as goal

-- what is there, followed by what is to come, is all
abbrev pub invariant-loop-item : goal.invariant-loop-item
invariant-loop-item l = words_view l.words.items ++ map (λ v. v.name) (ghosts (map contract_item_view (drop l.item-index l.items)))
    ≡ words_view l.initial.words.items ++ map (λ v. v.name) (ghosts (map contract_item_view l.items))
