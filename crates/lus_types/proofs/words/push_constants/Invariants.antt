use Rattle.std.proofs.Common.{◌≡◌, ◌++◌, drop, map}
use Rattle.lus_tree.specs.View.{definition_view}
use Rattle.lus_types.specs.Words.{words_view}
use Rattle.lus_types.proofs.words.push_constants.Given as goal

-- what is there, followed by what is to come, is all
abbrev pub invariant-loop-definition : goal.invariant-loop-definition
invariant-loop-definition l = words_view l.words.items ++ map (λ c. c.name) (map definition_view (drop l.definition-index l.definitions))
    ≡ words_view l.initial.words.items ++ map (λ c. c.name) (map definition_view l.definitions)
