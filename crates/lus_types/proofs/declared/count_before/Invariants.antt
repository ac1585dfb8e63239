use Rattle.std.proofs.Common.{◌≡◌, ◌+◌, drop, map, length}
use Rattle.std.specs.Prelude.{take_while}
use Rattle.lus_tree.specs.View.{definition_view}
use Rattle.lus_meaning.specs.Scope.{a_fixed, is_before, word_of}
use Rattle.lus_types.proofs.declared.count_before.Given as goal

-- those so far, and those to come, are all
abbrev pub invariant-loop-definition : goal.invariant-loop-definition
invariant-loop-definition l =
    (l.count + length (take_while (λ x. is_before (word_of x).at l.at) (map a_fixed (map definition_view (drop l.definition-index l.definitions))))
    ≡ length (take_while (λ x. is_before (word_of x).at l.at) (map a_fixed (map definition_view l.definitions))))
    × (l.count ≡ l.definition-index)
