use Rattle.std.proofs.Common.{◌<◌, ℕ, ◌+◌, ◌-◌, ◌*◌, ◌≤◌, length}
use Rattle.lus_grammar.specs.Grammar.{operand}
use Rattle.lus_grammar.specs.Syntax.{Counts}
use Rattle.lus_grammar.specs.Stream.{stream}
use Rattle.lus_reader.specs.Outcome.{IsRead, tree_of, trees_of}
use Rattle.lus_reader.specs.View.{counts_view, level_view}
use Rattle.lus_reader.specs.declared.operator.Level.{Level}
use Rattle.lus_reader.specs.declared.operator.Level.TheVariants.{Products, Sums, Conjunctions, Disjunctions}
use Rattle.lus_reader.proofs.Conditions.{IsLed}
use Rattle.lus_reader.proofs.Chains.{IsGrouped}
use Rattle.lus_reader.proofs.Lists.{IsListed}
use Rattle.lus_reader.proofs.+reader.Given as goal

-- how many levels stand below one
abbrev height : Level → ℕ
height Products = 0
height Sums = 1
height Conjunctions = 2
height Disjunctions = 3

abbrev pub decreases-expression::read_expression : goal.decreases-expression::read_expression
decreases-expression::read_expression l = 32 * (length l.tokens.now - l.at) + 23

abbrev pub decreases-expression::read_condition : goal.decreases-expression::read_condition
decreases-expression::read_condition l = 32 * (length l.tokens.now - l.at) + 22

abbrev pub decreases-expression::read_if : goal.decreases-expression::read_if
decreases-expression::read_if l = 32 * (length l.tokens.now - l.at)

abbrev pub decreases-expression::read_arrow : goal.decreases-expression::read_arrow
decreases-expression::read_arrow l = 32 * (length l.tokens.now - l.at) + 21

abbrev pub decreases-expression::read_implication : goal.decreases-expression::read_implication
decreases-expression::read_implication l = 32 * (length l.tokens.now - l.at) + 20

abbrev pub decreases-expression::read_chain : goal.decreases-expression::read_chain
decreases-expression::read_chain l = 32 * (length l.tokens.now - l.at) + 19

abbrev pub decreases-expression::read_operand : goal.decreases-expression::read_operand
decreases-expression::read_operand l = 32 * (length l.tokens.now - l.at) + 18

abbrev pub decreases-expression::read_unary : goal.decreases-expression::read_unary
decreases-expression::read_unary l = 32 * (length l.tokens.now - l.at) + 3

abbrev pub decreases-primary::read_primary : goal.decreases-primary::read_primary
decreases-primary::read_primary l = 32 * (length l.tokens.now - l.at) + 2

abbrev pub decreases-primary::read_name : goal.decreases-primary::read_name
decreases-primary::read_name l = 32 * (length l.tokens.now - l.at) + 1

abbrev pub decreases-primary::read_call : goal.decreases-primary::read_call
decreases-primary::read_call l = 32 * (length l.tokens.now - l.at)

abbrev pub decreases-primary::read_merge : goal.decreases-primary::read_merge
decreases-primary::read_merge l = 32 * (length l.tokens.now - l.at)

abbrev pub decreases-primary::read_branch : goal.decreases-primary::read_branch
decreases-primary::read_branch l = 32 * (length l.tokens.now - l.at)

abbrev pub decreases-primary::read_condact : goal.decreases-primary::read_condact
decreases-primary::read_condact l = 32 * (length l.tokens.now - l.at)

abbrev pub decreases-primary::read_round : goal.decreases-primary::read_round
decreases-primary::read_round l = 32 * (length l.tokens.now - l.at) + 1

abbrev pub decreases-primary::read_activate : goal.decreases-primary::read_activate
decreases-primary::read_activate l = 32 * (length l.tokens.now - l.at)

abbrev pub decreases-arguments::read_bracketed : goal.decreases-arguments::read_bracketed
decreases-arguments::read_bracketed l = 32 * (length l.tokens.now - l.at)

abbrev pub decreases-arguments::read_arguments : goal.decreases-arguments::read_arguments
decreases-arguments::read_arguments l = 32 * (length l.tokens.now - l.at) + 24

abbrev pub decreases-arguments::read_more : goal.decreases-arguments::read_more
decreases-arguments::read_more l = 32 * (length l.tokens.now - l.of.next) + 1

abbrev pub decreases-expression::read_upward : goal.decreases-expression::read_upward
decreases-expression::read_upward l = 32 * (length l.tokens.now - l.of.next) + 2 * height l.level + 1

abbrev pub decreases-expression::read_rest : goal.decreases-expression::read_rest
decreases-expression::read_rest l = 32 * (length l.tokens.now - l.of.next)

abbrev pub decreases-expression::read_comparison : goal.decreases-expression::read_comparison
decreases-expression::read_comparison l = 32 * (length l.tokens.now - l.left.next)

abbrev pub invariant-expression::read_expression-loop-alloc : goal.invariant-expression::read_expression-loop-alloc
invariant-expression::read_expression-loop-alloc l = record {
  led : IsLed (stream l.bytes l.tokens) l.at (counts_view l.fn.counts) l.found.next (counts_view l.found.counts) (tree_of l.found);
  past : l.at < l.found.next;
  within : l.found.next ≤ length l.tokens;
}

abbrev pub decreases-expression::read_expression-loop-alloc : goal.decreases-expression::read_expression-loop-alloc
decreases-expression::read_expression-loop-alloc l = length l.tokens - l.found.next

abbrev pub invariant-expression::read_rest-loop-operator : goal.invariant-expression::read_rest-loop-operator
invariant-expression::read_rest-loop-operator l = record {
  grouped : (i : ℕ) (n : Counts) → IsRead (stream l.bytes l.tokens) (operand (level_view l.level)) i n l.fn.of → IsGrouped
      (stream l.bytes l.tokens) (level_view l.level) i n l.left.next (counts_view l.left.counts) (tree_of l.left);
  past : l.fn.of.next ≤ l.left.next;
  within : l.fn.of.next ≤ length l.tokens → l.left.next ≤ length l.tokens;
}

abbrev pub decreases-expression::read_rest-loop-operator : goal.decreases-expression::read_rest-loop-operator
decreases-expression::read_rest-loop-operator l = length l.tokens - l.left.next

abbrev pub invariant-arguments::read_more-loop-alloc : goal.invariant-arguments::read_more-loop-alloc
invariant-arguments::read_more-loop-alloc l = record {
  listed : IsListed (stream l.bytes l.tokens) (trees_of l.fn.of) l.fn.of.next (counts_view l.fn.of.counts) (trees_of l.list) l.list.next
      (counts_view l.list.counts);
  past : l.fn.of.next ≤ l.list.next;
  within : l.fn.of.next ≤ length l.tokens → l.list.next ≤ length l.tokens;
}

abbrev pub decreases-arguments::read_more-loop-alloc : goal.decreases-arguments::read_more-loop-alloc
decreases-arguments::read_more-loop-alloc l = length l.tokens - l.list.next
