-- Expressions over slots, without where they lie in memory.
use Rattle.std.specs.Prelude.{ℕ, Bool}
use Rattle.lus_tree.specs.declared.place.Pos.{Pos}
use Rattle.lus_tree.specs.declared.expression.Operator.{Operator}
use Rattle.lus_meaning.specs.Value.{Value}
use Rattle.lus_meaning.specs.TraceView.{entry_view}
use Rattle.slot_values.specs.declared.resolved.Resolved.{Resolved}
use Rattle.slot_values.specs.declared.resolved.Resolved.TheVariants as r

pub data Resolution : Type 0 where
  -- a literal or a constant
  known : Value → Resolution
  -- a name, the memory of a `pre`, or the output of a call
  slot : ℕ → Resolution
  negated : Resolution → Resolution
  opposite : Pos → Resolution → Resolution
  combined : Pos → Operator → Resolution → Resolution → Resolution
  chosen : Resolution → Resolution → Resolution → Resolution
  -- `->`, by the slot that is true where it starts
  started : ℕ → Resolution → Resolution → Resolution
  -- `when`, by the slot of the name and the truth value that it has to have
  sampled : ℕ → Bool → Resolution → Resolution
  merged : ℕ → Resolution → Resolution → Resolution
  -- a call that runs while a condition is true: the condition, and the slots of the callee's beat, of its output, and of what is held of that
  latest : Resolution → ℕ → ℕ → ℕ → Resolution

abbrev pub resolved_view : Resolved → Resolution
resolved_view (r.Known v) = known (entry_view v)
resolved_view (r.Slot k) = slot k
resolved_view (r.Not' p a) = negated (resolved_view a)
resolved_view (r.Minus' at p a) = opposite at (resolved_view a)
resolved_view (r.Binary' at o p a q b) = combined at o (resolved_view a) (resolved_view b)
resolved_view (r.If' p a q b s d) = chosen (resolved_view a) (resolved_view b) (resolved_view d)
resolved_view (r.Arrow' k p a q b) = started k (resolved_view a) (resolved_view b)
resolved_view (r.When' k c p a) = sampled k c (resolved_view a)
resolved_view (r.Merge' k p a q b) = merged k (resolved_view a) (resolved_view b)
resolved_view (r.Latest' p a b o h) = latest (resolved_view a) b o h
