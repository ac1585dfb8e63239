-- What gives a slot its value, without where it lies in memory.
use Rattle.std.specs.Prelude.{ℕ}
use Rattle.lus_meaning.specs.Value.{Value}
use Rattle.lus_meaning.specs.TraceView.{entry_view}
use Rattle.slot_values.specs.Resolution.{Resolution, resolved_view}
use Rattle.slot_sources.specs.declared.source.Switch.{Switch}
use Rattle.slot_sources.specs.declared.source.Source.{Source as CodeSource}
use Rattle.slot_sources.specs.declared.source.Source.TheVariants as s

pub data Source : Type 0 where
  -- the beat of the analysed declaration
  always : Source
  -- the beat of a call: where its clock is on, and where besides a condition is true
  runs : Switch → Source
  runs_while : Switch → Resolution → Source
  -- what another slot has: of an import's beat and outputs
  same : ℕ → Source
  -- a right side, on the clock of its names
  given : Switch → Resolution → Source
  -- an argument, on the clock of its call, where the callee's beat is true
  argument : ℕ → Switch → Resolution → Source
  -- a name that nothing gives, on its clock
  listed : Switch → Source
  -- the operand of a `pre`, on its clock
  remembered : Switch → Resolution → Source
  -- an `->`, by its clock
  starting : Switch → Source
  -- the callee's beat, the output, and the default
  held : ℕ → ℕ → Value → Source
  -- no expression reads the slot
  unread : Source

abbrev pub source_view : CodeSource → Source
source_view s.Always = always
source_view (s.Runs w) = runs w
source_view (s.RunsWhile w e) = runs_while w (resolved_view e)
source_view (s.Same k) = same k
source_view (s.Given w e) = given w (resolved_view e)
source_view (s.Argument b w e) = argument b w (resolved_view e)
source_view (s.Listed w) = listed w
source_view (s.Remembered w e) = remembered w (resolved_view e)
source_view (s.Starting w) = starting w
source_view (s.Held b o d) = held b o (entry_view d)
source_view s.Unread = unread
