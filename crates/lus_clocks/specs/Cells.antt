-- Clocks by number.
use Rattle.std.specs.Prelude.{ℕ, List, map, Option, Some, None, get_or}
use Rattle.std.specs.Borrow.{Bor}
use Rattle.lus_tree.specs.View.{word_view}
use Rattle.lus_meaning.specs.Scene.{Clock, base, sampled_by}
use Rattle.lus_clocks.specs.declared.cells.Sampling.{Sampling}
use Rattle.lus_clocks.specs.declared.cells.Cell.{Cell}
use Rattle.lus_clocks.specs.declared.cells.Cell.TheVariants.{Unseen, Base, Sampled}

abbrev pub sampling_view : Sampling → Clock
sampling_view s = sampled_by s.truth (word_view s.name).text

abbrev pub cell_view : Cell → Option Clock
cell_view Unseen = None
cell_view Base = Some base
cell_view (Sampled s) = Some (sampling_view s)

-- the clock with that number, where there is one
abbrev pub cell_at : List Cell → ℕ → Option Clock
cell_at cs k = get_or (map cell_view cs) k None

-- the clock that is given: the base clock where none is
abbrev pub clock_given : Option (Bor Sampling) → Clock
clock_given None = base
clock_given (Some s) = sampling_view s.now
