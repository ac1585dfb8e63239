-- What is known of a part of an expression.
use Rattle.std.specs.Prelude.{◌≡◌, List, [], Option, Some, None}
use Rattle.lus_tree.specs.Tree.{Component, Expression}
use Rattle.lus_tree.specs.Reason.{Refused, clock_clash}
use Rattle.lus_meaning.specs.Scene.{Clock}
use Rattle.lus_meaning.specs.Occurrences.{begin}
use Rattle.lus_meaning.specs.Faults.{if_so}
use Rattle.lus_meaning.specs.ClockFaults.{clock_in, is_other, stands_on}
use Rattle.lus_clocks.specs.declared.found.Part.{Part}
use Rattle.lus_streams.specs.Clocks.{clocks_seen}

-- it is what the definitions say of the expression
pub record IsPart (n : Component) (e : Expression) (p : Part) : Type 0 where
  pub from : p.from ≡ begin e
  pub clock : clocks_seen p.clock ≡ clock_in n e

-- the fault of a part that is to stand on a clock, by what is known of it
abbrev pub stand_notes : Clock → Part → List Refused
stand_notes c p = if_so (is_other c (clocks_seen p.clock)) clock_clash p.from

-- where that clock is known
abbrev pub fit_notes : Option Clock → Part → List Refused
fit_notes None p = []
fit_notes (Some c) p = stand_notes c p

-- the same of an expression
abbrev pub fits_on : Component → Option Clock → Expression → List Refused
fits_on n None e = []
fits_on n (Some c) e = stands_on n c e
