-- Why a trace doesn't fit.
use Rattle.std.specs.Prelude.{◌≡◌, Option, Some, None, Result, Ok, Err}
use Rattle.lus_tree.specs.declared.place.Pos.{Pos}
use Rattle.lus_tree.specs.Tree.{Program}
use Rattle.lus_meaning.specs.TraceView.{Listing}
use Rattle.lus_meaning.specs.Fits.{misfit}
use Rattle.trace_text.specs.declared.fault.TraceFault.{TraceFault}
use Rattle.trace_text.specs.declared.fault.TraceFault.TheVariants.{Form, Memory}

-- a place is that of the first word that doesn't fit
abbrev pub IsMisfit : Program → Listing → TraceFault → Type 0
IsMisfit p t (Form q) = misfit p t ≡ Some q
IsMisfit p t Memory = Unit {0}

-- what was looked for is not there, or is at this place, unless memory ran out
abbrev pub FindsAt : TraceFault → Option Pos → Type 0
FindsAt (Form p) o = o ≡ Some p
FindsAt Memory o = Unit {0}

abbrev pub Finds : {A : Type 0} → Result A TraceFault → Option Pos → Type 0
Finds (Ok x) o = o ≡ None
Finds (Err e) o = FindsAt e o
