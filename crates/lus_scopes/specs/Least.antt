-- The least of the faults that were noted.
use Rattle.std.specs.Prelude.{cond, List, [], ◌∷◌, Option, Some, None, option_map, Contains}
use Rattle.lus_tree.specs.Reason.{Refused, refusal_view}
use Rattle.lus_meaning.specs.Faults.{comes_before, IsFirst}
use Rattle.lus_meaning.specs.Refusals.{HasNone}
use Rattle.lus_scopes.specs.declared.least.Least.{Least}

abbrev pub least_view : Least → Option Refused
least_view l = option_map refusal_view l.fault

-- of these faults a first one, or none where there are none
abbrev pub IsLeast : Option Refused → List Refused → Type 0
IsLeast None fs = HasNone (Contains fs)
IsLeast (Some r) fs = IsFirst (Contains fs) r

-- what is kept of one more fault, and of several
abbrev pub noted : Option Refused → Refused → Option Refused
noted None r = Some r
noted (Some s) r = cond (comes_before r s) (Some r) (Some s)

abbrev pub noted_all : Option Refused → List Refused → Option Refused
noted_all o [] = o
noted_all o (r ∷ rs) = noted_all (noted o r) rs
