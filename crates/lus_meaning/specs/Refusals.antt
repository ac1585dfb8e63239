-- Which programs are refused, where and why, and which follow the rules.
use Rattle.std.specs.Prelude.{Contains, Option}
use Rattle.lus_tree.specs.Tree.{Name, Program}
use Rattle.lus_tree.specs.Reason.{Refused}
use Rattle.lus_meaning.specs.Faults.{IsFirst}
use Rattle.lus_meaning.specs.NameFaults.{typing_faults}
use Rattle.lus_meaning.specs.ClockFaults.{clock_faults}
use Rattle.lus_meaning.specs.EquationFaults.{IsEquationFault}
use Rattle.lus_meaning.specs.Limits.{size_faults}
use Rattle.lus_meaning.specs.Grammatical.{IsGrammatical}

-- the faults of each phase: names, types and numbers; clocks; equations; limits
abbrev pub IsTypingFault : Program → Refused → Type 0
IsTypingFault p r = Contains (typing_faults p) r

abbrev pub IsClockFault : Program → Refused → Type 0
IsClockFault p r = Contains (clock_faults p) r

abbrev pub IsLimitFault : Program → Option Name → Refused → Type 0
IsLimitFault p main r = Contains (size_faults p main) r

-- a phase in which no rule is broken
abbrev pub HasNone : (Refused → Type 0) → Type 0
HasNone F = (r : Refused) → F r → Prim.⊥

-- names and types are right, clocks too, and so are equations
abbrev pub IsTyped : Program → Type 0
IsTyped p = HasNone (IsTypingFault p)

pub record IsClocked (p : Program) : Type 0 where
  pub typed : IsTyped p
  pub clocks : HasNone (IsClockFault p)

pub record FollowsRules (p : Program) : Type 0 where
  pub clocked : IsClocked p
  pub equations : HasNone (IsEquationFault p)

-- a tree of the grammar that breaks no rule; limits are no part of it, and no law of runs needs them
pub record IsChecked (p : Program) : Type 0 where
  pub grammatical : IsGrammatical p
  pub rules : FollowsRules p

-- with this main node, or without one that is named
abbrev pub IsWithinLimits : Program → Option Name → Type 0
IsWithinLimits p main = HasNone (IsLimitFault p main)

-- refused by one of the rules: a phase comes where those before it have no fault
pub data IsRefusedFor (p : Program) (main : Option Name) (r : Refused) : Type 0 where
  by_typing : IsFirst (IsTypingFault p) r → IsRefusedFor p main r
  by_clocks : IsTyped p → IsFirst (IsClockFault p) r → IsRefusedFor p main r
  by_equations : IsClocked p → IsFirst (IsEquationFault p) r → IsRefusedFor p main r
  by_limits : FollowsRules p → IsFirst (IsLimitFault p main) r → IsRefusedFor p main r
