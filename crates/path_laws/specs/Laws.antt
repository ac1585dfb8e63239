-- The laws of the translation for checked programs.
use Rattle.std.specs.Prelude.{◌≡◌, Bool, true, List, []}
use Rattle.std.specs.List.{AllByRecursion}
use Rattle.lus_tree.specs.Tree.{ContractStatement, assume, guarantee, ghost_variable, constant, mode, «import», Component, Program}
use Rattle.lus_meaning.specs.Scene.{Instance, Instances, instance, no_instances, with_instance, clock_from, contract_statements, variables}
use Rattle.lus_meaning.specs.Program.{instance_of}
use Rattle.lus_meaning.specs.ClockFaults.{components}
use Rattle.lus_meaning.specs.Refusals.{IsChecked}
use Rattle.lus_meaning.specs.RuleLaws.{OfEach}
use Rattle.lus_tree.specs.declared.place.Sort.TheVariants.{Int as Numbers}
use Rattle.lus_meaning.specs.Value.{whole}
use Rattle.lus_meaning.specs.Fits.{is_of_sort}
use Rattle.sys_terms.specs.declared.term.Entry.{Entry}
use Rattle.sys_terms.specs.declared.term.Entry.TheVariants as entries
use Rattle.sys_terms.specs.Paths.{IsPath}
use Rattle.sys_meaning.specs.System.{number_of, system_of}
use Rattle.sys_meaning.specs.Path.{TraceOfPath}
use Rattle.sys_meaning.specs.WellTyped.{IsKnown, ClockFits, WellTyped}
use Rattle.sys_meaning.specs.Verdicts.{HasTrace, HoldsWhereReachable, HoldsWhereBounded, BreaksAtLast}
use Rattle.sys_meaning.specs.Law.{TreeDistinct, RunsArePaths, LemmaLaw, PropertyLaw}

-- the clocks of a declaration's streams come to the base clock
abbrev pub ClockChainsEnd : Type 0
ClockChainsEnd =
    OfEach (λ p n. AllByRecursion (λ v. ClockFits (instance_of p n) (λ key. ⊥) (clock_from v.clock)) (variables n))

-- ---- runs and paths

-- what is so of the instance of each declaration of a checked program
abbrev pub OfEachInstance : (Instance → Type 0) → Type 0
OfEachInstance P = OfEach (λ p n. P (instance_of p n))

-- its text has its types, clocks and places, at every depth of calls, and the sources of its names have different names
abbrev pub EachIsWellTyped : Type 0
EachIsWellTyped = OfEachInstance (λ i. WellTyped IsKnown i × TreeDistinct i (number_of i) [])

-- its runs are paths, each path is that of one run, and its properties have the truth of their formulas
abbrev pub EachRunsArePaths : Type 0
EachRunsArePaths = OfEachInstance RunsArePaths

-- what follows for lemmas and for properties
abbrev pub EachLemmas : Type 0
EachLemmas = OfEachInstance LemmaLaw

abbrev pub EachProperties : Type 0
EachProperties = OfEachInstance PropertyLaw

-- the trace of a path has the path's frame
abbrev pub EachTraces : Type 0
EachTraces = OfEachInstance TraceOfPath

-- ---- verdicts

-- a property holds whose formula is true in all reachable states
abbrev pub EachHolds : Type 0
EachHolds = OfEachInstance HoldsWhereReachable

-- and where no path of at most d + 1 states ends with it false, it is true at each lawful instant up to d
abbrev pub EachBounds : Type 0
EachBounds = OfEachInstance HoldsWhereBounded

-- a path that breaks the property of a number breaks it by its frame, at the last instant
abbrev pub EachBreaks : Type 0
EachBreaks = OfEachInstance BreaksAtLast

-- ---- traces that fit

-- every number of the states is one that a trace may list, of a size of at most 2^63 - 1
abbrev pub is_small_entry : Entry → Bool
is_small_entry (entries.Flag b) = true
is_small_entry (entries.Number z) = is_of_sort Numbers (whole z)

abbrev pub HasSmallNumbers : List (List Entry) → Type 0
HasSmallNumbers states = AllByRecursion (λ s. AllByRecursion (λ e. is_small_entry e ≡ true) s) states

-- then the trace of a path fits, the path's frame is its frame, and it has no other
abbrev pub EachHasTraces : Type 0
EachHasTraces =
    OfEachInstance (λ i. (states : List (List Entry)) → IsPath (system_of i) states → HasSmallNumbers states → HasTrace i states)
