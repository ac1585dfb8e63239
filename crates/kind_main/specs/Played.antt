-- The book that the engines leave.
use Rattle.std.specs.Prelude.{◌≡◌, ℕ, List, length, Option, None, Some, option_map, slice_get}
use Rattle.std.specs.List.{AllByRecursion}
use Rattle.lus_tree.specs.Tree.{Program, Component}
use Rattle.lus_meaning.specs.Contract.{Property}
use Rattle.lus_meaning.specs.Program.{instance_of}
use Rattle.lus_meaning.specs.Property.{properties}
use Rattle.sys_terms.specs.View.{Machine}
use Rattle.board_core.specs.declared.plan.Plan.{Plan}
use Rattle.sys_terms.specs.declared.term.Entry.{Entry}
use Rattle.board_core.specs.Entries.{AreSound, IsBroken, Posting, broken}
use Rattle.board_core.specs.Books.{Contents, machine_of, plan_of, history_of}
use Rattle.board_core.specs.Seats.{HasCauses}
use Rattle.kind_engine.specs.Ready.{IsReady}
use Rattle.kind_main.specs.declared.options.Options.{Options}
use Rattle.kind_main.specs.Options.{numbers_of, options_plan}
use Rattle.kind_main.specs.Lines.{Line, text_of}
use Rattle.kind_main.specs.Verdicts.{Verdict, valid, falsifiable, unknown, AreTrueCauses, BreaksBy, IsOneLine, IsTextOf}

-- the engine of this number has posted, at the seat of its number, its cause for each property that the book leaves
-- undecided
abbrev pub HasSpent : Contents → ℕ → Type 0
HasSpent b e = HasCauses (history_of b) (history_of b) e (Some e) (length (machine_of b).properties)

-- a sound book of this system and plan
pub record IsPlayedBy (m : Machine) (given : Plan) (b : Contents) : Type 0 where
  pub system : machine_of b ≡ m
  pub plan : plan_of b ≡ given
  pub sound : AreSound (machine_of b) (plan_of b) (history_of b)

-- a sound book with these options, in which each of their engines has posted its causes
pub record IsPlayed (o : Options) (b : Contents) : Type 0 where
  pub ready : IsReady (machine_of b) (options_plan o)
  pub plan : plan_of b ≡ options_plan o
  pub sound : AreSound (machine_of b) (plan_of b) (history_of b)
  pub spent : AllByRecursion (HasSpent b) (numbers_of o.engines)

-- what is said is that there are such causes
abbrev pub AreCausesOf : Options → Contents → ℕ → Verdict → Type 0
AreCausesOf o b k valid = ⊥
AreCausesOf o b k (falsifiable last trace) = ⊥
AreCausesOf o b k (unknown causes) = AreTrueCauses (machine_of b) o (history_of b) k causes

-- these lines are the trace of this path, which breaks the property of that number
pub record IsTraced (p : Program) (d : Component) (k : ℕ) (states : List (List Entry)) (last : ℕ) (trace : List Line) : Type 0 where
  pub lines : AllByRecursion IsOneLine trace
  pub text : IsTextOf p d states (text_of trace)
  pub breaks : (q : Property) → slice_get (properties (instance_of p d)) k ≡ Some q → BreaksBy p d k q last (text_of trace)

-- that is what is said
abbrev pub IsBreakOf : Program → Component → ℕ → List (List Entry) → Verdict → Type 0
IsBreakOf p d k states valid = ⊥
IsBreakOf p d k states (falsifiable last trace) = IsTraced p d k states last trace
IsBreakOf p d k states (unknown causes) = ⊥

-- and the path is that of the entry at this place
pub record IsBreakAt (b : Contents) (p : Program) (d : Component) (k place : ℕ) (v : Verdict) : Type 0 where
  pub states : List (List Entry)
  pub says : option_map (λ (i : Posting). i.says) (slice_get (history_of b) place) ≡ Some (broken k states)
  pub break : IsBreakOf p d k states v

abbrev pub IsBrokenEntry : Machine → ℕ → Option Posting → Type 0
IsBrokenEntry m k None = ⊥
IsBrokenEntry m k (Some i) = (states : List (List Entry)) × (i.says ≡ broken k states) × IsBroken m k states

-- the entry at this place has a path that breaks the property
abbrev pub IsBrokenAt : Contents → (property place : ℕ) → Type 0
IsBrokenAt b k place = IsBrokenEntry (machine_of b) k (slice_get (history_of b) place)
