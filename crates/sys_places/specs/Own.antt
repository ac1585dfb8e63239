-- Where the variables of a frame's own stand, and those that it has of its calls.
use Rattle.std.specs.Prelude.{◌≡◌, ℕ, zero, suc, ◌+◌, ◌<◌, ◌≤◌, nat_lt, cond, List, length, slice_get, Some}
use Rattle.lus_tree.specs.Tree.{Name, Expression, Variable, Component, Program}
use Rattle.lus_meaning.specs.Depends.{named_in}
use Rattle.lus_meaning.specs.Occurrences.{memories, starts}
use Rattle.lus_meaning.specs.Program.{all_sites, instance_of}
use Rattle.lus_meaning.specs.RuleLaws.{OfEach}
use Rattle.lus_meaning.specs.Scene.{Manner, plain, while_true, as_import, Site, variables}
use Rattle.lus_meaning.specs.Slots.{Cell, own_cells}
use Rattle.name_table.specs.Names.{number_of}
use Rattle.lus_streams.specs.Streams.{names_of}
use Rattle.lus_limits.specs.Instances.{callee}
use Rattle.lus_layouts.specs.Layouts.{layout_of}
use Rattle.lus_layouts.specs.declared.placing.CallSlots.{CallSlots}
use Rattle.sys_meaning.specs.Slot.{Place, own, in_call, spot_of, beat, named, memory, starting, so_far, held}
use Rattle.sys_meaning.specs.System.{has_so_far}
use Rattle.sys_places.specs.Places.{StandsAt, OfEachCall, AtEachPlace, OfEachFrame, own_end}

-- the number of a name, where these streams are numbered on from `base`; `missing` where it is none of them
abbrev pub name_number : ℕ → ℕ → List Variable → Name → ℕ
name_number missing base vs x = cond (named_in x (names_of vs)) (base + number_of (names_of vs) x) missing

-- the number of the k-th of so many that are numbered on from `base`, counted from 1
abbrev pub counted_number : ℕ → ℕ → ℕ → ℕ → ℕ
counted_number missing base many zero = missing
counted_number missing base many (suc k) = cond (nat_lt k many) (base + k) missing

-- ---- a frame's own

-- behind the beat the streams, then the memories of `pre`, then the starts of `->`, then whether the assumptions were true so far
abbrev pub streams_begin : ℕ → ℕ
streams_begin base = suc base

abbrev pub memories_begin : ℕ → Component → ℕ
memories_begin base n = streams_begin base + length (variables n)

abbrev pub starts_begin : ℕ → Component → ℕ
starts_begin base n = memories_begin base n + length (memories n)

abbrev pub so_far_number : ℕ → Component → ℕ
so_far_number base n = starts_begin base n + length (starts n)

pub record OwnStandAt (at : Place → ℕ) (missing base : ℕ) (m : Manner) (n : Component) : Type 0 where
  pub active : at (own beat) ≡ base
  pub streams : (x : Name) → at (own (named x)) ≡ name_number missing (streams_begin base) (variables n) x
  pub pres : (k : ℕ) → at (own (memory k)) ≡ counted_number missing (memories_begin base n) (length (memories n)) k
  pub arrows : (k : ℕ) → at (own (starting k)) ≡ counted_number missing (starts_begin base n) (length (starts n)) k
  pub assumed : at (own so_far) ≡ cond (has_so_far m n) (so_far_number base n) missing
  -- stream by stream, and cell by cell
  pub named_streams : (k : ℕ) (v : Variable) → slice_get (variables n) k ≡ Some v → at (own (named v.name.text)) ≡ streams_begin base + k
  pub cells : (k : ℕ) (c : Cell) → slice_get (own_cells m n) k ≡ Some c → at (own (spot_of c)) ≡ base + k

-- in a checked program, of each declaration's frame, however wide
abbrev pub OwnStands : Type 0
OwnStands =
    OfEach (λ p n. (m : Manner) (at : Place → ℕ) (missing base : ℕ) → StandsAt at missing base m (instance_of p n)
    → OwnStandAt at missing base m n)

-- ---- calls

-- an output is held of a call under a condition alone
abbrev pub held_number : ℕ → ℕ → Manner → List Variable → Name → ℕ
held_number missing base (while_true a) vs x = name_number missing base vs x
held_number missing base plain vs x = missing
held_number missing base (as_import xs) vs x = missing

-- of a call or import: what its caller holds of it, right before its frame, and the beat and the streams of its frame
pub record CallVariablesAt (at : Place → ℕ) (missing end : ℕ) (p : Program) (s : Site) (q : CallSlots) : Type 0 where
  pub room : q.held ≤ q.frame
  pub holds : (j : ℕ) → j + q.held ≡ q.frame → (x : Name)
      → at (own (held s.number x)) ≡ held_number missing (end + j) s.manner (callee p s.callee).outputs x
  pub active : at (in_call s.number (own beat)) ≡ end + q.frame
  pub streams : (x : Name)
      → at (in_call s.number (own (named x))) ≡ name_number missing (streams_begin (end + q.frame)) (variables (callee p s.callee)) x
  -- output by output, which stand behind the inputs
  pub outputs : (k : ℕ) (v : Variable) → slice_get (callee p s.callee).outputs k ≡ Some v
      → at (in_call s.number (own (named v.name.text))) ≡ (streams_begin (end + q.frame) + length (callee p s.callee).inputs) + k
  pub held_outputs : (a : Expression) → s.manner ≡ while_true a → (j : ℕ) → j + q.held ≡ q.frame → (k : ℕ) (v : Variable)
      → slice_get (callee p s.callee).outputs k ≡ Some v → at (own (held s.number v.name.text)) ≡ (end + j) + k

abbrev pub CallVariablesStand : Type 0
CallVariablesStand =
    OfEachFrame (λ at missing base p m n. OfEachCall (CallVariablesAt at missing (own_end p m n base) p) (all_sites n) (layout_of p n).calls)

abbrev pub EachCallVariablesStand : Type 0
EachCallVariablesStand =
    OfEachFrame (λ at missing base p m n. AtEachPlace (CallVariablesAt at missing (own_end p m n base) p) (all_sites n) (layout_of p n).calls)

-- there is nothing of a call that is not there
pub record NoCallAt (at : Place → ℕ) (missing k : ℕ) : Type 0 where
  pub frame : (x : Place) → at (in_call k x) ≡ missing
  pub holds : (x : Name) → at (own (held k x)) ≡ missing

-- calls and imports have the numbers from 1 on
abbrev pub OthersAreMissing : Type 0
OthersAreMissing =
    OfEach (λ p n. (m : Manner) (at : Place → ℕ) (missing base : ℕ) → StandsAt at missing base m (instance_of p n)
    → (k : ℕ) → (1 ≤ k → length (all_sites n) < k) → NoCallAt at missing k)
