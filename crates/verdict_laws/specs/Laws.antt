-- The laws of verdicts and causes for runs.
use Rattle.std.specs.Prelude.{ℕ, pred, ◌≡◌, ◌≤◌, List, length, Option, Some, None, slice_get}
use Rattle.lus_meaning.specs.Frame.{Frame}
use Rattle.lus_meaning.specs.Scene.{Instance}
use Rattle.lus_meaning.specs.Contract.{Property}
use Rattle.lus_meaning.specs.Property.{properties}
use Rattle.lus_meaning.specs.Verdict.{Holds, Breaks}
use Rattle.sys_terms.specs.declared.term.Entry.{Entry}
use Rattle.sys_terms.specs.Fits.{IsFit}
use Rattle.sys_meaning.specs.System.{system_of}
use Rattle.sys_meaning.specs.Path.{frame_of_path}
use Rattle.sys_meaning.specs.Verdicts.{HoldsUpTo}
use Rattle.path_laws.specs.Laws.{OfEachInstance}
use Rattle.board_core.specs.declared.plan.Plan.{Plan}
use Rattle.board_core.specs.Entries.{broken, depth, Posting, AreSound}
use Rattle.board_core.specs.Verdicts.{valid_by, falsifiable_by, unknown, judged, cause_of}
use Rattle.depth_laws.specs.Depths.{IsInductive, HasWholeCause}

-- of each declaration of a checked program, a sound book over its system, and one of its properties with its number
abbrev pub OfEachProperty : (Instance → Plan → List Posting → ℕ → Property → Type 0) → Type 0
OfEachProperty P =
    OfEachInstance (λ i. (plan : Plan) (history : List Posting) → IsFit (system_of i)
    → AreSound (system_of i) plan history
    → (k : ℕ) (q : Property) → slice_get (properties i) k ≡ Some q → P i plan history k q)

-- ---- what verdicts say

-- a property that is valid holds
abbrev pub ValidHold : Type 0
ValidHold = OfEachProperty (λ i plan history k q. (place : ℕ) → judged k history ≡ valid_by place → Holds i q)

-- the entry at hand has a path of the property, by whose frame that breaks at the last instant
abbrev pub BreaksByFrame : Instance → ℕ → Property → Option Posting → Type 0
BreaksByFrame i k q None = ⊥
BreaksByFrame i k q (Some e) =
    (states : List (List Entry)) × (e.says ≡ broken k states)
    × Breaks i q (frame_of_path i states) (pred (length states))

-- one that is falsifiable breaks by the frame of the path in the entry that the verdict names
abbrev pub FalsifiableBreak : Type 0
FalsifiableBreak =
    OfEachProperty (λ i plan history k q. (place : ℕ) → judged k history ≡ falsifiable_by place
    → BreaksByFrame i k q (slice_get history place))

-- ---- what causes say

-- where the cause of bounded search is a depth, the property is true at each lawful instant up to it, in each run
abbrev pub DepthsHold : Type 0
DepthsHold =
    OfEachProperty (λ i plan history k q. (d : ℕ) → cause_of 0 k history ≡ Some (depth d) → HoldsUpTo i q plan.depth)

-- so it is where the property is unknown, unless bounded search was cut short
abbrev pub UnknownHoldUpTo : Type 0
UnknownHoldUpTo =
    OfEachProperty (λ i plan history k q. judged k history ≡ unknown → HasWholeCause history 0 k
    → HoldsUpTo i q plan.depth)

-- a property that some run breaks at an instant up to the depth is falsifiable, unless bounded search was cut short
abbrev pub BrokenAreFalsifiable : Type 0
BrokenAreFalsifiable =
    OfEachProperty (λ i plan history k q. HasWholeCause history 0 k → (f : Frame) (t : ℕ) → Breaks i q f t
    → t ≤ plan.depth → (place : ℕ) × (judged k history ≡ falsifiable_by place))

-- ---- induction

-- a property whose formula is inductive with some number of states holds
abbrev pub InductiveHold : Type 0
InductiveHold =
    OfEachInstance (λ i. (k states : ℕ) (q : Property) → slice_get (properties i) k ≡ Some q
    → IsInductive (system_of i) k states → Holds i q)
