-- All that is evaluated at an instant, by the declarations of a program and the orders of their equations.
use Rattle.std.specs.Prelude.{◌≡◌, ℕ, zero, suc, List, [], ◌∷◌, ◌++◌, flat_map, Option, Some, None, slice_get}
use Rattle.std.specs.List.{AllByRecursion}
use Rattle.lus_tree.specs.Tree.{Program}
use Rattle.lus_meaning.specs.Scene.{Instance}
use Rattle.lus_evaluation.specs.Part.{Part, Setting}
use Rattle.lus_evaluation.specs.Frame.{ModeText, Calls, Orders, setting}
use Rattle.lus_evaluation.specs.Turn.{in_turn, owed}
use Rattle.evaluation_parts.specs.Unfolded.{Linked, Declared, unfolded}
use Rattle.evaluation_parts.specs.Framed.{order_at, turn_within}

-- ---- conditions

-- where the conditions of the analysed declaration stand
abbrev pub top : Instance → Calls → List ModeText → Setting
top i sub ms = setting i [] sub ms

abbrev pub ensured_each : List ModeText → List Part
ensured_each ms = flat_map (λ m. m.ensured) ms

abbrev pub required_each : List ModeText → List Part
required_each ms = flat_map (λ m. m.required) ms

abbrev pub owed_each : Calls → List Linked → List Part
owed_each sub [] = []
owed_each sub (l ∷ ls) = owed l.site l.site.manner (sub l.site.number).contract ++ owed_each sub ls

-- ---- orders

abbrev pub IfThere : (Declared → Type 0) → Option Declared → Type 0
IfThere P None = Unit {0}
IfThere P (Some t) = P t

-- The orders of the frames at the end of ways of calls are those of their declarations, of the frame of the declaration of that place at the end of this
-- way and of the frames below it.
abbrev pub Agrees : Orders → List Declared → List (List ℕ) → ℕ → List ℕ → ℕ → Declared → Type 0
Agrees o ts os zero w k t = o w ≡ order_at os k
Agrees o ts os (suc d) w k t = (o w ≡ order_at os k)
    × AllByRecursion (λ l. IfThere (Agrees o ts os d (w ++ l.site.number ∷ []) l.place) (slice_get ts l.place)) t.calls

-- by such orders what is evaluated at an instant is in this order, if nothing has to wait
abbrev pub TurnsAreInTurn : Type 0
TurnsAreInTurn = (o : Orders) (p : Program) (ts : List Declared) (os : List (List ℕ)) (d k : ℕ) (t : Declared)
    → Agrees o ts os d [] k t → turn_within p ts os d k t ≡ in_turn o (unfolded p ts d t)
