-- The text of a frame, by the declarations of a program and the orders of their equations.
use Rattle.std.specs.Prelude.{ℕ, zero, suc, List, [], ◌∷◌, ◌++◌, map, cond, Option, Some, None, slice_get, slice_index_or}
use Rattle.std.specs.Borrow.{Bor}
use Rattle.lus_tree.specs.Tree.{Program}
use Rattle.lus_meaning.specs.Scene.{Site, component_of}
use Rattle.lus_evaluation.specs.Part.{Part, Setting}
use Rattle.lus_evaluation.specs.Frame.{FrameText, no_text, text_at, text_over, asserted_below, call_parts, is_evaluated, Calls}
use Rattle.lus_evaluation.specs.Turn.{condition_parts}
use Rattle.evaluation_parts.specs.Unfolded.{Linked, Declared, unfolded}

-- ---- the assertions of a call's frame

abbrev pub asserted_as : Setting → Site → FrameText → List Part → List Part
asserted_as g c t [] = []
asserted_as g c t (q ∷ qs) = cond (is_evaluated (component_of g.place) c c.manner) [] (call_parts g c t) ++ q ∷ qs

-- those of the frames of calls, with their texts by number
abbrev pub asserted_each : Setting → Calls → List Linked → List Part
asserted_each g sub [] = []
asserted_each g sub (l ∷ ls) = asserted_below g l.site (sub l.site.number) ++ asserted_each g sub ls

-- ---- frames

abbrev pub orders_view : List (Bor (List ℕ)) → List (List ℕ)
orders_view os = map (λ b. b.now) os

-- the order of the equations of the declaration of that place
abbrev pub order_at : List (List ℕ) → ℕ → List ℕ
order_at os k = slice_index_or os k []

abbrev pub text_if : (Declared → FrameText) → Option Declared → FrameText
text_if f None = no_text
text_if f (Some t) = f t

-- the text of each call's frame, by the calls on the way there and the place of the callee
abbrev pub called_texts : (List ℕ → ℕ → FrameText) → List ℕ → List Linked → List FrameText
called_texts f w [] = []
called_texts f w (l ∷ ls) = f (w ++ l.site.number ∷ []) l.place ∷ called_texts f w ls

-- the text of the frame of the declaration of that place at the end of a way of calls, with calls nested no deeper than the number
abbrev pub text_within : Program → List Declared → List (List ℕ) → ℕ → List ℕ → ℕ → Declared → FrameText
text_within p ts os zero w k t = text_over (text_at []) (order_at os k) w (unfolded p ts zero t)
text_within p ts os (suc d) w k t = text_over
    (text_at (called_texts (λ v j. text_if (text_within p ts os d v j) (slice_get ts j)) w t.calls))
    (order_at os k) w (unfolded p ts (suc d) t)

-- that of the frame of a call of the declaration of that place
abbrev pub text_called : Program → List Declared → List (List ℕ) → ℕ → List ℕ → ℕ → FrameText
text_called p ts os d w k = text_if (text_within p ts os d w k) (slice_get ts k)

-- those of the frames of its calls
abbrev pub texts_below : Program → List Declared → List (List ℕ) → ℕ → List ℕ → Declared → List FrameText
texts_below p ts os zero w t = []
texts_below p ts os (suc d) w t = called_texts (text_called p ts os d) w t.calls

-- all that is evaluated at an instant of a declaration, in the order in which it would come if nothing had to wait
abbrev pub turn_within : Program → List Declared → List (List ℕ) → ℕ → ℕ → Declared → List Part
turn_within p ts os d k t =
    (text_within p ts os d [] k t).body
    ++ condition_parts (text_at (texts_below p ts os d [] t)) (text_within p ts os d [] k t) (unfolded p ts d t)
