-- The text of a frame is made over those of the frames of its calls.
use Rattle.std.proofs.Common.{◌≡◌, refl, ap, sym, ◌∙◌, ℕ, zero, suc, List, [], ◌++◌}
use Rattle.lus_tree.specs.Tree.{ContractStatement, Program}
use Rattle.lus_meaning.specs.Property.{assertions}
use Rattle.lus_meaning.specs.Scene.{base, Instance, component_of, calls_of, contract_statements}
use Rattle.lus_evaluation.specs.Part.{Part, wholes}
use Rattle.lus_evaluation.specs.Frame.{ModeText, ContractText, FrameText, Calls, asserted_in_calls, body_parts, contract_after, setting, text_at, text_over}
use Rattle.lus_evaluation.specs.Turn.{condition_parts}
use Rattle.evaluation_parts.specs.Unfolded.{Declared, unfolded}
use Rattle.evaluation_parts.specs.Framed.{order_at, text_within, texts_below, turn_within}

pub within_is : (p : Program) (ts : List Declared) (os : List (List ℕ)) (d : ℕ) (w : List ℕ) (k : ℕ) (t : Declared)
    → text_within p ts os d w k t ≡ text_over (text_at (texts_below p ts os d w t)) (order_at os k) w (unfolded p ts d t)
within_is p ts os zero w k t = refl
within_is p ts os (suc d) w k t = refl

pub within_by : (p : Program) (ts : List Declared) (os : List (List ℕ)) (d : ℕ) (w : List ℕ) (k : ℕ) (t : Declared) (x : List FrameText)
    (order : List ℕ) (r : FrameText) → x ≡ texts_below p ts os d w t → order ≡ order_at os k
    → r ≡ text_over (text_at x) order w (unfolded p ts d t) → r ≡ text_within p ts os d w k t
within_by p ts os d w k t x order r e q h =
    h
    ∙ (ap (λ z. text_over (text_at z) order w (unfolded p ts d t)) e
    ∙ (ap (λ z. text_over (text_at (texts_below p ts os d w t)) z w (unfolded p ts d t)) q ∙ sym (within_is p ts os d w k t)))

abbrev made : ContractText → List Part → List Part → FrameText
made k b a = record { body = b; contract = k; asserted = a }

abbrev body_with : Instance → List ℕ → Calls → List ℕ → ContractText → List Part
body_with i w sub order k = body_parts (setting i w sub k.modes) order (component_of i)

abbrev asserted_with : Instance → List ℕ → Calls → ContractText → List Part
asserted_with i w sub k = wholes (setting i w sub k.modes) base (assertions (component_of i).body)
    ++ asserted_in_calls (setting i w sub k.modes) sub (calls_of i)

over_is : (i : Instance) (w : List ℕ) (sub : Calls) (order : List ℕ) (k : ContractText) (b a : List Part)
    → k ≡ contract_after i w sub [] (contract_statements (component_of i)) → b ≡ body_with i w sub order k → a ≡ asserted_with i w sub k
    → made k b a ≡ text_over sub order w i
over_is i w sub order k b a e p q =
    ap (λ z. made k z a) p ∙ (ap (λ z. made k (body_with i w sub order k) z) q
    ∙ ap (λ z. made z (body_with i w sub order z) (asserted_with i w sub z)) e)

-- the same, by modes and contract statements that are the frame's
pub over_by : (i : Instance) (w : List ℕ) (sub : Calls) (order : List ℕ) (k : ContractText) (ms : List ModeText) (cs : List ContractStatement)
    (b a : List Part) → ms ≡ k.modes → cs ≡ contract_statements (component_of i) → k ≡ contract_after i w sub [] cs
    → b ≡ body_parts (setting i w sub ms) order (component_of i)
    → a ≡ wholes (setting i w sub ms) base (assertions (component_of i).body) ++ asserted_in_calls (setting i w sub ms) sub (calls_of i)
    → made k b a ≡ text_over sub order w i
over_by i w sub order k ms cs b a m c e p q =
    over_is i w sub order k b a (e ∙ ap (contract_after i w sub []) c)
    (p ∙ ap (λ z. body_parts (setting i w sub z) order (component_of i)) m)
    (q ∙ ap (λ z. wholes (setting i w sub z) base (assertions (component_of i).body) ++ asserted_in_calls (setting i w sub z) sub (calls_of i)) m)

pub turned : (p : Program) (ts : List Declared) (os : List (List ℕ)) (d k : ℕ) (t : Declared) (x : List FrameText) (f : FrameText) (v : List Part)
    → x ≡ texts_below p ts os d [] t → f ≡ text_over (text_at x) (order_at os k) [] (unfolded p ts d t)
    → v ≡ f.body ++ condition_parts (text_at x) f (unfolded p ts d t) → v ≡ turn_within p ts os d k t
turned p ts os d k t x f v e q r =
    r ∙ (ap (λ z. f.body ++ condition_parts (text_at z) f (unfolded p ts d t)) e
    ∙ ap (λ z. z.body ++ condition_parts (text_at (texts_below p ts os d [] t)) z (unfolded p ts d t))
    (q ∙ (ap (λ z. text_over (text_at z) (order_at os k) [] (unfolded p ts d t)) e ∙ sym (within_is p ts os d [] k t))))
