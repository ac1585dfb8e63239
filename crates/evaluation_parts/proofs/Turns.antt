-- What is evaluated at an instant, by orders of frames and by orders of declarations.
use Rattle.std.proofs.Common.{◌≡◌, refl, ap, sym, ◌∙◌, ℕ, zero, suc, List, [], ◌∷◌, ◌++◌, flat_map, Option, Some, None, slice_get}
use Rattle.std.specs.List.{AllByRecursion}
use Rattle.std.proofs.lemmas.List.{append_assoc}
use Rattle.lus_tree.specs.Tree.{Program}
use Rattle.lus_meaning.specs.Scene.{base, Instance, component_of, calls_of}
use Rattle.lus_evaluation.specs.Part.{Part, Setting, wholes}
use Rattle.lus_evaluation.specs.Frame.{ContractText, FrameText, Calls, Orders, no_text, no_contract, equation_parts, picked, setting, text_at, text_over, frame_text, call_texts}
use Rattle.lus_evaluation.specs.Turn.{condition_parts, in_turn, owed, owed_in_calls, property_texts}
use Rattle.evaluation_parts.specs.Unfolded.{Linked, Declared, nothing, if_there, calls_with, unfolded, called_instance, calls_at}
use Rattle.evaluation_parts.specs.Framed.{order_at, text_if, called_texts, text_called, text_within, texts_below, turn_within}
use Rattle.evaluation_parts.specs.Turns.{ensured_each, required_each, owed_each, IfThere, Agrees}

-- ---- what is owed

owed_with : (sub : Calls) (f : ℕ → Instance) (ls : List Linked) → owed_in_calls sub (calls_with f ls) ≡ owed_each sub ls
owed_with sub f [] = refl
owed_with sub f (l ∷ ls) = ap (λ z. owed l.site l.site.manner (sub l.site.number).contract ++ z) (owed_with sub f ls)

pub owed_is : (sub : Calls) (p : Program) (ts : List Declared) (d : ℕ) (t : Declared)
    → owed_in_calls sub (calls_of (unfolded p ts d t)) ≡ owed_each sub (calls_at d t)
owed_is sub p ts zero t = refl
owed_is sub p ts (suc d) t = owed_with sub _ t.calls

-- ---- conditions

grown : (x a b y z : List Part) → y ≡ x ++ a → z ≡ y ++ b → z ≡ x ++ (a ++ b)
grown x a b y z e h = h ∙ ap (λ q. q ++ b) e ∙ append_assoc x a b

-- the conditions, one kind behind the other
pub conditions_by : (sub : Calls) (t : FrameText) (i : Instance) (x a b c d e f v : List Part)
    → a ≡ x ++ t.contract.assumed → b ≡ a ++ t.asserted
    → c ≡ b ++ wholes (setting i [] sub t.contract.modes) base (property_texts (component_of i).body)
    → d ≡ c ++ t.contract.guaranteed → e ≡ d ++ ensured_each t.contract.modes → f ≡ e ++ required_each t.contract.modes
    → v ≡ f ++ owed_in_calls sub (calls_of i) → v ≡ x ++ condition_parts sub t i
conditions_by sub t i x a b c d e f v h1 h2 h3 h4 h5 h6 h7 =
    let k : ContractText = t.contract in
    let says : List Part = wholes (setting i [] sub k.modes) base (property_texts (component_of i).body) in
    let to_properties : List Part = k.assumed ++ t.asserted ++ says in
    let to_ensures : List Part = to_properties ++ k.guaranteed ++ ensured_each k.modes in
    let e2 : b ≡ x ++ (k.assumed ++ t.asserted) = grown x k.assumed t.asserted a b h1 h2 in
    let e3 : c ≡ x ++ to_properties = grown x (k.assumed ++ t.asserted) says b c e2 h3 in
    let e4 : d ≡ x ++ (to_properties ++ k.guaranteed) = grown x to_properties k.guaranteed c d e3 h4 in
    let e5 : e ≡ x ++ to_ensures = grown x (to_properties ++ k.guaranteed) (ensured_each k.modes) d e e4 h5 in
    let e6 : f ≡ x ++ (to_ensures ++ required_each k.modes) = grown x to_ensures (required_each k.modes) e f e5 h6 in
    grown x (to_ensures ++ required_each k.modes) (owed_in_calls sub (calls_of i)) f v e6 h7

-- ---- a frame of nothing

none_picked : (g : Setting) (ks : List ℕ) → flat_map (equation_parts g) (picked ks []) ≡ []
none_picked g [] = refl
none_picked g (k ∷ ks) = none_picked g ks

of_nothing : (o : Orders) (w : List ℕ) (p : Program) → no_text ≡ frame_text o w (nothing p)
of_nothing o w p = ap (λ z. let t : FrameText = record { body = z; contract = no_contract; asserted = [] } in t)
    (sym (none_picked (setting (nothing p) w (text_at []) []) (o w)))

-- ---- frames

below : (o : Orders) (p : Program) (ts : List Declared) (os : List (List ℕ)) (d : ℕ) (w : List ℕ)
    → ((v : List ℕ) (k : ℕ) (t : Declared) → Agrees o ts os d v k t → text_within p ts os d v k t ≡ frame_text o v (unfolded p ts d t))
    → (ls : List Linked) → AllByRecursion (λ l. IfThere (Agrees o ts os d (w ++ l.site.number ∷ []) l.place) (slice_get ts l.place)) ls
    → called_texts (text_called p ts os d) w ls ≡ call_texts o w (calls_with (called_instance p ts d) ls)
below o p ts os d w h [] a = refl
below o p ts os d w h (l ∷ ls) a =
    ap (λ z. z ∷ called_texts (text_called p ts os d) w ls) (one (slice_get ts l.place) a.0)
    ∙ ap (λ z. frame_text o (w ++ l.site.number ∷ []) (called_instance p ts d l.place) ∷ z) (below o p ts os d w h ls a.1)
  where
    one : (x : Option Declared) → IfThere (Agrees o ts os d (w ++ l.site.number ∷ []) l.place) x
        → text_if (text_within p ts os d (w ++ l.site.number ∷ []) l.place) x ≡ frame_text o (w ++ l.site.number ∷ []) (if_there p (unfolded p ts d) x)
    one None b = of_nothing o (w ++ l.site.number ∷ []) p
    one (Some t) b = h (w ++ l.site.number ∷ []) l.place t b

frame_is : (o : Orders) (p : Program) (ts : List Declared) (os : List (List ℕ)) (d : ℕ) (w : List ℕ) (k : ℕ) (t : Declared)
    → Agrees o ts os d w k t → text_within p ts os d w k t ≡ frame_text o w (unfolded p ts d t)
frame_is o p ts os zero w k t a = ap (λ z. text_over (text_at []) z w (unfolded p ts zero t)) (sym a)
frame_is o p ts os (suc d) w k t a =
    ap (λ z. text_over (text_at z) (order_at os k) w (unfolded p ts (suc d) t)) (below o p ts os d w (frame_is o p ts os d) t.calls a.1)
    ∙ ap (λ z. text_over (text_at (call_texts o w (calls_of (unfolded p ts (suc d) t)))) z w (unfolded p ts (suc d) t)) (sym a.0)

texts_are : (o : Orders) (p : Program) (ts : List Declared) (os : List (List ℕ)) (d : ℕ) (w : List ℕ) (k : ℕ) (t : Declared)
    → Agrees o ts os d w k t → texts_below p ts os d w t ≡ call_texts o w (calls_of (unfolded p ts d t))
texts_are o p ts os zero w k t a = refl
texts_are o p ts os (suc d) w k t a = below o p ts os d w (frame_is o p ts os d) t.calls a.1

pub turn_is : (o : Orders) (p : Program) (ts : List Declared) (os : List (List ℕ)) (d : ℕ) (k : ℕ) (t : Declared)
    → Agrees o ts os d [] k t → turn_within p ts os d k t ≡ in_turn o (unfolded p ts d t)
turn_is o p ts os d k t a =
    ap (λ z. z.body ++ condition_parts (text_at (texts_below p ts os d [] t)) z (unfolded p ts d t)) (frame_is o p ts os d [] k t a)
    ∙ ap (λ z. (frame_text o [] (unfolded p ts d t)).body ++ condition_parts (text_at z) (frame_text o [] (unfolded p ts d t)) (unfolded p ts d t))
    (texts_are o p ts os d [] k t a)
