-- What is evaluated in a frame, and for its conditions: each list in the order in which it would come if it had to wait for nothing.
use Rattle.std.specs.Prelude.{ℕ, pred, Bool, true, cond, List, [], ◌∷◌, ◌++◌, map, flat_map, option_to_list, slice_get, slice_index_or, ◌==◌}
use Rattle.std.specs.List.{list_any}
use Rattle.lus_tree.specs.Tree.{Name, Expression, Labelled, Statement, equation, assertion, property, main_mark, ContractStatement, assume, guarantee, ghost_variable, constant, mode, «import», Component}
use Rattle.lus_meaning.specs.Scene.{base, Manner, plain, while_true, as_import, Site, Instance, Instances, instance, no_instances, with_instance, component_of, calls_of, contract_statements, clock_of_names}
use Rattle.lus_meaning.specs.Occurrences.{Text, contract_statement_texts, statement_texts, occurrences}
use Rattle.lus_meaning.specs.Program.{site_in}
use Rattle.lus_meaning.specs.Run.{Equation, equations}
use Rattle.lus_meaning.specs.Property.{assertions}
use Rattle.lus_meaning.specs.Cycle.{Place}
use Rattle.lus_evaluation.specs.Part.{Part, Key, Setting, parts, whole_parts, wholes}

-- ---- contracts

-- what a mode requires, as operands of a whole that names the mode and as conditions; and each ensure as a condition, behind what its mode requires
pub record ModeText : Type 0 where
  pub key : Key
  pub asked : List Place → List Part
  pub required : List Part
  pub ensured : List Part

-- the conditions of a contract with those of its imports, each kind in text order
pub record ContractText : Type 0 where
  pub assumed : List Part
  pub guaranteed : List Part
  pub modes : List ModeText

-- What is evaluated in a frame where it is called: its imports and its equations. And the conditions of its contract, and the assertions of its text and of
-- its calls.
pub record FrameText : Type 0 where
  pub body : List Part
  pub contract : ContractText
  pub asserted : List Part

abbrev pub no_contract : ContractText
no_contract = record { assumed = []; guaranteed = []; modes = [] }

abbrev pub no_text : FrameText
no_text = record { body = []; contract = no_contract; asserted = [] }

-- the texts of the frames of the calls, by number
abbrev pub Calls : Type 0
Calls = ℕ → FrameText

abbrev pub setting : Instance → List ℕ → Calls → List ModeText → Setting
setting i w sub ms = record { place = i; way = w; body = λ k. (sub k).body; modes = map (λ m. (m.key, m.asked)) ms }

-- a condition stands on the base clock
abbrev pub conditions_of : Setting → List Labelled → List Part
conditions_of g ls = wholes g base (map (λ l. l.value) ls)

abbrev pub mode_text : Setting → Name → List Labelled → List Labelled → ModeText
mode_text g m rs es = record {
  key = ([], m);
  asked = λ ns. flat_map (λ r. parts g ns [] base r.value) rs;
  required = conditions_of g rs;
  ensured = flat_map (λ e. conditions_of g rs ++ conditions_of g (e ∷ [])) es;
}

abbrev pub imported_mode : Name → ModeText → ModeText
imported_mode c m = record m { key = (c ∷ m.key.0, m.key.1) }

-- the conditions of the rest of a contract, where these modes stand before it
abbrev pub contract_after : Instance → List ℕ → Calls → List ModeText → List ContractStatement → ContractText
contract_after i w sub ms [] = record { assumed = []; guaranteed = []; modes = ms }
contract_after i w sub ms (assume l ∷ cs) =
    let r : ContractText = contract_after i w sub ms cs in
    record r { assumed = conditions_of (setting i w sub ms) (l ∷ []) ++ r.assumed }
contract_after i w sub ms (guarantee l ∷ cs) =
    let r : ContractText = contract_after i w sub ms cs in
    record r { guaranteed = conditions_of (setting i w sub ms) (l ∷ []) ++ r.guaranteed }
contract_after i w sub ms (ghost_variable x e ∷ cs) = contract_after i w sub ms cs
contract_after i w sub ms (constant c ∷ cs) = contract_after i w sub ms cs
contract_after i w sub ms (mode m rs es ∷ cs) = contract_after i w sub (ms ++ mode_text (setting i w sub ms) m.text rs es ∷ []) cs
contract_after i w sub ms («import» k c as_ xs ∷ cs) =
    let r : ContractText = contract_after i w sub (ms ++ map (imported_mode c.text) (sub k).contract.modes) cs in
    record r { assumed = (sub k).contract.assumed ++ r.assumed; guaranteed = (sub k).contract.guaranteed ++ r.guaranteed }

-- ---- imports, then equations

-- an import: its arguments, and what is evaluated in its frame
abbrev pub import_parts : Setting → ContractStatement → List Part
import_parts g («import» k c as_ xs) = wholes g base as_ ++ g.body k
import_parts g _ = []

-- an equation's right side is a whole that gives its left names
abbrev pub equation_parts : Setting → Equation → List Part
equation_parts g e = whole_parts g e.names (clock_of_names (component_of g.place) e.names) e.right

-- what has these numbers, counted from 0
abbrev pub picked : {A : Type 0} → List ℕ → List A → List A
picked ks xs = flat_map (λ k. option_to_list (slice_get xs k)) ks

-- the order of the equations of the frame at the end of each way of calls
abbrev pub Orders : Type 0
Orders = List ℕ → List ℕ

abbrev pub body_parts : Setting → List ℕ → Component → List Part
body_parts g order d = flat_map (import_parts g) (contract_statements d) ++ flat_map (equation_parts g) (picked order (equations d))

-- ---- assertions

-- the texts that are evaluated with a frame: imports, equations and assertions
abbrev pub evaluated_clause : ContractStatement → List Text
evaluated_clause (ghost_variable x e) = contract_statement_texts (ghost_variable x e)
evaluated_clause («import» k c as_ xs) = contract_statement_texts («import» k c as_ xs)
evaluated_clause _ = []

abbrev pub evaluated_statement : Component → Statement → List Text
evaluated_statement d (equation xs e) = statement_texts d (equation xs e)
evaluated_statement d (assertion e) = statement_texts d (assertion e)
evaluated_statement d (property l) = []
evaluated_statement d (main_mark p) = []

abbrev pub evaluated_texts : Component → List Text
evaluated_texts d = flat_map evaluated_clause (contract_statements d) ++ flat_map (evaluated_statement d) d.body

-- the calls that stand in them
abbrev pub evaluated_calls : Component → List Site
evaluated_calls d = flat_map (λ x. flat_map (λ o. site_in o.standing o.expression) (occurrences d x.0 x.1)) (evaluated_texts d)

abbrev pub stands_in : List Site → ℕ → Bool
stands_in cs k = list_any (λ s. s.number == k) cs

-- whether a call is an import, or stands in such a text
abbrev pub is_evaluated : Component → Site → Manner → Bool
is_evaluated d c (as_import xs) = true
is_evaluated d c plain = stands_in (evaluated_calls d) c.number
is_evaluated d c (while_true a) = stands_in (evaluated_calls d) c.number

abbrev pub call_condition : Site → Manner → List Expression
call_condition c (while_true a) = a ∷ []
call_condition c plain = []
call_condition c (as_import xs) = []

-- a call by itself: its condition, its arguments, and what is evaluated in its frame
abbrev pub call_parts : Setting → Site → FrameText → List Part
call_parts g c t = wholes g c.clock (call_condition c c.manner ++ c.arguments) ++ t.body

-- The assertions of a call's frame. A call that stands in no text that is evaluated with its frame is evaluated before them, if there are any.
abbrev pub asserted_below : Setting → Site → FrameText → List Part
asserted_below g c t = before t.asserted
  where
    before : List Part → List Part
    before [] = []
    before (q ∷ qs) = cond (is_evaluated (component_of g.place) c c.manner) [] (call_parts g c t) ++ q ∷ qs

abbrev pub asserted_in_calls : Setting → Calls → Instances → List Part
asserted_in_calls g sub no_instances = []
asserted_in_calls g sub (with_instance c i is) = asserted_below g c (sub c.number) ++ asserted_in_calls g sub is

-- ---- frames

abbrev pub text_over : Calls → List ℕ → List ℕ → Instance → FrameText
text_over sub order w i =
    let k : ContractText = contract_after i w sub [] (contract_statements (component_of i)) in
    let g : Setting = setting i w sub k.modes in
    record {
      body = body_parts g order (component_of i);
      contract = k;
      asserted = wholes g base (assertions (component_of i).body) ++ asserted_in_calls g sub (calls_of i);
    }

abbrev pub text_at : List FrameText → Calls
text_at ts k = slice_index_or ts (pred k) no_text

-- the text of the frame at the end of a way of calls, with those of its calls
abbrev mutual
  pub frame_text : Orders → List ℕ → Instance → FrameText
  frame_text o w (instance d cs is) = text_over (text_at (call_texts o w is)) (o w) w (instance d cs is)

  pub call_texts : Orders → List ℕ → Instances → List FrameText
  call_texts o w no_instances = []
  call_texts o w (with_instance c i is) = frame_text o (w ++ c.number ∷ []) i ∷ call_texts o w is
