-- What is evaluated of a text, part by part, in the order in which it would come if it had to wait for nothing: each operand before its operator, from
-- left to right, and a callee at its call.
use Rattle.std.specs.Prelude.{ℕ, pred, true, false, List, [], ◌∷◌, ◌++◌, map, flat_map, Option, Some, None, option_map, option_to_list, unwrap_or}
use Rattle.std.specs.Map.{lookup}
use Rattle.lus_tree.specs.Tree.{Name, text_of, Expression, Expressions, truth, number, name, negation, minus, pre, arrow, binary, choice, sampled, merged, call, condact, mode_name, no_more, more}
use Rattle.lus_meaning.specs.Scene.{Clock, sampled_by, Instance, component_of, clock_of}
use Rattle.lus_meaning.specs.Meaning.{mode_key}
use Rattle.lus_meaning.specs.Depends.{Need, the_beat, a_name, needs, modes_need}
use Rattle.lus_meaning.specs.Cycle.{Place}

-- A part that is evaluated: the calls on the way to its frame, each by its number; the clock on which it stands there, and the expression.
-- It stands in a whole, which is the right side of an equation, an argument of a `pre`, a call or an import, the condition of a condact, or a condition of a
-- contract, an assertion or a property: `needs` is what that whole needs of its own instant, and `gives` has the names whose values are there once the part is
-- evaluated, where it is itself a right side.
pub record Part : Type 0 where
  pub way : List ℕ
  pub clock : Clock
  pub expression : Expression
  pub needs : List Place
  pub gives : List Name

-- the key by which a mode is asked for
abbrev pub Key : Type 0
Key = List Name × Name

-- what is evaluated where a mode is named, in a whole of these needs
abbrev pub ModeParts : Type 0
ModeParts = List (Key × (List Place → List Part))

-- where a text stands: the instance of its declaration, the calls on the way to it, what a call evaluates in its own frame, and what the modes evaluate
pub record Setting : Type 0 where
  pub place : Instance
  pub way : List ℕ
  pub body : ℕ → List Part
  pub modes : ModeParts

-- what is needed in a frame, seen from the analysed one
abbrev pub from_top : List ℕ → Need → Place
from_top w the_beat = (map pred w, None)
from_top w (a_name ks x) = (map pred w ++ ks, Some x)

-- what an expression needs of its own instant
abbrev pub needs_of : Setting → Clock → Expression → List Place
needs_of g c e = map (from_top g.way) (needs g.place (modes_need g.place) c e)

abbrev pub key_of : Option Name → Name → Key
key_of d m = (option_to_list d, m)

abbrev pub asked_in : Setting → List Place → Key → List Part
asked_in g ns key = (unwrap_or (lookup (mode_key key) g.modes) (λ ns. [])) ns

abbrev pub part : Setting → List Place → List Name → Clock → Expression → Part
part g ns xs c e = record { way = g.way; clock = c; expression = e; needs = ns; gives = xs }

-- The parts of an expression that stands on a clock in a whole of these needs, itself the last one. It gives these names.
-- The operand of a `pre` and the arguments of a call are wholes of their own, and so is the condition of a condact, which comes before the arguments. Of `::m`
-- the operands are what the mode requires.
abbrev mutual
  pub parts : Setting → List Place → List Name → Clock → Expression → List Part
  parts g ns xs c (truth p b) = part g ns xs c (truth p b) ∷ []
  parts g ns xs c (number p n) = part g ns xs c (number p n) ∷ []
  parts g ns xs c (name p x) = part g ns xs c (name p x) ∷ []
  parts g ns xs c (negation p a) = parts g ns [] c a ++ part g ns xs c (negation p a) ∷ []
  parts g ns xs c (minus p a) = parts g ns [] c a ++ part g ns xs c (minus p a) ∷ []
  parts g ns xs c (pre p k a) = parts g (needs_of g c a) [] c a ++ part g ns xs c (pre p k a) ∷ []
  parts g ns xs c (arrow p k a b) = parts g ns [] c a ++ parts g ns [] c b ++ part g ns xs c (arrow p k a b) ∷ []
  parts g ns xs c (binary p o a b) = parts g ns [] c a ++ parts g ns [] c b ++ part g ns xs c (binary p o a b) ∷ []
  parts g ns xs c (choice p a b d) =
      parts g ns [] c a ++ parts g ns [] c b ++ parts g ns [] c d ++ part g ns xs c (choice p a b d) ∷ []
  parts g ns xs c (sampled p a b x) =
      parts g ns [] (clock_of (component_of g.place) x.text) a ++ part g ns xs c (sampled p a b x) ∷ []
  parts g ns xs c (merged p x a b) =
      parts g ns [] (sampled_by true x.text) a ++ parts g ns [] (sampled_by false x.text) b
      ++ part g ns xs c (merged p x a b) ∷ []
  parts g ns xs c (call p k f as_) = argument_parts g c as_ ++ g.body k ++ part g ns xs c (call p k f as_) ∷ []
  parts g ns xs c (condact p k a f as_ ds) =
      parts g (needs_of g c a) [] c a ++ argument_parts g c as_ ++ g.body k ++ operand_parts g ns c ds
      ++ part g ns xs c (condact p k a f as_ ds) ∷ []
  parts g ns xs c (mode_name p d m) =
      asked_in g ns (key_of (option_map text_of d) m.text) ++ part g ns xs c (mode_name p d m) ∷ []

  -- each argument, a whole of its own
  pub argument_parts : Setting → Clock → Expressions → List Part
  argument_parts g c no_more = []
  argument_parts g c (more a as_) = parts g (needs_of g c a) [] c a ++ argument_parts g c as_

  -- operands of the same whole
  pub operand_parts : Setting → List Place → Clock → Expressions → List Part
  operand_parts g ns c no_more = []
  operand_parts g ns c (more a as_) = parts g ns [] c a ++ operand_parts g ns c as_

-- an expression that is a whole and gives these names
abbrev pub whole_parts : Setting → List Name → Clock → Expression → List Part
whole_parts g xs c e = parts g (needs_of g c e) xs c e

abbrev pub wholes : Setting → Clock → List Expression → List Part
wholes g c es = flat_map (λ e. whole_parts g [] c e) es
