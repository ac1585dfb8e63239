-- Every expression that stands in an expression, in text order of their own tokens, and where it stands.
use Rattle.std.specs.Prelude.{ℕ, Bool, true, false, List, [], ◌∷◌, ◌++◌, map, flat_map}
use Rattle.lus_tree.specs.declared.place.Pos.{Pos}
use Rattle.lus_tree.specs.Tree.{Place, text_of, Expression, Expressions, truth, number, name, negation, minus, pre, arrow, binary, choice, sampled, merged, call, condact, mode_name, no_more, more, Constant, Labelled, Statement, equation, assertion, property, main_mark, ContractStatement, assume, guarantee, ghost_variable, constant, mode, «import», Component}
use Rattle.lus_meaning.specs.Scene.{Clock, base, sampled_by, clock_of, contract_statements, clock_of_names}

-- the clock of a place, whether what stands there is read under `pre`, and whether it is the whole right side of an equation
pub record Standing : Type 0 where
  pub clock : Clock
  pub under_pre : Bool
  pub whole_side : Bool

abbrev pub on_clock : Clock → Standing
on_clock c = record { clock = c; under_pre = false; whole_side = false }

abbrev pub as_side : Clock → Standing
as_side c = record { clock = c; under_pre = false; whole_side = true }

-- a part of what stands there
abbrev pub within : Standing → Standing
within s = record { clock = s.clock; under_pre = s.under_pre; whole_side = false }

abbrev pub before : Standing → Standing
before s = record { clock = s.clock; under_pre = true; whole_side = false }

abbrev pub moved : Clock → Standing → Standing
moved c s = record { clock = c; under_pre = s.under_pre; whole_side = false }

pub record Occurrence : Type 0 where
  pub standing : Standing
  pub expression : Expression

abbrev pub occurs : Standing → Expression → Occurrence
occurs s e = record { standing = s; expression = e }

abbrev mutual
  pub occurrences : Component → Standing → Expression → List Occurrence
  occurrences n s (truth p b) = occurs s (truth p b) ∷ []
  occurrences n s (number p k) = occurs s (number p k) ∷ []
  occurrences n s (name p x) = occurs s (name p x) ∷ []
  occurrences n s (negation p a) = occurs s (negation p a) ∷ occurrences n (within s) a
  occurrences n s (minus p a) = occurs s (minus p a) ∷ occurrences n (within s) a
  occurrences n s (pre p k a) = occurs s (pre p k a) ∷ occurrences n (before s) a
  occurrences n s (arrow p k a b) =
      occurrences n (within s) a ++ occurs s (arrow p k a b) ∷ occurrences n (within s) b
  occurrences n s (binary p o a b) =
      occurrences n (within s) a ++ occurs s (binary p o a b) ∷ occurrences n (within s) b
  occurrences n s (choice p a b d) =
      occurs s (choice p a b d) ∷ occurrences n (within s) a ++ (occurrences n (within s) b ++ occurrences n (within s) d)
  occurrences n s (sampled p a b x) =
      occurrences n (moved (clock_of n x.text) s) a ++ occurs s (sampled p a b x) ∷ []
  occurrences n s (merged p x a b) =
      occurs s (merged p x a b) ∷ occurrences n (moved (sampled_by true x.text) s) a
      ++ occurrences n (moved (sampled_by false x.text) s) b
  occurrences n s (call p k f as_) = occurs s (call p k f as_) ∷ occurrences_among n (within s) as_
  occurrences n s (condact p k a f as_ ds) =
      occurs s (condact p k a f as_ ds)
      ∷ occurrences n (within s) a ++ (occurrences_among n (within s) as_ ++ occurrences_among n (within s) ds)
  occurrences n s (mode_name p d m) = occurs s (mode_name p d m) ∷ []

  pub occurrences_among : Component → Standing → Expressions → List Occurrence
  occurrences_among n s no_more = []
  occurrences_among n s (more a as_) = occurrences n s a ++ occurrences_among n s as_

-- ---- those of a declaration

-- an expression that an item has, and where it stands
abbrev pub Text : Type 0
Text = Standing × Expression

abbrev pub on_base : List Labelled → List Text
on_base ls = map (λ l. (on_clock base, l.value)) ls

abbrev pub contract_statement_texts : ContractStatement → List Text
contract_statement_texts (assume l) = (on_clock base, l.value) ∷ []
contract_statement_texts (guarantee l) = (on_clock base, l.value) ∷ []
contract_statement_texts (ghost_variable x e) = (as_side base, e) ∷ []
contract_statement_texts (constant c) = (on_clock base, c.value) ∷ []
contract_statement_texts (mode m rs es) = on_base rs ++ on_base es
contract_statement_texts («import» k c as_ xs) = map (λ a. (on_clock base, a)) as_

abbrev pub statement_texts : Component → Statement → List Text
statement_texts n (equation xs e) = (as_side (clock_of_names n (map text_of xs)), e) ∷ []
statement_texts n (assertion e) = (on_clock base, e) ∷ []
statement_texts n (property l) = (on_clock base, l.value) ∷ []
statement_texts n (main_mark p) = []

abbrev pub constant_texts : List Constant → List Text
constant_texts cs = map (λ c. (on_clock base, c.value)) cs

-- every expression of a declaration's items and constants
abbrev pub texts : Component → List Text
texts n =
    flat_map contract_statement_texts (contract_statements n) ++ (constant_texts n.constants ++ flat_map (statement_texts n) n.body)

abbrev pub all_occurrences : Component → List Occurrence
all_occurrences n = flat_map (λ x. occurrences n x.0 x.1) (texts n)

-- ---- a place of the tree

abbrev pub stands_at : Expression → Place
stands_at (truth p b) = p
stands_at (number p n) = p
stands_at (name p x) = p
stands_at (negation p a) = p
stands_at (minus p a) = p
stands_at (pre p k a) = p
stands_at (arrow p k a b) = p
stands_at (binary p o a b) = p
stands_at (choice p a b c) = p
stands_at (sampled p a b x) = p
stands_at (merged p x a b) = p
stands_at (call p k f as_) = p
stands_at (condact p k a f as_ ds) = p
stands_at (mode_name p d m) = p

-- where an expression begins, and its own token
abbrev pub begin : Expression → Pos
begin e = (stands_at e).from

abbrev pub own : Expression → Pos
own e = (stands_at e).at

-- ---- the numbered ones

-- a `pre` occurrence: its number, the clock of its place and its operand
pub record Memory : Type 0 where
  pub number : ℕ
  pub clock : Clock
  pub operand : Expression

abbrev pub memory_in : Standing → Expression → List Memory
memory_in s (pre p k a) = record { number = k; clock = s.clock; operand = a } ∷ []
memory_in s _ = []

-- an `->` occurrence: its number and the clock of its place
pub record Start : Type 0 where
  pub number : ℕ
  pub clock : Clock

abbrev pub start_in : Standing → Expression → List Start
start_in s (arrow p k a b) = record { number = k; clock = s.clock } ∷ []
start_in s _ = []

-- what these read of each occurrence of a declaration
abbrev pub gathered : {A : Type 0} → (Standing → Expression → List A) → Component → List A
gathered f n = flat_map (λ o. f o.standing o.expression) (all_occurrences n)

abbrev pub memories : Component → List Memory
memories n = gathered memory_in n

abbrev pub starts : Component → List Start
starts n = gathered start_in n
