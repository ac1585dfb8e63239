-- The expressions of a declaration and their parts, kept by references to them.
use Rattle.std.specs.Prelude.{◌≡◌, Bool, true, cond, List, [], ◌∷◌, ◌++◌, map, flat_map}
use Rattle.std.specs.Borrow.{Bor}
use Rattle.lus_tree.specs.declared.expression.Expr.{Expr}
use Rattle.lus_tree.specs.Tree.{Expression, Expressions, truth, number, name, negation, minus, pre, arrow, binary, choice, sampled, merged, call, condact, mode_name, no_more, more, Component}
use Rattle.lus_tree.specs.View.{expr_view}
use Rattle.lus_meaning.specs.Scene.{contract_statements}
use Rattle.lus_types.specs.Called.{constant_sides, contract_sides, statement_sides}

abbrev pub sides_view : List (Bor Expr) → List Expression
sides_view es = map (λ e. expr_view e.now) es

-- the expressions are those before, and these behind them
abbrev pub SidesOn : List (Bor Expr) → List (Bor Expr) → List Expression → Type 0
SidesOn old new es = sides_view new ≡ sides_view old ++ es

abbrev pub all_sides : Component → List Expression
all_sides n = flat_map contract_sides (contract_statements n) ++ (constant_sides n.constants ++ flat_map statement_sides n.body)

-- an expression and its parts in the order in which they occur, those under `pre` only where they are asked for
abbrev mutual
  pub parts_of : Bool → Expression → List Expression
  parts_of d (truth p b) = truth p b ∷ []
  parts_of d (number p n) = number p n ∷ []
  parts_of d (name p x) = name p x ∷ []
  parts_of d (negation p a) = negation p a ∷ parts_of d a
  parts_of d (minus p a) = minus p a ∷ parts_of d a
  parts_of d (pre p k a) = pre p k a ∷ cond d (parts_of d a) []
  parts_of d (arrow p k a b) = parts_of d a ++ arrow p k a b ∷ parts_of d b
  parts_of d (binary p o a b) = parts_of d a ++ binary p o a b ∷ parts_of d b
  parts_of d (choice p a b c) = choice p a b c ∷ parts_of d a ++ (parts_of d b ++ parts_of d c)
  parts_of d (sampled p a b x) = parts_of d a ++ sampled p a b x ∷ []
  parts_of d (merged p x a b) = merged p x a b ∷ parts_of d a ++ parts_of d b
  parts_of d (call p k f as_) = call p k f as_ ∷ parts_among d as_
  parts_of d (condact p k a f as_ ds) = condact p k a f as_ ds ∷ parts_of d a ++ (parts_among d as_ ++ parts_among d ds)
  parts_of d (mode_name p c m) = mode_name p c m ∷ []

  pub parts_among : Bool → Expressions → List Expression
  parts_among d no_more = []
  parts_among d (more a as_) = parts_of d a ++ parts_among d as_

-- the parts that come behind the expression itself, of those forms that come before all of their parts
abbrev pub parts_below : Bool → Expression → List Expression
parts_below d (negation p a) = parts_of d a
parts_below d (minus p a) = parts_of d a
parts_below d (pre p k a) = cond d (parts_of d a) []
parts_below d (choice p a b c) = parts_of d a ++ (parts_of d b ++ parts_of d c)
parts_below d (merged p x a b) = parts_of d a ++ parts_of d b
parts_below d (call p k f as_) = parts_among d as_
parts_below d (condact p k a f as_ ds) = parts_of d a ++ (parts_among d as_ ++ parts_among d ds)
parts_below d (truth p b) = []
parts_below d (number p n) = []
parts_below d (name p x) = []
parts_below d (arrow p k a b) = []
parts_below d (binary p o a b) = []
parts_below d (sampled p a b x) = []
parts_below d (mode_name p c m) = []

abbrev pub all_parts : Component → List Expression
all_parts n = flat_map (parts_of true) (all_sides n)
