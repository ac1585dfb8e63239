-- The texts of the rows.
use Rattle.std.proofs.Common.{◌≡◌, ℕ, ◌+◌, [], ◌∷◌, refl, inl, inr, Some}
use Rattle.lus_lexer.specs.declared.token.Class.TheVariants as C
use Rattle.lus_lexer.specs.declared.token.Sign.TheVariants as S
use Rattle.lus_grammar.specs.Stream.{Mark, Stream}
use Rattle.lus_grammar.specs.Phrase.{Level, Products, Sums, Conjunctions, Disjunctions, part, Primary, Unary, Chain, Relation, Implication, Arrow, Condition, arrows}
use Rattle.lus_grammar.specs.Grammar.{operand}
use Rattle.lus_grammar.specs.Syntax.{Counts, Syntax, number_of, counted_on, leaf, numbered, node, ◌·◌, that, this, absent, present, none}
use Rattle.lus_grammar.specs.Text as G
use Rattle.lus_grammar.specs.Text.{Text, IsOneOf}
use Rattle.lus_grammar.specs.Rows.{GroupedToTheLeft, ArrowsToTheRight, ClockOfTheWhole}

-- a name, up to an implication
abbrev name_syntax : Mark → Syntax
name_syntax t = node Implication (node (Chain Disjunctions) (node (Chain Conjunctions)
    (node Relation (node (Chain Sums) (node (Chain Products) (node Unary
    (that (that (that (node Primary (that (that (this (leaf t · absent)))))))) · none) · none) · absent) · none) · none) · absent)

module _ {limit end : ℕ} {s : Stream} where
  name_unary : (k : ℕ) (n : Counts) → IsOneOf s k (C.Ident ∷ []) → Text limit end s (part Unary) k (k + 1) n n
      (node Unary (that (that (that (node Primary (that (that (this (leaf (s k) · absent)))))))))
  name_unary k n h = G.line (G.that_one (G.that_one (G.that_one (G.line (G.that_one (G.that_one (G.this_one (G.both (G.token h) G.not_once))))))))

  alone : (l : Level) {i j : ℕ} {n m : Counts} {x : Syntax} → Text limit end s (part (operand l)) i j n m x → Text limit end s
      (part (Chain l)) i j n m (node (Chain l) (x · none))
  alone l a = G.line (G.both a G.no_more)

  sum_implication : {i j : ℕ} {n m : Counts} {x : Syntax} → Text limit end s (part (Chain Sums)) i j n m x
      → Text limit end s (part Implication) i j n m (node Implication
      (node (Chain Disjunctions) (node (Chain Conjunctions) (node Relation (x · absent) · none) · none) · absent))
  sum_implication a = G.line (G.both (alone Disjunctions (alone Conjunctions (G.line (G.both a G.not_once)))) G.not_once)

  name_implication : (k : ℕ) (n : Counts) → IsOneOf s k (C.Ident ∷ []) → Text limit end s (part Implication) k (k + 1) n n (name_syntax (s k))
  name_implication k n h = sum_implication (alone Sums (alone Products (name_unary k n h)))

  alone_condition : {i j : ℕ} {n m : Counts} {x : Syntax} → Text limit end s (part Implication) i j n m x → Text limit end s
      (part Condition) i j n m (node Condition (that (node Arrow (x · absent))))
  alone_condition a = G.line (G.that_one (G.line (G.both a G.not_once)))

  arrow_condition : {i k j : ℕ} {n m o : Counts} {x y : Syntax} → Text limit end s (part Implication) i k n m x → (s k).class ≡ Some
      (C.Sign S.Arrow) → Text limit end s (part Condition) (k + 1) j (counted_on arrows m) o y
      → Text limit end s (part Condition) i j n o (node Condition (that (node Arrow (x · present (numbered (s k) (number_of arrows m) · y)))))
  arrow_condition a h b = G.line (G.that_one (G.line (G.both a (G.once (G.both (G.occurrence h) b)))))

pub grouped_to_the_left : GroupedToTheLeft
grouped_to_the_left =
    let second = G.again (G.both (G.token (inr (inl refl))) (alone Products (name_unary 4 _ (inl refl)))) G.no_more in
    let first = G.again (G.both (G.token (inr (inl refl))) (alone Products (name_unary 2 _ (inl refl)))) second in
    let sum = G.line (G.both (alone Products (name_unary 0 _ (inl refl))) first) in
    record { counts = _; syntax = _; text = G.line (G.both (alone_condition (sum_implication sum)) G.no_more); is = refl }

pub arrows_to_the_right : ArrowsToTheRight
arrows_to_the_right = record {
  counts = _;
  syntax = _;
  text = G.line (G.both (arrow_condition (name_implication 0 _ (inl refl)) refl
      (arrow_condition (name_implication 2 _ (inl refl)) refl (alone_condition (name_implication 4 _ (inl refl))))) G.no_more);
  is = refl;
}

pub clock_of_the_whole : ClockOfTheWhole
clock_of_the_whole = record {
  counts = _;
  syntax = _;
  text = G.line (G.both (arrow_condition (name_implication 0 _ (inl refl)) refl (alone_condition (name_implication 2 _ (inl refl))))
      (G.again (G.both (G.token (inl refl)) (G.both G.not_once (G.token (inl refl)))) G.no_more));
  is = refl;
}
