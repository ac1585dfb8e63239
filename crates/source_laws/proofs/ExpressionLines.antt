-- The lines of expressions.
use Rattle.std.proofs.Common.{true, false, List}
use Rattle.lus_tree.specs.Tree as T
use Rattle.lus_tree.specs.Tree.{Place, Expression, truth, number, name, negation, minus, pre, arrow, binary, choice, sampled, merged, call, condact, mode_name}
use Rattle.std.proofs.Common.{Some, None}
use Rattle.lus_lexer.specs.declared.token.Class.{Class}
use Rattle.lus_lexer.specs.declared.token.Sign.TheVariants as S
use Rattle.lus_grammar.specs.Stream.{Stream}
use Rattle.lus_grammar.specs.Phrase as P
use Rattle.lus_grammar.specs.Phrase.{Part, Level, part, one_of, optional, repeated, ◌⨾◌}
use Rattle.lus_grammar.specs.Grammar.{body, operand, when}
use Rattle.lus_grammar.specs.Syntax.{Syntax, node}
use Rattle.lus_grammar.specs.Trees.{spelled, place_of, put_at, behind, joined, expression_of, grouped, sampled_by, arguments_of, listed_of}
use Rattle.source_laws.proofs.Parts.{IsPlain, ArePlain}
use Rattle.source_laws.proofs.Made.{token, occurrence, line, both, this_one, that_one, not_once, once, no_more, again}
use Rattle.source_laws.proofs.Lines.{AreMarks, IsLine, Shown, the_one}

-- where an expression begins doesn't matter
begun_plain : (p : Place) (e : Expression) → IsPlain e → IsPlain (put_at p e)
begun_plain p (truth q b) h = h
begun_plain p (number q n) h = h
begun_plain p (name q x) h = h
begun_plain p (negation q a) h = h
begun_plain p (minus q a) h = h
begun_plain p (pre q k a) h = h
begun_plain p (arrow q k a b) h = h
begun_plain p (binary q o a b) h = h
begun_plain p (choice q a b c) h = h
begun_plain p (sampled q a b x) h = h
begun_plain p (merged q x a b) h = h
begun_plain p (call q k f as_) h = h
begun_plain p (condact q k a f as_ ds) h = h
begun_plain p (mode_name q None m) h = h
begun_plain p (mode_name q (Some c) m) h = h

plain_operand : (l : Level) (x : Syntax) → IsLine (operand l) x → IsPlain (expression_of x)
plain_operand P.Products x h = h
plain_operand P.Sums x h = h
plain_operand P.Conjunctions x h = h
plain_operand P.Disjunctions x h = h

module _ {s : Stream} where
  -- operators behind an operand
  operands : {cs : List Class} {p : Part} → ((x : Syntax) → IsLine p x → IsPlain (expression_of x)) → {x : Syntax} →
      Shown s (repeated (one_of cs ⨾ part p)) x → (a : Expression) → IsPlain a → IsPlain (grouped a x)
  operands f no_more a h = h
  operands f (again (both {y = b} (token {i = i} t) (line u)) r) a h =
      operands f r (joined a (s i) (expression_of b)) (h, f b u)

  more_expressions : {x : Syntax} → Shown s (repeated (P.sign S.Comma ⨾ part P.Expression)) x → ArePlain (listed_of x)
  more_expressions no_more = tt
  more_expressions (again (both t (line a)) r) = (a, more_expressions r)

  arguments : {x : Syntax} → Shown s (optional (part P.Expressions)) x → ArePlain (arguments_of x)
  arguments not_once = tt
  arguments (once (line a)) = a

  pub expressions : (x : Syntax) → Shown s (body P.Expressions) x → IsLine P.Expressions (node P.Expressions x)
  expressions x (both (line a) r) = (a, more_expressions r)

  pub condition : (x : Syntax) → Shown s (body P.Condition) x → IsLine P.Condition (node P.Condition x)
  condition x (this_one (both (token t) (both (line a) (both t1 (both (line b) (both t2 (line c))))))) = (a, b, c)
  condition x (that_one (line a)) = a

  pub arrow_line : (x : Syntax) → Shown s (body P.Arrow) x → IsLine P.Arrow (node P.Arrow x)
  arrow_line x (both (line a) not_once) = a
  arrow_line x (both (line a) (once (both occurrence (line b)))) = (a, b)

  pub implication : (x : Syntax) → Shown s (body P.Implication) x → IsLine P.Implication (node P.Implication x)
  implication x (both (line a) not_once) = a
  implication x (both (line a) (once (both (token t) (line b)))) = (a, b)

  pub relation : (x : Syntax) → Shown s (body P.Relation) x → IsLine P.Relation (node P.Relation x)
  relation x (both (line a) not_once) = a
  relation x (both (line a) (once (both (token t) (line b)))) = (a, b)

  pub chain : (l : Level) (x : Syntax) → Shown s (body (P.Chain l)) x → IsLine (P.Chain l) (node (P.Chain l) x)
  chain l x (both {x = a} (line u) r) = operands (plain_operand l) r (expression_of a) (plain_operand l a u)

  pub unary : (x : Syntax) → Shown s (body P.Unary) x → IsLine P.Unary (node P.Unary x)
  unary x (this_one (both (token t) (line a))) = a
  unary x (that_one (this_one (both (token t) (line a)))) = a
  unary x (that_one (that_one (this_one (both occurrence (line a))))) = a
  unary x (that_one (that_one (that_one (line a)))) = a

  module _ (marks : AreMarks s) where
    -- clocks behind an expression
    clocks : {x : Syntax} → Shown s (repeated when) x → (a : Expression) → IsPlain a → IsPlain (sampled_by a x)
    clocks no_more a h = h
    clocks (again (both (token {i = i} t) (both not_once (token {i = k} u))) r) a h =
        clocks r (T.sampled (behind a (s i)) a true (spelled (s k))) (h, marks.name k (the_one u))
    clocks (again (both (token {i = i} t) (both (once v) (token {i = k} u))) r) a h =
        clocks r (T.sampled (behind a (s i)) a false (spelled (s k))) (h, marks.name k (the_one u))

    pub expression : (x : Syntax) → Shown s (body P.Expression) x → IsLine P.Expression (node P.Expression x)
    expression x (both {x = c} (line a) r) = clocks r (expression_of c) a

    pub primary : (x : Syntax) → Shown s (body P.Primary) x → IsLine P.Primary (node P.Primary x)
    primary x (this_one (token {i = i} t)) = marks.number i (the_one t)
    primary x (that_one (this_one (token t))) = tt
    primary x (that_one (that_one (this_one (both (token {i = i} t) not_once)))) = marks.name i (the_one t)
    primary x (that_one (that_one (this_one (both (token {i = i} t) (once (both occurrence (both a u))))))) =
        (marks.name i (the_one t), arguments a)
    primary x (that_one (that_one (that_one (this_one (both (token t) (both (token {i = i} u) not_once)))))) =
        marks.name i (the_one u)
    primary x (that_one (that_one (that_one (this_one (both (token t) (both (token {i = i} u) (once (both v (token {i = k} w))))))))) =
        (marks.name i (the_one u), marks.name k (the_one w))
    primary x (that_one (that_one (that_one (that_one (this_one (both (token t)
        (both (token {i = i} u) (both t3 (both t4 (both t5 (both (line a)
        (both t6 (both t7 (both t8 (both t9 (both (line b) t10)))))))))))))))) =
        (marks.name i (the_one u), a, b)
    primary x (that_one (that_one (that_one (that_one (that_one (this_one
        (both occurrence (both t1 (both (line a) (both t2 (both (token {i = i} t) (both (both t3 (both b t4)) (both ds t5))))))))))))) =
        (a, marks.name i (the_one t), arguments b, more_expressions ds)
    primary x (that_one (that_one (that_one (that_one (that_one (that_one
        (both (token {i = o} t) (this_one (both occurrence (both (token {i = i} u)
        (both t2 (both (line a) (both t3 (both t4 (both (both t5 (both ds t6)) (both t7 (both t8 (both b t9)))))))))))))))))) =
        (a, marks.name i (the_one u), arguments b, arguments ds)
    primary x (that_one (that_one (that_one (that_one (that_one (that_one (both (token {i = o} t) (that_one (both {x = a} (line h) u))))))))) =
        begun_plain (record { from = (s o).at; at = (place_of (expression_of a)).at }) (expression_of a) h
