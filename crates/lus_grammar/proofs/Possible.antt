-- From any place on a text of any phrase can be put.
use Rattle.std.proofs.Common.{◌≡◌, ℕ, ◌+◌, ◌≤◌, inl, refl, ◌∙◌, arith, true, List, [], ◌∷◌, Option, Some, cond, nat_eq, eq-eqb}
use Rattle.std.proofs.lemmas.Grind.{common_steps}
use Rattle.lus_lexer.specs.declared.token.Class.{Class}
use Rattle.lus_lexer.specs.declared.token.Class.TheVariants as C
use Rattle.lus_grammar.specs.Stream.{Stream, Agree}
use Rattle.lus_grammar.specs.Phrase.{Products, Sums, Conjunctions, Disjunctions, Part, Program, Declaration, Constant, Node, ContractNode, Parameters, Groups, Group, Names, Sort, Locals, LocalGroup, Item, Left, Contract, ContractItem, ModeItem, Arguments, Expression, Condition, Arrow, Implication, Relation, Unary, Primary, Expressions, Chain, Counter, Phrase, one_of, counted, part, limited, fresh, ◌⨾◌, ◌∣◌, optional, repeated}
use Rattle.lus_grammar.specs.Grammar.{body}
use Rattle.lus_grammar.specs.Syntax.{Counts, none_before, Syntax}
use Rattle.lus_grammar.specs.Text.{Text, token, occurrence, line, line_within, line_anew, both, this_one, that_one, not_once, no_more}
use Rattle.lus_grammar.specs.Reading.{Begins}
use Rattle.lus_grammar.proofs.Fits.{fits, is_short, fit_both, fit_either}
use Rattle.lus_grammar.proofs.Texts.{moved}

-- s with a mark of a class at k, or with the end there
unfoldable pub put : Stream → ℕ → Option Class → Stream
put s k c x = cond (nat_eq x k) (record { class = c; at = (s x).at; text = (s x).text }) (s x)

pub put_here : (s : Stream) (k : ℕ) (c : Option Class) → (put s k c k).class ≡ c
unfolding put
put_here s k c = rw (eq-eqb k k refl) refl

pub put_before : (s : Stream) (k : ℕ) (c : Option Class) → Agree s (put s k c) k
unfolding put
put_before s k c x lt = grind (arith, common_steps)

pub record Possible (limit : ℕ) (g : Phrase) : Type 0 where
  pub at : (s : Stream) (k : ℕ) (n : Counts) (bound : ℕ) → Begins limit bound s g k n k

module _ {limit : ℕ} where
  token_at : {c : Class} {cs : List Class} → Possible limit (one_of (c ∷ cs))
  token_at {c = c} = record {
    at = λ s k n bound. record {
      t = put s k (Some c);
      j = k + 1;
      m = n;
      x = _;
      agree = put_before s k
          (Some c);
      past = omega arith;
      text = token (inl (put_here s k (Some c)));
    };
  }

  counted_at : {o : Counter} {c : Class} → Possible limit (counted o c)
  counted_at {c = c} = record {
    at = λ s k n bound. record {
      t = put s k (Some c);
      j = k + 1;
      m = _;
      x = _;
      agree = put_before s k
          (Some c);
      past = omega arith;
      text = occurrence (put_here s k (Some c));
    };
  }

  line_at : {p : Part} → Possible limit (body p) → Possible limit (part p)
  line_at a = record {
    at = λ s k n bound. (let b = a.at s k n bound
        in record { t = b.t; j = b.j; m = b.m; x = _; agree = b.agree; past = b.past; text = line b.text });
  }

  anew_at : {p : Part} → Possible limit (body p) → Possible limit (fresh p)
  anew_at a = record {
    at = λ s k n bound. (let b = a.at s k none_before bound
        in record { t = b.t; j = b.j; m = n; x = _; agree = b.agree; past = b.past; text = line_anew b.text });
  }

  both_at : {a b : Phrase} → Possible limit a → Possible limit b → Possible limit (a ⨾ b)
  both_at a b = record {
    at = λ s k n bound.
        let u = a.at s k n bound in
        let v = b.at u.t u.j u.m bound in
        let le = u.past in
        record {
          t = v.t;
          j = v.j;
          m = v.m;
          x = _;
          agree = λ x lt. v.agree x (omega arith) ∙ u.agree x lt;
          past = omega
              (arith, v.past);
          text = both (moved v.t u.text v.agree) v.text;
        };
  }

  this_at : {a b : Phrase} → Possible limit a → Possible limit (a ∣ b)
  this_at a = record {
    at = λ s k n bound. (let b = a.at s k n bound
        in record { t = b.t; j = b.j; m = b.m; x = _; agree = b.agree; past = b.past; text = this_one b.text });
  }

  that_at : {a b : Phrase} → Possible limit b → Possible limit (a ∣ b)
  that_at a = record {
    at = λ s k n bound. (let b = a.at s k n bound
        in record { t = b.t; j = b.j; m = b.m; x = _; agree = b.agree; past = b.past; text = that_one b.text });
  }

  absent_at : {a : Phrase} → Possible limit (optional a)
  absent_at = record { at = λ s k n bound. record { t = s; j = k; m = n; x = _; agree = λ x lt. refl; past = omega arith; text = not_once } }

  none_at : {a : Phrase} → Possible limit (repeated a)
  none_at = record { at = λ s k n bound. record { t = s; j = k; m = n; x = _; agree = λ x lt. refl; past = omega arith; text = no_more } }

-- a number is a text of each part of an expression
record Short (limit bound : ℕ) (t : Stream) (p : Part) (k : ℕ) (n : Counts) : Type 0 where
  pub m : Counts
  pub x : Syntax
  pub text : Text limit bound t (body p) k (k + 1) n m x

module _ (limit bound : ℕ) (t : Stream) (k : ℕ) (n : Counts) (a : (t k).class ≡ Some C.Number) where
  short_primary : Short limit bound t Primary k n
  short_primary = record { m = _; x = _; text = this_one (token (inl a)) }

  short_unary : Short limit bound t Unary k n
  short_unary = record { m = _; x = _; text = that_one (that_one (that_one (line short_primary.text))) }

  short_products : Short limit bound t (Chain Products) k n
  short_products = record { m = _; x = _; text = both (line short_unary.text) no_more }

  short_sums : Short limit bound t (Chain Sums) k n
  short_sums = record { m = _; x = _; text = both (line short_products.text) no_more }

  short_relation : Short limit bound t Relation k n
  short_relation = record { m = _; x = _; text = both (line short_sums.text) not_once }

  short_conjunctions : Short limit bound t (Chain Conjunctions) k n
  short_conjunctions = record { m = _; x = _; text = both (line short_relation.text) no_more }

  short_disjunctions : Short limit bound t (Chain Disjunctions) k n
  short_disjunctions = record { m = _; x = _; text = both (line short_conjunctions.text) no_more }

  short_implication : Short limit bound t Implication k n
  short_implication = record { m = _; x = _; text = both (line short_disjunctions.text) not_once }

  short_arrow : Short limit bound t Arrow k n
  short_arrow = record { m = _; x = _; text = both (line short_implication.text) not_once }

  short_condition : Short limit bound t Condition k n
  short_condition = record { m = _; x = _; text = that_one (line short_arrow.text) }

  short_expression : Short limit bound t Expression k n
  short_expression = record { m = _; x = _; text = both (line short_condition.text) no_more }

number_at : {limit : ℕ} (p : Part) → ((bound : ℕ) (t : Stream) (k : ℕ) (n : Counts) → (t k).class ≡ Some C.Number
    → Short limit bound t p k n) → Possible limit (part p)
number_at p f = record {
  at = λ s k n bound.
      let t = put s k (Some C.Number) in
      let d = f bound t k n (put_here s k (Some C.Number)) in
      record { t = t; j = k + 1; m = d.m; x = _; agree = put_before s k (Some C.Number); past = omega arith; text = line d.text };
}

module _ (limit : ℕ) (l : 1 ≤ limit) where
  limited_at : (p : Part) → is_short p ≡ true → Possible limit (limited p)
  limited_at Expression h = record {
    at = λ s k n bound.
        let t = put s k (Some C.Number) in
        let d = short_expression limit bound t k n (put_here s k (Some C.Number)) in
        record {
          t = t;
          j = k + 1;
          m = d.m;
          x = _;
          agree = put_before s k (Some C.Number);
          past = omega arith;
          text = line_within d.text
              (inl (omega (arith, l)));
        };
  }
  limited_at _ h = absurd (cc)

  expression_at : Possible limit (limited Expression)
  expression_at = limited_at Expression refl

  constant_at : Possible limit (part Constant)
  constant_at = line_at (both_at token_at (both_at token_at (both_at absent_at (both_at token_at (both_at expression_at token_at)))))

  names_at : Possible limit (part Names)
  names_at = line_at (both_at token_at none_at)

  group_at : Possible limit (part Group)
  group_at = line_at (both_at names_at (both_at token_at (line_at token_at)))

  parameters_at : Possible limit (part Parameters)
  parameters_at = line_at (both_at token_at (both_at absent_at token_at))

  part_at : (p : Part) → Possible limit (part p)
  part_at Program = line_at none_at
  part_at Declaration = line_at (this_at constant_at)
  part_at Constant = constant_at
  part_at Node = line_at (both_at token_at (both_at token_at (both_at parameters_at
      (both_at token_at (both_at parameters_at (both_at absent_at (both_at absent_at
      (both_at none_at (both_at token_at (both_at none_at (both_at token_at absent_at)))))))))))
  part_at ContractNode = line_at (both_at token_at (both_at token_at
      (both_at parameters_at (both_at token_at (both_at parameters_at
      (both_at token_at (both_at token_at (both_at none_at (both_at token_at absent_at)))))))))
  part_at Parameters = parameters_at
  part_at Groups = line_at (both_at group_at absent_at)
  part_at Group = group_at
  part_at Names = names_at
  part_at Sort = line_at token_at
  part_at Locals = line_at (that_at constant_at)
  part_at LocalGroup = line_at (both_at group_at absent_at)
  part_at Item = line_at (that_at (that_at (that_at (both_at token_at absent_at))))
  part_at Left = line_at (this_at names_at)
  part_at Contract = line_at (this_at (both_at token_at (both_at none_at token_at)))
  part_at ContractItem = line_at (that_at (that_at (this_at constant_at)))
  part_at ModeItem = line_at (both_at token_at (both_at absent_at (both_at expression_at token_at)))
  part_at Arguments = line_at (both_at expression_at none_at)
  part_at Expression = number_at Expression (λ bound t k n a. short_expression limit bound t k n a)
  part_at Condition = number_at Condition (λ bound t k n a. short_condition limit bound t k n a)
  part_at Arrow = number_at Arrow (λ bound t k n a. short_arrow limit bound t k n a)
  part_at Implication = number_at Implication (λ bound t k n a. short_implication limit bound t k n a)
  part_at Relation = number_at Relation (λ bound t k n a. short_relation limit bound t k n a)
  part_at Unary = number_at Unary (λ bound t k n a. short_unary limit bound t k n a)
  part_at Primary = number_at Primary (λ bound t k n a. short_primary limit bound t k n a)
  part_at Expressions = line_at (both_at (number_at Expression (λ bound t k n a. short_expression limit bound t k n a)) none_at)
  part_at (Chain Products) = number_at (Chain Products) (λ bound t k n a. short_products limit bound t k n a)
  part_at (Chain Sums) = number_at (Chain Sums) (λ bound t k n a. short_sums limit bound t k n a)
  part_at (Chain Conjunctions) = number_at (Chain Conjunctions) (λ bound t k n a. short_conjunctions limit bound t k n a)
  part_at (Chain Disjunctions) = number_at (Chain Disjunctions) (λ bound t k n a. short_disjunctions limit bound t k n a)

  -- what is no more than its line
  of_line : (p : Part) (s : Stream) (k : ℕ) (n : Counts) (bound : ℕ) (t : Stream) (j : ℕ) (m : Counts) (x : Syntax) → Agree s t k → k ≤ j
      → Text limit bound t (part p) k j n m x → Begins limit bound s (body p) k n k
  of_line p s k n bound t j m x h le (line {x = y} d) = record { t = t; j = j; m = m; x = y; agree = h; past = le; text = d }

  pub body_at : (p : Part) → Possible limit (body p)
  body_at p = record { at = λ s k n bound. (let b = (part_at p).at s k n bound in of_line p s k n bound b.t b.j b.m b.x b.agree b.past b.text) }

  pub possible : (g : Phrase) → fits g ≡ true → Possible limit g
  possible (one_of []) f = absurd (cc)
  possible (one_of (c ∷ cs)) f = token_at
  possible (counted k c) f = counted_at
  possible (part p) f = part_at p
  possible (limited p) f = limited_at p f
  possible (fresh p) f = anew_at (body_at p)
  possible (a ⨾ b) f = let w = fit_both a b f in both_at (possible a w.first) (possible b w.second)
  possible (a ∣ b) f = this_at (possible a (fit_either a b f).one)
  possible (optional a) f = absent_at
  possible (repeated a) f = none_at
