-- The numbers in a text go on from the counts before it to those behind it.
use Rattle.std.proofs.Common.{◌≡◌, ℕ, ◌+◌, Bool, true, false, cond, not, ◌&&◌, refl, ap, sym, subst, arith, Option, Some}
use Rattle.std.proofs.lemmas.Bool.{false≢true}
use Rattle.lus_lexer.specs.declared.token.Class.{Class}
use Rattle.lus_lexer.specs.declared.token.Class.TheVariants as C
use Rattle.lus_lexer.specs.declared.token.Keyword.TheVariants as K
use Rattle.lus_lexer.specs.declared.token.Sign.TheVariants as S
use Rattle.lus_tree.specs.Numbers.{Counted, a_pre, an_arrow, a_call, counting}
use Rattle.lus_grammar.specs.Stream.{Stream}
use Rattle.lus_grammar.specs.Phrase as P
use Rattle.lus_grammar.specs.Phrase.{Part, Counter, Phrase, part, one_of, counted, ◌⨾◌, ◌∣◌, repeated, optional}
use Rattle.lus_grammar.specs.Grammar.{body}
use Rattle.lus_grammar.specs.Syntax.{Counts, counted_on, number_of, Syntax, leaf, numbered, node, ◌·◌, this, that, absent, present, none, some}
use Rattle.lus_grammar.specs.Text as G
use Rattle.lus_grammar.specs.Text.{Text}
use Rattle.lus_grammar.proofs.Weights.{weigh, weigh_counting}

-- ---- the numbers of a kind in a concrete syntax

-- the token of an occurrence of that kind
abbrev pub is_of : Counted → Option Class → Bool
is_of a_pre (Some (C.Keyword K.Pre)) = true
is_of an_arrow (Some (C.Sign S.Arrow)) = true
is_of a_call (Some (C.Sign S.Open)) = true
is_of a_call (Some (C.Keyword K.Import)) = true
is_of a_call (Some (C.Keyword K.Condact)) = true
is_of a_call (Some (C.Keyword K.Activate)) = true
is_of _ _ = false

-- what the numbers of a kind weigh together
abbrev pub weight : Counted → (ℕ → ℕ) → Syntax → ℕ
weight c w (leaf t) = 0
weight c w (numbered t k) = cond (is_of c t.class) (w k) 0
weight c w (node p x) = weight c w x
weight c w (x · y) = weight c w x + weight c w y
weight c w (this x) = weight c w x
weight c w (that x) = weight c w x
weight c w absent = 0
weight c w (present x) = weight c w x
weight c w none = 0
weight c w (some x y) = weight c w x + weight c w y

abbrev pub count_of : Counted → Counts → ℕ
count_of a_pre n = n.pres
count_of an_arrow n = n.arrows
count_of a_call n = n.calls

-- ---- phrases that number their occurrences by their tokens

abbrev kind_of : Counter → Counted
kind_of P.pres = a_pre
kind_of P.arrows = an_arrow
kind_of P.calls = a_call

abbrev is_counter : Counter → Option Class → Bool
is_counter P.pres o = is_of a_pre o && (not (is_of an_arrow o) && not (is_of a_call o))
is_counter P.arrows o = is_of an_arrow o && (not (is_of a_pre o) && not (is_of a_call o))
is_counter P.calls o = is_of a_call o && (not (is_of a_pre o) && not (is_of an_arrow o))

-- the line of a program numbers its declarations anew
abbrev goes_on_part : Part → Bool
goes_on_part P.Program = false
goes_on_part _ = true

abbrev pub goes_on : Phrase → Bool
goes_on (one_of cs) = true
goes_on (counted k c) = is_counter k (Some c)
goes_on (part p) = goes_on_part p
goes_on (P.limited p) = goes_on_part p
goes_on (P.fresh p) = false
goes_on (a ⨾ b) = goes_on a && goes_on b
goes_on (a ∣ b) = goes_on a && goes_on b
goes_on (optional a) = goes_on a
goes_on (repeated a) = goes_on a

chain_goes_on : (l : P.Level) → goes_on (body (P.Chain l)) ≡ true
chain_goes_on P.Products = refl
chain_goes_on P.Sums = refl
chain_goes_on P.Conjunctions = refl
chain_goes_on P.Disjunctions = refl

pub body_goes_on : (p : Part) → goes_on_part p ≡ true → goes_on (body p) ≡ true
body_goes_on P.Program e = absurd (false≢true e)
body_goes_on P.Declaration e = refl
body_goes_on P.Constant e = refl
body_goes_on P.Node e = refl
body_goes_on P.ContractNode e = refl
body_goes_on P.Parameters e = refl
body_goes_on P.Groups e = refl
body_goes_on P.Group e = refl
body_goes_on P.Names e = refl
body_goes_on P.Sort e = refl
body_goes_on P.Locals e = refl
body_goes_on P.LocalGroup e = refl
body_goes_on P.Item e = refl
body_goes_on P.Left e = refl
body_goes_on P.Contract e = refl
body_goes_on P.ContractItem e = refl
body_goes_on P.ModeItem e = refl
body_goes_on P.Arguments e = refl
body_goes_on P.Expression e = refl
body_goes_on P.Condition e = refl
body_goes_on P.Arrow e = refl
body_goes_on P.Implication e = refl
body_goes_on P.Relation e = refl
body_goes_on P.Unary e = refl
body_goes_on P.Primary e = refl
body_goes_on P.Expressions e = refl
body_goes_on (P.Chain l) e = chain_goes_on l

-- ---- the law

-- what weighs so much are the numbers from one count to another
pub record GoesOn (w : ℕ → ℕ) (before after all : ℕ) : Type 0 where
  pub many : ℕ
  pub numbers : all ≡ weigh w (counting (before + 1) many)
  pub end : after ≡ before + many

none_on : (w : ℕ → ℕ) (n : ℕ) → GoesOn w n n 0
none_on w n = record { many = 0; numbers = refl; end = omega arith }

one_on : (w : ℕ → ℕ) (n : ℕ) → GoesOn w n (n + 1) (w (n + 1))
one_on w n = record { many = 1; numbers = omega arith; end = refl }

both_on : (w : ℕ → ℕ) (a b c x y : ℕ) → GoesOn w a b x → GoesOn w b c y → GoesOn w a c (x + y)
both_on w a b c x y p q =
    let mid : b ≡ a + p.many = p.end in
    let last : c ≡ b + q.many = q.end in
    let e : a + 1 + p.many ≡ b + 1 = omega arith in
    let s : weigh w (counting (a + 1) (p.many + q.many)) ≡ weigh w (counting (a + 1) p.many) + weigh w
    (counting (a + 1 + p.many) q.many) = weigh_counting w (a + 1) p.many q.many in
    let t : weigh w (counting (a + 1 + p.many) q.many) ≡ weigh w (counting (b + 1) q.many) = ap (λ m. weigh w (counting m q.many)) e in
    let x' : x ≡ weigh w (counting (a + 1) p.many) = p.numbers in
    let y' : y ≡ weigh w (counting (b + 1) q.many) = q.numbers in
    record { many = p.many + q.many; numbers = omega arith; end = omega arith }

left_true : (a b : Bool) → (a && b) ≡ true → a ≡ true
left_true true b e = refl
left_true false b e = e

right_true : (a b : Bool) → (a && b) ≡ true → b ≡ true
right_true true b e = e
right_true false b e = absurd (false≢true e)

not_true : (a : Bool) → not a ≡ true → a ≡ false
not_true true e = absurd (false≢true e)
not_true false e = refl

occurrence_on : (c : Counted) (w : ℕ → ℕ) (k : Counter) (n : Counts) (o : Option Class) → is_counter k o ≡ true → GoesOn w (count_of c n)
    (count_of c (counted_on k n)) (cond (is_of c o) (w (number_of k n)) 0)
occurrence_on a_pre w P.pres n o e = rw (left_true (is_of a_pre o) (not (is_of an_arrow o) && not (is_of a_call o)) e) (one_on w n.pres)
occurrence_on an_arrow w P.pres n o e = rw (not_true (is_of an_arrow o)
    (left_true (not (is_of an_arrow o)) (not (is_of a_call o)) (right_true (is_of a_pre o)
    (not (is_of an_arrow o) && not (is_of a_call o)) e))) (none_on w n.arrows)
occurrence_on a_call w P.pres n o e = rw (not_true (is_of a_call o)
    (right_true (not (is_of an_arrow o)) (not (is_of a_call o)) (right_true (is_of a_pre o)
    (not (is_of an_arrow o) && not (is_of a_call o)) e))) (none_on w n.calls)
occurrence_on an_arrow w P.arrows n o e = rw (left_true (is_of an_arrow o) (not (is_of a_pre o) && not (is_of a_call o)) e) (one_on w n.arrows)
occurrence_on a_pre w P.arrows n o e = rw (not_true (is_of a_pre o)
    (left_true (not (is_of a_pre o)) (not (is_of a_call o)) (right_true (is_of an_arrow o)
    (not (is_of a_pre o) && not (is_of a_call o)) e))) (none_on w n.pres)
occurrence_on a_call w P.arrows n o e = rw (not_true (is_of a_call o)
    (right_true (not (is_of a_pre o)) (not (is_of a_call o)) (right_true (is_of an_arrow o)
    (not (is_of a_pre o) && not (is_of a_call o)) e))) (none_on w n.calls)
occurrence_on a_call w P.calls n o e = rw (left_true (is_of a_call o) (not (is_of a_pre o) && not (is_of an_arrow o)) e) (one_on w n.calls)
occurrence_on a_pre w P.calls n o e = rw (not_true (is_of a_pre o)
    (left_true (not (is_of a_pre o)) (not (is_of an_arrow o)) (right_true (is_of a_call o)
    (not (is_of a_pre o) && not (is_of an_arrow o)) e))) (none_on w n.pres)
occurrence_on an_arrow w P.calls n o e = rw (not_true (is_of an_arrow o)
    (right_true (not (is_of a_pre o)) (not (is_of an_arrow o)) (right_true (is_of a_call o)
    (not (is_of a_pre o) && not (is_of an_arrow o)) e))) (none_on w n.arrows)

-- the numbers of every text that numbers no declaration anew
module _ {limit end : ℕ} {s : Stream} (c : Counted) (w : ℕ → ℕ) where
  pub numbers_go_on : {g : Phrase} {i j : ℕ} {n m : Counts} {x : Syntax} → Text limit end s g i j n m x → goes_on g ≡ true → GoesOn w
      (count_of c n) (count_of c m) (weight c w x)
  numbers_go_on {n = n} (G.token t) e = none_on w (count_of c n)
  numbers_go_on {n = n} (G.occurrence {k = k} {c = d} {i = i} t) e = occurrence_on c w k n (s i).class (subst (λ o. is_counter k o ≡ true) (sym t) e)
  numbers_go_on (G.line {p = p} a) e = numbers_go_on a (body_goes_on p e)
  numbers_go_on (G.line_within {p = p} a l) e = numbers_go_on a (body_goes_on p e)
  numbers_go_on (G.line_anew a) e = absurd (false≢true e)
  numbers_go_on {n = n} (G.both {a = a} {b = b} {m = m} {o = o} {x = x} {y = y} u v) e =
      both_on w (count_of c n) (count_of c m) (count_of c o) (weight c w x) (weight c w y)
      (numbers_go_on u (left_true (goes_on a) (goes_on b) e)) (numbers_go_on v (right_true (goes_on a) (goes_on b) e))
  numbers_go_on (G.this_one {a = a} {b = b} u) e = numbers_go_on u (left_true (goes_on a) (goes_on b) e)
  numbers_go_on (G.that_one {a = a} {b = b} u) e = numbers_go_on u (right_true (goes_on a) (goes_on b) e)
  numbers_go_on {n = n} G.not_once e = none_on w (count_of c n)
  numbers_go_on (G.once u) e = numbers_go_on u e
  numbers_go_on {n = n} G.no_more e = none_on w (count_of c n)
  numbers_go_on {n = n} (G.again {m = m} {o = o} {x = x} {y = y} u v) e =
      both_on w (count_of c n) (count_of c m) (count_of c o) (weight c w x) (weight c w y) (numbers_go_on u e) (numbers_go_on v e)
