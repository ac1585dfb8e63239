-- Texts go forward, begin with one of their first tokens, and depend on their own tokens only.
use Rattle.std.proofs.Common.{◌≡◌, ℕ, ◌+◌, ◌<◌, ◌≤◌, ◌⊎◌, inl, inr, sym, ap, ◌∙◌, subst, arith, false, List, [], ◌∷◌, Some, None}
use Rattle.std.proofs.lemmas.Bool.{and_cases, or_parts, cases_Bool, eq-eqb, or_left}
use Rattle.lus_lexer.specs.declared.token.Class.{Class}
use Rattle.lus_grammar.specs.Stream.{Stream, Mark, Agree}
use Rattle.lus_grammar.specs.Phrase.{Phrase, one_of, counted, ◌⨾◌}
use Rattle.lus_grammar.specs.Grammar.{body}
use Rattle.lus_grammar.specs.Syntax.{Counts, number_of, counted_on, Syntax, leaf, numbered}
use Rattle.lus_grammar.specs.Text.{IsOneOf, IsWithin, Text, token, occurrence, line, line_within, line_anew, both, this_one, that_one, not_once, once, no_more, again}
use Rattle.lus_grammar.specs.Starts.{code, codes_of, first_classes, may_be_nothing, starts, Enters}
use Rattle.lus_grammar.proofs.Classes.{enters_if}
use Rattle.lus_grammar.proofs.Listed.{in_subset, in_left, in_right, in_if_left, in_if_right}
use Rattle.lus_grammar.proofs.Fits.{body_starts, body_nothing}

pub ordered : {limit end : ℕ} {s : Stream} {g : Phrase} {i j : ℕ} {n m : Counts} {x : Syntax} → Text limit end s g i j n m x → i ≤ j
ordered (token h) = omega arith
ordered (occurrence h) = omega arith
ordered (line d) = ordered d
ordered (line_within d w) = ordered d
ordered (line_anew d) = ordered d
ordered (both d e) = omega (arith, ordered d, ordered e)
ordered (this_one d) = ordered d
ordered (that_one d) = ordered d
ordered not_once = omega arith
ordered (once d) = ordered d
ordered no_more = omega arith
ordered (again d e) = omega (arith, ordered d, ordered e)

-- a text of what may not be nothing has a token
pub forward : {limit end : ℕ} {s : Stream} {g : Phrase} {i j : ℕ} {n m : Counts} {x : Syntax} → Text limit end s g i j n m x → may_be_nothing g ≡ false → i < j
forward (token h) e = omega arith
forward (occurrence h) e = omega arith
forward (line {p = p} d) e = forward d (body_nothing p ∙ e)
forward (line_within {p = p} d w) e = forward d (body_nothing p ∙ e)
forward (line_anew {p = p} d) e = forward d (body_nothing p ∙ e)
forward {i = i} {j = j} (both {a = a} {b = b} d f) e =
    let o = ordered d in let p = ordered f in
    elim (and_cases (may_be_nothing a) (may_be_nothing b) e) as (λ _. i < j) [ inl u ↦ omega (arith, forward d u) | inr u ↦ omega (arith, forward f u) ]
forward (this_one {a = a} {b = b} d) e = forward d (or_parts (may_be_nothing a) (may_be_nothing b) e).0
forward (that_one {a = a} {b = b} d) e = forward d (or_parts (may_be_nothing a) (may_be_nothing b) e).1
forward not_once e = absurd (cc)
forward (once d) e = absurd (cc)
forward no_more e = absurd (cc)
forward (again d f) e = absurd (cc)

pub before_or_not : (i k : ℕ) → i ≤ k → (i < k) ⊎ (k ≡ i)
before_or_not i k h = grind arith

-- a text that has a token begins with one of the phrase's
pub begins_with : {limit end : ℕ} {s : Stream} {g : Phrase} {i j : ℕ} {n m : Counts} {x : Syntax} → Text limit end s g i j n m x → i < j → Enters s i g
begins_with {s = s} {i = i} (token {cs = cs} h) lt = enters_if s i cs h
begins_with (occurrence h) lt = or_left _ _ (eq-eqb _ _ (ap code h))
begins_with {s = s} {i = i} (line {p = p} d) lt = in_subset (starts (body p)) (codes_of (first_classes p)) (code (s i).class) (body_starts p) (begins_with d lt)
begins_with {s = s} {i = i} (line_within {p = p} d w) lt = in_subset (starts (body p)) (codes_of (first_classes p)) (code (s i).class)
    (body_starts p) (begins_with d lt)
begins_with {s = s} {i = i} (line_anew {p = p} d) lt = in_subset (starts (body p)) (codes_of (first_classes p)) (code (s i).class)
    (body_starts p) (begins_with d lt)
begins_with {s = s} {i = i} {j = j} (both {a = a} {b = b} {k = k} d e) lt =
    elim (before_or_not i k (ordered d)) as (λ _. Enters s i (a ⨾ b)) [
      | inl u ↦ in_if_left (may_be_nothing a) (starts a) (starts b) (code (s i).class) (begins_with d u)
      | inr u ↦ elim (cases_Bool (may_be_nothing a)) as (λ _. Enters s i (a ⨾ b)) [
        | inl v ↦ in_if_right (may_be_nothing a) (starts a) (starts b) (code (s i).class) v (subst (λ (z : ℕ). Enters s z b) u (begins_with e (omega arith)))
        | inr v ↦ absurd (omega (arith, forward d v))
      ]
    ]
begins_with {s = s} {i = i} (this_one {a = a} {b = b} d) lt = in_left (starts a) (starts b) (code (s i).class) (begins_with d lt)
begins_with {s = s} {i = i} (that_one {a = a} {b = b} d) lt = in_right (starts a) (starts b) (code (s i).class) (begins_with d lt)
begins_with not_once lt = absurd (omega arith)
begins_with (once d) lt = begins_with d lt
begins_with no_more lt = absurd (omega arith)
begins_with {s = s} {i = i} (again {a = a} {k = k} d e) lt =
    elim (before_or_not i k (ordered d)) as (λ _. Enters s i a) [
      | inl u ↦ begins_with d u
      | inr u ↦ subst (λ (z : ℕ). Enters s z a) u (begins_with e (omega arith))
    ]

-- the marks before k are the same where those before j are
pub agree_to : {s t : Stream} {j : ℕ} (k : ℕ) → Agree s t j → k ≤ j → Agree s t k
agree_to k h le i lt = h i (omega arith)

is_one : (u v : Mark) (cs : List Class) (s t : Stream) (i : ℕ) → t i ≡ s i → IsOneOf s i cs → IsOneOf t i cs
is_one u v [] s t i e h = h
is_one u v (c ∷ cs) s t i e (inl h) = inl (ap (λ z. z.class) e ∙ h)
is_one u v (c ∷ cs) s t i e (inr h) = inr (is_one u v cs s t i e h)

-- a text is a text of any stream that has its marks
pub moved : {limit end : ℕ} {s : Stream} (t : Stream) {g : Phrase} {i j : ℕ} {n m : Counts} {x : Syntax} → Text limit end s g i j n m x
    → Agree s t j → Text limit end t g i j n m x
moved {limit} {end} {s} t {i = i} (token {cs = cs} {n = n} h) f =
    let e : t i ≡ s i = f i (omega arith) in
    subst (λ (z : Mark). Text limit end t (one_of cs) i (i + 1) n n (leaf z)) e (token (is_one (s i) (t i) cs s t i e h))
moved {limit} {end} {s} t {i = i} (occurrence {k = k} {c = c} {n = n} h) f =
    let e : t i ≡ s i = f i (omega arith) in
    subst (λ (z : Mark). Text limit end t (counted k c) i (i + 1) n (counted_on k n) (numbered z (number_of k n))) e (occurrence (ap (λ z. z.class) e ∙ h))
moved t (line d) f = line (moved t d f)
moved t (line_within d w) f = line_within (moved t d f) w
moved t (line_anew d) f = line_anew (moved t d f)
moved t (both {k = k} d e) f = both (moved t d (agree_to k f (ordered e))) (moved t e f)
moved t (this_one d) f = this_one (moved t d f)
moved t (that_one d) f = that_one (moved t d f)
moved t not_once f = not_once
moved t (once d) f = once (moved t d f)
moved t no_more f = no_more
moved t (again {k = k} d e) f = again (moved t d (agree_to k f (ordered e))) (moved t e f)

less_within : (limit end end' i j : ℕ) → end' ≤ end → IsWithin limit end i j → IsWithin limit end' i j
less_within limit end end' i j le (inl h) = inl h
less_within limit end end' i j le (inr h) = inr (omega arith)

-- the limit holds of fewer tokens too
pub weaker : {limit end : ℕ} (end' : ℕ) {s : Stream} {g : Phrase} {i j : ℕ} {n m : Counts} {x : Syntax} → end' ≤ end
    → Text limit end s g i j n m x → Text limit end' s g i j n m x
weaker end' le (token h) = token h
weaker end' le (occurrence h) = occurrence h
weaker end' le (line d) = line (weaker end' le d)
weaker {limit} {end} end' le (line_within {i = i} {j = j} d w) = line_within (weaker end' le d) (less_within limit end end' i j le w)
weaker end' le (line_anew d) = line_anew (weaker end' le d)
weaker end' le (both d e) = both (weaker end' le d) (weaker end' le e)
weaker end' le (this_one d) = this_one (weaker end' le d)
weaker end' le (that_one d) = that_one (weaker end' le d)
weaker end' le not_once = not_once
weaker end' le (once d) = once (weaker end' le d)
weaker end' le no_more = no_more
weaker end' le (again d e) = again (weaker end' le d) (weaker end' le e)

all_within : (limit end end' i j : ℕ) → j ≤ end → IsWithin limit end i j → IsWithin limit end' i j
all_within limit end end' i j le (inl h) = inl h
all_within limit end end' i j le (inr h) = inl (omega arith)

-- where it holds of all tokens of the text, it holds up to any end
pub within_all : {limit end : ℕ} (end' : ℕ) {s : Stream} {g : Phrase} {i j : ℕ} {n m : Counts} {x : Syntax} → j ≤ end
    → Text limit end s g i j n m x → Text limit end' s g i j n m x
within_all end' le (token h) = token h
within_all end' le (occurrence h) = occurrence h
within_all end' le (line d) = line (within_all end' le d)
within_all {limit} {end} end' le (line_within {i = i} {j = j} d w) = line_within (within_all end' le d) (all_within limit end end' i j le w)
within_all end' le (line_anew d) = line_anew (within_all end' le d)
within_all end' le (both d e) = both (within_all end' (omega (arith, ordered e)) d) (within_all end' le e)
within_all end' le (this_one d) = this_one (within_all end' le d)
within_all end' le (that_one d) = that_one (within_all end' le d)
within_all end' le not_once = not_once
within_all end' le (once d) = once (within_all end' le d)
within_all end' le no_more = no_more
within_all end' le (again d e) = again (within_all end' (omega (arith, ordered e)) d) (within_all end' le e)

-- no mark from i up to j is the end
pub record Clean (s : Stream) (i j : ℕ) : Type 0 where
  pub some : (k : ℕ) → i ≤ k → k < j → (s k).class ≡ None → ⊥

empty_clean : {s : Stream} {i : ℕ} → Clean s i i
empty_clean = record { some = λ k le lt e. absurd (omega arith) }

both_clean : {s : Stream} {i k j : ℕ} → Clean s i k → Clean s k j → Clean s i j
both_clean {k = k} a b = record { some = λ q le lt e. elim (cut q k) as (λ _. ⊥) [ inl u ↦ a.some q le u e | inr u ↦ b.some q u lt e ] }
  where
    cut : (q k : ℕ) → (q < k) ⊎ (k ≤ q)
    cut q k = grind arith

one_clean : (s : Stream) (i : ℕ) → ((s i).class ≡ None → ⊥) → Clean s i (i + 1)
one_clean s i h = record { some = λ k le lt e. (let u : i ≡ k = omega arith in h (ap (λ z. (s z).class) u ∙ e)) }

some_class : (c : Class) → Some c ≡ None → ⊥
some_class c e = cc

one_class : (s : Stream) (i : ℕ) (cs : List Class) → IsOneOf s i cs → (s i).class ≡ None → ⊥
one_class s i [] h e = h
one_class s i (c ∷ cs) (inl h) e = some_class c (sym h ∙ e)
one_class s i (c ∷ cs) (inr h) e = one_class s i cs h e

pub clean : {limit end : ℕ} {s : Stream} {g : Phrase} {i j : ℕ} {n m : Counts} {x : Syntax} → Text limit end s g i j n m x → Clean s i j
clean {s = s} {i = i} (token {cs = cs} h) = one_clean s i (one_class s i cs h)
clean {s = s} {i = i} (occurrence {c = c} h) = one_clean s i (λ e. some_class c (sym h ∙ e))
clean (line d) = clean d
clean (line_within d w) = clean d
clean (line_anew d) = clean d
clean (both d e) = both_clean (clean d) (clean e)
clean (this_one d) = clean d
clean (that_one d) = clean d
clean not_once = empty_clean
clean (once d) = clean d
clean no_more = empty_clean
clean (again d e) = both_clean (clean d) (clean e)

-- what is no longer than a limit is within that limit, up to any end
pub short_within : {limit end : ℕ} (limit' end' from : ℕ) {s : Stream} {g : Phrase} {i j : ℕ} {n m : Counts} {x : Syntax} → from ≤ i
    → j ≤ from + limit' → Text limit end s g i j n m x → Text limit' end' s g i j n m x
short_within limit' end' from le h (token a) = token a
short_within limit' end' from le h (occurrence a) = occurrence a
short_within limit' end' from le h (line d) = line (short_within limit' end' from le h d)
short_within limit' end' from le h (line_within d w) = line_within (short_within limit' end' from le h d) (inl (omega arith))
short_within limit' end' from le h (line_anew d) = line_anew (short_within limit' end' from le h d)
short_within limit' end' from le h (both d e) = both (short_within limit' end' from le (omega (arith, ordered e)) d)
    (short_within limit' end' from (omega (arith, ordered d)) h e)
short_within limit' end' from le h (this_one d) = this_one (short_within limit' end' from le h d)
short_within limit' end' from le h (that_one d) = that_one (short_within limit' end' from le h d)
short_within limit' end' from le h not_once = not_once
short_within limit' end' from le h (once d) = once (short_within limit' end' from le h d)
short_within limit' end' from le h no_more = no_more
short_within limit' end' from le h (again d e) = again (short_within limit' end' from le (omega (arith, ordered e)) d)
    (short_within limit' end' from (omega (arith, ordered d)) h e)
