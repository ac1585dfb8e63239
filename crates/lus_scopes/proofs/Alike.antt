-- Lists that have the same faults have the same first one.
use Rattle.std.proofs.Common.{◌≡◌, ℕ, zero, suc, ◌+◌, ◌<◌, ◌==◌, Bool, true, false, cond, not, ◌&&◌, List, [], ◌∷◌, ◌++◌, get_or, refl, ap, sym, subst, ◌∙◌, arith, Option, Some, None}
use Rattle.std.specs.Prelude.{Contains}
use Rattle.std.specs.Str.{bytes_eq}
use Rattle.std.proofs.lemmas.Bool.{false≢true, eqb-true, eq-eqb, and_parts}
use Rattle.lus_tree.specs.Tree.{Name}
use Rattle.lus_tree.specs.Reason.{Reason, Refused, too_long, bad_byte, unclosed_comment, wide_literal, unexpected, too_large, left_out, name_twice, name_unknown, type_clash, arity_clash, not_linear, zero_divisor, not_constant, heavy, clock_clash, equation_twice, input_defined, cycle, node_recursion, not_stateless, assume_reads_output, no_node, main_unknown, mode_unknown, too_many, memory}
use Rattle.lus_meaning.specs.Faults.{number_of, comes_before, IsFirst}
use Rattle.lus_meaning.proofs.Unique.{same_bytes}
use Rattle.lus_scopes.specs.Least.{IsLeast, noted_all}
use Rattle.lus_scopes.proofs.Walks.{Both, failing, failing_append}
use Rattle.lus_scopes.proofs.Leasts.{least_noted_all}

-- ---- whether two faults are one

abbrev word_in : Reason → Name
word_in (left_out w) = w
word_in _ = []

abbrev limit_in : Reason → ℕ
limit_in (too_many n) = n
limit_in _ = 0

-- the reason of that number, with that word or that limit
abbrev reason_of : ℕ → Name → ℕ → Reason
reason_of k w n =
    get_or
    (memory ∷ too_long ∷ bad_byte ∷ unclosed_comment ∷ wide_literal ∷ unexpected ∷ too_large ∷ left_out w ∷ name_twice ∷ name_unknown ∷
    type_clash ∷ arity_clash ∷ not_linear ∷ zero_divisor ∷ not_constant ∷ heavy ∷ clock_clash ∷ equation_twice ∷ input_defined ∷ cycle ∷
    node_recursion ∷ not_stateless ∷ assume_reads_output ∷ no_node ∷ main_unknown ∷ mode_unknown ∷ too_many n ∷ [])
    k memory

reason_is : (r : Reason) → reason_of (number_of r) (word_in r) (limit_in r) ≡ r
reason_is too_long = refl
reason_is bad_byte = refl
reason_is unclosed_comment = refl
reason_is wide_literal = refl
reason_is unexpected = refl
reason_is too_large = refl
reason_is (left_out w) = refl
reason_is name_twice = refl
reason_is name_unknown = refl
reason_is type_clash = refl
reason_is arity_clash = refl
reason_is not_linear = refl
reason_is zero_divisor = refl
reason_is not_constant = refl
reason_is heavy = refl
reason_is clock_clash = refl
reason_is equation_twice = refl
reason_is input_defined = refl
reason_is cycle = refl
reason_is node_recursion = refl
reason_is not_stateless = refl
reason_is assume_reads_output = refl
reason_is no_node = refl
reason_is main_unknown = refl
reason_is mode_unknown = refl
reason_is (too_many n) = refl
reason_is memory = refl

same_reason : (a b : Reason) → number_of a ≡ number_of b → word_in a ≡ word_in b → limit_in a ≡ limit_in b → a ≡ b
same_reason a b e f g = sym (reason_is a) ∙ ap (λ k. reason_of k (word_in a) (limit_in a)) e ∙ ap
    (λ w. reason_of (number_of b) w (limit_in a)) f ∙ ap (λ n. reason_of (number_of b) (word_in b) n) g ∙ reason_is b

abbrev is_one : Refused → Refused → Bool
is_one a b =
    (a.at.line == b.at.line) && ((a.at.column == b.at.column) && ((number_of a.reason == number_of b.reason) &&
    (bytes_eq (word_in a.reason) (word_in b.reason) && (limit_in a.reason == limit_in b.reason))))

one_is : (a b : Refused) → is_one a b ≡ true → a ≡ b
one_is a b e =
    let l : ((a.at.line == b.at.line) ≡ true) × (((a.at.column == b.at.column) &&
    ((number_of a.reason == number_of b.reason) && (bytes_eq (word_in a.reason) (word_in b.reason) &&
    (limit_in a.reason == limit_in b.reason)))) ≡ true) = and_parts _ _ e in
    let c : ((a.at.column == b.at.column) ≡ true) × (((number_of a.reason == number_of b.reason) &&
    (bytes_eq (word_in a.reason) (word_in b.reason) && (limit_in a.reason == limit_in b.reason))) ≡ true) = and_parts _ _ l.1 in
    let n : ((number_of a.reason == number_of b.reason) ≡ true) × ((bytes_eq (word_in a.reason) (word_in b.reason) &&
    (limit_in a.reason == limit_in b.reason)) ≡ true) = and_parts _ _ c.1 in
    let w : (bytes_eq (word_in a.reason) (word_in b.reason) ≡ true) × ((limit_in a.reason == limit_in b.reason) ≡ true) = and_parts _ _ n.1 in
    let r : a.reason ≡ b.reason = same_reason a.reason b.reason (eqb-true _ _ n.0) (same_bytes (word_in a.reason) (word_in b.reason) w.0) (eqb-true _ _ w.1) in
    ap (λ (k : ℕ). let z : Refused = record { at = record { line = k; column = a.at.column }; reason = a.reason } in z) (eqb-true _ _ l.0)
    ∙ ap (λ (k : ℕ). let z : Refused = record { at = record { line = b.at.line; column = k }; reason = a.reason } in z) (eqb-true _ _ c.0)
    ∙ ap (λ (k : Reason). let z : Refused = record { at = b.at; reason = k } in z) r

bytes_same : (x : Name) → bytes_eq x x ≡ true
bytes_same [] = refl
bytes_same (c ∷ cs) = rw (eq-eqb c c refl) (bytes_same cs)

is_itself : (a : Refused) → is_one a a ≡ true
is_itself a = rw (
  eq-eqb a.at.line a.at.line refl,
  eq-eqb a.at.column a.at.column refl,
  eq-eqb (number_of a.reason)
      (number_of a.reason) refl,
  bytes_same (word_in a.reason),
  eq-eqb (limit_in a.reason) (limit_in a.reason) refl,
) refl

-- ---- what passes a test

no_less : (k : ℕ) → k < 0 → ⊥
no_less k l = omega arith

passes_head : (b : Bool) (n : ℕ) → cond b 0 1 + n ≡ 0 → b ≡ true
passes_head true n e = refl
passes_head false n e = absurd (omega arith)

pub passed : (p : Refused → Bool) (fs : List Refused) (r : Refused) → failing p fs ≡ 0 → Contains fs r → p r ≡ true
passed p [] r e (k, l, i) = absurd (no_less k l)
passed p (f ∷ fs) r e (zero, l, i) = subst (λ z. p z ≡ true) i (passes_head (p f) (failing p fs) e)
passed p (f ∷ fs) r e (suc k, l, i) = passed p fs r (omega arith) (k, omega arith, i)

behind : (f r : Refused) (fs : List Refused) → Contains fs r → Contains (f ∷ fs) r
behind f r fs (k, l, i) = (suc k, omega arith, i)

all_passed : (p : Refused → Bool) (fs : List Refused) → ((r : Refused) → Contains fs r → p r ≡ true) → failing p fs ≡ 0
all_passed p [] a = refl
all_passed p (f ∷ fs) a =
    let h : p f ≡ true = a f (zero, omega arith, refl) in
    let t : failing p fs ≡ 0 = all_passed p fs (λ r c. a r (behind f r fs c)) in
    rw h (omega (arith, t))

-- one that doesn't pass the test for another is that one
found : (r : Refused) (gs : List Refused) → (failing (λ s. not (is_one s r)) gs ≡ 0 → ⊥) → Contains gs r
found r [] h = absurd (h refl)
found r (g ∷ gs) h = go (is_one g r) refl (found r gs)
  where
    go : (b : Bool) → is_one g r ≡ b → ((failing (λ s. not (is_one s r)) gs ≡ 0 → ⊥) → Contains gs r) → Contains (g ∷ gs) r
    go true e k = (zero, omega arith, one_is g r e)
    go false e k = behind g r gs (k (λ z. h (rw e (omega (arith, z)))))

-- ---- the same first one

abbrev pub AreSame : List Refused → List Refused → Type 0
AreSame fs gs = (p : Refused → Bool) → Both (failing p fs) (failing p gs)

first_same : (r : Refused) (fs gs : List Refused) → AreSame fs gs → IsFirst (Contains fs) r → IsFirst (Contains gs) r
first_same r fs gs a i = record {
  broken = found r gs (λ z. false≢true (sym (ap not (is_itself r)) ∙ passed (λ s. not (is_one s r)) fs r ((a (λ s. not (is_one s r))).back z) i.broken));
  first = λ s c. not_true (comes_before s r) (passed (λ s. not (comes_before s r)) gs s
      ((a (λ s. not (comes_before s r))).there (all_passed (λ s. not (comes_before s r)) fs (λ q d. ap not (i.first q d)))) c);
}
  where
    not_true : (b : Bool) → not b ≡ true → b ≡ false
    not_true true e = absurd (false≢true e)
    not_true false e = refl

pub least_same : (o : Option Refused) (fs gs : List Refused) → AreSame fs gs → IsLeast o fs → IsLeast o gs
least_same None fs gs a i = λ r c. false≢true (passed (λ s. false) gs r ((a (λ s. false)).there (all_passed (λ s. false) fs (λ q d. absurd (i q d)))) c)
least_same (Some r) fs gs a i = first_same r fs gs a i

-- ---- what is noted behind others, in any order

both_append : (p : Refused → Bool) (fs xs gs : List Refused) → Both (failing p xs) (failing p gs) → Both (failing p (fs ++ xs)) (failing p (fs ++ gs))
both_append p fs xs gs i = record {
  there = λ z. omega (arith, failing_append p fs xs, failing_append p fs gs, i.there);
  back = λ z. omega (arith, failing_append p fs xs, failing_append p fs gs, i.back);
}

pub least_behind : (o q : Option Refused) (fs xs gs : List Refused) → q ≡ noted_all o xs → AreSame xs gs → IsLeast o fs → IsLeast q (fs ++ gs)
least_behind o q fs xs gs e a i = least_same q (fs ++ xs) (fs ++ gs) (λ p. both_append p fs xs gs (a p)) (rw e (least_noted_all o fs xs i))
