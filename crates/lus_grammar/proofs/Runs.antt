-- Readings go forward, and past a first token that they enter with.
use Rattle.std.proofs.Common.{◌≡◌, ℕ, ◌<◌, ◌≤◌, ◌⊎◌, inl, inr, refl, sym, ◌∙◌, subst, arith, true, false, ◌||◌, ◌==◌, List, [], ◌∷◌, Some}
use Rattle.std.proofs.lemmas.Bool.{and_cases, and_parts, or_parts, or_cases, eqb-true, both_ways}
use Rattle.lus_lexer.specs.declared.token.Class.{Class}
use Rattle.lus_grammar.specs.Stream.{Stream}
use Rattle.lus_grammar.specs.Phrase.{Part, Phrase, one_of, ◌⨾◌, ◌∣◌}
use Rattle.lus_grammar.specs.Grammar.{body}
use Rattle.lus_grammar.specs.Syntax.{Counts, Syntax}
use Rattle.lus_grammar.specs.Starts.{class_code, code, listed, codes_of, may_be_empty, first_classes, may_be_nothing, starts, Enters, Passes}
use Rattle.lus_grammar.specs.Run.{Cause, Run, read, stop, token, no_token, occurrence, no_occurrence, line, line_stop, within, within_stop, past, anew, anew_stop, both, first_stop, second_stop, this_one, this_stop, that_one, that_stop, not_once, once, once_stop, no_more, again, next_stop, later_stop}
use Rattle.lus_grammar.proofs.Classes.{all_known, known, one_if, same_class}
use Rattle.lus_grammar.proofs.Listed.{in_subset, in_cases, in_if_cases}
use Rattle.lus_grammar.proofs.Fits.{fits, fit_both, fit_either, fit_optional, fit_repeated, body_fits, starts_body, body_nothing}
use Rattle.lus_grammar.proofs.Texts.{before_or_not}

pub run_ordered : {limit : ℕ} {s : Stream} {g : Phrase} {i j : ℕ} {n m : Counts} {x : Syntax} → Run limit s g i n (read j m x) → i ≤ j
run_ordered (token h) = omega arith
run_ordered (occurrence h) = omega arith
run_ordered (line d) = run_ordered d
run_ordered (within d w) = run_ordered d
run_ordered (anew d) = run_ordered d
run_ordered (both d e) = omega (arith, run_ordered d, run_ordered e)
run_ordered (this_one h d) = run_ordered d
run_ordered (that_one h d) = run_ordered d
run_ordered (not_once h) = omega arith
run_ordered (once h d) = run_ordered d
run_ordered (no_more h) = omega arith
run_ordered (again h d e) = omega (arith, run_ordered d, run_ordered e)

pub run_since : {limit : ℕ} {s : Stream} {g : Phrase} {i k : ℕ} {n : Counts} {c : Cause} → Run limit s g i n (stop c k) → i ≤ k
run_since (no_token h) = omega arith
run_since (no_occurrence h) = omega arith
run_since (line_stop d) = run_since d
run_since (within_stop d w) = run_since d
run_since (past w) = omega arith
run_since (anew_stop d) = run_since d
run_since (first_stop d) = run_since d
run_since (second_stop d e) = omega (arith, run_ordered d, run_since e)
run_since (this_stop h d) = run_since d
run_since (that_stop h d) = run_since d
run_since (once_stop h d) = run_since d
run_since (next_stop h d) = run_since d
run_since (later_stop h d e) = omega (arith, run_ordered d, run_since e)

pub run_forward : {limit : ℕ} {s : Stream} {g : Phrase} {i j : ℕ} {n m : Counts} {x : Syntax} → Run limit s g i n (read j m x)
    → may_be_nothing g ≡ false → i < j
run_forward (token h) e = omega arith
run_forward (occurrence h) e = omega arith
run_forward (line {p = p} d) e = run_forward d (body_nothing p ∙ e)
run_forward (within {p = p} d w) e = run_forward d (body_nothing p ∙ e)
run_forward (anew {p = p} d) e = run_forward d (body_nothing p ∙ e)
run_forward {i = i} {j = j} (both {a = a} {b = b} d f) e =
    let o = run_ordered d in let p = run_ordered f in
    elim (and_cases (may_be_nothing a) (may_be_nothing b) e) as (λ _. i < j) [ inl u ↦ omega (arith, run_forward d u) | inr u ↦ omega (arith, run_forward f u) ]
run_forward (this_one {a = a} {b = b} h d) e = run_forward d (or_parts (may_be_nothing a) (may_be_nothing b) e).0
run_forward (that_one {a = a} {b = b} h d) e = run_forward d (or_parts (may_be_nothing a) (may_be_nothing b) e).1
run_forward (not_once h) e = absurd (cc)
run_forward (once h d) e = absurd (cc)
run_forward (no_more h) e = absurd (cc)
run_forward (again h d f) e = absurd (cc)

-- what is read from a first token of the phrase on has a token
pub run_entered : {limit : ℕ} {s : Stream} {g : Phrase} {i j : ℕ} {n m : Counts} {x : Syntax} → Run limit s g i n (read j m x)
    → fits g ≡ true → Enters s i g → i < j
run_entered (token h) f e = omega arith
run_entered (occurrence h) f e = omega arith
run_entered {s = s} {i = i} (line {p = p} d) f e = run_entered d (body_fits p)
    (in_subset (codes_of (first_classes p)) (starts (body p)) (code (s i).class) (starts_body p) e)
run_entered {s = s} {i = i} (within {p = p} d w) f e = run_entered d (body_fits p)
    (in_subset (codes_of (first_classes p)) (starts (body p)) (code (s i).class) (starts_body p) e)
run_entered {s = s} {i = i} (anew {p = p} d) f e = run_entered d (body_fits p)
    (in_subset (codes_of (first_classes p)) (starts (body p)) (code (s i).class) (starts_body p) e)
run_entered {s = s} {i = i} {j = j} (both {a = a} {b = b} {k = k} d q) f e =
    let w = fit_both a b f in
    let o = run_ordered d in let p = run_ordered q in
    elim (in_if_cases (may_be_nothing a) (starts a) (starts b) (code (s i).class) e) as (λ _. i < j) [
      | inl u ↦ omega (arith, run_entered d w.first u)
      | inr u ↦ elim (before_or_not i k o) as (λ _. i < j) [
        | inl v ↦ omega arith
        | inr v ↦ omega (arith, run_entered q w.second (subst (λ (z : ℕ). Enters s z b) (sym v) u.1))
      ]
    ]
run_entered (this_one {a = a} {b = b} h d) f e = run_forward d (fit_either a b f).one_some
run_entered (that_one {a = a} {b = b} h d) f e = run_forward d (fit_either a b f).other_some
run_entered (not_once h) f e = absurd (both_ways _ h e)
run_entered (once {a = a} h d) f e = run_forward d (fit_optional a f).it_some
run_entered (no_more h) f e = absurd (both_ways _ h e)
run_entered (again {a = a} h d q) f e = omega (arith, run_forward d (fit_repeated a f).it_some, run_ordered q)

-- A reading stops behind its first token, if that is one of the phrase's, or the phrase may be nothing.
abbrev pub Entered : Stream → ℕ → Phrase → Type 0
Entered s i g = Enters s i g ⊎ (may_be_nothing g ≡ true)

of_body : (s : Stream) (i : ℕ) (p : Part) → (listed (code (s i).class) (codes_of (first_classes p)) ≡ true) ⊎ (may_be_empty p ≡ true) → Entered s i (body p)
of_body s i p (inl e) = inl (in_subset (codes_of (first_classes p)) (starts (body p)) (code (s i).class) (starts_body p) e)
of_body s i p (inr e) = inr (body_nothing p ∙ e)

no_first : (s : Stream) (i : ℕ) (c : Class) → known c ≡ true → ((s i).class ≡ Some c → ⊥) → (code (s i).class == class_code c || false) ≡ true → ⊥
no_first s i c k h e =
    elim (or_cases (code (s i).class == class_code c) false e) as (λ _. ⊥) [
      | inl u ↦ h (same_class (s i).class c k (eqb-true (code (s i).class) (class_code c) u))
      | inr u ↦ both_ways false refl u
    ]

known_of : (cs : List Class) → fits (one_of cs) ≡ true → all_known cs ≡ true
known_of [] h = refl
known_of (c ∷ cs) h = h

first_entered : (s : Stream) (i : ℕ) (a b : Phrase) → Entered s i (a ⨾ b) → Entered s i a
first_entered s i a b (inl e) = elim (in_if_cases (may_be_nothing a) (starts a) (starts b) (code (s i).class) e) as
    (λ _. Entered s i a) [ inl u ↦ inl u | inr u ↦ inr u.0 ]
first_entered s i a b (inr e) = inr (and_parts (may_be_nothing a) (may_be_nothing b) e).0

-- behind an empty first
second_entered : (s : Stream) (i : ℕ) (a b : Phrase) → Entered s i (a ⨾ b) → Enters s i a ⊎ Entered s i b
second_entered s i a b (inl e) = elim (in_if_cases (may_be_nothing a) (starts a) (starts b) (code (s i).class) e) as
    (λ _. Enters s i a ⊎ Entered s i b) [ inl u ↦ inl u | inr u ↦ inr (inl u.1) ]
second_entered s i a b (inr e) = inr (inr (and_parts (may_be_nothing a) (may_be_nothing b) e).1)

other_entered : (s : Stream) (i : ℕ) (a b : Phrase) → fits (a ∣ b) ≡ true → Passes s i a → Entered s i (a ∣ b) → Entered s i b
other_entered s i a b f h (inl e) = elim (in_cases (starts a) (starts b) (code (s i).class) e) as
    (λ _. Entered s i b) [ inl u ↦ absurd (both_ways _ h u) | inr u ↦ inl u ]
other_entered s i a b f h (inr e) =
    let w = fit_either a b f in
    elim (or_cases (may_be_nothing a) (may_be_nothing b) e) as (λ _. Entered s i b) [ inl u ↦ absurd (both_ways _ w.one_some u) | inr u ↦ inr u ]

not_nothing : (P : Type 0) → P ⊎ (false ≡ true) → P
not_nothing P (inl e) = e
not_nothing P (inr e) = absurd (cc)

pub run_stops_later : {limit : ℕ} {s : Stream} {g : Phrase} {i k : ℕ} {n : Counts} {c : Cause} → Run limit s g i n (stop c k) → 1 ≤ limit
    → fits g ≡ true → Entered s i g → i < k
run_stops_later {s = s} {i = i} (no_token {cs = cs} h) l f e = absurd (h (one_if s i cs (known_of cs f) (not_nothing _ e)))
run_stops_later {s = s} {i = i} (no_occurrence {c = c} h) l f e = absurd (no_first s i c f h (not_nothing _ e))
run_stops_later {s = s} {i = i} (line_stop {p = p} d) l f e = run_stops_later d l (body_fits p) (of_body s i p e)
run_stops_later {s = s} {i = i} (within_stop {p = p} d w) l f e = run_stops_later d l (body_fits p) (of_body s i p e)
run_stops_later (past w) l f e = omega arith
run_stops_later {s = s} {i = i} (anew_stop {p = p} d) l f e = run_stops_later d l (body_fits p) (of_body s i p e)
run_stops_later {s = s} {i = i} (first_stop {a = a} {b = b} d) l f e = run_stops_later d l (fit_both a b f).first (first_entered s i a b e)
run_stops_later {s = s} {i = i} {k = l'} (second_stop {a = a} {b = b} {k = k} d q) l f e =
    let w = fit_both a b f in
    let o = run_ordered d in let p = run_since q in
    elim (before_or_not i k o) as (λ _. i < l') [
      | inl v ↦ omega arith
      | inr v ↦ elim (second_entered s i a b e) as (λ _. i < l') [
        | inl u ↦ omega (arith, run_entered d w.first u)
        | inr u ↦ omega (arith, run_stops_later q l w.second (subst (λ (z : ℕ). Entered s z b) (sym v) u))
      ]
    ]
run_stops_later (this_stop {a = a} {b = b} h d) l f e = run_stops_later d l (fit_either a b f).one (inl h)
run_stops_later {s = s} {i = i} (that_stop {a = a} {b = b} h d) l f e = run_stops_later d l (fit_either a b f).other (other_entered s i a b f h e)
run_stops_later (once_stop {a = a} h d) l f e = run_stops_later d l (fit_optional a f).it (inl h)
run_stops_later (next_stop {a = a} h d) l f e = run_stops_later d l (fit_repeated a f).it (inl h)
run_stops_later (later_stop {a = a} h d q) l f e = omega (arith, run_entered d (fit_repeated a f).it h, run_since q)
