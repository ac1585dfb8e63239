-- Where a reading stops, no text of the same marks goes on, and those before begin one.
use Rattle.std.proofs.Common.{◌≡◌, ℕ, ◌+◌, ◌<◌, ◌≤◌, inl, inr, sym, ap, ◌∙◌, subst, arith, true, false, List, [], ◌∷◌, Some}
use Rattle.lus_lexer.specs.declared.token.Class.{Class}
use Rattle.lus_grammar.specs.Stream.{Stream, Agree}
use Rattle.lus_grammar.specs.Phrase.{Part, Counter, Phrase, one_of, counted, part, limited, fresh, ◌⨾◌, ◌∣◌, optional, repeated}
use Rattle.lus_grammar.specs.Grammar.{body}
use Rattle.lus_grammar.specs.Syntax.{Counts, none_before, Syntax}
use Rattle.lus_grammar.specs.Text.{IsOneOf, Text, token, occurrence, line, line_within, line_anew, both, this_one, that_one, not_once, once, no_more, again}
use Rattle.lus_grammar.specs.Starts.{code, starts, listed, Enters, Passes}
use Rattle.lus_grammar.specs.Extends.{Over, extends}
use Rattle.lus_grammar.specs.Run.{Cause, Run, stop, no_token, no_occurrence, line_stop, within_stop, past, anew_stop, first_stop, second_stop, this_stop, that_stop, once_stop, next_stop, later_stop}
use Rattle.lus_grammar.specs.Reading.{Begins}
use Rattle.lus_grammar.proofs.Listed.{apart_left}
use Rattle.lus_grammar.proofs.Fits.{fits, FitBoth, FitEither, FitOptional, FitRepeated, fit_both, fit_either, fit_optional, fit_repeated, Ends, body_fits}
use Rattle.lus_grammar.proofs.Texts.{ordered, forward, begins_with, before_or_not, agree_to, moved, weaker}
use Rattle.lus_grammar.proofs.Runs.{run_stops_later}
use Rattle.lus_grammar.proofs.Promise.{Parts, After, same, parts, Reads, Sticks, reach, least, reaches, widen, body_ends, first_ends, second_ends, one_ends, other_ends, optional_ends, optional_passes, repeated_passes, next_ends, enters_not, passes_not}
use Rattle.lus_grammar.proofs.Possible.{Possible, possible}
use Rattle.lus_grammar.proofs.Read.{reads, later}

-- from a text of another phrase with the same marks
begun : {limit bound : ℕ} {s : Stream} {g : Phrase} {i : ℕ} {n : Counts} {end : ℕ} {h : Phrase} {i' : ℕ} {n' m : Counts} {x : Syntax}
    (b : Begins limit bound s g i n end) → Text limit bound b.t h i' b.j n' m x → Begins limit bound s h i' n' end
begun b d = record { t = b.t; j = b.j; m = _; x = _; agree = b.agree; past = b.past; text = d }

-- one and then another, where the second of them sticks
then_none : {limit bound : ℕ} {s : Stream} {b : Phrase} {k l : ℕ} {m : Counts} {x : Syntax} {c : Cause}
    (t : Stream) {k' : ℕ} {m' : Counts} {x' : Syntax} {j' : ℕ} {o' : Counts} {y' : Syntax} →
    After s t k m x k' m' x' → Text limit bound t b k' j' m' o' y' → Sticks limit s b k m c l → least c l ≤ bound → Agree s t (reach c l)
    → Ends t b j' → Parts s t l j'
then_none {bound = bound} t {j' = j'} {o' = o'} {y' = y'} same e r le h st = r.none t bound j' o' y' le h e st
then_none {l = l} {c = c} t {j' = j'} (parts p) e r le h st = later l j' p (agree_to l h (reaches c l)) r.since (ordered e)

-- what parts where it begins
differs : {s : Stream} (t : Stream) (i k j : ℕ) (h : (t i ≡ s i → ⊥)) (c : Cause) → i ≤ k → Agree s t (reach c k) → i < j → Parts s t k j
differs {s} t i k j h c le e lt =
    let le' = reaches c k in
    elim (before_or_not i k le) as (λ _. Parts s t k j) [
      | inl u ↦ absurd (h (e i (omega arith)))
      | inr u ↦ record { further = omega arith; other = λ q. h (subst (λ (z : ℕ). t z ≡ s z) u q) }
    ]

module _ {limit : ℕ} {s : Stream} where
  token_none : {cs : List Class} {i : ℕ} {n : Counts} → (IsOneOf s i cs → ⊥) → (t : Stream) (bound j' : ℕ) (m' : Counts) (x' : Syntax)
      → Text limit bound t (one_of cs) i j' n m' x' → Parts s t i j'
  token_none {cs = cs} {i = i} no' t bound j' m' x' (token h) = record { further = omega arith; other = λ q. no' (is_one cs q h) }
    where
      is_one : (cs : List Class) → t i ≡ s i → IsOneOf t i cs → IsOneOf s i cs
      is_one [] q h = h
      is_one (c ∷ cs) q (inl h) = inl (sym (ap (λ z. z.class) q) ∙ h)
      is_one (c ∷ cs) q (inr h) = inr (is_one cs q h)

  counted_none : {k : Counter} {c : Class} {i : ℕ} {n : Counts} → ((s i).class ≡ Some c → ⊥) → (t : Stream) (bound j' : ℕ) (m' : Counts)
      (x' : Syntax) → Text limit bound t (counted k c) i j' n m' x' → Parts s t i j'
  counted_none no' t bound j' m' x' (occurrence h) = record { further = omega arith; other = λ q. no' (sym (ap (λ z. z.class) q) ∙ h) }

  module _ {p : Part} {i k : ℕ} {n : Counts} {c : Cause} where
    line_none : Sticks limit s (body p) i n c k → (t : Stream) (bound j' : ℕ) (m' : Counts) (x' : Syntax) → least c k ≤ bound → Agree s t
        (reach c k) → Text limit bound t (part p) i j' n m' x' → Ends t (part p) j' → Parts s t k j'
    line_none r t bound j' m' x' le h (line {x = y} d) st = r.none t bound j' m' y le h d (body_ends t p j' st.over)

    within_none : Sticks limit s (body p) i n c k → (t : Stream) (bound j' : ℕ) (m' : Counts) (x' : Syntax) → least c k ≤ bound → Agree s t
        (reach c k) → Text limit bound t (limited p) i j' n m' x' → Ends t (limited p) j' → Parts s t k j'
    within_none r t bound j' m' x' le h (line_within {x = y} d w) st = r.none t bound j' m' y le h d (body_ends t p j' st.over)

    anew_none : Sticks limit s (body p) i none_before c k → (t : Stream) (bound j' : ℕ) (m' : Counts) (x' : Syntax) → least c k ≤ bound
        → Agree s t (reach c k) → Text limit bound t (fresh p) i j' n m' x' → Ends t (fresh p) j' → Parts s t k j'
    anew_none r t bound j' m' x' le h (line_anew {m = o} {x = y} d) st = r.none t bound j' o y le h d (body_ends t p j' st.over)

  -- past the limit
  over_none : {p : Part} {i : ℕ} {n : Counts} → Over limit s p i n → (t : Stream) (bound j' : ℕ) (m' : Counts) (x' : Syntax)
      → i + limit + 1 ≤ bound → Agree s t (i + limit + 1) → Text limit bound t (limited p) i j' n m' x' → Ends t (limited p) j' → ⊥
  over_none {p = p} {i = i} o t bound j' m' x' le h (line_within {x = y} d (inr w)) st = omega (arith, w)
  over_none {p = p} {i = i} o t bound j' m' x' le h (line_within {x = y} d (inl w)) st =
      let e : t j' ≡ s j' = h j' (omega arith) in
      let v = body_ends t p j' st.over in
      o.none j' m' y w (weaker 0 (omega arith) (moved s d (λ x lt. sym (h x (omega arith)))))
      (subst (λ z. listed (code z.class) (extends (body p)) ≡ false) e v.over)

  module _ {a b : Phrase} where
    first_none : {i k : ℕ} {n : Counts} {c : Cause} → FitBoth a b → Sticks limit s a i n c k → (t : Stream) (bound j' : ℕ) (m' : Counts)
        (x' : Syntax) → least c k ≤ bound → Agree s t (reach c k) → Text limit bound t (a ⨾ b) i j' n m' x' → Ends t (a ⨾ b) j'
        → Parts s t k j'
    first_none f r t bound j' m' x' le h (both {k = k'} {m = o'} {x = y'} d e) st = widen j'
        (r.none t bound k' o' y' le h d (first_ends a b f t k' j' e st)) (ordered e)

    second_none : {i k l : ℕ} {n m : Counts} {x : Syntax} {c : Cause} → FitBoth a b → Reads limit s a i n k m x → Sticks limit s b k m c l →
        (t : Stream) (bound j' : ℕ) (m' : Counts) (x' : Syntax) → least c l ≤ bound → Agree s t (reach c l) → Text limit bound t
        (a ⨾ b) i j' n m' x' → Ends t (a ⨾ b) j' → Parts s t l j'
    second_none {l = l} {c = c} f r q t bound j' m' x' le h (both {k = k'} {m = o'} {x = y'} d e) st =
        let u = q.since in
        let v = reaches c l in
        then_none t (r.only t bound k' o' y' (agree_to _ h (omega arith)) d (first_ends a b f t k' j' e st)) e q le h (second_ends a b f t j' st)

    this_none : {i k : ℕ} {n : Counts} {c : Cause} → FitEither a b → Enters s i a → Sticks limit s a i n c k → i < k → (t : Stream)
        (bound j' : ℕ) (m' : Counts) (x' : Syntax) → least c k ≤ bound → Agree s t (reach c k) → Text limit bound t (a ∣ b) i j' n m' x'
        → Ends t (a ∣ b) j' → Parts s t k j'
    this_none f g r lt t bound j' m' x' le h (this_one {x = y} d) st = r.none t bound j' m' y le h d (one_ends a b t j' st)
    this_none {i = i} {k = k} {c = c} f g r lt t bound j' m' x' le h (that_one d) st =
        let u = reaches c k in
        absurd (passes_not s t i a (apart_left (starts a) (starts b) (code (t i).class) f.parted (begins_with d (forward d f.other_some))) g
        (h i (omega arith)))

    that_none : {i k : ℕ} {n : Counts} {c : Cause} → FitEither a b → Passes s i a → Sticks limit s b i n c k → (t : Stream) (bound j' : ℕ)
        (m' : Counts) (x' : Syntax) → least c k ≤ bound → Agree s t (reach c k) → Text limit bound t (a ∣ b) i j' n m' x' → Ends t
        (a ∣ b) j' → Parts s t k j'
    that_none {i = i} {k = k} {c = c} f g r t bound j' m' x' le h (this_one d) st =
        let lt = forward d f.one_some in
        differs t i k j' (enters_not s t i a (begins_with d lt) g) c r.since h lt
    that_none f g r t bound j' m' x' le h (that_one {x = y} d) st = r.none t bound j' m' y le h d (other_ends a b t j' st)

  module _ {a : Phrase} {i : ℕ} {n : Counts} where
    once_none : {k : ℕ} {c : Cause} → FitOptional a → Enters s i a → Sticks limit s a i n c k → i < k → (t : Stream) (bound j' : ℕ)
        (m' : Counts) (x' : Syntax) → least c k ≤ bound → Agree s t (reach c k) → Text limit bound t (optional a) i j' n m' x' → Ends t
        (optional a) j' → Parts s t k j'
    once_none {k = k} {c = c} f g r lt t bound j' m' x' le h not_once st =
        (let u = reaches c k in absurd (passes_not s t i a (optional_passes a t i st) g (h i (omega arith))))
    once_none f g r lt t bound j' m' x' le h (once {x = y} d) st = r.none t bound j' m' y le h d (optional_ends a t j' st)

    next_none : {k : ℕ} {c : Cause} → FitRepeated a → Enters s i a → Sticks limit s a i n c k → i < k → (t : Stream) (bound j' : ℕ)
        (m' : Counts) (x' : Syntax) → least c k ≤ bound → Agree s t (reach c k) → Text limit bound t (repeated a) i j' n m' x' → Ends t
        (repeated a) j' → Parts s t k j'
    next_none {k = k} {c = c} f g r lt t bound j' m' x' le h no_more st =
        (let u = reaches c k in absurd (passes_not s t i a (repeated_passes a t i st) g (h i (omega arith))))
    next_none f g r lt t bound j' m' x' le h (again {k = k'} {m = o'} {x = y'} d e) st = widen j'
        (r.none t bound k' o' y' le h d (next_ends a f t k' j' e st)) (ordered e)

    later_none : {k l : ℕ} {m : Counts} {x : Syntax} {c : Cause} → FitRepeated a → Enters s i a → Reads limit s a i n k m x → Sticks limit s
        (repeated a) k m c l → i < l → (t : Stream) (bound j' : ℕ) (m' : Counts) (x' : Syntax) → least c l ≤ bound → Agree s t (reach c l)
        → Text limit bound t (repeated a) i j' n m' x' → Ends t (repeated a) j' → Parts s t l j'
    later_none {l = l} {c = c} f g r q lt t bound j' m' x' le h no_more st =
        (let u = reaches c l in absurd (passes_not s t i a (repeated_passes a t i st) g (h i (omega arith))))
    later_none {l = l} {c = c} f g r q lt t bound j' m' x' le h (again {k = k'} {m = o'} {x = y'} d e) st =
        let u = q.since in
        let v = reaches c l in
        then_none t (r.only t bound k' o' y' (agree_to _ h (omega arith)) d (next_ends a f t k' j' e st)) e q le h st

  -- a first part that is begun, and any second
  both_begun : {a b : Phrase} {i k : ℕ} {n : Counts} {end : ℕ} → Possible limit b → Begins limit k s a i n end → Begins limit k s (a ⨾ b) i n end
  both_begun {k = k} p b =
      let v = p.at b.t b.j b.m k in
      let le = b.past in
      record {
        t = v.t;
        j = v.j;
        m = v.m;
        x = _;
        agree = λ x lt. v.agree x (omega arith) ∙ b.agree x lt;
        past = omega
            (arith, v.past);
        text = both (moved v.t b.text v.agree) v.text;
      }

  -- a first part that is read
  after_read : {a : Phrase} {i k : ℕ} {n m : Counts} {x : Syntax} {b : Phrase} {l : ℕ} {c : Cause} → Reads limit s a i n k m x →
      (q : Sticks limit s b k m c l) → Text limit l q.begins.t a i k n m x
  after_read {l = l} {c = c} r q =
      let u = q.since in
      let v = reaches c l in
      moved q.begins.t (r.text l) (agree_to _ q.begins.agree (omega arith))

pub sticks : {limit : ℕ} {s : Stream} {g : Phrase} {i k : ℕ} {n : Counts} {c : Cause} → Run limit s g i n (stop c k) → 1 ≤ limit
    → fits g ≡ true → Sticks limit s g i n c k
sticks {limit} {s} {i = i} {n = n} (no_token {cs = cs} h) l f = record {
  since = omega arith;
  begins = (possible limit l (one_of cs) f).at s i n i;
  none = λ t bound j m x le e d st. token_none h t bound j m
      x d;
}
sticks {limit} {s} {i = i} {n = n} (no_occurrence {k = o} {c = c} h) l f = record {
  since = omega arith;
  begins = (possible limit l (counted o c) f).at s i n i;
  none = λ t bound j m x le e d st. counted_none h t bound
      j m x d;
}
sticks (line_stop {p = p} d) l f = let r = sticks d l (body_fits p)
    in record { since = r.since; begins = begun r.begins (line r.begins.text); none = line_none r }
sticks (within_stop {p = p} d w) l f = let r = sticks d l (body_fits p)
    in record { since = r.since; begins = begun r.begins (line_within r.begins.text (inr w)); none = within_none r }
sticks {limit} {s} {i = i} (past o) l f = record {
  since = omega arith;
  begins = record { t = o.t; j = o.j; m = o.m; x = _; agree = o.agree; past = o.past; text = line_within o.text (inr (omega arith)) };
  none = λ t bound j m x le e d st. absurd (over_none o t bound j m x le e d st);
}
sticks (anew_stop {p = p} d) l f = let r = sticks d l (body_fits p)
    in record { since = r.since; begins = begun r.begins (line_anew r.begins.text); none = anew_none r }
sticks {limit} (first_stop {a = a} {b = b} d) l f =
    let w = fit_both a b f in
    let r = sticks d l w.first in
    record { since = r.since; begins = both_begun (possible limit l b w.second) r.begins; none = first_none w r }
sticks (second_stop {a = a} {b = b} d e) l f =
    let w = fit_both a b f in
    let r = reads d w.first in
    let q = sticks e l w.second in
    record { since = omega (arith, ordered (r.text 0), q.since); begins = begun q.begins (both (after_read r q) q.begins.text); none = second_none w r q }
sticks (this_stop {a = a} {b = b} h d) l f =
    let w = fit_either a b f in
    let r = sticks d l w.one in
    record { since = r.since; begins = begun r.begins (this_one r.begins.text); none = this_none w h r (run_stops_later d l w.one (inl h)) }
sticks (that_stop {a = a} {b = b} h d) l f =
    let w = fit_either a b f in
    let r = sticks d l w.other in
    record { since = r.since; begins = begun r.begins (that_one r.begins.text); none = that_none w h r }
sticks (once_stop {a = a} h d) l f =
    let w = fit_optional a f in
    let r = sticks d l w.it in
    record { since = r.since; begins = begun r.begins (once r.begins.text); none = once_none w h r (run_stops_later d l w.it (inl h)) }
sticks (next_stop {a = a} h d) l f =
    let w = fit_repeated a f in
    let r = sticks d l w.it in
    record { since = r.since; begins = begun r.begins (again r.begins.text no_more); none = next_none w h r (run_stops_later d l w.it (inl h)) }
sticks (later_stop {a = a} h d e) l f =
    let w = fit_repeated a f in
    let r = reads d w.it in
    let q = sticks e l f in
    record {
      since = omega (arith, ordered (r.text 0), q.since);
      begins = begun q.begins
          (again (after_read r q) q.begins.text);
      none = later_none w h r q (omega (arith, forward (r.text 0) w.it_some, q.since));
    }
