-- A reading looks at no mark behind the one at which it ends.
use Rattle.std.proofs.Common.{◌≡◌, ℕ, true, false, ◌+◌, ◌<◌, ◌≤◌, ◌⊎◌, inl, inr, List, [], ◌∷◌, length, take, refl, sym, ap, ◌∙◌, subst, arith}
use Rattle.std.proofs.lemmas.List.{get_or-take, length-take}
use Rattle.lus_lexer.specs.declared.token.Class.{Class}
use Rattle.lus_lexer.specs.declared.token.Token.{Token}
use Rattle.lus_grammar.specs.Stream.{Stream, Mark, Agree, stream, mark_of}
use Rattle.lus_grammar.specs.Phrase.{Part, Phrase, one_of, counted, part}
use Rattle.lus_grammar.specs.Grammar.{body}
use Rattle.lus_grammar.specs.Syntax.{Counts, counted_on, number_of, Syntax, leaf, numbered, node}
use Rattle.lus_grammar.specs.Text.{IsOneOf}
use Rattle.lus_grammar.specs.Starts.{code, listed, starts, Enters, Passes}
use Rattle.lus_grammar.specs.Extends.{Over, extends}
use Rattle.lus_grammar.proofs.Runs.{run_ordered, run_since}
use Rattle.lus_grammar.proofs.Texts.{moved as text_moved}
use Rattle.lus_grammar.specs.Run.{Cause, Ending, read, stop, Run, token, no_token, occurrence, no_occurrence, line, line_stop, within, within_stop, past, anew, anew_stop, both, first_stop, second_stop, this_one, this_stop, that_one, that_stop, not_once, once, once_stop, no_more, again, next_stop, later_stop}
use Rattle.lus_reader.proofs.Streams.{stream_inside, stream_outside}
use Rattle.lus_reader.proofs.Texts.{no_token as missing}

-- where a reading ends
abbrev end_of : Ending → ℕ
end_of (read j m x) = j
end_of (stop c k) = k

is_one : (s t : Stream) (i : ℕ) (cs : List Class) → t i ≡ s i → IsOneOf s i cs → IsOneOf t i cs
is_one s t i [] e w = w
is_one s t i (c ∷ cs) e (inl h) = inl (ap (λ (m : Mark). m.class) e ∙ h)
is_one s t i (c ∷ cs) e (inr w) = inr (is_one s t i cs e w)

-- what a reading of the body of a line is
pub record Opened (l : ℕ) (s : Stream) (p : Part) (i : ℕ) (n : Counts) (j : ℕ) (m : Counts) (x : Syntax) : Type 0 where
  pub inner : Syntax
  pub run : Run l s (body p) i n (read j m inner)
  pub is : x ≡ node p inner

pub opened : {l : ℕ} {s : Stream} {p : Part} {i : ℕ} {n : Counts} {j : ℕ} {m : Counts} {x : Syntax} → Run l s (part p) i n (read j m x) → Opened l s p i n j m x
opened (line {x = y} r) = record { inner = y; run = r; is = refl }

pub opened_stop : {l : ℕ} {s : Stream} {p : Part} {i : ℕ} {n : Counts} {c : Cause} {k : ℕ} → Run l s (part p) i n (stop c k) → Run l s (body p) i n (stop c k)
opened_stop (line_stop r) = r

over_moved : {l : ℕ} {s t : Stream} {p : Part} {i : ℕ} {n : Counts} → Agree s t (i + l + 1) → Over l s p i n → Over l t p i n
over_moved {l} {s} {t} {p} {i} a o = record {
  t = o.t;
  j = o.j;
  m = o.m;
  x = o.x;
  agree = λ k q. o.agree k q ∙ sym (a k q);
  past = o.past;
  text = o.text;
  none = λ j m x le d e.
      let b : t j ≡ s j = a j (omega arith) in
      o.none j m x le (text_moved s d (λ k q. sym (a k (omega arith)))) (subst (λ (y : Mark). listed (code y.class) (extends (body p)) ≡ false) b e);
}

enters_at : (s t : Stream) (i : ℕ) (g : Phrase) → t i ≡ s i → Enters s i g → Enters t i g
enters_at s t i g e h = subst (λ (y : Mark). listed (code y.class) (starts g) ≡ true) (sym e) h

passes_at : (s t : Stream) (i : ℕ) (g : Phrase) → t i ≡ s i → Passes s i g → Passes t i g
passes_at s t i g e h = subst (λ (y : Mark). listed (code y.class) (starts g) ≡ false) (sym e) h

-- the same reading of a stream that agrees as far
pub moved : {l : ℕ} {s t : Stream} {g : Phrase} {i : ℕ} {n : Counts} {e : Ending} (z : ℕ) → Agree s t z → Run l s g i n e → end_of e < z → Run l t g i n e
moved {l} {s} {t} z a (token {cs = cs} {i = i} {n = n} o) h =
    let e : t i ≡ s i = a i (omega arith) in
    subst (λ (y : Mark). Run l t (one_of cs) i n (read (i + 1) n (leaf y))) e (token (is_one s t i cs e o))
moved {l} {s} {t} z a (no_token {cs = cs} {i = i} o) h = no_token (λ w. o (is_one t s i cs (sym (a i h)) w))
moved {l} {s} {t} z a (occurrence {k = k} {c = c} {i = i} {n = n} o) h =
    let e : t i ≡ s i = a i (omega arith) in
    subst (λ (y : Mark). Run l t (counted k c) i n (read (i + 1) (counted_on k n) (numbered y (number_of k n)))) e
    (occurrence (ap (λ (m : Mark). m.class) e ∙ o))
moved {l} {s} {t} z a (no_occurrence {i = i} o) h = no_occurrence (λ w. o (sym (ap (λ (m : Mark). m.class) (a i h)) ∙ w))
moved z a (line r) h = line (moved z a r h)
moved z a (line_stop r) h = line_stop (moved z a r h)
moved z a (within r w) h = within (moved z a r h) w
moved z a (within_stop r w) h = within_stop (moved z a r h) w
moved z a (past o) h = past (over_moved (λ k q. a k (omega arith)) o)
moved z a (anew r) h = anew (moved z a r h)
moved z a (anew_stop r) h = anew_stop (moved z a r h)
moved z a (both r q) h = let y = run_ordered q in both (moved z a r (omega arith)) (moved z a q h)
moved z a (first_stop r) h = first_stop (moved z a r h)
moved z a (second_stop r q) h = let y = run_since q in second_stop (moved z a r (omega arith)) (moved z a q h)
moved {l} {s} {t} z a (this_one {a = g} {i = i} w r) h = let y = run_ordered r in this_one (enters_at s t i g (a i (omega arith)) w) (moved z a r h)
moved {l} {s} {t} z a (this_stop {a = g} {i = i} w r) h = let y = run_since r in this_stop (enters_at s t i g (a i (omega arith)) w) (moved z a r h)
moved {l} {s} {t} z a (that_one {a = g} {i = i} w r) h = let y = run_ordered r in that_one (passes_at s t i g (a i (omega arith)) w) (moved z a r h)
moved {l} {s} {t} z a (that_stop {a = g} {i = i} w r) h = let y = run_since r in that_stop (passes_at s t i g (a i (omega arith)) w) (moved z a r h)
moved {l} {s} {t} z a (not_once {a = g} {i = i} w) h = not_once (passes_at s t i g (a i h) w)
moved {l} {s} {t} z a (once {a = g} {i = i} w r) h = let y = run_ordered r in once (enters_at s t i g (a i (omega arith)) w) (moved z a r h)
moved {l} {s} {t} z a (once_stop {a = g} {i = i} w r) h = let y = run_since r in once_stop (enters_at s t i g (a i (omega arith)) w) (moved z a r h)
moved {l} {s} {t} z a (no_more {a = g} {i = i} w) h = no_more (passes_at s t i g (a i h) w)
moved {l} {s} {t} z a (again {a = g} {i = i} w r q) h = let y = run_ordered q in let x = run_ordered r in again
    (enters_at s t i g (a i (omega arith)) w) (moved z a r (omega arith)) (moved z a q h)
moved {l} {s} {t} z a (next_stop {a = g} {i = i} w r) h = let y = run_since r in next_stop (enters_at s t i g (a i (omega arith)) w) (moved z a r h)
moved {l} {s} {t} z a (later_stop {a = g} {i = i} w r q) h = let y = run_since q in let x = run_ordered r in later_stop
    (enters_at s t i g (a i (omega arith)) w) (moved z a r (omega arith)) (moved z a q h)

inside_or : (n k : ℕ) → (k < n) ⊎ (n ≤ k)
inside_or n k = grind arith

same_inside : (bytes : List ℕ) (tokens : List Token) (z k : ℕ) → k < z → k < length tokens → stream bytes tokens k ≡ stream bytes (take z tokens) k
same_inside bytes tokens z k q l =
    let h : k < length (take z tokens) = omega (arith, length-take z tokens) in
    stream_inside bytes tokens k missing l ∙ ap (mark_of bytes) (sym (get_or-take z tokens k missing q)) ∙ sym (stream_inside bytes (take z tokens) k missing h)

same_outside : (bytes : List ℕ) (tokens : List Token) (z k : ℕ) → k < z → length tokens ≤ k → stream bytes tokens k ≡ stream bytes (take z tokens) k
same_outside bytes tokens z k q l =
    let h : length (take z tokens) ≤ k = omega (arith, length-take z tokens) in
    stream_outside bytes tokens k l ∙ sym (stream_outside bytes (take z tokens) k h)

-- the tokens before a place are the first ones
pub front_agrees : (bytes : List ℕ) (tokens : List Token) (z : ℕ) → Agree (stream bytes (take z tokens)) (stream bytes tokens) z
front_agrees bytes tokens z = λ k q. elim (inside_or (length tokens) k) [ inl l ↦ same_inside bytes tokens z k q l | inr l ↦ same_outside bytes tokens z k q l ]
