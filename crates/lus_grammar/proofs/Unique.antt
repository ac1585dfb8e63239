-- Every text that ends where it can't go on is read, so there is one at most.
use Rattle.std.proofs.Common.{◌≡◌, ℕ, ◌+◌, ◌≤◌, inl, inr, refl, arith, true, None}
use Rattle.lus_grammar.specs.Stream.{Stream}
use Rattle.lus_grammar.specs.Phrase.{Phrase}
use Rattle.lus_grammar.specs.Syntax.{Counts, Syntax}
use Rattle.lus_grammar.specs.Text.{IsWithin, Text, token, occurrence, line, line_within, line_anew, both, this_one, that_one, not_once, once, no_more, again}
use Rattle.lus_grammar.specs.Starts.{code, starts}
use Rattle.lus_grammar.specs.Run.{Run, read, token, occurrence, line, within, anew, both, this_one, that_one, not_once, once, no_more, again}
use Rattle.lus_grammar.proofs.Listed.{apart_left}
use Rattle.lus_grammar.proofs.Fits.{fits, fit_both, fit_either, fit_optional, fit_repeated, Ends, body_fits}
use Rattle.lus_grammar.proofs.Texts.{ordered, forward, begins_with, short_within}
use Rattle.lus_grammar.proofs.Promise.{After, same, parts, body_ends, first_ends, second_ends, one_ends, other_ends, optional_ends, optional_passes, repeated_passes, next_ends}
use Rattle.lus_grammar.proofs.Ended.{end_ends}
use Rattle.lus_grammar.proofs.Read.{reads}

length_within : (limit end i j : ℕ) → j ≤ end → IsWithin limit end i j → j ≤ i + limit
length_within limit end i j le (inl h) = h
length_within limit end i j le (inr h) = omega arith

pub run_of : {limit end : ℕ} {s : Stream} {g : Phrase} {i j : ℕ} {n m : Counts} {x : Syntax} → Text limit end s g i j n m x → j ≤ end
    → fits g ≡ true → Ends s g j → Run limit s g i n (read j m x)
run_of (token h) le f st = token h
run_of (occurrence h) le f st = occurrence h
run_of {s = s} {j = j} (line {p = p} d) le f st = line (run_of d le (body_fits p) (body_ends s p j st.over))
run_of {limit} {end} {s = s} {i = i} {j = j} (line_within {p = p} d w) le f st = within
    (run_of d le (body_fits p) (body_ends s p j st.over)) (length_within limit end i j le w)
run_of {s = s} {j = j} (line_anew {p = p} d) le f st = anew (run_of d le (body_fits p) (body_ends s p j st.over))
run_of {s = s} {j = j} (both {a = a} {b = b} {k = k} d e) le f st =
    let w = fit_both a b f in
    both (run_of d (omega (arith, ordered e)) w.first (first_ends a b w s k j e st)) (run_of e le w.second (second_ends a b w s j st))
run_of {s = s} {j = j} (this_one {a = a} {b = b} d) le f st =
    let w = fit_either a b f in
    this_one (begins_with d (forward d w.one_some)) (run_of d le w.one (one_ends a b s j st))
run_of {s = s} {i = i} {j = j} (that_one {a = a} {b = b} d) le f st =
    let w = fit_either a b f in
    that_one (apart_left (starts a) (starts b) (code (s i).class) w.parted (begins_with d (forward d w.other_some)))
    (run_of d le w.other (other_ends a b s j st))
run_of {s = s} {i = i} (not_once {a = a}) le f st = not_once (optional_passes a s i st)
run_of {s = s} {j = j} (once {a = a} d) le f st =
    let w = fit_optional a f in
    once (begins_with d (forward d w.it_some)) (run_of d le w.it (optional_ends a s j st))
run_of {s = s} {i = i} (no_more {a = a}) le f st = no_more (repeated_passes a s i st)
run_of {s = s} {j = j} (again {a = a} {k = k} d e) le f st =
    let w = fit_repeated a f in
    again (begins_with d (forward d w.it_some)) (run_of d (omega (arith, ordered e)) w.it (next_ends a w s k j e st)) (run_of e le f st)

-- the same end, counts and syntax
pub record Same (j : ℕ) (m : Counts) (x : Syntax) (j' : ℕ) (m' : Counts) (x' : Syntax) : Type 0 where
  pub place : j' ≡ j
  pub counts : m' ≡ m
  pub syntax : x' ≡ x

same_after : {s : Stream} {j : ℕ} {m : Counts} {x : Syntax} {j' : ℕ} {m' : Counts} {x' : Syntax} → After s s j m x j' m' x' → Same j m x j' m' x'
same_after same = record { place = refl; counts = refl; syntax = refl }
same_after (parts p) = absurd (p.other refl)

-- a reading is of the only text of its stream
pub only_text : {limit bound : ℕ} {s : Stream} {g : Phrase} {i j : ℕ} {n m : Counts} {x : Syntax} {j' : ℕ} {m' : Counts} {x' : Syntax}
    → Run limit s g i n (read j m x) → fits g ≡ true → Text limit bound s g i j' n m' x' → Ends s g j' → Same j m x j' m' x'
only_text {bound = bound} {s = s} {j' = j'} {m' = m'} {x' = x'} d f e st = same_after ((reads d f).only s bound j' m' x' (λ y lt. refl) e st)

-- whatever limits hold of the two
pub one_text : {limit end limit' end' : ℕ} {s : Stream} {g : Phrase} {i j j' : ℕ} {n m m' : Counts} {x x' : Syntax}
    → Text limit end s g i j n m x → Text limit' end' s g i j' n m' x' → fits g ≡ true → Ends s g j → Ends s g j' → Same j m x j' m' x'
one_text {i = i} {j = j} {j' = j'} d e f st st' =
    let most = j + j' in
    only_text (run_of (short_within most j i (omega arith) (omega arith) d) (omega arith) f st) f (short_within most 0 i (omega arith) (omega arith) e) st'

pub one_syntax : {limit end limit' end' : ℕ} {s : Stream} {g : Phrase} {i j j' : ℕ} {n m m' : Counts} {x x' : Syntax}
    → Text limit end s g i j n m x → Text limit' end' s g i j' n m' x' → fits g ≡ true → (s j).class ≡ None → (s j').class ≡ None
    → Same j m x j' m' x'
one_syntax {s = s} {g = g} {j = j} {j' = j'} d e f h h' = one_text d e f (end_ends s g j h) (end_ends s g j' h')
