-- What a reading promises of the texts of every stream that agrees with its own.
use Rattle.std.proofs.Common.{◌≡◌, ℕ, ◌+◌, ◌<◌, ◌≤◌, inl, inr, subst, arith, Bool, true, false, List, ◌++◌, if◌then◌else◌}
use Rattle.std.proofs.lemmas.Bool.{cases_Bool, both_ways}
use Rattle.lus_grammar.specs.Stream.{Stream, Agree}
use Rattle.lus_grammar.specs.Phrase.{Part, Phrase, ◌⨾◌, ◌∣◌, optional, repeated}
use Rattle.lus_grammar.specs.Grammar.{body}
use Rattle.lus_grammar.specs.Syntax.{Counts, Syntax}
use Rattle.lus_grammar.specs.Text.{Text}
use Rattle.lus_grammar.specs.Starts.{code, codes_of, listed, may_be_nothing, starts, Enters, Passes}
use Rattle.lus_grammar.specs.Extends.{extends, next_classes}
use Rattle.lus_grammar.specs.Run.{Cause, unexpected, too_large}
use Rattle.lus_grammar.specs.Reading.{Begins}
use Rattle.lus_grammar.proofs.Listed.{out_subset, apart_left, out_left, out_right}
use Rattle.lus_grammar.proofs.Fits.{FitBoth, FitRepeated, Ends, body_extends}
use Rattle.lus_grammar.proofs.Texts.{ordered, forward, begins_with, before_or_not}

-- t goes on otherwise at j, and further
pub record Parts (s t : Stream) (j j' : ℕ) : Type 0 where
  pub further : j < j'
  pub other : t j ≡ s j → ⊥

-- the same end, or a further one of other marks
pub data After (s t : Stream) (j : ℕ) (m : Counts) (x : Syntax) : ℕ → Counts → Syntax → Type 0 where
  same : After s t j m x j m x
  parts : {j' : ℕ} {m' : Counts} {x' : Syntax} → Parts s t j j' → After s t j m x j' m' x'

pub record Reads (limit : ℕ) (s : Stream) (g : Phrase) (i : ℕ) (n : Counts) (j : ℕ) (m : Counts) (x : Syntax) : Type 0 where
  pub text : (end : ℕ) → Text limit end s g i j n m x
  pub only : (t : Stream) (bound j' : ℕ) (m' : Counts) (x' : Syntax) → Agree s t j → Text limit bound t g i j' n m' x' → Ends t g j' → After s t j m x j' m' x'

-- how far the marks are known to begin a text, and where the limit is to hold of a text that there is none of
abbrev pub reach : Cause → ℕ → ℕ
reach unexpected k = k
reach too_large k = k + 1

abbrev pub least : Cause → ℕ → ℕ
least unexpected k = 0
least too_large k = k + 1

pub record Sticks (limit : ℕ) (s : Stream) (g : Phrase) (i : ℕ) (n : Counts) (c : Cause) (k : ℕ) : Type 0 where
  pub since : i ≤ k
  pub begins : Begins limit k s g i n (reach c k)
  pub none : (t : Stream) (bound j : ℕ) (m : Counts) (x : Syntax) → least c k ≤ bound → Agree s t (reach c k)
      → Text limit bound t g i j n m x → Ends t g j → Parts s t k j

pub reaches : (c : Cause) (k : ℕ) → k ≤ reach c k
reaches unexpected k = omega arith
reaches too_large k = omega arith

pub widen : {s t : Stream} {j k : ℕ} (k' : ℕ) → Parts s t j k → k ≤ k' → Parts s t j k'
widen k' p h = record { further = omega (arith, p.further); other = p.other }

-- a stream that agrees past where texts part
pub not_parted : {s t : Stream} {j k l : ℕ} → Parts s t j k → Agree s t l → j < l → ⊥
not_parted {j = j} p h lt = p.other (h j lt)

-- where a text of a line ends, one of its phrase does
pub body_ends : (t : Stream) (p : Part) (j : ℕ) → listed (code (t j).class) (codes_of (next_classes p)) ≡ false → Ends t (body p) j
body_ends t p j h = record { over = out_subset (extends (body p)) (codes_of (next_classes p)) (code (t j).class) (body_extends p) h }

module _ (a b : Phrase) (f : FitBoth a b) where
  -- the first part of a text ends where the second begins, and the second where both do
  pub first_ends : {limit end : ℕ} (t : Stream) (k j : ℕ) {m o : Counts} {y : Syntax} → Text limit end t b k j m o y → Ends t (a ⨾ b) j → Ends t a k
  first_ends t k j d h =
      elim (before_or_not k j (ordered d)) as (λ _. Ends t a k) [
        | inl u ↦ record { over = apart_left (extends a) (starts b) (code (t k).class) f.parted (begins_with d u) }
        | inr u ↦ elim (cases_Bool (may_be_nothing b)) as (λ _. Ends t a k) [
          | inl v ↦ record {
            over = subst (λ (z : ℕ). listed (code (t z).class) (extends a) ≡ false) u
                (at (may_be_nothing b) (extends a) (extends b) (code (t j).class) v h.over);
          }
          | inr v ↦ absurd (omega (arith, forward d v))
        ]
      ]
    where
      at : (b : Bool) (xs ys : List ℕ) (c : ℕ) → b ≡ true → listed c (if b then xs ++ ys else ys) ≡ false → listed c xs ≡ false
      at true xs ys c e h = out_left xs ys c h
      at false xs ys c e h = absurd (cc)

  pub second_ends : (t : Stream) (j : ℕ) → Ends t (a ⨾ b) j → Ends t b j
  second_ends t j h = record { over = at (may_be_nothing b) (extends a) (extends b) (code (t j).class) h.over }
    where
      at : (b : Bool) (xs ys : List ℕ) (c : ℕ) → listed c (if b then xs ++ ys else ys) ≡ false → listed c ys ≡ false
      at true xs ys c h = out_right xs ys c h
      at false xs ys c h = h

pub one_ends : (a b : Phrase) (t : Stream) (j : ℕ) → Ends t (a ∣ b) j → Ends t a j
one_ends a b t j h = record { over = out_left (extends a) (extends b) (code (t j).class) h.over }

pub other_ends : (a b : Phrase) (t : Stream) (j : ℕ) → Ends t (a ∣ b) j → Ends t b j
other_ends a b t j h = record { over = out_right (extends a) (extends b) (code (t j).class) h.over }

-- behind what may stand once or more often, no more of it begins
pub optional_ends : (a : Phrase) (t : Stream) (j : ℕ) → Ends t (optional a) j → Ends t a j
optional_ends a t j h = record { over = out_right (starts a) (extends a) (code (t j).class) h.over }

pub optional_passes : (a : Phrase) (t : Stream) (j : ℕ) → Ends t (optional a) j → Passes t j a
optional_passes a t j h = out_left (starts a) (extends a) (code (t j).class) h.over

pub repeated_passes : (a : Phrase) (t : Stream) (j : ℕ) → Ends t (repeated a) j → Passes t j a
repeated_passes a t j h = out_left (starts a) (extends a) (code (t j).class) h.over

pub next_ends : (a : Phrase) → FitRepeated a → {limit end : ℕ} (t : Stream) (k j : ℕ) {m o : Counts} {y : Syntax} → Text limit end t
    (repeated a) k j m o y → Ends t (repeated a) j → Ends t a k
next_ends a f t k j d h =
    elim (before_or_not k j (ordered d)) as (λ _. Ends t a k) [
      | inl u ↦ record { over = apart_left (extends a) (starts a) (code (t k).class) f.parted (begins_with d u) }
      | inr u ↦ record {
        over = subst (λ (z : ℕ). listed (code (t z).class) (extends a) ≡ false) u
            (out_right (starts a) (extends a) (code (t j).class) h.over);
      }
    ]

-- a mark that both enters and passes
pub enters_not : (s t : Stream) (i : ℕ) (a : Phrase) → Enters t i a → Passes s i a → t i ≡ s i → ⊥
enters_not s t i a h e q = both_ways _ e (subst (λ z. listed (code z.class) (starts a) ≡ true) q h)

pub passes_not : (s t : Stream) (i : ℕ) (a : Phrase) → Passes t i a → Enters s i a → t i ≡ s i → ⊥
passes_not s t i a h e q = both_ways _ (subst (λ z. listed (code z.class) (starts a) ≡ false) q h) e
