-- What is promised of a reading of a phrase. What can begin a text is what some text begins with.
use Rattle.std.specs.Prelude.{ℕ, ◌+◌, ◌≤◌}
use Rattle.lus_grammar.specs.Stream.{Stream, Agree}
use Rattle.lus_grammar.specs.Phrase.{Phrase}
use Rattle.lus_grammar.specs.Syntax.{Counts, Syntax}
use Rattle.lus_grammar.specs.Text.{Text}
use Rattle.lus_grammar.specs.Run.{Cause, unexpected, too_large}

-- the marks of s before `end`, as they stand, begin a text of the phrase at i that goes at least that far; of each limited expression there are at most `limit` tokens before `bound`
pub record Begins (limit bound : ℕ) (s : Stream) (g : Phrase) (i : ℕ) (n : Counts) (end : ℕ) : Type 0 where
  pub t : Stream
  pub j : ℕ
  pub m : Counts
  pub x : Syntax
  pub agree : Agree s t end
  pub past : end ≤ j
  pub text : Text limit bound t g i j n m x

-- with the limit on expressions, and without
abbrev pub CanBegin : ℕ → Stream → Phrase → ℕ → Counts → ℕ → Type 0
CanBegin limit s g i n end = Begins limit end s g i n end

abbrev pub CouldBegin : ℕ → Stream → Phrase → ℕ → Counts → ℕ → Type 0
CouldBegin limit s g i n end = Begins limit 0 s g i n end

-- The tokens from i up to j are a text, and with the mark at j they can't begin one, whatever the limit.
pub record Whole (limit : ℕ) (s : Stream) (g : Phrase) (i : ℕ) (n : Counts) (j : ℕ) (m : Counts) (x : Syntax) : Type 0 where
  pub text : Text limit j s g i j n m x
  pub no_more : CouldBegin limit s g i n (j + 1) → Prim.⊥

-- The tokens before k can begin a text and are none, and with the mark at k they can't begin one.
pub record Stuck (limit : ℕ) (s : Stream) (g : Phrase) (i : ℕ) (n : Counts) (k : ℕ) : Type 0 where
  pub can : CanBegin limit s g i n k
  pub cannot : CouldBegin limit s g i n (k + 1) → Prim.⊥
  pub unfinished : (m : Counts) (x : Syntax) → Text limit 0 s g i k n m x → Prim.⊥

-- The tokens before k can begin a text; with the token at k they could, but one expression would have a token too many.
pub record Large (limit : ℕ) (s : Stream) (g : Phrase) (i : ℕ) (n : Counts) (k : ℕ) : Type 0 where
  pub can : CanBegin limit s g i n k
  pub could : CouldBegin limit s g i n (k + 1)
  pub cannot : CanBegin limit s g i n (k + 1) → Prim.⊥

abbrev pub Stops : (limit : ℕ) (s : Stream) (g : Phrase) (i : ℕ) (n : Counts) → Cause → ℕ → Type 0
Stops limit s g i n unexpected k = Stuck limit s g i n k
Stops limit s g i n too_large k = Large limit s g i n k
