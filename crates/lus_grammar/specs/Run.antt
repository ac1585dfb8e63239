-- Reading from left to right with one token of lookahead: what a reader of a phrase comes to.
use Rattle.std.specs.Prelude.{◌≡◌, ℕ, ◌+◌, ◌≤◌, List, Some}
use Rattle.lus_lexer.specs.declared.token.Class.{Class}
use Rattle.lus_grammar.specs.Stream.{Stream}
use Rattle.lus_grammar.specs.Phrase.{Part, Counter, Phrase, one_of, counted, part, limited, fresh, ◌⨾◌, ◌∣◌, optional, repeated}
use Rattle.lus_grammar.specs.Grammar.{body}
use Rattle.lus_grammar.specs.Syntax.{Counts, none_before, number_of, counted_on, Syntax, leaf, numbered, node, ◌·◌, this, that, absent, present, none, some}
use Rattle.lus_grammar.specs.Text.{IsOneOf}
use Rattle.lus_grammar.specs.Starts.{Enters, Passes}
use Rattle.lus_grammar.specs.Extends.{Over}

pub data Cause : Type 0 where
  unexpected too_large : Cause

-- a text up to a place, with the counts there and how it is made; or the place at which no reading goes on
pub data Ending : Type 0 where
  read : ℕ → Counts → Syntax → Ending
  stop : Cause → ℕ → Ending

pub data Run (limit : ℕ) (s : Stream) : Phrase → (i : ℕ) (n : Counts) → Ending → Type 0 where
  token : {cs : List Class} {i : ℕ} {n : Counts} → IsOneOf s i cs → Run limit s (one_of cs) i n (read (i + 1) n (leaf (s i)))
  no_token : {cs : List Class} {i : ℕ} {n : Counts} → (IsOneOf s i cs → Prim.⊥) → Run limit s (one_of cs) i n (stop unexpected i)
  occurrence : {k : Counter} {c : Class} {i : ℕ} {n : Counts} → (s i).class ≡ Some c → Run limit s (counted k c) i n
      (read (i + 1) (counted_on k n) (numbered (s i) (number_of k n)))
  no_occurrence : {k : Counter} {c : Class} {i : ℕ} {n : Counts} → ((s i).class ≡ Some c → Prim.⊥) → Run limit s (counted k c) i n (stop unexpected i)
  line : {p : Part} {i j : ℕ} {n m : Counts} {x : Syntax} → Run limit s (body p) i n (read j m x) → Run limit s (part p) i n (read j m (node p x))
  line_stop : {p : Part} {i k : ℕ} {n : Counts} {c : Cause} → Run limit s (body p) i n (stop c k) → Run limit s (part p) i n (stop c k)
  within : {p : Part} {i j : ℕ} {n m : Counts} {x : Syntax} → Run limit s (body p) i n (read j m x) → j ≤ i + limit → Run limit s
      (limited p) i n (read j m (node p x))
  within_stop : {p : Part} {i k : ℕ} {n : Counts} {c : Cause} → Run limit s (body p) i n (stop c k) → k ≤ i + limit → Run limit s (limited p) i n (stop c k)
  -- The limit is passed. From a reading of the line over any stream that agrees with s up to the token past the limit, and that goes past it, `Over` follows:
  -- by the lemmas over_read (it ends at read j .., i + limit < j) and over_stop (it ends at stop c k, i + limit < k) of the proofs.
  past : {p : Part} {i : ℕ} {n : Counts} → Over limit s p i n → Run limit s (limited p) i n (stop too_large (i + limit))
  anew : {p : Part} {i j : ℕ} {n m : Counts} {x : Syntax} → Run limit s (body p) i none_before (read j m x) → Run limit s (fresh p) i n (read j n (node p x))
  anew_stop : {p : Part} {i k : ℕ} {n : Counts} {c : Cause} → Run limit s (body p) i none_before (stop c k) → Run limit s (fresh p) i n (stop c k)
  both : {a b : Phrase} {i k j : ℕ} {n m o : Counts} {x y : Syntax} → Run limit s a i n (read k m x) → Run limit s b k m (read j o y)
      → Run limit s (a ⨾ b) i n (read j o (x · y))
  first_stop : {a b : Phrase} {i k : ℕ} {n : Counts} {c : Cause} → Run limit s a i n (stop c k) → Run limit s (a ⨾ b) i n (stop c k)
  second_stop : {a b : Phrase} {i k l : ℕ} {n m : Counts} {x : Syntax} {c : Cause} → Run limit s a i n (read k m x) → Run limit s b k m
      (stop c l) → Run limit s (a ⨾ b) i n (stop c l)
  this_one : {a b : Phrase} {i j : ℕ} {n m : Counts} {x : Syntax} → Enters s i a → Run limit s a i n (read j m x) → Run limit s (a ∣ b) i n (read j m (this x))
  this_stop : {a b : Phrase} {i k : ℕ} {n : Counts} {c : Cause} → Enters s i a → Run limit s a i n (stop c k) → Run limit s (a ∣ b) i n (stop c k)
  that_one : {a b : Phrase} {i j : ℕ} {n m : Counts} {x : Syntax} → Passes s i a → Run limit s b i n (read j m x) → Run limit s (a ∣ b) i n (read j m (that x))
  that_stop : {a b : Phrase} {i k : ℕ} {n : Counts} {c : Cause} → Passes s i a → Run limit s b i n (stop c k) → Run limit s (a ∣ b) i n (stop c k)
  not_once : {a : Phrase} {i : ℕ} {n : Counts} → Passes s i a → Run limit s (optional a) i n (read i n absent)
  once : {a : Phrase} {i j : ℕ} {n m : Counts} {x : Syntax} → Enters s i a → Run limit s a i n (read j m x) → Run limit s (optional a) i n
      (read j m (present x))
  once_stop : {a : Phrase} {i k : ℕ} {n : Counts} {c : Cause} → Enters s i a → Run limit s a i n (stop c k) → Run limit s (optional a) i n (stop c k)
  no_more : {a : Phrase} {i : ℕ} {n : Counts} → Passes s i a → Run limit s (repeated a) i n (read i n none)
  again : {a : Phrase} {i k j : ℕ} {n m o : Counts} {x y : Syntax} → Enters s i a → Run limit s a i n (read k m x) → Run limit s
      (repeated a) k m (read j o y) → Run limit s (repeated a) i n (read j o (some x y))
  next_stop : {a : Phrase} {i k : ℕ} {n : Counts} {c : Cause} → Enters s i a → Run limit s a i n (stop c k) → Run limit s (repeated a) i n (stop c k)
  later_stop : {a : Phrase} {i k l : ℕ} {n m : Counts} {x : Syntax} {c : Cause} → Enters s i a → Run limit s a i n (read k m x)
      → Run limit s (repeated a) k m (stop c l) → Run limit s (repeated a) i n (stop c l)
