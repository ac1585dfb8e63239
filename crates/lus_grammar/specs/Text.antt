-- What a text of the grammar is.
use Rattle.std.specs.Prelude.{◌≡◌, ℕ, ◌+◌, ◌≤◌, ◌⊎◌, List, [], ◌∷◌, Some}
use Rattle.lus_lexer.specs.declared.token.Class.{Class}
use Rattle.lus_grammar.specs.Stream.{Stream}
use Rattle.lus_grammar.specs.Phrase.{Part, Counter, Phrase, one_of, counted, part, limited, fresh, ◌⨾◌, ◌∣◌, optional, repeated}
use Rattle.lus_grammar.specs.Grammar.{body}
use Rattle.lus_grammar.specs.Syntax.{Counts, none_before, number_of, counted_on, Syntax, leaf, numbered, node, ◌·◌, this, that, absent, present, none, some}

-- the mark at i is a token of one of these classes
abbrev pub IsOneOf : Stream → ℕ → List Class → Type 0
IsOneOf s i [] = Prim.⊥
IsOneOf s i (c ∷ cs) = ((s i).class ≡ Some c) ⊎ IsOneOf s i cs

-- of the tokens from i up to j that stand before `end` there are at most `limit`
abbrev pub IsWithin : (limit end i j : ℕ) → Type 0
IsWithin limit end i j = (j ≤ i + limit) ⊎ (end ≤ i + limit)

-- The tokens of s from i up to j are a text of the phrase, made in this way. n counts the occurrences before it in its declaration, and m those before j.
-- Each expression that the grammar limits has at most `limit` tokens before `end`.
pub data Text (limit end : ℕ) (s : Stream) : Phrase → (i j : ℕ) (n m : Counts) → Syntax → Type 0 where
  token : {cs : List Class} {i : ℕ} {n : Counts} → IsOneOf s i cs → Text limit end s (one_of cs) i (i + 1) n n (leaf (s i))
  occurrence : {k : Counter} {c : Class} {i : ℕ} {n : Counts} → (s i).class ≡ Some c → Text limit end s (counted k c) i (i + 1) n
      (counted_on k n) (numbered (s i) (number_of k n))
  line : {p : Part} {i j : ℕ} {n m : Counts} {x : Syntax} → Text limit end s (body p) i j n m x → Text limit end s (part p) i j n m (node p x)
  line_within : {p : Part} {i j : ℕ} {n m : Counts} {x : Syntax} → Text limit end s (body p) i j n m x → IsWithin limit end i j
      → Text limit end s (limited p) i j n m (node p x)
  line_anew : {p : Part} {i j : ℕ} {n m : Counts} {x : Syntax} → Text limit end s (body p) i j none_before m x → Text limit end s (fresh p) i j n n (node p x)
  both : {a b : Phrase} {i k j : ℕ} {n m o : Counts} {x y : Syntax} → Text limit end s a i k n m x → Text limit end s b k j m o y
      → Text limit end s (a ⨾ b) i j n o (x · y)
  this_one : {a b : Phrase} {i j : ℕ} {n m : Counts} {x : Syntax} → Text limit end s a i j n m x → Text limit end s (a ∣ b) i j n m (this x)
  that_one : {a b : Phrase} {i j : ℕ} {n m : Counts} {x : Syntax} → Text limit end s b i j n m x → Text limit end s (a ∣ b) i j n m (that x)
  not_once : {a : Phrase} {i : ℕ} {n : Counts} → Text limit end s (optional a) i i n n absent
  once : {a : Phrase} {i j : ℕ} {n m : Counts} {x : Syntax} → Text limit end s a i j n m x → Text limit end s (optional a) i j n m (present x)
  no_more : {a : Phrase} {i : ℕ} {n : Counts} → Text limit end s (repeated a) i i n n none
  again : {a : Phrase} {i k j : ℕ} {n m o : Counts} {x y : Syntax} → Text limit end s a i k n m x → Text limit end s (repeated a) k j m o y
      → Text limit end s (repeated a) i j n o (some x y)
