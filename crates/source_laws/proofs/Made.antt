-- What holds of a line of the grammar whenever it holds of the lines in it, holds of the lines of every text.
use Rattle.std.proofs.Common.{ℕ, List}
use Rattle.lus_lexer.specs.declared.token.Class.{Class}
use Rattle.lus_grammar.specs.Stream.{Stream, Mark}
use Rattle.lus_grammar.specs.Phrase.{Part, Counter, Phrase, one_of, counted, part, limited, fresh, ◌⨾◌, ◌∣◌, optional, repeated}
use Rattle.lus_grammar.specs.Grammar.{body}
use Rattle.lus_grammar.specs.Syntax.{Counts, Syntax, leaf, numbered, node, ◌·◌, this, that, absent, present, none, some}
use Rattle.lus_grammar.specs.Text as G
use Rattle.lus_grammar.specs.Text.{IsOneOf, Text}

-- a text of a phrase, by its tokens and by what holds of the lines in it
pub data Made (H : Part → Syntax → Type 0) (s : Stream) : Phrase → Syntax → Type 0 where
  token : {cs : List Class} {i : ℕ} → IsOneOf s i cs → Made H s (one_of cs) (leaf (s i))
  occurrence : {k : Counter} {c : Class} {t : Mark} {d : ℕ} → Made H s (counted k c) (numbered t d)
  line : {p : Part} {x : Syntax} → H p x → Made H s (part p) x
  line_within : {p : Part} {x : Syntax} → H p x → Made H s (limited p) x
  line_anew : {p : Part} {x : Syntax} → H p x → Made H s (fresh p) x
  both : {a b : Phrase} {x y : Syntax} → Made H s a x → Made H s b y → Made H s (a ⨾ b) (x · y)
  this_one : {a b : Phrase} {x : Syntax} → Made H s a x → Made H s (a ∣ b) (this x)
  that_one : {a b : Phrase} {x : Syntax} → Made H s b x → Made H s (a ∣ b) (that x)
  not_once : {a : Phrase} → Made H s (optional a) absent
  once : {a : Phrase} {x : Syntax} → Made H s a x → Made H s (optional a) (present x)
  no_more : {a : Phrase} → Made H s (repeated a) none
  again : {a : Phrase} {x y : Syntax} → Made H s a x → Made H s (repeated a) y → Made H s (repeated a) (some x y)

pub made : {limit end : ℕ} {s : Stream} (H : Part → Syntax → Type 0) →
    ((p : Part) (x : Syntax) → Made H s (body p) x → H p (node p x)) →
    {g : Phrase} {i j : ℕ} {n m : Counts} {x : Syntax} → Text limit end s g i j n m x → Made H s g x
made H h (G.token t) = token t
made H h (G.occurrence t) = occurrence
made H h (G.line {p = p} {x = x} a) = line (h p x (made H h a))
made H h (G.line_within {p = p} {x = x} a l) = line_within (h p x (made H h a))
made H h (G.line_anew {p = p} {x = x} a) = line_anew (h p x (made H h a))
made H h (G.both a b) = both (made H h a) (made H h b)
made H h (G.this_one a) = this_one (made H h a)
made H h (G.that_one a) = that_one (made H h a)
made H h G.not_once = not_once
made H h (G.once a) = once (made H h a)
made H h G.no_more = no_more
made H h (G.again a b) = again (made H h a) (made H h b)

pub of_line : {H : Part → Syntax → Type 0} {s : Stream} {p : Part} {x : Syntax} → Made H s (part p) x → H p x
of_line (line h) = h
