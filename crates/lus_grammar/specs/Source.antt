-- What a source is, and where and why one is refused.
use Rattle.std.specs.Prelude.{◌≡◌, ℕ, ◌+◌, ◌⊎◌, List, length, Some, None}
use Rattle.lus_tree.specs.declared.refusal.What.{What}
use Rattle.lus_tree.specs.Tree.{Program}
use Rattle.lus_tree.specs.Numbers.{AreNumbered}
use Rattle.lus_tree.specs.Reason.{Reason, unexpected as unexpected_token, too_large as too_large_expression, left_out, memory, Refused, what_view}
use Rattle.lus_lexer.specs.declared.token.Token.{Token}
use Rattle.lus_lexer.specs.declared.token.Class.TheVariants.{LeftOut}
use Rattle.lus_lexer.specs.declared.token.LeftOut.{LeftOut as LeftOutWord}
use Rattle.lus_lexer.specs.Tokens.{byte, Lexes, whole, fault}
use Rattle.lus_grammar.specs.Stream.{Mark, Stream, stream}
use Rattle.lus_grammar.specs.Phrase.{Phrase, part, Program as ProgramPart}
use Rattle.lus_grammar.specs.Syntax.{Counts, none_before, Syntax}
use Rattle.lus_grammar.specs.Text.{Text}
use Rattle.lus_grammar.specs.Reading.{CanBegin, CouldBegin}
use Rattle.lus_grammar.specs.Run.{Cause, unexpected, too_large}
use Rattle.lus_grammar.specs.Programs.{program_of}

-- the most tokens of one expression of an item, of a contract item, of a constant or of an import's argument
abbrev pub limit : ℕ
limit = 1000

-- the bytes are cut into these tokens
abbrev pub AreTokens : List ℕ → List Token → Type 0
AreTokens bytes tokens = Lexes (byte bytes) (length bytes) 0 tokens whole

abbrev pub program : Phrase
program = part ProgramPart

-- The tokens of the bytes, all of them, are a text of the grammar, and p is its tree.
pub record IsSource (bytes : List ℕ) (p : Program) : Type 0 where
  pub tokens : List Token
  pub cut : AreTokens bytes tokens
  pub counts : Counts
  pub syntax : Syntax
  pub text : Text limit (length tokens) (stream bytes tokens) program 0 (length tokens) none_before counts syntax
  pub is : p ≡ program_of syntax

-- why the mark is refused where no text can go on with it
pub data IsReason (m : Mark) : Cause → Reason → Type 0 where
  word_left_out : (w : LeftOutWord) → m.class ≡ Some (LeftOut w) → IsReason m unexpected (left_out m.text)
  other : ((w : LeftOutWord) → m.class ≡ Some (LeftOut w) → Prim.⊥) → IsReason m unexpected unexpected_token
  past_limit : IsReason m too_large too_large_expression

-- The tokens before k can begin a program, and with the mark at k, the end included, they can't be or begin one: not whatever the limit, or only because one expression would have a token too many.
abbrev pub IsFirst : Stream → ℕ → Cause → Type 0
IsFirst s k unexpected = CanBegin limit s program 0 none_before k × (CouldBegin limit s program 0 none_before (k + 1) → Prim.⊥) ×
    ((m : Counts) (x : Syntax) → (s k).class ≡ None → Text limit 0 s program 0 k none_before m x → Prim.⊥)
IsFirst s k too_large = CanBegin limit s program 0 none_before k × CouldBegin limit s program 0 none_before (k + 1) ×
    (CanBegin limit s program 0 none_before (k + 1) → Prim.⊥)

-- the first mark with which the tokens of the bytes are no program, and why
pub record IsOutside (bytes : List ℕ) (r : Refused) : Type 0 where
  pub tokens : List Token
  pub cut : AreTokens bytes tokens
  pub k : ℕ
  pub cause : Cause
  pub first : IsFirst (stream bytes tokens) k cause
  pub at : r.at ≡ (stream bytes tokens k).at
  pub reason : IsReason (stream bytes tokens k) cause r.reason

-- The first fault of the tokens: nothing is spelled, a comment has no end, or a number is too wide.
pub record IsUncut (bytes : List ℕ) (r : Refused) : Type 0 where
  pub tokens : List Token
  pub what : What
  pub fault : Lexes (byte bytes) (length bytes) 0 tokens (fault r.at what)
  pub reason : r.reason ≡ what_view what

-- why a source is refused, and where: its tokens, and then its grammar
pub data IsRefused (bytes : List ℕ) (r : Refused) : Type 0 where
  uncut : IsUncut bytes r → IsRefused bytes r
  outside : IsOutside bytes r → IsRefused bytes r

-- what a reader answers in place of a tree
abbrev pub IsRefusal : List ℕ → Refused → Type 0
IsRefusal bytes r = (r.reason ≡ memory) ⊎ IsRefused bytes r

-- No text has two trees.
abbrev pub OneTree : Type 0
OneTree = (bytes : List ℕ) (p q : Program) → IsSource bytes p → IsSource bytes q → p ≡ q

-- The occurrences of each declaration of a source are numbered from 1 on, each kind by itself and each number once.
abbrev pub NumberedSources : Type 0
NumberedSources = (bytes : List ℕ) (p : Program) → IsSource bytes p → AreNumbered p
