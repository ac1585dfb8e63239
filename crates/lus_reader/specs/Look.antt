-- What a look at one token tells.
use Rattle.std.specs.Prelude.{◌≡◌, ◌<◌, ℕ, Bool, true, false, List, ◌∷◌, [], ◌++◌, Option, Some, Result, MatchResult, MatchBool}
use Rattle.lus_lexer.specs.declared.token.Token.{Token}
use Rattle.lus_lexer.specs.declared.token.Class.{Class}
use Rattle.lus_lexer.specs.declared.token.Class.TheVariants as C
use Rattle.lus_lexer.specs.declared.token.Keyword.TheVariants as K
use Rattle.lus_lexer.specs.declared.token.Sign.TheVariants as S
use Rattle.lus_grammar.specs.Stream.{Stream}
use Rattle.lus_grammar.specs.Phrase.{Phrase, one_of}
use Rattle.lus_grammar.specs.Syntax.{Counts}
use Rattle.lus_grammar.specs.Run.{Run, stop, unexpected}
use Rattle.lus_grammar.specs.Starts.{code, listed, codes_of, primaries, Passes}
use Rattle.lus_grammar.specs.Source.{limit, AreTokens}
use Rattle.lus_reader.specs.declared.start.Start.{Start}
use Rattle.lus_reader.specs.declared.start.Start.TheVariants.{Number, Truth, Name, DoubleColon, Merge, Condact, Open, Other}
use Rattle.lus_reader.specs.declared.stop.Stop.{Stop}
use Rattle.lus_reader.specs.declared.stop.Stop.TheVariants.{Memory, Unexpected}

-- the first ones of the tokens that the bytes are cut into
pub record AreFirst (bytes : List ℕ) (tokens : List Token) : Type 0 where
  pub rest : List Token
  pub cut : AreTokens bytes (tokens ++ rest)

-- the mark is not of that class
pub record Differs (s : Stream) (i : ℕ) (c : Class) : Type 0 where
  pub other : (s i).class ≡ Some c → Prim.⊥
  pub passes : Passes s i (one_of (c ∷ []))

abbrev pub Stands : Stream → ℕ → Class → Bool → Type 0
Stands s i c b = MatchBool b ((s i).class ≡ Some c) (Differs s i c)

-- why a phrase is not read
abbrev pub Stopped : Stream → Phrase → ℕ → Counts → Stop → Type 0
Stopped s g i n Memory = Unit {0}
Stopped s g i n (Unexpected k) = Run limit s g i n (stop unexpected k)

-- the mark is of that class, or it is refused
abbrev pub Expects : {A : Type 0} → Stream → ℕ → Class → Result A Stop → Type 0
Expects s i c r = MatchResult r (λ u. (s i).class ≡ Some c) (λ e. (n : Counts) → Stopped s (one_of (c ∷ [])) i n e)

abbrev pub IsTruth : Stream → ℕ → Bool → Type 0
IsTruth s i true = (s i).class ≡ Some (C.Keyword K.True)
IsTruth s i false = (s i).class ≡ Some (C.Keyword K.False)

-- the first token of a primary
abbrev pub start_of : Option Class → Start
start_of (Some C.Number) = Number
start_of (Some (C.Keyword K.True)) = Truth true
start_of (Some (C.Keyword K.False)) = Truth false
start_of (Some C.Ident) = Name
start_of (Some (C.Sign S.DoubleColon)) = DoubleColon
start_of (Some (C.Keyword K.Merge)) = Merge
start_of (Some (C.Keyword K.Condact)) = Condact
start_of (Some (C.Sign S.Open)) = Open
start_of _ = Other

abbrev pub Begins : Stream → ℕ → Start → Type 0
Begins s i Number = (s i).class ≡ Some C.Number
Begins s i (Truth b) = IsTruth s i b
Begins s i Name = (s i).class ≡ Some C.Ident
Begins s i DoubleColon = (s i).class ≡ Some (C.Sign S.DoubleColon)
Begins s i Merge = (s i).class ≡ Some (C.Keyword K.Merge)
Begins s i Condact = (s i).class ≡ Some (C.Keyword K.Condact)
Begins s i Open = (s i).class ≡ Some (C.Sign S.Open)
Begins s i Other = listed (code (s i).class) (codes_of primaries) ≡ false

-- a primary begins with a token that is there
abbrev pub IsInside : ℕ → ℕ → Start → Type 0
IsInside i n Number = i < n
IsInside i n (Truth b) = i < n
IsInside i n Name = i < n
IsInside i n DoubleColon = i < n
IsInside i n Merge = i < n
IsInside i n Condact = i < n
IsInside i n Open = i < n
IsInside i n Other = Unit {0}

abbrev pub is_left_out : Option Class → Bool
is_left_out (Some (C.LeftOut w)) = true
is_left_out _ = false
