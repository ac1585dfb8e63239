-- Every class there is, so that what holds of each is a computation; and a code tells its class.
use Rattle.std.proofs.Common.{◌≡◌, ℕ, zero, suc, Bool, true, false, ◌==◌, ◌⊎◌, inl, inr, refl, sym, ap, ◌∙◌, subst, List, [], ◌∷◌, get_or, Option, Some, None}
use Rattle.std.proofs.lemmas.Bool.{and_parts, or_cases, or_left, or_right, eqb-true, eq-eqb, false_from_ne_true}
use Rattle.std.specs.List.{list_all}
use Rattle.lus_lexer.specs.declared.token.Class.{Class}
use Rattle.lus_lexer.specs.declared.token.Class.TheVariants as C
use Rattle.lus_lexer.specs.declared.token.Keyword.TheVariants as K
use Rattle.lus_lexer.specs.declared.token.Sign.TheVariants as S
use Rattle.lus_lexer.specs.declared.token.LeftOut.{LeftOut}
use Rattle.lus_lexer.specs.declared.token.LeftOut.TheVariants as L
use Rattle.lus_lexer.specs.declared.token.Opening.TheVariants as O
use Rattle.lus_lexer.specs.declared.token.Closing.TheVariants as E
use Rattle.lus_lexer.specs.declared.token.Annotation.TheVariants as A
use Rattle.lus_grammar.specs.Stream.{Stream}
use Rattle.lus_grammar.specs.Text.{IsOneOf}
use Rattle.lus_grammar.specs.Starts.{class_code, code, listed, codes_of}

-- the end, and each class that the grammar has at its code; then those that it leaves out
abbrev pub every_class : List (Option Class)
every_class = None ∷ None ∷ Some C.Ident ∷ Some C.Number ∷ Some C.Text ∷ None ∷ None ∷ None ∷ None ∷ None ∷ Some (C.Sign S.Open) ∷ Some
    (C.Sign S.Close) ∷ Some (C.Sign S.Comma) ∷ Some (C.Sign S.Semicolon) ∷ Some (C.Sign S.Colon) ∷ Some (C.Sign S.DoubleColon) ∷ Some
    (C.Sign S.Equals) ∷ Some (C.Sign S.Less) ∷ Some (C.Sign S.AtMost) ∷ Some (C.Sign S.More) ∷ Some (C.Sign S.AtLeast) ∷ Some
    (C.Sign S.Differs) ∷ Some (C.Sign S.Plus) ∷ Some (C.Sign S.Minus) ∷ Some (C.Sign S.Times) ∷ Some (C.Sign S.Arrow) ∷ Some
    (C.Sign S.Implies) ∷ None ∷ None ∷ None ∷ Some (C.ContractOpen O.Round) ∷ Some (C.ContractOpen O.Slash) ∷ Some
    (C.ContractClose E.Round) ∷ Some (C.ContractClose E.Slash) ∷ Some (C.Annotation A.Main) ∷ Some
    (C.Annotation A.Property) ∷ None ∷ None ∷ None ∷ None ∷ Some (C.Keyword K.Node) ∷ Some (C.Keyword K.Function) ∷ Some
    (C.Keyword K.Contract) ∷ Some (C.Keyword K.Returns) ∷ Some (C.Keyword K.Var) ∷ Some (C.Keyword K.Const) ∷ Some (C.Keyword K.Let) ∷ Some
    (C.Keyword K.Tel) ∷ Some (C.Keyword K.Import) ∷ Some (C.Keyword K.Mode) ∷ Some (C.Keyword K.Assume) ∷ Some
    (C.Keyword K.Guarantee) ∷ Some (C.Keyword K.Require) ∷ Some (C.Keyword K.Ensure) ∷ Some (C.Keyword K.Assert) ∷ Some
    (C.Keyword K.Check) ∷ Some (C.Keyword K.If) ∷ Some (C.Keyword K.Then) ∷ Some (C.Keyword K.Else) ∷ Some (C.Keyword K.When) ∷ Some
    (C.Keyword K.Merge) ∷ Some (C.Keyword K.Condact) ∷ Some (C.Keyword K.Activate) ∷ Some (C.Keyword K.Every) ∷ Some
    (C.Keyword K.Initial) ∷ Some (C.Keyword K.Default) ∷ Some (C.Keyword K.Pre) ∷ Some (C.Keyword K.And) ∷ Some (C.Keyword K.Or) ∷ Some
    (C.Keyword K.Xor) ∷ Some (C.Keyword K.Not) ∷ Some (C.Keyword K.Div) ∷ Some (C.Keyword K.Mod) ∷ Some (C.Keyword K.True) ∷ Some
    (C.Keyword K.False) ∷ Some (C.Keyword K.Bool) ∷ Some (C.Keyword K.Int) ∷ Some (C.LeftOut L.TypeWord) ∷ Some (C.LeftOut L.Struct) ∷ Some
    (C.LeftOut L.Enum) ∷ Some (C.LeftOut L.Subrange) ∷ Some (C.LeftOut L.Real) ∷ Some (C.LeftOut L.Imported) ∷ Some
    (C.LeftOut L.Automaton) ∷ Some (C.LeftOut L.Restart) ∷ Some (C.LeftOut L.Current) ∷ Some (C.LeftOut L.Fby) ∷ Some
    (C.LeftOut L.Forall) ∷ Some (C.LeftOut L.Exists) ∷ Some (C.LeftOut L.Weakly) ∷ Some (C.LeftOut L.Array) ∷ Some (C.LeftOut L.Int8) ∷ Some
    (C.LeftOut L.Int16) ∷ Some (C.LeftOut L.Int32) ∷ Some (C.LeftOut L.Int64) ∷ Some (C.LeftOut L.Uint8) ∷ Some (C.LeftOut L.Uint16) ∷ Some
    (C.LeftOut L.Uint32) ∷ Some (C.LeftOut L.Uint64) ∷ Some (C.LeftOut L.Caret) ∷ Some (C.LeftOut L.OpenBracket) ∷ Some
    (C.LeftOut L.CloseBracket) ∷ Some (C.LeftOut L.OpenBrace) ∷ Some (C.LeftOut L.CloseBrace) ∷ Some (C.LeftOut L.Dot) ∷ Some
    (C.LeftOut L.Slash) ∷ Some (C.LeftOut L.Hash) ∷ Some (C.LeftOut L.Bar) ∷ Some (C.LeftOut L.Main) ∷ Some (C.LeftOut L.Property) ∷ []

abbrev left_place : LeftOut → ℕ
left_place L.TypeWord = 77
left_place L.Struct = 78
left_place L.Enum = 79
left_place L.Subrange = 80
left_place L.Real = 81
left_place L.Imported = 82
left_place L.Automaton = 83
left_place L.Restart = 84
left_place L.Current = 85
left_place L.Fby = 86
left_place L.Forall = 87
left_place L.Exists = 88
left_place L.Weakly = 89
left_place L.Array = 90
left_place L.Int8 = 91
left_place L.Int16 = 92
left_place L.Int32 = 93
left_place L.Int64 = 94
left_place L.Uint8 = 95
left_place L.Uint16 = 96
left_place L.Uint32 = 97
left_place L.Uint64 = 98
left_place L.Caret = 99
left_place L.OpenBracket = 100
left_place L.CloseBracket = 101
left_place L.OpenBrace = 102
left_place L.CloseBrace = 103
left_place L.Dot = 104
left_place L.Slash = 105
left_place L.Hash = 106
left_place L.Bar = 107
left_place L.Main = 108
left_place L.Property = 109

abbrev place : Option Class → ℕ
place (Some (C.LeftOut w)) = left_place w
place o = code o

stands : (o : Option Class) → get_or every_class (place o) None ≡ o
stands None = refl
stands (Some C.Ident) = refl
stands (Some C.Number) = refl
stands (Some C.Text) = refl
stands (Some (C.Sign S.Open)) = refl
stands (Some (C.Sign S.Close)) = refl
stands (Some (C.Sign S.Comma)) = refl
stands (Some (C.Sign S.Semicolon)) = refl
stands (Some (C.Sign S.Colon)) = refl
stands (Some (C.Sign S.DoubleColon)) = refl
stands (Some (C.Sign S.Equals)) = refl
stands (Some (C.Sign S.Less)) = refl
stands (Some (C.Sign S.AtMost)) = refl
stands (Some (C.Sign S.More)) = refl
stands (Some (C.Sign S.AtLeast)) = refl
stands (Some (C.Sign S.Differs)) = refl
stands (Some (C.Sign S.Plus)) = refl
stands (Some (C.Sign S.Minus)) = refl
stands (Some (C.Sign S.Times)) = refl
stands (Some (C.Sign S.Arrow)) = refl
stands (Some (C.Sign S.Implies)) = refl
stands (Some (C.ContractOpen O.Round)) = refl
stands (Some (C.ContractOpen O.Slash)) = refl
stands (Some (C.ContractClose E.Round)) = refl
stands (Some (C.ContractClose E.Slash)) = refl
stands (Some (C.Annotation A.Main)) = refl
stands (Some (C.Annotation A.Property)) = refl
stands (Some (C.LeftOut L.TypeWord)) = refl
stands (Some (C.LeftOut L.Struct)) = refl
stands (Some (C.LeftOut L.Enum)) = refl
stands (Some (C.LeftOut L.Subrange)) = refl
stands (Some (C.LeftOut L.Real)) = refl
stands (Some (C.LeftOut L.Imported)) = refl
stands (Some (C.LeftOut L.Automaton)) = refl
stands (Some (C.LeftOut L.Restart)) = refl
stands (Some (C.LeftOut L.Current)) = refl
stands (Some (C.LeftOut L.Fby)) = refl
stands (Some (C.LeftOut L.Forall)) = refl
stands (Some (C.LeftOut L.Exists)) = refl
stands (Some (C.LeftOut L.Weakly)) = refl
stands (Some (C.LeftOut L.Array)) = refl
stands (Some (C.LeftOut L.Int8)) = refl
stands (Some (C.LeftOut L.Int16)) = refl
stands (Some (C.LeftOut L.Int32)) = refl
stands (Some (C.LeftOut L.Int64)) = refl
stands (Some (C.LeftOut L.Uint8)) = refl
stands (Some (C.LeftOut L.Uint16)) = refl
stands (Some (C.LeftOut L.Uint32)) = refl
stands (Some (C.LeftOut L.Uint64)) = refl
stands (Some (C.LeftOut L.Caret)) = refl
stands (Some (C.LeftOut L.OpenBracket)) = refl
stands (Some (C.LeftOut L.CloseBracket)) = refl
stands (Some (C.LeftOut L.OpenBrace)) = refl
stands (Some (C.LeftOut L.CloseBrace)) = refl
stands (Some (C.LeftOut L.Dot)) = refl
stands (Some (C.LeftOut L.Slash)) = refl
stands (Some (C.LeftOut L.Hash)) = refl
stands (Some (C.LeftOut L.Bar)) = refl
stands (Some (C.LeftOut L.Main)) = refl
stands (Some (C.LeftOut L.Property)) = refl
stands (Some (C.Keyword K.Node)) = refl
stands (Some (C.Keyword K.Function)) = refl
stands (Some (C.Keyword K.Contract)) = refl
stands (Some (C.Keyword K.Returns)) = refl
stands (Some (C.Keyword K.Var)) = refl
stands (Some (C.Keyword K.Const)) = refl
stands (Some (C.Keyword K.Let)) = refl
stands (Some (C.Keyword K.Tel)) = refl
stands (Some (C.Keyword K.Import)) = refl
stands (Some (C.Keyword K.Mode)) = refl
stands (Some (C.Keyword K.Assume)) = refl
stands (Some (C.Keyword K.Guarantee)) = refl
stands (Some (C.Keyword K.Require)) = refl
stands (Some (C.Keyword K.Ensure)) = refl
stands (Some (C.Keyword K.Assert)) = refl
stands (Some (C.Keyword K.Check)) = refl
stands (Some (C.Keyword K.If)) = refl
stands (Some (C.Keyword K.Then)) = refl
stands (Some (C.Keyword K.Else)) = refl
stands (Some (C.Keyword K.When)) = refl
stands (Some (C.Keyword K.Merge)) = refl
stands (Some (C.Keyword K.Condact)) = refl
stands (Some (C.Keyword K.Activate)) = refl
stands (Some (C.Keyword K.Every)) = refl
stands (Some (C.Keyword K.Initial)) = refl
stands (Some (C.Keyword K.Default)) = refl
stands (Some (C.Keyword K.Pre)) = refl
stands (Some (C.Keyword K.And)) = refl
stands (Some (C.Keyword K.Or)) = refl
stands (Some (C.Keyword K.Xor)) = refl
stands (Some (C.Keyword K.Not)) = refl
stands (Some (C.Keyword K.Div)) = refl
stands (Some (C.Keyword K.Mod)) = refl
stands (Some (C.Keyword K.True)) = refl
stands (Some (C.Keyword K.False)) = refl
stands (Some (C.Keyword K.Bool)) = refl
stands (Some (C.Keyword K.Int)) = refl

passes_at : (f : Option Class → Bool) (xs : List (Option Class)) (d : Option Class) (i : ℕ) → f d ≡ true → list_all f xs ≡ true → f (get_or xs i d) ≡ true
passes_at f [] d i e h = e
passes_at f (x ∷ xs) d zero e h = (and_parts (f x) (list_all f xs) h).0
passes_at f (x ∷ xs) d (suc i) e h = passes_at f xs d i e (and_parts (f x) (list_all f xs) h).1

-- what holds of each in the list holds of every class, and of the end
pub every : (f : Option Class → Bool) → list_all f every_class ≡ true → (o : Option Class) → f o ≡ true
every f h o = subst (λ (x : Option Class). f x ≡ true) (stands o) (passes_at f every_class None (place o) (and_parts (f None) _ h).0 h)

-- a class that the grammar has
abbrev pub known : Class → Bool
known (C.LeftOut w) = false
known _ = true

abbrev pub decode : ℕ → Option Class
decode n = get_or every_class n None

decoded : (o : Option Class) → (decode (code o) ≡ o) ⊎ (decode (code o) ≡ None)
decoded None = inl refl
decoded (Some (C.LeftOut w)) = inr refl
decoded (Some C.Ident) = inl refl
decoded (Some C.Number) = inl refl
decoded (Some C.Text) = inl refl
decoded (Some (C.Sign s)) = inl (stands (Some (C.Sign s)))
decoded (Some (C.ContractOpen o)) = inl (stands (Some (C.ContractOpen o)))
decoded (Some (C.ContractClose o)) = inl (stands (Some (C.ContractClose o)))
decoded (Some (C.Annotation a)) = inl (stands (Some (C.Annotation a)))
decoded (Some (C.Keyword k)) = inl (stands (Some (C.Keyword k)))

decoded_known : (c : Class) → known c ≡ true → decode (class_code c) ≡ Some c
decoded_known C.Ident h = refl
decoded_known C.Number h = refl
decoded_known C.Text h = refl
decoded_known (C.LeftOut w) h = absurd (cc)
decoded_known (C.Sign s) h = stands (Some (C.Sign s))
decoded_known (C.ContractOpen o) h = stands (Some (C.ContractOpen o))
decoded_known (C.ContractClose o) h = stands (Some (C.ContractClose o))
decoded_known (C.Annotation a) h = stands (Some (C.Annotation a))
decoded_known (C.Keyword k) h = stands (Some (C.Keyword k))

-- what has the code of a known class is that class
pub same_class : (o : Option Class) (c : Class) → known c ≡ true → code o ≡ class_code c → o ≡ Some c
same_class o c h e =
    let u : decode (code o) ≡ Some c = ap decode e ∙ decoded_known c h in
    elim (decoded o) as (λ _. o ≡ Some c) [ inl p ↦ sym p ∙ u | inr p ↦ absurd (none_some c (sym p ∙ u)) ]
  where
    none_some : (c : Class) → None ≡ Some c → ⊥
    none_some c e = cc

abbrev pub all_known : List Class → Bool
all_known cs = list_all known cs

-- what is one of some classes has one of their codes
pub enters_if : (s : Stream) (i : ℕ) (cs : List Class) → IsOneOf s i cs → listed (code (s i).class) (codes_of cs) ≡ true
enters_if s i [] h = absurd h
enters_if s i (c ∷ cs) (inl e) = or_left _ _ (eq-eqb _ _ (ap code e))
enters_if s i (c ∷ cs) (inr h) = or_right _ _ (enters_if s i cs h)

pub one_if : (s : Stream) (i : ℕ) (cs : List Class) → all_known cs ≡ true → listed (code (s i).class) (codes_of cs) ≡ true → IsOneOf s i cs
one_if s i [] k h = absurd (cc)
one_if s i (c ∷ cs) k h =
    let w = and_parts (known c) (list_all known cs) k in
    elim (or_cases (code (s i).class == class_code c) (listed (code (s i).class) (codes_of cs)) h) as (λ _. IsOneOf s i (c ∷ cs)) [
      | inl e ↦ inl (same_class (s i).class c w.0 (eqb-true (code (s i).class) (class_code c) e))
      | inr e ↦ inr (one_if s i cs w.1 e)
    ]

pub passes_if : (s : Stream) (i : ℕ) (cs : List Class) → all_known cs ≡ true → (IsOneOf s i cs → ⊥) → listed (code (s i).class) (codes_of cs) ≡ false
passes_if s i cs k no' = false_from_ne_true _ (λ e. no' (one_if s i cs k e))
