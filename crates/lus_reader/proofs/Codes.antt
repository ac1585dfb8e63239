-- A token of another class than one that the grammar has.
use Rattle.std.proofs.Common.{◌≡◌, ℕ, true, [], ◌∷◌, Some, refl}
use Rattle.lus_lexer.specs.declared.token.Class.{Class}
use Rattle.lus_lexer.specs.declared.token.Class.TheVariants as C
use Rattle.lus_lexer.specs.declared.token.Keyword.{Keyword}
use Rattle.lus_lexer.specs.declared.token.Sign.{Sign}
use Rattle.lus_grammar.specs.Stream.{Stream}
use Rattle.lus_grammar.proofs.Classes.{all_known, passes_if}
use Rattle.lus_reader.specs.Look.{Differs}
use Rattle.lus_reader.proofs.Classes.{not_one}

differs : (s : Stream) (i : ℕ) (c : Class) → all_known (c ∷ []) ≡ true → ((s i).class ≡ Some c → Prim.⊥) → Differs s i c
differs s i c k h = record { other = h; passes = passes_if s i (c ∷ []) k (not_one s i c h) }

pub other_keyword : (s : Stream) (i : ℕ) (k : Keyword) → ((s i).class ≡ Some (C.Keyword k) → Prim.⊥) → Differs s i (C.Keyword k)
other_keyword s i k h = differs s i (C.Keyword k) refl h

pub other_sign : (s : Stream) (i : ℕ) (k : Sign) → ((s i).class ≡ Some (C.Sign k) → Prim.⊥) → Differs s i (C.Sign k)
other_sign s i k h = differs s i (C.Sign k) refl h

pub other_name : (s : Stream) (i : ℕ) → ((s i).class ≡ Some C.Ident → Prim.⊥) → Differs s i C.Ident
other_name s i h = differs s i C.Ident refl h
