-- Which token a phrase begins with, for tokens of one class.
use Rattle.std.proofs.Common.{◌≡◌, ℕ, inl, inr, Bool, true, false, ◌&&◌, List, [], ◌∷◌, Some, refl, ◌∙◌}
use Rattle.std.specs.Bool.{IsTrue}
use Rattle.std.proofs.lemmas.Bool.{or_left, eq-eqb}
use Rattle.lus_lexer.specs.declared.token.Class.{Class}
use Rattle.lus_lexer.specs.declared.token.Class.TheVariants as C
use Rattle.lus_grammar.specs.Stream.{Stream}
use Rattle.lus_grammar.specs.Starts.{code, class_code, listed}
use Rattle.lus_grammar.specs.Text.{IsOneOf}
use Rattle.lus_grammar.proofs.Classes.{known, all_known, passes_if}
use Rattle.lus_reader.specs.Marks.{is_kept}

pub enters_by : (s : Stream) (i : ℕ) (c : Class) (ks : List ℕ) → listed (class_code c) ks ≡ true → (s i).class ≡ Some c → listed (code (s i).class) ks ≡ true
enters_by s i c ks h e = rw e h

pub passes_by : (s : Stream) (i : ℕ) (c : Class) (ks : List ℕ) → listed (class_code c) ks ≡ false → (s i).class ≡ Some c → listed (code (s i).class) ks ≡ false
passes_by s i c ks h e = rw e h

pub not_one : (s : Stream) (i : ℕ) (c : Class) → ((s i).class ≡ Some c → ⊥) → IsOneOf s i (c ∷ []) → ⊥
not_one s i c f (inl e) = f e
not_one s i c f (inr h) = h

pub not_true : {P : Type 0} → (P → IsTrue false) → P → ⊥
not_true f p = let q : false ≡ true = f p in cc

kept_is_known : (c : Class) → known c ≡ is_kept c
kept_is_known C.Ident = refl
kept_is_known C.Number = refl
kept_is_known C.Text = refl
kept_is_known (C.Sign s) = refl
kept_is_known (C.ContractOpen o) = refl
kept_is_known (C.ContractClose o) = refl
kept_is_known (C.Annotation a) = refl
kept_is_known (C.LeftOut w) = refl
kept_is_known (C.Keyword k) = refl

alone : (b : Bool) → b ≡ true → (b && true) ≡ true
alone true e = refl
alone false e = e

-- a token of another class than this one
pub passes_one : (s : Stream) (i : ℕ) (c : Class) → is_kept c ≡ true → ((s i).class ≡ Some c → ⊥) → listed (code (s i).class) (class_code c ∷ []) ≡ false
passes_one s i c h f = passes_if s i (c ∷ []) (alone (known c) (kept_is_known c ∙ h)) (not_one s i c f)

pub first_code : (c : Class) (ks : List ℕ) → listed (class_code c) (class_code c ∷ ks) ≡ true
first_code c ks = or_left _ _ (eq-eqb (class_code c) (class_code c) refl)
