-- The parts of an import, and what is made of them.
use Rattle.std.proofs.Common.{◌≡◌, ℕ, ◌+◌, refl, sym, ap, ◌∙◌, inl, List, [], ◌∷◌, ◌++◌, append_assoc, map, Some}
use Rattle.std.proofs.lemmas.List.{map_push}
use Rattle.lus_tree.specs.Tree.{Spelled, Expression}
use Rattle.lus_tree.specs.View.{expr_view}
use Rattle.lus_tree.specs.declared.expression.Expr.{Expr}
use Rattle.lus_lexer.specs.declared.token.Class.TheVariants as C
use Rattle.lus_lexer.specs.declared.token.Sign.TheVariants as S
use Rattle.lus_grammar.specs.Stream.{Stream}
use Rattle.lus_grammar.specs.Phrase as P
use Rattle.lus_grammar.specs.Phrase.{Phrase, Arguments, Names, part, limited, optional, repeated, sign, ◌⨾◌}
use Rattle.lus_grammar.specs.Syntax.{Counts, leaf, node, ◌·◌, absent, present}
use Rattle.lus_grammar.specs.Starts.{Enters, Passes}
use Rattle.lus_grammar.specs.Run.{token, both, not_once}
use Rattle.lus_grammar.specs.Trees.{expression_of}
use Rattle.lus_grammar.specs.Programs.{names_of, optional_names_of, more_arguments_of, import_arguments_of}
use Rattle.lus_grammar.specs.Answers.{Reads}
use Rattle.contract_reader.specs.Parts.{Leads, Adds}
use Rattle.contract_reader.specs.Values.{behind as list_behind}
use Rattle.contract_reader.proofs.Leads.{here, into, then, behind, behind_token, to_once}

-- "," expr, with the limit
abbrev pub argument : Phrase
argument = sign S.Comma ⨾ limited P.Expression

module _ {s : Stream} {i : ℕ} {n : Counts} where
  -- what may stand there, and stands there
  pub some_names : {j : ℕ} {vs : List Spelled} → Enters s i (part Names) → Reads names_of s (part Names) i n j n vs
      → Reads optional_names_of s (optional (part Names)) i n j n vs
  some_names e r = record { syntax = _; run = (to_once here e).reads _ _ _ r.run; is = r.is }

  pub no_names : {vs : List Spelled} → Passes s i (part Names) → vs ≡ [] → Reads optional_names_of s (optional (part Names)) i n i n vs
  no_names e h = record { syntax = absent; run = not_once e; is = h }

  pub adds_argument : {j : ℕ} {m : Counts} {v : Expression} → (s i).class ≡ Some (C.Sign S.Comma) → Reads expression_of s
      (limited P.Expression) (i + 1) n j m v → Adds more_arguments_of s argument i n j m (v ∷ [])
  adds_argument e r = record { syntax = _; run = both (token (inl e)) r.run; is = λ rest. ap (λ z. z ∷ more_arguments_of rest) (sym r.is) }

-- one more behind others
pub more_behind : (old new : List Expr) (v : Expr) (before added : List Expression) → new ≡ old ++ v ∷ [] → map expr_view old ≡ before
    ++ added → map expr_view new ≡ before ++ (added ++ expr_view v ∷ [])
more_behind old new v before added e h = rw (e, map_push, h, append_assoc) refl

-- "," expr of many
pub into_argument : (s : Stream) (i : ℕ) (n : Counts) → (s i).class ≡ Some (C.Sign S.Comma) → Leads s argument i n (limited P.Expression)
    (i + 1) n (λ x. leaf (s i) · x)
into_argument s i n e = behind_token here (inl e)

pub all_behind : {s : Stream} {i : ℕ} {n : Counts} {j : ℕ} {m : Counts} {added vs : List Expression} (before : List Expression)
    → vs ≡ before ++ added → Reads more_arguments_of s (repeated argument) i n j m added → Reads (list_behind more_arguments_of before) s
    (repeated argument) i n j m vs
all_behind before h r = record { syntax = r.syntax; run = r.run; is = h ∙ ap (λ z. before ++ z) r.is }

pub into_arguments : (s : Stream) (i : ℕ) (n : Counts) → Enters s i (part Arguments) → Leads s (optional (part Arguments)) i n
    (limited P.Expression ⨾ repeated argument) i n (λ x. present (node Arguments x))
into_arguments s i n e = then (to_once here e) into

first_alone : (empty alone : List Expr) (v : Expr) → empty ≡ [] → alone ≡ empty ++ v ∷ [] → map expr_view alone ≡ expr_view v ∷ []
first_alone empty alone v e h = rw (h, e) refl

pub some_arguments : {s : Stream} {i : ℕ} {n : Counts} {k : ℕ} {o : Counts} {j : ℕ} {m : Counts} {vs : List Expression}
    (empty alone : List Expr) (v : Expr) → Enters s i (part Arguments) → empty ≡ [] → alone ≡ empty ++ v ∷ [] → Reads expression_of s
    (limited P.Expression) i n k o (expr_view v) → Reads (list_behind more_arguments_of (map expr_view alone)) s
    (repeated argument) k o j m vs → Reads import_arguments_of s (optional (part Arguments)) i n j m vs
some_arguments empty alone v e h h' r r' = record {
  syntax = _;
  run = (behind (into_arguments _ _ _ e) r.run).reads _ _ _ r'.run;
  is = r'.is ∙ (ap (λ z. z ++ more_arguments_of r'.syntax) (first_alone empty alone v h h') ∙ ap (λ z. z ∷ more_arguments_of r'.syntax) r.is);
}

pub no_arguments : {s : Stream} {i : ℕ} {n : Counts} {vs : List Expression} → Passes s i (part Arguments) → vs ≡ []
    → Reads import_arguments_of s (optional (part Arguments)) i n i n vs
no_arguments e h = record { syntax = absent; run = not_once e; is = h }
