-- A mode's items, and what is made of them.
use Rattle.std.proofs.Common.{◌≡◌, ℕ, ◌+◌, refl, ap, inl, inr, List, [], ◌∷◌, ◌++◌, append_assoc, map, Option, Some}
use Rattle.std.proofs.lemmas.List.{map_push}
use Rattle.lus_tree.specs.Tree.{Labelled}
use Rattle.lus_tree.specs.View.{named_view}
use Rattle.lus_tree.specs.declared.declaration.Named.{Named}
use Rattle.lus_lexer.specs.declared.token.Class.{Class}
use Rattle.lus_lexer.specs.declared.token.Class.TheVariants as C
use Rattle.lus_lexer.specs.declared.token.Keyword.TheVariants as K
use Rattle.lus_grammar.specs.Stream.{Stream}
use Rattle.lus_grammar.specs.Phrase.{ModeItem, part}
use Rattle.lus_grammar.specs.Grammar.{labelled}
use Rattle.lus_grammar.specs.Syntax.{Counts, leaf, node, ◌·◌}
use Rattle.lus_grammar.specs.Text.{IsOneOf}
use Rattle.lus_grammar.specs.Programs.{labelled_of, requires_of, ensures_of, if_required, if_ensured}
use Rattle.lus_grammar.specs.Answers.{Reads}
use Rattle.contract_reader.specs.declared.begin.ModeItemStart.{ModeItemStart}
use Rattle.contract_reader.specs.declared.begin.ModeItemStart.TheVariants.{Require, Ensure}
use Rattle.contract_reader.specs.Begin.{mode_item_class}
use Rattle.contract_reader.specs.Parts.{Leads, GrowsBoth}
use Rattle.contract_reader.proofs.Leads.{into, behind_token}

is_begun : (s : Stream) (i : ℕ) (d : ModeItemStart) → (s i).class ≡ Some (mode_item_class d) → IsOneOf s i (C.Keyword K.Require ∷ C.Keyword K.Ensure ∷ [])
is_begun s i Require e = inl e
is_begun s i Ensure e = inr (inl e)

pub into_mode_item : (s : Stream) (i : ℕ) (n : Counts) (d : ModeItemStart) → (s i).class ≡ Some (mode_item_class d) → Leads s
    (part ModeItem) i n labelled (i + 1) n (λ x. node ModeItem (leaf (s i) · x))
into_mode_item s i n d e = behind_token into (is_begun s i d e)

required : (o : Option Class) (ls : List Labelled) → o ≡ Some (C.Keyword K.Require) → if_required o ls ≡ ls
required o ls e = rw e refl

not_ensured : (o : Option Class) (ls : List Labelled) → o ≡ Some (C.Keyword K.Require) → if_ensured o ls ≡ []
not_ensured o ls e = rw e refl

ensured : (o : Option Class) (ls : List Labelled) → o ≡ Some (C.Keyword K.Ensure) → if_ensured o ls ≡ ls
ensured o ls e = rw e refl

not_required : (o : Option Class) (ls : List Labelled) → o ≡ Some (C.Keyword K.Ensure) → if_required o ls ≡ []
not_required o ls e = rw e refl

-- one more behind others
more : (old new : List Named) (v : Named) (l : Labelled) (ls rest : List Labelled) → new ≡ old ++ v ∷ [] → named_view v ≡ l → ls ≡ l ∷ []
    → map named_view old ++ (ls ++ rest) ≡ map named_view new ++ rest
more old new v l ls rest e h k = rw (e, k, map_push, ← h, append_assoc) refl

module _ {s : Stream} {i : ℕ} {n : Counts} {j : ℕ} {m : Counts} where
  pub adds_require : (v : Named) (old new others : List Named) → (s i).class ≡ Some (C.Keyword K.Require) → Reads
      (labelled_of (s i)) s labelled (i + 1) n j m (named_view v) → new ≡ old ++ v ∷ [] → GrowsBoth requires_of ensures_of s
      (part ModeItem) i n j m (map named_view old) (map named_view new) (map named_view others) (map named_view others)
  adds_require v old new others e r h = record {
    syntax = _;
    run = (into_mode_item s i n Require e).reads _ _ _ r.run;
    is = λ rest. more old new v (labelled_of (s i) r.syntax) _ (requires_of rest) h r.is (required (s i).class _ e);
    is_too = λ rest. ap (λ z. map named_view others ++ (z ++ ensures_of rest)) (not_ensured (s i).class _ e);
  }

  pub adds_ensure : (v : Named) (old new others : List Named) → (s i).class ≡ Some (C.Keyword K.Ensure) → Reads
      (labelled_of (s i)) s labelled (i + 1) n j m (named_view v) → new ≡ old ++ v ∷ [] → GrowsBoth requires_of ensures_of s
      (part ModeItem) i n j m (map named_view others) (map named_view others) (map named_view old) (map named_view new)
  adds_ensure v old new others e r h = record {
    syntax = _;
    run = (into_mode_item s i n Ensure e).reads _ _ _ r.run;
    is = λ rest. ap (λ z. map named_view others ++ (z ++ requires_of rest)) (not_required (s i).class _ e);
    is_too = λ rest. more old new v (labelled_of (s i) r.syntax) _ (ensures_of rest) h r.is (ensured (s i).class _ e);
  }
