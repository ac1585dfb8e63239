-- Streams behind `var`, and what is made of them.
use Rattle.std.proofs.Common.{◌≡◌, ℕ, ◌+◌, refl, ap, ◌∙◌, inl, List, [], ◌∷◌, ◌++◌, append_assoc, append-nil, map, Some}
use Rattle.std.proofs.lemmas.List.{map_push}
use Rattle.lus_tree.specs.Tree.{Variable, Constant}
use Rattle.lus_tree.specs.View.{definition_view}
use Rattle.lus_tree.specs.declared.declaration.Definition.{Definition}
use Rattle.lus_lexer.specs.declared.token.Class.TheVariants as C
use Rattle.lus_lexer.specs.declared.token.Keyword.TheVariants as K
use Rattle.lus_grammar.specs.Stream.{Stream}
use Rattle.lus_grammar.specs.Phrase as P
use Rattle.lus_grammar.specs.Phrase.{Phrase, Locals, LocalGroup, part, repeated, ◌⨾◌}
use Rattle.lus_grammar.specs.Grammar.{semicolon}
use Rattle.lus_grammar.specs.Syntax.{Counts, Syntax, leaf, node, ◌·◌, this, that, none, some}
use Rattle.lus_grammar.specs.Starts.{Enters, Passes}
use Rattle.lus_grammar.specs.Run.{both}
use Rattle.lus_grammar.specs.Programs.{local_group_of, local_groups_of, local_variables_of, local_constants_of, constants_of}
use Rattle.lus_grammar.specs.Answers.{Reads}
use Rattle.contract_reader.specs.Parts.{Leads, GrowsBoth, IsGroup}
use Rattle.contract_reader.proofs.Leads.{into, behind, behind_token, this_by, that_by, once_more, ends_many}

-- lgroup ";"
abbrev pub group : Phrase
group = part LocalGroup ⨾ semicolon

pub into_variables : (s : Stream) (i : ℕ) (n : Counts) → (s i).class ≡ Some (C.Keyword K.Var) → Leads s (part Locals) i n
    (part LocalGroup ⨾ semicolon ⨾ repeated group) (i + 1) n (λ x. node Locals (this (leaf (s i) · x)))
into_variables s i n e = behind_token (this_by into e refl) (inl e)

pub into_constant : (s : Stream) (i : ℕ) (n : Counts) → (s i).class ≡ Some (C.Keyword K.Const) → Leads s (part Locals) i n
    (part P.Constant) i n (λ x. node Locals (that x))
into_constant s i n e = that_by into e refl

-- the streams stand behind `before`, and make `now` so far
pub record SoFar (s : Stream) (i : ℕ) (n : Counts) (j : ℕ) (before now : List Variable) : Type 0 where
  pub f : Syntax → Syntax
  pub leads : Leads s (part Locals) i n (repeated group) j n f
  pub is : (x rest : Syntax) → before ++ local_variables_of (some (f x) rest) ≡ (now ++ local_groups_of x) ++ local_variables_of rest
  pub is_too : (x rest : Syntax) → local_constants_of (some (f x) rest) ≡ local_constants_of rest

grouped : (a b c d now : List Variable) → a ++ b ≡ now → a ++ ((b ++ c) ++ d) ≡ (now ++ c) ++ d
grouped a b c d now e = rw (← e) (simp append_assoc)

further : (a b c d now : List Variable) → a ++ b ≡ now → (a ++ (b ++ c)) ++ d ≡ (now ++ c) ++ d
further a b c d now e = rw (← e) (simp append_assoc)

module _ {s : Stream} {i : ℕ} {n : Counts} where
  pub first_group : {j : ℕ} {before now : List Variable} → (s i).class ≡ Some (C.Keyword K.Var) → IsGroup s (i + 1) n j before now → SoFar s i n j before now
  first_group {before = before} {now = now} e g = record {
    f = _;
    leads = behind (behind (into_variables s i n e) g.run) g.ends;
    is = λ x rest. grouped before (local_group_of g.group) (local_groups_of x) (local_variables_of rest) now g.is;
    is_too = λ x rest. refl;
  }

  pub next_group : {j k : ℕ} {before now now' : List Variable} → SoFar s i n j before now → Enters s j group → IsGroup s j n k now now'
      → SoFar s i n k before now'
  next_group {before = before} {now = now} {now' = now'} l e g = record {
    f = _;
    leads = once_more l.leads e (both g.run g.ends);
    is = λ x rest. l.is _ rest ∙ further now (local_group_of g.group) (local_groups_of x) (local_variables_of rest) now' g.is;
    is_too = λ x rest. l.is_too _ rest;
  }

  pub all_groups : {j : ℕ} {before now : List Variable} → SoFar s i n j before now → Passes s j group → (cs : List Constant)
      → GrowsBoth local_variables_of local_constants_of s (part Locals) i n j n before now cs cs
  all_groups {now = now} l e cs = record {
    syntax = _;
    run = ends_many l.leads e;
    is = λ rest. l.is none rest ∙ ap (λ z. z ++ local_variables_of rest) (append-nil now);
    is_too = λ rest. ap (λ z. cs ++ z) (l.is_too none rest);
  }

-- a constant behind others
more : (old new : List Definition) (v : Definition) (cs rest : List Constant) → new ≡ old ++ v ∷ [] → definition_view v ∷ [] ≡ cs
    → map definition_view old ++ (cs ++ rest) ≡ map definition_view new ++ rest
more old new v cs rest e h = rw (e, map_push, ← h) (simp append_assoc)

pub adds_constant : {s : Stream} {i : ℕ} {n : Counts} {j : ℕ} {m : Counts} (v : Definition) (old new : List Definition) (vs : List Variable)
    → (s i).class ≡ Some (C.Keyword K.Const) → Reads constants_of s (part P.Constant) i n j m (definition_view v ∷ []) → new ≡ old ++ v ∷ []
    → GrowsBoth local_variables_of local_constants_of s (part Locals) i n j m vs vs (map definition_view old) (map definition_view new)
adds_constant {s} {i} {n} v old new vs e r h = record {
  syntax = _;
  run = (into_constant s i n e).reads _ _ _ r.run;
  is = λ rest. refl;
  is_too = λ rest. more old new v (constants_of r.syntax) (local_constants_of rest) h r.is;
}
