-- A contract between its opening and its closing, and what is made of it.
use Rattle.std.proofs.Common.{◌≡◌, ℕ, ◌+◌, refl, sym, ap, ◌∙◌, inl, List, [], ◌∷◌, Option, Some, None}
use Rattle.lus_tree.specs.Tree.{ContractStatement}
use Rattle.lus_lexer.specs.declared.token.Class.TheVariants as C
use Rattle.lus_lexer.specs.declared.token.Opening.{Opening}
use Rattle.lus_lexer.specs.declared.token.Opening.TheVariants as O
use Rattle.lus_grammar.specs.Stream.{Stream, Mark}
use Rattle.lus_grammar.specs.Phrase.{Contract, ContractItem, one_of, optional, part, repeated, ◌⨾◌}
use Rattle.lus_grammar.specs.Syntax.{Counts, Syntax, leaf, node, ◌·◌, this, that, absent, present}
use Rattle.lus_grammar.specs.Starts.{Enters, Passes}
use Rattle.lus_grammar.specs.Run.{Run, read, not_once}
use Rattle.lus_grammar.specs.Source.{limit}
use Rattle.lus_grammar.specs.Programs.{contract_statements_of, contract_of}
use Rattle.lus_grammar.specs.Answers.{Reads}
use Rattle.contract_reader.specs.Parts.{Leads}
use Rattle.contract_reader.specs.Values.{closing_of, enclosed_of}
use Rattle.contract_reader.proofs.Leads.{here, into, behind, behind_token, this_by, that_by, to_once}

-- which of the two forms it is
abbrev pub form : Opening → Syntax → Syntax
form O.Round x = this x
form O.Slash x = that x

pub into_contract : (s : Stream) (i : ℕ) (n : Counts) (o : Opening) → (s i).class ≡ Some (C.ContractOpen o) → Leads s (part Contract) i n
    (repeated (part ContractItem) ⨾ one_of (C.ContractClose (closing_of o) ∷ [])) (i + 1) n (λ x. node Contract (form o (leaf (s i) · x)))
into_contract s i n O.Round e = behind_token (this_by into e refl) (inl e)
into_contract s i n O.Slash e = behind_token (that_by into e refl) (inl e)

formed : (o : Opening) (t : Mark) (b z : Syntax) → contract_of (present (node Contract (form o (leaf t · b · z)))) ≡ Some (contract_statements_of b)
formed O.Round t b z = refl
formed O.Slash t b z = refl

pub enclosed : {s : Stream} {i : ℕ} {n : Counts} {k : ℕ} {j : ℕ} {m : Counts} {z : Syntax} {vs : List ContractStatement} (o : Opening) →
    (s i).class ≡ Some (C.ContractOpen o) → Reads contract_statements_of s (repeated (part ContractItem)) (i + 1) n k m vs → Run limit s
    (one_of (C.ContractClose (closing_of o) ∷ [])) k m (read j m z) → Reads enclosed_of s (part Contract) i n j m (Some vs)
enclosed {s} {i} {n} {z = z} o e r q = record {
  syntax = _;
  run = (behind (into_contract s i n o e) r.run).reads _ _ _ q;
  is = ap (λ y. Some y) r.is ∙ sym (formed o (s i) r.syntax z);
}

module _ {s : Stream} {i : ℕ} {n : Counts} where
  pub some_contract : {j : ℕ} {m : Counts} {v : Option (List ContractStatement)} → Enters s i (part Contract) → Reads enclosed_of s
      (part Contract) i n j m v → Reads contract_of s (optional (part Contract)) i n j m v
  some_contract e r = record { syntax = _; run = (to_once here e).reads _ _ _ r.run; is = r.is }

  pub no_contract : Passes s i (part Contract) → Reads contract_of s (optional (part Contract)) i n i n None
  no_contract e = record { syntax = absent; run = not_once e; is = refl }
