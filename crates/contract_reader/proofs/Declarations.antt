-- Into each kind of declaration, and what is made of it.
use Rattle.std.proofs.Common.{◌≡◌, ℕ, refl, sym, ap, Bool, true, false, List, [], ◌∷◌, ◌++◌, map, Some}
use Rattle.lus_tree.specs.Tree.{Constant, Declaration, declared_constant}
use Rattle.lus_tree.specs.Reason.{Refused}
use Rattle.lus_lexer.specs.declared.token.Class.TheVariants as C
use Rattle.lus_lexer.specs.declared.token.Keyword.TheVariants as K
use Rattle.lus_grammar.specs.Stream.{Stream}
use Rattle.lus_grammar.specs.Phrase as P
use Rattle.lus_grammar.specs.Phrase.{Part, part, fresh}
use Rattle.lus_grammar.specs.Grammar.{body}
use Rattle.lus_grammar.specs.Syntax.{Counts, none_before, this, that}
use Rattle.lus_grammar.specs.Run.{line, anew, anew_stop}
use Rattle.lus_grammar.specs.Source.{program}
use Rattle.lus_grammar.specs.Programs.{constants_of, nodes_of, contract_nodes_of, declarations_of, program_of}
use Rattle.lus_grammar.specs.Answers.{Reads, Refuses, out_of_memory, stopped}
use Rattle.contract_reader.specs.Parts.{Leads, Adds}
use Rattle.contract_reader.specs.Values.{node_class}
use Rattle.contract_reader.proofs.Leads.{here, this_by, that_by}

pub into_constant : (s : Stream) (i : ℕ) (n : Counts) → (s i).class ≡ Some (C.Keyword K.Const) → Leads s (body P.Declaration) i n
    (part P.Constant) i n (λ x. this x)
into_constant s i n e = this_by here e refl

pub into_node : (s : Stream) (i : ℕ) (n : Counts) (b : Bool) → (s i).class ≡ Some (node_class b) → Leads s (body P.Declaration) i n
    (part P.Node) i n (λ x. that (this x))
into_node s i n false e = this_by (that_by here e refl) e refl
into_node s i n true e = this_by (that_by here e refl) e refl

pub into_contract : (s : Stream) (i : ℕ) (n : Counts) → (s i).class ≡ Some (C.Keyword K.Contract) → Leads s (body P.Declaration) i n
    (part P.ContractNode) i n (λ x. that (that x))
into_contract s i n e = that_by (that_by here e refl) e refl

-- numbered from 1
pub stops_anew : {s : Stream} {p : Part} {i : ℕ} {n : Counts} {r : Refused} → Refuses s (body p) i none_before r → Refuses s (fresh p) i n r
stops_anew (out_of_memory e) = out_of_memory e
stops_anew (stopped q e w) = stopped (anew_stop q) e w

module _ {s : Stream} {i : ℕ} {n : Counts} {j : ℕ} {m : Counts} where
  pub adds_constant : {v : Constant} → (s i).class ≡ Some (C.Keyword K.Const) → Reads constants_of s (part P.Constant) i none_before j m
      (v ∷ []) → Adds declarations_of s (fresh P.Declaration) i n j n (declared_constant v ∷ [])
  adds_constant e r = record {
    syntax = _;
    run = anew ((into_constant s i none_before e).reads _ _ _ r.run);
    is = λ rest. ap
        (λ z. map declared_constant z ++ declarations_of rest) (sym r.is);
  }

  pub adds_node : {vs : List Declaration} (b : Bool) → (s i).class ≡ Some (node_class b) → Reads nodes_of s
      (part P.Node) i none_before j m vs → Adds declarations_of s (fresh P.Declaration) i n j n vs
  adds_node b e r = record {
    syntax = _;
    run = anew ((into_node s i none_before b e).reads _ _ _ r.run);
    is = λ rest. ap
        (λ z. z ++ declarations_of rest) (sym r.is);
  }

  pub adds_contract : {vs : List Declaration} → (s i).class ≡ Some (C.Keyword K.Contract) → Reads contract_nodes_of s
      (part P.ContractNode) i none_before j m vs → Adds declarations_of s (fresh P.Declaration) i n j n vs
  adds_contract e r = record {
    syntax = _;
    run = anew ((into_contract s i none_before e).reads _ _ _ r.run);
    is = λ rest. ap
        (λ z. z ++ declarations_of rest) (sym r.is);
  }

-- all declarations are a program
pub all_declarations : {s : Stream} {i : ℕ} {n : Counts} {j : ℕ} {m : Counts} {vs : List Declaration} → Reads declarations_of s
    (body P.Program) i n j m vs → Reads program_of s program i n j m vs
all_declarations r = record { syntax = _; run = line r.run; is = r.is }
