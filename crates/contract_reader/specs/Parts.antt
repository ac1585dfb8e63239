-- What a reader of some part of a phrase answers.
use Rattle.std.specs.Prelude.{◌≡◌, ℕ, List, ◌++◌}
use Rattle.lus_tree.specs.Tree.{Spelled, Statement, Variable}
use Rattle.lus_grammar.specs.Stream.{Mark, Stream}
use Rattle.lus_grammar.specs.Phrase.{Phrase, Parameters, LocalGroup, part, word, identifier, ◌⨾◌}
use Rattle.lus_grammar.specs.Grammar.{semicolon}
use Rattle.lus_lexer.specs.declared.token.Keyword.TheVariants as K
use Rattle.lus_grammar.specs.Syntax.{Counts, Syntax, leaf, ◌·◌, some}
use Rattle.lus_grammar.specs.Trees.{spelled}
use Rattle.lus_grammar.specs.Programs.{items_of, parameters_of, local_group_of, optional_names_of}
use Rattle.contract_reader.specs.Values.{node_body, outputs}
use Rattle.lus_grammar.specs.Run.{Cause, read, stop, Run}
use Rattle.lus_grammar.specs.Source.{limit}

-- whatever h comes to from j, g comes to from i; f says how what is made of the one is made of the other
pub record Leads (s : Stream) (g : Phrase) (i : ℕ) (n : Counts) (h : Phrase) (j : ℕ) (m : Counts) (f : Syntax → Syntax) : Type 0 where
  pub reads : (k : ℕ) (o : Counts) (x : Syntax) → Run limit s h j m (read k o x) → Run limit s g i n (read k o (f x))
  pub stops : (c : Cause) (k : ℕ) → Run limit s h j m (stop c k) → Run limit s g i n (stop c k)

-- a reading of the phrase from i comes to j, and vs is what it gives before the rest
pub record Adds {A : Type 0} (value : Syntax → List A) (s : Stream) (g : Phrase) (i : ℕ) (n : Counts) (j : ℕ) (m : Counts) (vs : List A) : Type 0 where
  pub syntax : Syntax
  pub run : Run limit s g i n (read j m syntax)
  pub is : (rest : Syntax) → value (some syntax rest) ≡ vs ++ value rest

-- a reading of the phrase from i comes to j, and what it gives stands behind `before` and makes `after`
pub record Grows {A : Type 0} (value : Syntax → List A) (s : Stream) (g : Phrase) (i : ℕ) (n : Counts) (j : ℕ) (m : Counts)
    (before after : List A) : Type 0 where
  pub syntax : Syntax
  pub run : Run limit s g i n (read j m syntax)
  pub is : (rest : Syntax) → before ++ value (some syntax rest) ≡ after ++ value rest

-- the same of two lists
pub record GrowsBoth {A B : Type 0} (value : Syntax → List A) (other : Syntax → List B) (s : Stream) (g : Phrase) (i : ℕ) (n : Counts)
    (j : ℕ) (m : Counts) (before after : List A) (before' after' : List B) : Type 0 where
  pub syntax : Syntax
  pub run : Run limit s g i n (read j m syntax)
  pub is : (rest : Syntax) → before ++ value (some syntax rest) ≡ after ++ value rest
  pub is_too : (rest : Syntax) → before' ++ other (some syntax rest) ≡ after' ++ other rest

-- lgroup ";" stands from i up to j, and the group's streams stand behind `before` and make `after`
pub record IsGroup (s : Stream) (i : ℕ) (n : Counts) (j : ℕ) (before after : List Variable) : Type 0 where
  pub k : ℕ
  pub group : Syntax
  pub run : Run limit s (part LocalGroup) i n (read k n group)
  pub mark : Syntax
  pub ends : Run limit s semicolon k n (read j n mark)
  pub is : before ++ local_group_of group ≡ after

-- "(" [ names ] ")" ";" stands from i up to j, and words are its names
pub record IsOutputs (s : Stream) (i : ℕ) (n : Counts) (j : ℕ) (words : List Spelled) : Type 0 where
  pub opening : Syntax
  pub names : Syntax
  pub closing : Syntax
  pub last : Syntax
  pub run : Run limit s outputs i n (read j n (opening · names · closing · last))
  pub is : words ≡ optional_names_of names

-- "let" { item } "tel" [ ";" ] stands from i up to j, and what is its items
pub record IsNodeBody (s : Stream) (i : ℕ) (n : Counts) (j : ℕ) (m : Counts) (what : List Statement) : Type 0 where
  pub opening : Syntax
  pub items : Syntax
  pub closing : Syntax
  pub last : Syntax
  pub run : Run limit s node_body i n (read j m (opening · items · closing · last))
  pub is : what ≡ items_of items

-- ID params "returns" params, and then h
abbrev pub headed : Phrase → Phrase
headed h = identifier ⨾ part Parameters ⨾ word K.Returns ⨾ part Parameters ⨾ h

-- such a head stands from i up to j
pub record IsHead (s : Stream) (i : ℕ) (n : Counts) (j : ℕ) (name : Spelled) (inputs outputs : List Variable) : Type 0 where
  pub named : Mark
  pub taken : Syntax
  pub returns : Syntax
  pub given : Syntax
  pub leads : (h : Phrase) → Leads s (headed h) i n h j n (λ x. leaf named · taken · returns · given · x)
  pub are_named : name ≡ spelled named
  pub are_taken : inputs ≡ parameters_of taken
  pub are_given : outputs ≡ parameters_of given
