-- Into each kind of a contract's item, and what is made of it.
use Rattle.std.proofs.Common.{◌≡◌, ℕ, ◌+◌, refl, sym, ap, inl, inr, List, [], ◌∷◌, ◌++◌, map, Option, Some, None}
use Rattle.lus_tree.specs.Tree.{Spelled, Constant, Expression, Labelled, assume, guarantee, ghost_variable, constant, mode, «import»}
use Rattle.lus_tree.specs.declared.place.Sort.{Sort}
use Rattle.lus_lexer.specs.declared.token.Class.{Class}
use Rattle.lus_lexer.specs.declared.token.Class.TheVariants as C
use Rattle.lus_lexer.specs.declared.token.Keyword.TheVariants as K
use Rattle.lus_lexer.specs.declared.token.Sign.TheVariants as S
use Rattle.lus_grammar.specs.Stream.{Stream, Mark}
use Rattle.lus_grammar.specs.Phrase as P
use Rattle.lus_grammar.specs.Phrase.{Part, Phrase, ContractItem, Arguments, Names, ModeItem, calls, one_of, counted, part, limited, word, sign, identifier, optional, repeated, ◌⨾◌, ◌∣◌}
use Rattle.lus_grammar.specs.Grammar.{labelled, semicolon}
use Rattle.lus_grammar.specs.Syntax.{Counts, counted_on, number_of, Syntax, leaf, numbered, node, ◌·◌, this, that}
use Rattle.lus_grammar.specs.Run.{Run, read, occurrence}
use Rattle.lus_grammar.specs.Source.{limit}
use Rattle.lus_grammar.specs.Trees.{spelled}
use Rattle.lus_grammar.specs.Programs.{contract_statements_of, labelled_of, assumption_or_guarantee, sort_of, constants_of, variable_of, import_arguments_of}
use Rattle.lus_grammar.specs.Answers.{Reads}
use Rattle.lus_reader.specs.Values.{ReadsEnded}
use Rattle.contract_reader.specs.Parts.{Leads, Adds, IsOutputs}
use Rattle.contract_reader.specs.Values.{outputs, mode_items_of}
use Rattle.contract_reader.proofs.Leads.{into, behind, behind_token, this_by, that_by}

module _ (s : Stream) (i : ℕ) (n : Counts) where
  pub into_assume : (s i).class ≡ Some (C.Keyword K.Assume) → Leads s (part ContractItem) i n labelled (i + 1) n
      (λ x. node ContractItem (this (leaf (s i) · x)))
  into_assume e = behind_token (this_by into e refl) (inl e)

  pub into_guarantee : (s i).class ≡ Some (C.Keyword K.Guarantee) → Leads s (part ContractItem) i n labelled (i + 1) n
      (λ x. node ContractItem (this (leaf (s i) · x)))
  into_guarantee e = behind_token (this_by into e refl) (inr (inl e))

  pub into_ghost : (s i).class ≡ Some (C.Keyword K.Var) → Leads s (part ContractItem) i n
      (identifier ⨾ sign S.Colon ⨾ part P.Sort ⨾ sign S.Equals ⨾ limited P.Expression ⨾ semicolon) (i + 1) n
      (λ x. node ContractItem (that (this (leaf (s i) · x))))
  into_ghost e = behind_token (this_by (that_by into e refl) e refl) (inl e)

  pub into_constant : (s i).class ≡ Some (C.Keyword K.Const) → Leads s (part ContractItem) i n (part P.Constant) i n
      (λ x. node ContractItem (that (that (this x))))
  into_constant e = this_by (that_by (that_by into e refl) e refl) e refl

  pub into_mode : (s i).class ≡ Some (C.Keyword K.Mode) → Leads s (part ContractItem) i n
      (identifier ⨾ sign S.Open ⨾ repeated (part ModeItem) ⨾ sign S.Close ⨾ semicolon) (i + 1) n
      (λ x. node ContractItem (that (that (that (this (leaf (s i) · x))))))
  into_mode e = behind_token (this_by (that_by (that_by (that_by into e refl) e refl) e refl) e refl) (inl e)

  into_import_counted : (s i).class ≡ Some (C.Keyword K.Import) → Leads s (part ContractItem) i n
      (identifier ⨾ sign S.Open ⨾ optional (part Arguments) ⨾ sign S.Close ⨾ word K.Returns ⨾ outputs) (i + 1) (counted_on calls n)
      (λ x. node ContractItem (that (that (that (that (numbered (s i) (number_of calls n) · x))))))
  into_import_counted e = behind (that_by (that_by (that_by (that_by into e refl) e refl) e refl) e refl) (occurrence e)

  -- an import, whose number is one more than the calls before it
  pub into_import : (k : ℕ) → k ≡ n.calls + 1 → (s i).class ≡ Some (C.Keyword K.Import) → Leads s (part ContractItem) i n
      (identifier ⨾ sign S.Open ⨾ optional (part Arguments) ⨾ sign S.Close ⨾ word K.Returns ⨾ outputs) (i + 1)
      (record { pres = n.pres; arrows = n.arrows; calls = k }) (λ x. node ContractItem (that (that (that (that (numbered (s i) k · x))))))
  into_import k h e = rw h (into_import_counted e)

-- what each of them puts before the statements of the rest
assume_is : (o : Option Class) (v l : Labelled) → o ≡ Some (C.Keyword K.Assume) → v ≡ l → assumption_or_guarantee o l ≡ assume v
assume_is o v l e h = rw (e, h) refl

guarantee_is : (o : Option Class) (v l : Labelled) → o ≡ Some (C.Keyword K.Guarantee) → v ≡ l → assumption_or_guarantee o l ≡ guarantee v
guarantee_is o v l e h = rw (e, h) refl

ghost_is : (w w' : Spelled) (o o' : Sort) (v v' : Expression) → w ≡ w' → o ≡ o' → v ≡ v' → ghost_variable
    (variable_of o' None w') v' ≡ ghost_variable (variable_of o None w) v
ghost_is w w' o o' v v' e h k = rw (e, h, k) refl

import_is : (k : ℕ) (w w' : Spelled) (as_ as' : List Expression) (xs xs' : List Spelled) → w ≡ w' → as_ ≡ as' → xs ≡ xs'
    → «import» k w' as' xs' ≡ «import» k w as_ xs
import_is k w w' as_ as' xs xs' e f g = rw (e, f, g) refl

mode_is : (w w' : Spelled) (rs rs' es es' : List Labelled) → w ≡ w' → rs ≡ rs' → es ≡ es' → mode w' rs' es' ≡ mode w rs es
mode_is w w' rs rs' es es' e f g = rw (e, f, g) refl

module _ {s : Stream} {i : ℕ} {n : Counts} {j : ℕ} {m : Counts} where
  pub adds_assume : {v : Labelled} → (s i).class ≡ Some (C.Keyword K.Assume) → Reads (labelled_of (s i)) s labelled (i + 1) n j m v
      → Adds contract_statements_of s (part ContractItem) i n j m (assume v ∷ [])
  adds_assume {v} e r = record {
    syntax = _;
    run = (into_assume s i n e).reads _ _ _ r.run;
    is = λ rest. ap
        (λ z. z ∷ contract_statements_of rest) (assume_is (s i).class v _ e r.is);
  }

  pub adds_guarantee : {v : Labelled} → (s i).class ≡ Some (C.Keyword K.Guarantee) → Reads (labelled_of (s i)) s labelled (i + 1) n j m v
      → Adds contract_statements_of s (part ContractItem) i n j m (guarantee v ∷ [])
  adds_guarantee {v} e r = record {
    syntax = _;
    run = (into_guarantee s i n e).reads _ _ _ r.run;
    is = λ rest. ap
        (λ z. z ∷ contract_statements_of rest) (guarantee_is (s i).class v _ e r.is);
  }

  pub adds_constant : {v : Constant} → (s i).class ≡ Some (C.Keyword K.Const) → Reads constants_of s (part P.Constant) i n j m (v ∷ [])
      → Adds contract_statements_of s (part ContractItem) i n j m (constant v ∷ [])
  adds_constant {v} e r = record {
    syntax = _;
    run = (into_constant s i n e).reads _ _ _ r.run;
    is = λ rest. ap
        (λ z. map constant z ++ contract_statements_of rest) (sym r.is);
  }

  pub adds_ghost : {k : ℕ} {c x : Mark} {a q b : Syntax} {w : Spelled} {o : Sort} {v : Expression} → Leads s (part ContractItem) i n
      (limited P.Expression ⨾ semicolon) k n (λ y. node ContractItem (that (this (leaf c · leaf x · a · q · b · y))))
      → ReadsEnded s k n j m v → w ≡ spelled x → o ≡ sort_of q → Adds contract_statements_of s (part ContractItem) i n j m
      (ghost_variable (variable_of o None w) v ∷ [])
  adds_ghost {q = q} {w = w} {o = o} {v = v} l r e h = record {
    syntax = _;
    run = l.reads _ _ _ r.run;
    is = λ rest. ap
        (λ z. z ∷ contract_statements_of rest) (ghost_is w _ o _ v _ e h r.is);
  }

  pub adds_import : {k : ℕ} {t x : Mark} {number : ℕ} {a c d b : Syntax} {w : Spelled} {vs : List Expression} {xs : List Spelled} → Leads s
      (part ContractItem) i n outputs k m (λ y. node ContractItem (that
      (that (that (that (numbered t number · leaf x · a · b · c · d · y)))))) → w ≡ spelled x → vs ≡ import_arguments_of b
      → IsOutputs s k m j xs → Adds contract_statements_of s (part ContractItem) i n j m («import» number w vs xs ∷ [])
  adds_import {number = number} {w = w} {vs = vs} {xs = xs} l e h r = record {
    syntax = _;
    run = l.reads _ _ _ r.run;
    is = λ rest. ap (λ z. z ∷ contract_statements_of rest)
        (import_is number w _ vs _ xs _ e h r.is);
  }

  pub adds_mode : {k : ℕ} {t x : Mark} {a b d z : Syntax} {w : Spelled} {rs es : List Labelled} → Leads s
      (part ContractItem) i n semicolon k m (λ y. node ContractItem (that (that (that (this (leaf t · leaf x · a · b · d · y))))))
      → w ≡ spelled x → (let pair : List Labelled × List Labelled = (rs, es) in pair ≡ mode_items_of b) → Run limit s semicolon k m
      (read j m z) → Adds contract_statements_of s (part ContractItem) i n j m (mode w rs es ∷ [])
  adds_mode {w = w} {rs = rs} {es = es} l e h r = record {
    syntax = _;
    run = l.reads _ _ _ r;
    is = λ rest. ap
        (λ z. z ∷ contract_statements_of rest) (mode_is w _ rs _ es _ e (ap (λ z. z.0) h) (ap (λ z. z.1) h));
  }
