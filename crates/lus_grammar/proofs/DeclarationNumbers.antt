-- The numbers in a declaration's text are those in its tree, and each declaration of a source is numbered.
use Rattle.std.proofs.Common.{◌≡◌, ℕ, ◌+◌, List, [], ◌∷◌, ◌++◌, map, flat_map, unwrap_or, refl, ap, ◌∙◌, arith, Some, None}
use Rattle.std.proofs.Math.Logic.{◌⊎◌, inl, inr}
use Rattle.std.proofs.lemmas.Grind.{flat_map-append}
use Rattle.std.proofs.lemmas.List.{map-append}
use Rattle.lus_lexer.specs.declared.token.Class.TheVariants as C
use Rattle.lus_lexer.specs.declared.token.Keyword.TheVariants as K
use Rattle.lus_lexer.specs.declared.token.Sign.TheVariants as S
use Rattle.lus_tree.specs.Tree as T
use Rattle.lus_tree.specs.Tree.{Expression, ContractStatement, Component, declared_constant, Program}
use Rattle.lus_tree.specs.Numbers.{Counted, a_call, own_number, numbers, body_expressions, contract_statement_expressions, import_number}
use Rattle.lus_grammar.specs.Stream.{Stream, Mark}
use Rattle.lus_grammar.specs.Phrase as P
use Rattle.lus_grammar.specs.Phrase.{Part, Phrase, part, limited, fresh, ◌⨾◌, ◌∣◌, repeated, optional}
use Rattle.lus_grammar.specs.Grammar.{labelled}
use Rattle.lus_grammar.specs.Syntax.{Counts, Syntax, leaf, node, ◌·◌, this, some}
use Rattle.lus_grammar.specs.Trees.{spelled, expression_of}
use Rattle.lus_grammar.specs.Programs.{variable_of, sort_of, optional_names_of, labelled_of, items_of, requires_of, ensures_of, constants_of, local_constants_of, import_arguments_of, more_arguments_of, contract_statements_of, contract_of}
use Rattle.lus_grammar.specs.Text as G
use Rattle.lus_grammar.specs.Text.{Text}
use Rattle.lus_grammar.proofs.Weights.{weigh, weigh_both}
use Rattle.lus_grammar.proofs.ExpressionNumbers.{seen, in_text, quiet, own_weight, is_import, in_expression}

module _ (c : Counted) (w : ℕ → ℕ) where
  -- what the numbers of some expressions weigh
  abbrev pub total : List Expression → ℕ
  total es = weigh w (flat_map (numbers (own_number c)) es)

  total_first : (e : Expression) (es : List Expression) → total (e ∷ es) ≡ seen c w e + total es
  total_first e es = weigh_both w (numbers (own_number c) e) (flat_map (numbers (own_number c)) es)

  pub total_both : (es fs : List Expression) → total (es ++ fs) ≡ total es + total fs
  total_both es fs = ap (weigh w) (flat_map-append (numbers (own_number c)) es fs) ∙ weigh_both w (flat_map (numbers (own_number c)) es)
      (flat_map (numbers (own_number c)) fs)

  abbrev pub imports : List ContractStatement → ℕ
  imports cs = weigh w (flat_map (import_number c) cs)

  imports_both : (cs ds : List ContractStatement) → imports (cs ++ ds) ≡ imports cs + imports ds
  imports_both cs ds = ap (weigh w) (flat_map-append (import_number c) cs ds) ∙ weigh_both w (flat_map (import_number c) cs) (flat_map (import_number c) ds)

  -- of a contract
  abbrev pub contract_statements_weight : List ContractStatement → ℕ
  contract_statements_weight cs = total (flat_map contract_statement_expressions cs) + imports cs

  contract_statements_first : (d : ContractStatement) (cs : List ContractStatement) → contract_statements_weight (d ∷ cs) ≡
      (total (contract_statement_expressions d) + weigh w (import_number c d)) + contract_statements_weight cs
  contract_statements_first d cs =
      let a = total_both (contract_statement_expressions d) (flat_map contract_statement_expressions cs) in
      let b = weigh_both w (import_number c d) (flat_map (import_number c) cs) in
      omega arith

  module _ {limit end : ℕ} {s : Stream} where
    in_limited : {i j : ℕ} {n m : Counts} {x : Syntax} → Text limit end s (limited P.Expression) i j n m x → seen c w (expression_of x) ≡ in_text c w x
    in_limited (G.line_within a l) = in_expression c w (G.line a)

    in_labelled : {i j : ℕ} {n m : Counts} {x : Syntax} → Text limit end s labelled i j n m x → (t : Mark) → seen c w (labelled_of t x).value ≡ in_text c w x
    in_labelled (G.both l (G.both e u)) t =
        let a = quiet c w l refl in
        let b = in_limited e in
        let d = quiet c w u refl in
        omega arith

    -- ---- bodies

    pub in_items : {i j : ℕ} {n m : Counts} {x : Syntax} → Text limit end s (repeated (part P.Item)) i j n m x → total
        (body_expressions (items_of x)) ≡ in_text c w x
    in_items G.no_more = refl
    in_items (G.again {y = is} (G.line (G.this_one (G.both l (G.both t (G.both {x = a} e u))))) r) =
        let f = total_first (expression_of a) (body_expressions (items_of is)) in
        let p = quiet c w l refl in
        let q = quiet c w t refl in
        let g = in_limited e in
        let h = quiet c w u refl in
        let k = in_items r in
        omega arith
    in_items (G.again {y = is} (G.line (G.that_one (G.this_one (G.both t (G.both {x = a} e u))))) r) =
        let f = total_first (expression_of a) (body_expressions (items_of is)) in
        let q = quiet c w t refl in
        let g = in_limited e in
        let h = quiet c w u refl in
        let k = in_items r in
        omega arith
    in_items (G.again {y = is} (G.line (G.that_one (G.that_one (G.this_one (G.both {y = l} (G.token {i = i} t) e))))) r) =
        let f = total_first (labelled_of (s i) l).value (body_expressions (items_of is)) in
        let g = in_labelled e (s i) in
        let k = in_items r in
        omega arith
    in_items (G.again (G.line (G.that_one (G.that_one (G.that_one (G.both (G.token t) u))))) r) =
        let h = quiet c w u refl in
        let k = in_items r in
        omega arith

    -- ---- constants

    in_constant : {i j : ℕ} {n m : Counts} {x : Syntax} → Text limit end s (part P.Constant) i j n m x → total
        (map (λ d. d.value) (constants_of x)) ≡ in_text c w x
    in_constant (G.line (G.both (G.token t) (G.both (G.token x) (G.both q (G.both u (G.both {x = a} e v)))))) =
        let f = total_first (expression_of a) [] in
        let g = quiet c w q refl in
        let h = quiet c w u refl in
        let k = in_limited e in
        let l = quiet c w v refl in
        omega arith

    in_constant_contract_statement : {i j : ℕ} {n m : Counts} {x : Syntax} → Text limit end s (part P.Constant) i j n m x
        → contract_statements_weight (map T.constant (constants_of x)) ≡ in_text c w x
    in_constant_contract_statement (G.line (G.both (G.token t) (G.both (G.token x) (G.both q (G.both u (G.both {x = a} e v)))))) =
        let f = total_first (expression_of a) [] in
        let g = quiet c w q refl in
        let h = quiet c w u refl in
        let k = in_limited e in
        let l = quiet c w v refl in
        omega arith

    pub in_locals : {i j : ℕ} {n m : Counts} {x : Syntax} → Text limit end s (repeated (part P.Locals)) i j n m x → total
        (map (λ d. d.value) (local_constants_of x)) ≡ in_text c w x
    in_locals G.no_more = refl
    in_locals (G.again (G.line (G.this_one v)) r) =
        let p = quiet c w v refl in
        let q = in_locals r in
        omega arith
    in_locals (G.again {y = ls} (G.line (G.that_one {x = x} k)) r) =
        let e = ap total (map-append (λ d. d.value) (constants_of x) (local_constants_of ls)) in
        let f = total_both (map (λ d. d.value) (constants_of x)) (map (λ d. d.value) (local_constants_of ls)) in
        let p = in_constant k in
        let q = in_locals r in
        omega arith

    -- ---- contracts

    in_mode_items : {i j : ℕ} {n m : Counts} {x : Syntax} → Text limit end s (repeated (part P.ModeItem)) i j n m x → total
        (map (λ l. l.value) (requires_of x)) + total (map (λ l. l.value) (ensures_of x)) ≡ in_text c w x
    in_mode_items G.no_more = omega arith
    in_mode_items (G.again {y = is} (G.line (G.both {y = l} (G.token {i = i} t) e)) r) = go t (in_labelled e (s i)) (in_mode_items r)
      where
        v : Expression
        v = (labelled_of (s i) l).value

        go : ((s i).class ≡ Some (C.Keyword K.Require)) ⊎ (((s i).class ≡ Some (C.Keyword K.Ensure)) ⊎ ⊥) → seen c w v ≡ in_text c w l
            → total (map (λ l. l.value) (requires_of is)) + total (map (λ l. l.value) (ensures_of is)) ≡ in_text c w is →
            total (map (λ l. l.value) (requires_of (some (node P.ModeItem (leaf (s i) · l)) is))) + total
            (map (λ l. l.value) (ensures_of (some (node P.ModeItem (leaf (s i) · l)) is))) ≡ (0 + in_text c w l) + in_text c w is
        go (inl a) p q = rw a (let f = total_first v (map (λ l. l.value) (requires_of is)) in omega arith)
        go (inr (inl a)) p q = rw a (let f = total_first v (map (λ l. l.value) (ensures_of is)) in omega arith)
        go (inr (inr a)) p q = absurd a

    in_more_arguments : {i j : ℕ} {n m : Counts} {x : Syntax} → Text limit end s
        (repeated (P.sign S.Comma ⨾ limited P.Expression)) i j n m x → total (more_arguments_of x) ≡ in_text c w x
    in_more_arguments G.no_more = refl
    in_more_arguments (G.again {y = as_} (G.both {y = a} t e) r) =
        let f = total_first (expression_of a) (more_arguments_of as_) in
        let p = quiet c w t refl in
        let q = in_limited e in
        let k = in_more_arguments r in
        omega arith

    in_import_arguments : {i j : ℕ} {n m : Counts} {x : Syntax} → Text limit end s (optional (part P.Arguments)) i j n m x → total
        (import_arguments_of x) ≡ in_text c w x
    in_import_arguments G.not_once = refl
    in_import_arguments (G.once (G.line (G.both {x = a} {y = as_} e r))) =
        let f = total_first (expression_of a) (more_arguments_of as_) in
        let q = in_limited e in
        let k = in_more_arguments r in
        omega arith

    pub in_contract_statements : {i j : ℕ} {n m : Counts} {x : Syntax} → Text limit end s (repeated (part P.ContractItem)) i j n m x
        → contract_statements_weight (contract_statements_of x) ≡ in_text c w x
    in_contract_statements G.no_more = omega arith
    in_contract_statements (G.again {y = is} (G.line (G.this_one (G.both {y = l} (G.token {i = i} t) e))) r) = go t (in_labelled e (s i))
        (in_contract_statements r)
      where
        go : ((s i).class ≡ Some (C.Keyword K.Assume)) ⊎ (((s i).class ≡ Some (C.Keyword K.Guarantee)) ⊎ ⊥) → seen c w
            (labelled_of (s i) l).value ≡ in_text c w l → contract_statements_weight (contract_statements_of is) ≡ in_text c w is →
            contract_statements_weight (contract_statements_of (some (node P.ContractItem (this (leaf (s i) · l))) is)) ≡ (0 + in_text c w l) + in_text c w is
        go (inl a) p q = rw a (let f = contract_statements_first (T.assume (labelled_of (s i) l)) (contract_statements_of is)
            in let g = total_first (labelled_of (s i) l).value [] in omega arith)
        go (inr (inl a)) p q = rw a (let f = contract_statements_first (T.guarantee (labelled_of (s i) l)) (contract_statements_of is)
            in let g = total_first (labelled_of (s i) l).value [] in omega arith)
        go (inr (inr a)) p q = absurd a
    in_contract_statements (G.again {y = is} (G.line (G.that_one (G.this_one
        (G.both (G.token t) (G.both (G.token {i = i} v) (G.both u (G.both {x = q} o (G.both f (G.both {x = a} e g))))))))) r) =
        let h = contract_statements_first (T.ghost_variable (variable_of (sort_of q) None (spelled (s i))) (expression_of a)) (contract_statements_of is) in
        let k = total_first (expression_of a) [] in
        let q1 = quiet c w u refl in
        let q2 = quiet c w o refl in
        let q3 = quiet c w f refl in
        let q4 = quiet c w g refl in
        let p = in_limited e in
        let r' = in_contract_statements r in
        omega arith
    in_contract_statements (G.again {y = is} (G.line (G.that_one (G.that_one (G.this_one {x = x} k)))) r) =
        let e = ap total (flat_map-append contract_statement_expressions (map T.constant (constants_of x)) (contract_statements_of is)) in
        let f = total_both (flat_map contract_statement_expressions (map T.constant (constants_of x)))
        (flat_map contract_statement_expressions (contract_statements_of is)) in
        let g = imports_both (map T.constant (constants_of x)) (contract_statements_of is) in
        let p = in_constant_contract_statement k in
        let q = in_contract_statements r in
        omega arith
    in_contract_statements (G.again {y = is} (G.line (G.that_one (G.that_one
        (G.that_one (G.this_one (G.both (G.token t) (G.both (G.token {i = i} v) (G.both u (G.both {x = rs} e (G.both f g)))))))))) r) =
        let h = contract_statements_first (T.mode (spelled (s i)) (requires_of rs) (ensures_of rs)) (contract_statements_of is) in
        let k = total_both (map (λ l. l.value) (requires_of rs)) (map (λ l. l.value) (ensures_of rs)) in
        let q1 = quiet c w u refl in
        let q2 = quiet c w f refl in
        let q3 = quiet c w g refl in
        let p = in_mode_items e in
        let r' = in_contract_statements r in
        omega arith
    in_contract_statements {n = n} (G.again {y = is} (G.line (G.that_one
        (G.that_one (G.that_one (G.that_one (G.both (G.occurrence {i = i} t)
        (G.both (G.token {i = k} v) (G.both u (G.both {x = as_} e (G.both f (G.both g (G.both h (G.both {x = xs} o (G.both y z))))))))))))))
        r) =
        let h' = contract_statements_first (T.«import» (n.calls + 1) (spelled (s k)) (import_arguments_of as_) (optional_names_of xs))
        (contract_statements_of is) in
        let o' = own_weight c w a_call (n.calls + 1) (s i) (C.Keyword K.Import) t (is_import c) in
        let q1 = quiet c w u refl in
        let q2 = quiet c w f refl in
        let q3 = quiet c w g refl in
        let q4 = quiet c w h refl in
        let q5 = quiet c w o refl in
        let q6 = quiet c w y refl in
        let q7 = quiet c w z refl in
        let p = in_import_arguments e in
        let r' = in_contract_statements r in
        omega arith

    pub in_contract : {i j : ℕ} {n m : Counts} {x : Syntax} → Text limit end s (optional (part P.Contract)) i j n m x
        → contract_statements_weight (unwrap_or (contract_of x) []) ≡ in_text c w x
    in_contract G.not_once = omega arith
    in_contract (G.once (G.line (G.this_one (G.both t (G.both is u))))) = let a = quiet c w t refl in let p = in_contract_statements is
        in let b = quiet c w u refl in omega arith
    in_contract (G.once (G.line (G.that_one (G.both t (G.both is u))))) = let a = quiet c w t refl in let p = in_contract_statements is
        in let b = quiet c w u refl in omega arith
