-- In a program without faults of types each constant is without faults at its place in the table of its declaration.
use Rattle.std.proofs.Common.{◌≡◌, ℕ, suc, ◌+◌, Bool, true, false, cond, ◌&&◌, List, [], ◌∷◌, ◌++◌, map, flat_map, length, Some, refl, sym, subst, arith}
use Rattle.std.specs.Prelude.{find}
use Rattle.std.specs.List.{AllByRecursion}
use Rattle.std.specs.Str.{bytes_eq}
use Rattle.std.proofs.lemmas.Bool.{false≢true}
use Rattle.lus_tree.specs.Tree.{Name, Variable, Constant, ContractStatement, assume, guarantee, ghost_variable, constant, mode, «import», Component, declared_constant, declared_node, declared_contract, Program}
use Rattle.lus_meaning.specs.Scene.{contract_statements}
use Rattle.lus_meaning.specs.Program.{contract_statement_constants}
use Rattle.lus_meaning.specs.Scope.{Role, an_input, an_output, a_local, is_constant_role, Entry, Scope, entry_of, is_known, is_constant_name, Declared, a_stream, a_fixed, contract_statement_names, local_names, declared_in, entries_from, constants_declared, first_constants, hide_local, Home, own_names, contract_statement_scope, constant_scope}
use Rattle.lus_meaning.specs.ExpressionFaults.{definition_faults}
use Rattle.lus_meaning.specs.NameFaults.{contract_statement_faults, contract_faults, local_constant_faults, outer_scope, component_faults, declaration_faults, home, constant_words}
use Rattle.lus_meaning.proofs.Lists.{append_none}
use Rattle.lus_meaning.proofs.NamesOnce.{no_parts}
use Rattle.rule_laws.specs.Laws.{placed}
use Rattle.rule_laws.proofs.Constants.{is_word, known_in, fixed_in, AlsoAs, Sees, CleanFrom}
use Rattle.rule_laws.proofs.Declared.{put_counted, before, with_locals}

-- ---- the constants of the program

abbrev pub outer_table : Program → List Entry
outer_table p = entries_from p [] [] (constants_declared p)

itself : (sc : Scope) (es : List Entry) → sc.names ≡ es → (x : Name) → is_known sc x ≡ true → is_constant_name sc x ≡ true →
    (known_in (find (is_word x) es) ≡ true) × AlsoAs (entry_of sc x) (find (is_word x) es)
itself sc es e x k f =
    subst (λ ns. (known_in (find (is_word x) ns) ≡ true) × AlsoAs (entry_of sc x) (find (is_word x) ns)) e (k, record { fixed = f; sort = refl; value = refl })

pub outer_clean : (p : Program) (k : ℕ) (ds : Program) → declaration_faults p k ds ≡ [] → CleanFrom (outer_table p) [] (constants_declared ds) k
outer_clean p k [] e = tt
outer_clean p k (declared_constant c ∷ ds) e =
    let q : (definition_faults (outer_scope p k) c.sort c.value ≡ []) × (declaration_faults p (suc k) ds ≡ []) = no_parts
    (definition_faults (outer_scope p k) c.sort c.value) (declaration_faults p (suc k) ds) e in (
      record {
        scope = outer_scope p k;
        shows = itself (outer_scope p k) (first_constants k (outer_table p) ++ [])
            (sym (append_none (first_constants k (outer_table p))));
        clean = q.0;
      },
      outer_clean p (suc k) ds q.1,
    )
outer_clean p k (declared_node n ∷ ds) e = outer_clean p k ds (no_parts (component_faults (home p k n) (constant_words p)) (declaration_faults p k ds) e).1
outer_clean p k (declared_contract n ∷ ds) e = outer_clean p k ds (no_parts (component_faults (home p k n) (constant_words p)) (declaration_faults p k ds) e).1

abbrev pub CleanHome : Program → ℕ × Component → Type 0
CleanHome p h = component_faults (home p h.0 h.1) (constant_words p) ≡ []

pub homes_clean : (p : Program) (k : ℕ) (ds : Program) → declaration_faults p k ds ≡ [] → AllByRecursion (CleanHome p) (placed k ds)
homes_clean p k [] e = tt
homes_clean p k (declared_constant c ∷ ds) e = homes_clean p (suc k) ds (no_parts _ (declaration_faults p (suc k) ds) e).1
homes_clean p k (declared_node n ∷ ds) e =
    let q : CleanHome p (k, n) × (declaration_faults p k ds ≡ []) = no_parts (component_faults (home p k n) (constant_words p))
    (declaration_faults p k ds) e in (q.0, homes_clean p k ds q.1)
homes_clean p k (declared_contract n ∷ ds) e =
    let q : CleanHome p (k, n) × (declaration_faults p k ds ≡ []) = no_parts (component_faults (home p k n) (constant_words p))
    (declaration_faults p k ds) e in (q.0, homes_clean p k ds q.1)

-- ---- the constants of a declaration

first_true : (a b : Bool) → (a && b) ≡ true → a ≡ true
first_true true b e = refl
first_true false b e = absurd (false≢true e)

-- a contract, which doesn't see locals, shows no other constants
hidden : (x : Name) (es : List Entry) → known_in (find (is_word x) (map hide_local es)) ≡ true → fixed_in
    (find (is_word x) (map hide_local es)) ≡ true → (known_in (find (is_word x) es) ≡ true) × AlsoAs (find (is_word x) (map hide_local es))
    (find (is_word x) es)
hidden x [] = λ k f. absurd (false≢true k)
hidden x (e ∷ es) = go (bytes_eq x e.word.text) (hidden x es)
  where
    go : (c : Bool) → (known_in (find (is_word x) (map hide_local es)) ≡ true → fixed_in (find (is_word x) (map hide_local es)) ≡ true →
        (known_in (find (is_word x) es) ≡ true) × AlsoAs (find (is_word x) (map hide_local es)) (find (is_word x) es)) →
        known_in (cond c (Some (hide_local e)) (find (is_word x) (map hide_local es))) ≡ true → fixed_in
        (cond c (Some (hide_local e)) (find (is_word x) (map hide_local es))) ≡ true →
        (known_in (cond c (Some e) (find (is_word x) es)) ≡ true) × AlsoAs
        (cond c (Some (hide_local e)) (find (is_word x) (map hide_local es))) (cond c (Some e) (find (is_word x) es))
    go true r = λ k f. (first_true e.known _ k, record { fixed = f; sort = refl; value = refl })
    go false r = r

contract_statement_shows : (h : Home) (cs : List ContractStatement) → Sees (contract_statement_scope h cs) (own_names h) h.outer
    (length (contract_statement_constants cs))
contract_statement_shows h cs x k f = hidden x (first_constants (length (contract_statement_constants cs)) (own_names h) ++ h.outer) k f

constant_shows : (h : Home) (k : ℕ) → Sees (constant_scope h k) (own_names h) h.outer (length (contract_statement_constants (contract_statements h.owner)) + k)
constant_shows h k = itself (constant_scope h k) (first_constants (length (contract_statement_constants (contract_statements h.owner)) + k)
    (own_names h) ++ h.outer) refl

count_contract_statement : (before : List ContractStatement) (c : ContractStatement) → length
    (contract_statement_constants (before ++ c ∷ [])) ≡ length (contract_statement_constants before) + length
    (contract_statement_constants (c ∷ []))
count_contract_statement [] c = omega arith
count_contract_statement (assume l ∷ cs) c = count_contract_statement cs c
count_contract_statement (guarantee l ∷ cs) c = count_contract_statement cs c
count_contract_statement (ghost_variable v e ∷ cs) c = count_contract_statement cs c
count_contract_statement (constant k ∷ cs) c =
    let r : length (contract_statement_constants (cs ++ c ∷ [])) ≡ length (contract_statement_constants cs) + length
    (contract_statement_constants (c ∷ [])) = count_contract_statement cs c in omega arith
count_contract_statement (mode m rs es ∷ cs) c = count_contract_statement cs c
count_contract_statement («import» k f as_ ws ∷ cs) c = count_contract_statement cs c

module _ (h : Home) where
  abbrev Own : List Declared → ℕ → Type 0
  Own = CleanFrom (own_names h) h.outer

  streams_clean : (r : Role) → is_constant_role r ≡ false → (vs : List Variable) (xs : List Declared) (j : ℕ) → Own xs j → Own (map (a_stream r) vs ++ xs) j
  streams_clean r e [] xs j c = c
  streams_clean r e (v ∷ vs) xs j c = (e, streams_clean r e vs xs j c)

  next_clean : (before : List ContractStatement) (c : ContractStatement) (cs : List ContractStatement) → contract_faults h before
      (c ∷ cs) ≡ [] → (contract_statement_faults (contract_statement_scope h before) c ≡ []) ×
      (contract_faults h (before ++ c ∷ []) cs ≡ [])
  next_clean before c cs e = no_parts (contract_statement_faults (contract_statement_scope h before) c) (contract_faults h (before ++ c ∷ []) cs) e

  same_count : (before : List ContractStatement) (c : ContractStatement) (j : ℕ) → length (contract_statement_constants (c ∷ [])) ≡ 0
      → j ≡ length (contract_statement_constants before) → j ≡ length (contract_statement_constants (before ++ c ∷ []))
  same_count before c j z e =
      let r : length (contract_statement_constants (before ++ c ∷ [])) ≡ length (contract_statement_constants before) + length
      (contract_statement_constants (c ∷ [])) = count_contract_statement before c in omega arith

  contract_statements_clean : (before cs : List ContractStatement) (xs : List Declared) (j m : ℕ) → contract_faults h before cs ≡ []
      → j ≡ length (contract_statement_constants before) → m ≡ j + length (contract_statement_constants cs) → Own xs m → Own
      (flat_map contract_statement_names cs ++ xs) j
  contract_statements_clean before [] xs j m e s t c = let same : m ≡ j = omega arith in subst (Own xs) same c
  contract_statements_clean before (assume l ∷ cs) xs j m e s t c = contract_statements_clean (before ++ assume l ∷ []) cs xs j m
      (next_clean before (assume l) cs e).1 (same_count before (assume l) j refl s) t c
  contract_statements_clean before (guarantee l ∷ cs) xs j m e s t c = contract_statements_clean (before ++ guarantee l ∷ []) cs xs j m
      (next_clean before (guarantee l) cs e).1 (same_count before (guarantee l) j refl s) t c
  contract_statements_clean before (ghost_variable v a ∷ cs) xs j m e s t c = (
    refl,
    contract_statements_clean (before ++ ghost_variable v a ∷ []) cs xs j m (next_clean before (ghost_variable v a) cs e).1
        (same_count before (ghost_variable v a) j refl s) t c,
  )
  contract_statements_clean before (constant k ∷ cs) xs j m e s t c =
      let q : (contract_statement_faults (contract_statement_scope h before) (constant k) ≡ []) ×
      (contract_faults h (before ++ constant k ∷ []) cs ≡ []) = next_clean before (constant k) cs e in
      let r : length (contract_statement_constants (before ++ constant k ∷ [])) ≡ length (contract_statement_constants before) + length
      (contract_statement_constants (constant k ∷ [])) = count_contract_statement before (constant k) in (
        record {
          scope = contract_statement_scope h before;
          shows = subst (Sees (contract_statement_scope h before) (own_names h) h.outer)
              (sym s) (contract_statement_shows h before);
          clean = q.0;
        },
        contract_statements_clean (before ++ constant k ∷ []) cs xs (suc j) m q.1 (omega arith) (omega arith) c,
      )
  contract_statements_clean before (mode w rs es ∷ cs) xs j m e s t c = contract_statements_clean (before ++ mode w rs es ∷ []) cs xs j m
      (next_clean before (mode w rs es) cs e).1 (same_count before (mode w rs es) j refl s) t c
  contract_statements_clean before («import» k f as_ ws ∷ cs) xs j m e s t c =
      contract_statements_clean (before ++ «import» k f as_ ws ∷ []) cs xs j m (next_clean before («import» k f as_ ws) cs e).1
      (same_count before («import» k f as_ ws) j refl s) t c

  fixed_clean : (k : ℕ) (cs : List Constant) (j : ℕ) → local_constant_faults h k cs ≡ [] → j ≡ length
      (contract_statement_constants (contract_statements h.owner)) + k → Own (map a_fixed cs) j
  fixed_clean k [] j e s = tt
  fixed_clean k (c ∷ cs) j e s =
      let q : (definition_faults (constant_scope h k) c.sort c.value ≡ []) × (local_constant_faults h (suc k) cs ≡ []) = no_parts
      (definition_faults (constant_scope h k) c.sort c.value) (local_constant_faults h (suc k) cs) e in (
        record { scope = constant_scope h k; shows = subst (Sees (constant_scope h k) (own_names h) h.outer) (sym s) (constant_shows h k); clean = q.0 },
        fixed_clean (suc k) cs (suc j) q.1 (omega arith),
      )

  more_clean : (x : Declared) (as_ bs : List Declared) (j : ℕ) → ((i : ℕ) → Own as_ i → Own bs i) → Own (x ∷ as_) j → Own (x ∷ bs) j
  more_clean (a_stream r v) as_ bs j f c = (c.0, f j c.1)
  more_clean (a_fixed k) as_ bs j f c = (c.0, f (suc j) c.1)

  locals_clean : (vs : List Variable) (xs : List Declared) (j : ℕ) → Own xs j → Own (with_locals xs vs) j
  locals_clean [] xs j c = c
  locals_clean (v ∷ vs) xs j c =
      put_counted (a_stream a_local v) (λ ws. with_locals ws vs) Own more_clean (λ ws i b. (refl, locals_clean vs ws i b))
      (before (a_stream a_local v) xs) xs j c

  pub own_clean : contract_faults h [] (contract_statements h.owner) ≡ [] → local_constant_faults h 0 h.owner.constants ≡ [] → Own (declared_in h.owner) 0
  own_clean e l =
      let m : ℕ = length (contract_statement_constants (contract_statements h.owner)) in
      streams_clean an_input refl h.owner.inputs (map (a_stream an_output) h.owner.outputs ++
      (flat_map contract_statement_names (contract_statements h.owner) ++ local_names h.owner)) 0
      (streams_clean an_output refl h.owner.outputs (flat_map contract_statement_names (contract_statements h.owner) ++ local_names h.owner) 0
      (contract_statements_clean [] (contract_statements h.owner) (local_names h.owner) 0 m e refl (omega arith)
      (locals_clean h.owner.locals (map a_fixed h.owner.constants) m (fixed_clean 0 h.owner.constants m l (omega arith)))))
