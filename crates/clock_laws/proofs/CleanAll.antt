-- In a checked program each expression of a declaration has a scope of the program in which it has no fault.
use Rattle.std.proofs.Common.{◌≡◌, ℕ, suc, List, [], ◌∷◌, ◌++◌, map, flat_map, refl}
use Rattle.std.specs.List.{AllByRecursion}
use Rattle.lus_tree.specs.declared.place.Sort.TheVariants.{Bool as Flags}
use Rattle.lus_tree.specs.Tree.{text_of, Expression, Constant, Labelled, Statement, equation, assertion, property, main_mark, ContractStatement, assume, guarantee, ghost_variable, constant, mode, «import», Component, Program}
use Rattle.lus_meaning.specs.Scene.{base, contract_statements, clock_of_names}
use Rattle.lus_meaning.specs.Occurrences.{on_clock, as_side, on_base, Text, contract_statement_texts, statement_texts, constant_texts, texts}
use Rattle.lus_meaning.specs.Scope.{Scope, Home, contract_statement_scope, constant_scope, body_scope}
use Rattle.lus_meaning.specs.ExpressionFaults.{expression_faults, flag_faults, needs_sort, not_allowed, definition_faults}
use Rattle.lus_meaning.specs.NameFaults.{home, flags_of, contract_statement_faults, contract_faults, statement_faults, local_constant_faults}
use Rattle.lus_meaning.proofs.Lists.{both_parts}
use Rattle.lus_meaning.proofs.NamesOnce.{no_parts}
use Rattle.clock_laws.proofs.Clocks.{IsFaultless}

pub record CleanText (p : Program) (n : Component) (x : Text) : Type 0 where
  pub scope : Scope
  pub program : scope.program ≡ p
  pub owner : scope.owner ≡ n
  pub types : expression_faults scope x.0 x.1 ≡ []

module _ (h : Home) where
  abbrev Clean : Text → Type 0
  Clean = CleanText h.program h.owner

  clean_flag : (s : Scope) → s.program ≡ h.program → s.owner ≡ h.owner → (e : Expression) → flag_faults s e ≡ [] → Clean (on_clock base, e)
  clean_flag s a b e q = record { scope = s; program = a; owner = b; types = (no_parts (needs_sort s Flags e) _ q).1 }

  clean_flags : (s : Scope) → s.program ≡ h.program → s.owner ≡ h.owner → (ls : List Labelled) → flags_of s ls ≡ [] → AllByRecursion Clean (on_base ls)
  clean_flags s a b [] q = tt
  clean_flags s a b (l ∷ ls) q = (
    clean_flag s a b l.value (no_parts (flag_faults s l.value) (flags_of s ls) q).0,
    clean_flags s a b ls (no_parts (flag_faults s l.value) (flags_of s ls) q).1,
  )

  clean_arguments : (s : Scope) → s.program ≡ h.program → s.owner ≡ h.owner → (as_ : List Expression)
      → flat_map (expression_faults s (on_clock base)) as_ ≡ []
      → AllByRecursion Clean (map (λ e. (on_clock base, e)) as_)
  clean_arguments s a b [] q = tt
  clean_arguments s a b (e ∷ as_) q = (
    record { scope = s; program = a; owner = b; types = (no_parts (expression_faults s (on_clock base) e) _ q).0 },
    clean_arguments s a b as_ (no_parts (expression_faults s (on_clock base) e) _ q).1,
  )

  clean_statement : (before : List ContractStatement) (c : ContractStatement) → contract_statement_faults (contract_statement_scope h before) c ≡ []
      → AllByRecursion Clean (contract_statement_texts c)
  clean_statement before (assume l) q = (clean_flag (contract_statement_scope h before) refl refl l.value q, tt)
  clean_statement before (guarantee l) q = (clean_flag (contract_statement_scope h before) refl refl l.value q, tt)
  clean_statement before (ghost_variable v e) q = (
    record {
      scope = contract_statement_scope h before;
      program = refl;
      owner = refl;
      types = (no_parts _ (expression_faults (contract_statement_scope h before) (as_side base) e) q).1;
    },
    tt,
  )
  clean_statement before (constant c) q = (
    record {
      scope = contract_statement_scope h before;
      program = refl;
      owner = refl;
      types = (no_parts (not_allowed (contract_statement_scope h before) c.value) (expression_faults (contract_statement_scope h before) (on_clock base)
          c.value)
          (no_parts _ _ q).0).1;
    },
    tt,
  )
  clean_statement before (mode m rs es) q = both_parts Clean (on_base rs) (on_base es)
      (clean_flags (contract_statement_scope h before) refl refl rs (no_parts (flags_of (contract_statement_scope h before) rs) _ q).0)
      (clean_flags (contract_statement_scope h before) refl refl es (no_parts (flags_of (contract_statement_scope h before) rs) _ q).1)
  clean_statement before («import» k c as_ xs) q = clean_arguments (contract_statement_scope h before) refl refl as_
      (no_parts (flat_map (expression_faults (contract_statement_scope h before) (on_clock base)) as_) _ q).0

  clean_contract : (before cs : List ContractStatement) → contract_faults h before cs ≡ [] → AllByRecursion Clean (flat_map contract_statement_texts cs)
  clean_contract before [] q = tt
  clean_contract before (c ∷ cs) q = both_parts Clean (contract_statement_texts c) (flat_map contract_statement_texts cs)
      (clean_statement before c (no_parts (contract_statement_faults (contract_statement_scope h before) c) _ q).0)
      (clean_contract (before ++ c ∷ []) cs (no_parts (contract_statement_faults (contract_statement_scope h before) c) _ q).1)

  clean_constants : (j : ℕ) (cs : List Constant) → local_constant_faults h j cs ≡ [] → AllByRecursion Clean (constant_texts cs)
  clean_constants j [] q = tt
  clean_constants j (c ∷ cs) q =
      let z = no_parts (definition_faults (constant_scope h j) c.sort c.value) (local_constant_faults h (suc j) cs) q in (
        record {
          scope = constant_scope h j;
          program = refl;
          owner = refl;
          types = (no_parts (not_allowed (constant_scope h j) c.value) (expression_faults (constant_scope h j) (on_clock base) c.value) (no_parts _ _
              z.0).0).1;
        },
        clean_constants (suc j) cs z.1,
      )

  clean_item : (x : Statement) → statement_faults (body_scope h) x ≡ [] → AllByRecursion Clean (statement_texts h.owner x)
  clean_item (equation xs e) q = (
    record {
      scope = body_scope h;
      program = refl;
      owner = refl;
      types = (no_parts _ (expression_faults (body_scope h) (as_side (clock_of_names h.owner (map text_of xs))) e) q).1;
    },
    tt,
  )
  clean_item (assertion e) q = (clean_flag (body_scope h) refl refl e q, tt)
  clean_item (property l) q = (clean_flag (body_scope h) refl refl l.value q, tt)
  clean_item (main_mark p) q = tt

  clean_body : (xs : List Statement) → flat_map (statement_faults (body_scope h)) xs ≡ [] → AllByRecursion Clean (flat_map (statement_texts h.owner) xs)
  clean_body [] q = tt
  clean_body (x ∷ xs) q = both_parts Clean (statement_texts h.owner x) (flat_map (statement_texts h.owner) xs)
      (clean_item x (no_parts (statement_faults (body_scope h) x) _ q).0) (clean_body xs (no_parts (statement_faults (body_scope h) x) _ q).1)

pub clean_texts : (p : Program) (k : ℕ) (n : Component) → IsFaultless p k n → AllByRecursion (CleanText p n) (texts n)
clean_texts p k n f = both_parts (CleanText p n) (flat_map contract_statement_texts (contract_statements n))
    (constant_texts n.constants ++ flat_map (statement_texts n) n.body) (clean_contract (home p k n) [] (contract_statements n) f.contract)
    (both_parts (CleanText p n) (constant_texts n.constants) (flat_map (statement_texts n) n.body) (clean_constants (home p k n) 0 n.constants f.constants)
    (clean_body (home p k n) n.body f.statements))
