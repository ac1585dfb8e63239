-- What stands before a place of a contract or a body, as a loop goes on.
use Rattle.std.proofs.Common.{◌≡◌, ◌∙◌, add-one, ℕ, suc, ◌+◌, ◌<◌, ◌≤◌, List, [], ◌∷◌, ◌++◌, Option, take, drop, map, flat_map, length, get_or, refl, ap, sym, subst, append_assoc, arith}
use Rattle.std.proofs.Math.Seq.{take-suc}
use Rattle.std.proofs.lemmas.List.{append-nil, drop_all, length-append, length-map, length-take-le, map-append}
use Rattle.lus_tree.specs.declared.declaration.Definition.{Definition}
use Rattle.lus_tree.specs.View.{definition_view}
use Rattle.lus_meaning.specs.Scene.{contract_statements}
use Rattle.lus_meaning.specs.ExpressionFaults.{definition_faults, used_as_clock}
use Rattle.lus_tree.specs.Reason.{Refused}
use Rattle.lus_tree.specs.Tree.{Constant, Variable, Statement, ContractStatement, assume, guarantee, ghost_variable, constant, mode, «import»}
use Rattle.lus_meaning.specs.Program.{contract_statement_constants}
use Rattle.lus_meaning.specs.Scope.{Home, Scope, body_scope, constant_scope, contract_statement_scope, import_names, mode_names, scope_with}
use Rattle.lus_meaning.specs.NameFaults.{body_faults, clock_words, contract_faults, contract_statement_faults, local_constant_faults, statement_faults}
use Rattle.lus_types.specs.Before.{Earlier, earlier, one_behind}
use Rattle.lus_scopes.specs.Notes.{Notes}
use Rattle.lus_scopes.proofs.Loops.{dropped}
use Rattle.lus_scopes.proofs.Noting.{all_noted, both_noted, nothing_noted, second_first}
use Rattle.lus_scopes.specs.Least.{noted_all}

-- ---- one more

pub taken : {X : Type 0} (xs : List X) (i : ℕ) (x : X) → i < length xs → x ≡ get_or xs i x → take (i + 1) xs ≡ take i xs ++ x ∷ []
taken xs i x h e = rw add-one (take-suc xs i x h ∙ ap (λ y. take i xs ++ y ∷ []) (sym e))

constants_behind : (cs : List ContractStatement) (c : ContractStatement)
    → contract_statement_constants (cs ++ c ∷ []) ≡ contract_statement_constants cs ++ contract_statement_constants (c ∷ [])
constants_behind [] c = refl
constants_behind (assume l ∷ cs) c = constants_behind cs c
constants_behind (guarantee l ∷ cs) c = constants_behind cs c
constants_behind (ghost_variable v e ∷ cs) c = constants_behind cs c
constants_behind (constant d ∷ cs) c = ap (λ ds. d ∷ ds) (constants_behind cs c)
constants_behind (mode m rs es ∷ cs) c = constants_behind cs c
constants_behind («import» k d as_ ws ∷ cs) c = constants_behind cs c

modes_behind : (cs : List ContractStatement) (c : ContractStatement) → mode_names (cs ++ c ∷ []) ≡ mode_names cs ++ mode_names (c ∷ [])
modes_behind [] c = refl
modes_behind (assume l ∷ cs) c = modes_behind cs c
modes_behind (guarantee l ∷ cs) c = modes_behind cs c
modes_behind (ghost_variable v e ∷ cs) c = modes_behind cs c
modes_behind (constant d ∷ cs) c = modes_behind cs c
modes_behind (mode m rs es ∷ cs) c = ap (λ xs. m.text ∷ xs) (modes_behind cs c)
modes_behind («import» k d as_ ws ∷ cs) c = modes_behind cs c

imports_behind : (cs : List ContractStatement) (c : ContractStatement) → import_names (cs ++ c ∷ []) ≡ import_names cs ++ import_names (c ∷ [])
imports_behind [] c = refl
imports_behind (assume l ∷ cs) c = imports_behind cs c
imports_behind (guarantee l ∷ cs) c = imports_behind cs c
imports_behind (ghost_variable v e ∷ cs) c = imports_behind cs c
imports_behind (constant d ∷ cs) c = imports_behind cs c
imports_behind (mode m rs es ∷ cs) c = imports_behind cs c
imports_behind («import» k d as_ ws ∷ cs) c = ap (λ xs. d.text ∷ xs) (imports_behind cs c)

-- ---- a contract

earlier_behind : (cs : List ContractStatement) (c : ContractStatement) → one_behind (earlier cs []) (earlier (c ∷ []) []) ≡ earlier (cs ++ c ∷ []) []
earlier_behind cs c =
    rw (
      constants_behind cs c,
      modes_behind cs c,
      imports_behind cs c,
      append-nil (contract_statement_constants cs),
      append-nil (contract_statement_constants (c ∷ [])),
      append-nil (contract_statement_constants cs ++ contract_statement_constants (c ∷ [])),
    ) refl

-- what stands before, and that the faults so far are noted
pub record OnContract {X : Type 0} (h : Home) (v : X → ContractStatement) (xs : List X) (i : ℕ) (s o : Option Refused) (e : Earlier) : Type 0 where
  pub before : e ≡ earlier (map v (take i xs)) []
  pub way : (q : Option Refused) → Notes o q (contract_faults h (map v (take i xs)) (map v (drop i xs))) → Notes s q (contract_faults h [] (map v xs))

module _ {X : Type 0} (h : Home) (v : X → ContractStatement) (xs : List X) where
  pub contract_begin : (s : Option Refused) (e : Earlier) → e ≡ earlier [] [] → OnContract h v xs 0 s s e
  contract_begin s e i = record { before = i; way = λ q n. n }

  pub contract_next : (i : ℕ) (x : X) (s o q : Option Refused) (e d : Earlier) → i < length xs → x ≡ get_or xs i x → OnContract h v xs i s o e
      → d ≡ one_behind e (earlier (v x ∷ []) [])
      → ((cs : List ContractStatement) → e ≡ earlier cs [] → Notes o q (contract_statement_faults (contract_statement_scope h cs) (v x)))
      → OnContract h v xs (i + 1) s q d
  contract_next i x s o q e d l g w a n =
      let cs : List ContractStatement = map v (take i xs) in
      let t : map v (take (i + 1) xs) ≡ cs ++ v x ∷ [] = ap (map v) (taken xs i x l g) ∙ map-append v (take i xs) (x ∷ []) in
      record {
        before = a ∙ ap (λ z. one_behind z (earlier (v x ∷ []) [])) w.before ∙ earlier_behind cs (v x) ∙ ap (λ z. earlier z []) (sym t);
        way = λ r m. w.way r (subst (λ zs. Notes o r (contract_faults h cs (map v zs))) (sym (dropped xs i x l g))
            (both_noted o q r (contract_statement_faults (contract_statement_scope h cs) (v x))
            (contract_faults h (cs ++ v x ∷ []) (map v (drop (i + 1) xs))) (n cs w.before)
            (subst (λ z. Notes q r (contract_faults h z (map v (drop (i + 1) xs)))) t m)));
      }

  pub contract_end : (i : ℕ) (s o : Option Refused) (e : Earlier) → length xs ≤ i → OnContract h v xs i s o e
      → Notes s o (contract_faults h [] (map v xs))
  contract_end i s o e l w =
      w.way o (subst (λ zs. Notes o o (contract_faults h (map v (take i xs)) (map v zs))) (sym (drop_all i xs l)) (nothing_noted o))

  pub all_before : (i : ℕ) (s o : Option Refused) (e : Earlier) → take i xs ≡ xs → OnContract h v xs i s o e → e ≡ earlier (map v xs) []
  all_before i s o e t w = w.before ∙ ap (λ ys. earlier (map v ys) []) t

-- ---- the constants of a body

constant_behind : (cs : List ContractStatement) (ds : List Constant) (d : Constant)
    → one_behind (earlier cs ds) (earlier [] (d ∷ [])) ≡ earlier cs (ds ++ d ∷ [])
constant_behind cs ds d =
    rw (append_assoc (contract_statement_constants cs) ds (d ∷ []), append-nil (mode_names cs), append-nil (import_names cs)) refl

pub record OnConstants (h : Home) (xs : List Definition) (i : ℕ) (s o : Option Refused) (e : Earlier) : Type 0 where
  pub before : e ≡ earlier (contract_statements h.owner) (map definition_view (take i xs))
  pub way : (q : Option Refused) → Notes o q (local_constant_faults h i (map definition_view (drop i xs)))
      → Notes s q (local_constant_faults h 0 (map definition_view xs))

count_first : (cs : List Constant) (xs : List Definition) (i : ℕ) → i ≤ length xs
    → length (cs ++ map definition_view (take i xs)) ≡ length cs + i
count_first cs xs i l =
    length-append cs (map definition_view (take i xs)) ∙ ap (λ n. length cs + n) (length-map (take i xs) definition_view ∙ length-take-le i xs l)

module _ (h : Home) (xs : List Definition) where
  pub constants_begin : (s : Option Refused) (e : Earlier) → e ≡ earlier (contract_statements h.owner) [] → OnConstants h xs 0 s s e
  constants_begin s e i = record { before = i; way = λ q n. n }

  pub constants_next : (i : ℕ) (x : Definition) (s o q : Option Refused) (e d : Earlier) → i < length xs → x ≡ get_or xs i x → OnConstants h xs i s o e
      → d ≡ one_behind e (earlier [] (definition_view x ∷ []))
      → ((cs : List ContractStatement) (ds : List Constant) → e ≡ earlier cs ds → Notes o q
      (definition_faults (scope_with h (length (contract_statement_constants cs ++ ds)) cs) (definition_view x).sort (definition_view x).value))
      → OnConstants h xs (i + 1) s q d
  constants_next i x s o q e d l g w a n =
      let cs : List ContractStatement = contract_statements h.owner in
      let t : map definition_view (take (i + 1) xs) ≡ map definition_view (take i xs) ++ definition_view x ∷ [] =
      ap (map definition_view) (taken xs i x l g) ∙ map-append definition_view (take i xs) (x ∷ []) in
      record {
        before = a ∙ ap (λ z. one_behind z (earlier [] (definition_view x ∷ []))) w.before
            ∙ constant_behind cs (map definition_view (take i xs)) (definition_view x) ∙ ap (earlier cs) (sym t);
        way = λ r m. w.way r (subst (λ zs. Notes o r (local_constant_faults h i (map definition_view zs))) (sym (dropped xs i x l g))
            (both_noted o q r (definition_faults (constant_scope h i) (definition_view x).sort (definition_view x).value)
            (local_constant_faults h (suc i) (map definition_view (drop (i + 1) xs)))
            (subst (λ k. Notes o q (definition_faults (scope_with h k cs) (definition_view x).sort (definition_view x).value))
            (count_first (contract_statement_constants cs) xs i (omega arith)) (n cs (map definition_view (take i xs)) w.before))
            (subst (λ k. Notes q r (local_constant_faults h k (map definition_view (drop (i + 1) xs)))) (add-one i) m)));
      }

  pub constants_end : (i : ℕ) (s o : Option Refused) (e : Earlier) → length xs ≤ i → OnConstants h xs i s o e
      → Notes s o (local_constant_faults h 0 (map definition_view xs))
  constants_end i s o e l w =
      w.way o (subst (λ zs. Notes o o (local_constant_faults h i (map definition_view zs))) (sym (drop_all i xs l)) (nothing_noted o))

  pub all_constants : (i : ℕ) (s o : Option Refused) (e : Earlier) → take i xs ≡ xs → OnConstants h xs i s o e
      → e ≡ earlier (contract_statements h.owner) (map definition_view xs)
  all_constants i s o e t w = w.before ∙ ap (λ ys. earlier (contract_statements h.owner) (map definition_view ys)) t

-- the scope of the body, behind all constants
pub behind_all_constants : (h : Home) (ds : List Constant) → ds ≡ h.owner.constants
    → scope_with h (length (contract_statement_constants (contract_statements h.owner) ++ ds)) (contract_statements h.owner) ≡ body_scope h
behind_all_constants h ds e =
    ap (λ k. scope_with h k (contract_statements h.owner)) (length-append (contract_statement_constants (contract_statements h.owner)) ds
    ∙ ap (λ zs. length (contract_statement_constants (contract_statements h.owner)) + length zs) e)

pub body_noted : (h : Home) (s : Scope) (ds : List Constant) (vs : List Variable) (ts : List Statement) (o p q r : Option Refused)
    → s ≡ body_scope h → ds ≡ h.owner.constants → vs ≡ h.owner.locals → ts ≡ h.owner.body → Notes o p (local_constant_faults h 0 ds)
    → q ≡ noted_all p (flat_map (used_as_clock s) (flat_map clock_words vs)) → Notes q r (flat_map (statement_faults s) ts)
    → Notes o r (body_faults h)
body_noted h s ds vs ts o p q r a b d e n c m =
    second_first o p q r (local_constant_faults h 0 h.owner.constants)
    (flat_map (used_as_clock (body_scope h)) (flat_map clock_words h.owner.locals)) (flat_map (statement_faults (body_scope h)) h.owner.body)
    (subst (λ zs. Notes o p (local_constant_faults h 0 zs)) b n)
    (all_noted p q (flat_map (used_as_clock (body_scope h)) (flat_map clock_words h.owner.locals))
    (c ∙ ap (λ z. noted_all p (flat_map (used_as_clock z) (flat_map clock_words vs))) a
    ∙ ap (λ z. noted_all p (flat_map (used_as_clock (body_scope h)) (flat_map clock_words z))) d))
    (subst (λ z. Notes q r (flat_map (statement_faults (body_scope h)) z)) e (subst (λ z. Notes q r (flat_map (statement_faults z) ts)) a m))
