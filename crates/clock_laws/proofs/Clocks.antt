-- Where no rule of names, types and clocks is broken, in a frame whose names are on their clocks, each occurrence of an
-- expression has its value exactly on the clock of its place: contracts with their imports first, and then constants
-- and bodies.
use Rattle.std.proofs.Common.{◌≡◌, ℕ, zero, suc, pred, ◌<◌, ◌≤◌, Bool, true, false, ◌&&◌, ◌||◌, List, [], ◌∷◌, ◌++◌, map, flat_map, length, slice_index_or, refl, sym, ap, ◌∙◌, subst, arith, Option, Some, None}
use Rattle.std.specs.Prelude.{Contains}
use Rattle.std.specs.List.{AllByRecursion, list_all}
use Rattle.std.specs.Str.{bytes_eq}
use Rattle.std.proofs.lemmas.Bool.{false≢true}
use Rattle.lus_tree.specs.declared.place.Sort.TheVariants.{Bool as Flags}
use Rattle.lus_tree.specs.Tree.{Name, Spelled, text_of, Expression, Constant, Statement, equation, assertion, property, main_mark, ContractStatement, assume, guarantee, ghost_variable, constant, mode, «import», Component, declared_constant, declared_node, declared_contract, Program}
use Rattle.lus_tree.specs.Reason.{name_twice}
use Rattle.lus_meaning.specs.Value.{Instants, has_sort}
use Rattle.lus_meaning.specs.Frame.{Frame, firsts_of, first_value, call_frame}
use Rattle.lus_meaning.specs.Scene.{base, Site, Instance, Instances, instance, no_instances, with_instance, component_of, calls_of, instance_at, call_instance, contract_statements, clock_of_names}
use Rattle.lus_meaning.specs.Contract.{Terms, no_terms, terms, terms_each, terms_after, ModeTerms, mode_terms, imported_mode}
use Rattle.lus_meaning.specs.Program.{site_in, import_site, all_sites, component_named, instance_of}
use Rattle.lus_meaning.specs.Run.{sort_of, first_sorts, have_sorts}
use Rattle.lus_meaning.specs.Depends.{named_in}
use Rattle.lus_meaning.specs.Occurrences.{Standing, on_clock, as_side, occurrences, all_occurrences, texts, Text, contract_statement_texts, statement_texts, constant_texts, gathered, memory_in, memories}
use Rattle.lus_meaning.specs.Scope.{Scope, node_named, contract_named, mode_names, constant_scope, body_scope}
use Rattle.lus_meaning.specs.Faults.{words_twice}
use Rattle.lus_meaning.specs.ExpressionFaults.{expression_faults, needs_sort, not_allowed, sides_fit, definition_faults, has_mode}
use Rattle.lus_meaning.specs.NameFaults.{home, component_faults, declaration_faults, typing_faults, constant_words, contract_faults, local_constant_faults, statement_faults, body_faults, labels_twice, own_words, outer_twice, mode_words}
use Rattle.lus_meaning.specs.ClockFaults.{components, clock_faults, component_clock_faults, clock_faults_of, contract_statement_clock_faults, statement_clock_faults}
use Rattle.lus_meaning.specs.Grammatical.{has_left_name, IsGrammaticalComponent}
use Rattle.lus_meaning.specs.Refusals.{IsChecked}
use Rattle.lus_meaning.proofs.EachPart.{Each, each_part}
use Rattle.lus_meaning.proofs.Lists.{all_from, all_from_both, both_parts, or_left}
use Rattle.lus_meaning.proofs.NamesOnce.{no_parts, empty_of, at_one}
use Rattle.lus_meaning.proofs.Now.{left_part, right_part}
use Rattle.lus_meaning.proofs.RulesFit.{none_mapped}
use Rattle.rule_laws.specs.Laws.{IsTypedTree, IsUnfolded, AreUnfolded, placed, site_at, HasItsPlace}
use Rattle.rule_laws.proofs.Callees.{GoesDown}
use Rattle.rule_laws.proofs.Cleaned.{CleanHome, homes_clean}
use Rattle.rule_laws.proofs.Known.{constant_shows}
use Rattle.rule_laws.proofs.Lists.{all_flat}
use Rattle.rule_laws.proofs.Places.{each_call_placed, imports_in_place, firsts_placed}
use Rattle.rule_laws.proofs.Unfolded.{component_within, unfolded_typed}
use Rattle.clock_laws.specs.Laws.{IsClockedTree, IsOnClocks, HasItsValue, ExpressionsOnClocks, IsContractSaid, ContractsOnClocks}
use Rattle.clock_laws.proofs.Contracts.{side_top, Extends, extends}
use Rattle.clock_laws.proofs.Fixed.{constant_clocks}
use Rattle.clock_laws.proofs.Modes.{has_key, key_before, key_behind}
use Rattle.rule_laws.proofs.Covered.{all_contained, found_declared, typed_instance, one_instance, imports_placed as imports_there}
use Rattle.rule_laws.proofs.Goods.{all_of_each}
use Rattle.rule_laws.proofs.Parts.{all_parts}
use Rattle.clock_laws.proofs.Same.{some_same}
use Rattle.clock_laws.proofs.Texts.{TopFits, IsNumberedIn, constant_apart, firsts_right, all_grammatical, all_pass}
use Rattle.clock_laws.proofs.Walk.{Known, Walked, walk, clean_has}

-- ---- modes of a contract by their own names

own_keys_after : (i : Instance) (sub : ℕ → Terms) (ms : List ModeTerms) (cs : List ContractStatement) (x : Name) → named_in x (mode_names cs) ≡ true
    → has_key ([], x) (terms_after i sub ms cs).modes ≡ true
own_keys_after i sub ms [] x e = absurd (false≢true e)
own_keys_after i sub ms (assume l ∷ cs) x e = own_keys_after i sub ms cs x e
own_keys_after i sub ms (guarantee l ∷ cs) x e = own_keys_after i sub ms cs x e
own_keys_after i sub ms (ghost_variable v a ∷ cs) x e = own_keys_after i sub ms cs x e
own_keys_after i sub ms (constant c ∷ cs) x e = own_keys_after i sub ms cs x e
own_keys_after i sub ms («import» k c as_ ws ∷ cs) x e = own_keys_after i sub (ms ++ map (imported_mode k c.text) (sub k).modes) cs x e
own_keys_after i sub ms (mode w rs es ∷ cs) x e =
    go (bytes_eq x w.text) refl e (own_keys_after i sub (ms ++ mode_terms i ms w.text rs es ∷ []) cs x)
  where
    y : ModeTerms
    y = mode_terms i ms w.text rs es

    go : (a : Bool) → bytes_eq x w.text ≡ a → (a || named_in x (mode_names cs)) ≡ true →
        (named_in x (mode_names cs) ≡ true → has_key ([], x) (terms_after i sub (ms ++ y ∷ []) cs).modes ≡ true) → has_key ([], x)
        (terms_after i sub (ms ++ y ∷ []) cs).modes ≡ true
    go true q h r =
        let s : Extends (terms_after i sub (ms ++ y ∷ []) cs).modes (ms ++ y ∷ []) = extends i sub (ms ++ y ∷ []) cs in
        subst (λ zs. has_key ([], x) zs ≡ true) (sym s.is) (key_before ([], x) (ms ++ y ∷ []) s.rest
        (key_behind ([], x) ms (y ∷ []) (or_left (bytes_eq x w.text) false q)))
    go false q h r = r h

pub own_keys : (i : Instance) (x : Name) → named_in x (mode_names (contract_statements (component_of i))) ≡ true → has_key ([], x) (terms i).modes ≡ true
own_keys (instance n cs is) x e = own_keys_after (instance n cs is) _ [] (contract_statements n) x e

-- ---- declarations

pub placed_of : (j : ℕ) (ds : Program) (n : Component) → Contains (components ds) n → (k : ℕ) × Contains (placed j ds) (k, n)
placed_of j [] n (k, l, e) = absurd (none k l)
  where
    none : (k : ℕ) → k < 0 → ⊥
    none k l = omega arith
placed_of j (declared_constant c ∷ ds) n h = placed_of (suc j) ds n h
placed_of j (declared_node m ∷ ds) n (zero, l, e) = (j, (0, omega arith, ap (λ (x : Component). (j, x)) e))
placed_of j (declared_node m ∷ ds) n (suc k, l, e) =
    let r : (k : ℕ) × Contains (placed j ds) (k, n) = placed_of j ds n (k, omega arith, e) in
    let q : r.1.0 < length (placed j ds) = r.1.1 in
    (r.0, (suc r.1.0, omega arith, r.1.2))
placed_of j (declared_contract m ∷ ds) n (zero, l, e) = (j, (0, omega arith, ap (λ (x : Component). (j, x)) e))
placed_of j (declared_contract m ∷ ds) n (suc k, l, e) =
    let r : (k : ℕ) × Contains (placed j ds) (k, n) = placed_of j ds n (k, omega arith, e) in
    let q : r.1.0 < length (placed j ds) = r.1.1 in
    (r.0, (suc r.1.0, omega arith, r.1.2))

-- a checked program is such a tree, whose names and types are right too
pub clocked_tree : (p : Program) → IsChecked p → IsClockedTree p
clocked_tree p c = record { grammatical = c.grammatical; clocked = c.rules.clocked }

abbrev typed_part : (p : Program) → IsClockedTree p → IsTypedTree p
typed_part p c = record { grammatical = c.grammatical; typed = c.clocked.typed }

-- a declaration whose items have no faults
pub record IsFaultless (p : Program) (k : ℕ) (n : Component) : Type 0 where
  pub contract : contract_faults (home p k n) [] (contract_statements n) ≡ []
  pub constants : local_constant_faults (home p k n) 0 n.constants ≡ []
  pub statements : flat_map (statement_faults (body_scope (home p k n))) n.body ≡ []
  pub contract_clocks : flat_map (contract_statement_clock_faults n) (contract_statements n) ≡ []
  pub statement_clocks : flat_map (statement_clock_faults n) n.body ≡ []
  pub lefts : list_all has_left_name n.body ≡ true

pub faultless : (p : Program) → IsClockedTree p → (k : ℕ) (n : Component) → Contains (components p) n → Contains (placed 0 p) (k, n) → IsFaultless p k n
faultless p c k n j h =
    let e : component_faults (home p k n) (constant_words p) ≡ [] = at_one (CleanHome p) (placed 0 p) (k, n) (homes_clean p 0 p
    (no_parts _ (declaration_faults p 0 p) (no_parts _ _ (empty_of (typing_faults p) c.clocked.typed)).1).1) h in
    let rest = (no_parts (labels_twice n) _ (no_parts (words_twice name_twice (mode_words (contract_statements n))) _
    (no_parts (outer_twice (constant_words p) (own_words n)) _ (no_parts (words_twice name_twice (own_words n)) _ e).1).1).1).1 in
    let contract = no_parts (contract_faults (home p k n) [] (contract_statements n)) _ rest in
    let bodies : body_faults (home p k n) ≡ [] = (no_parts (body_faults (home p k n)) _ contract.1).0 in
    let parts : (local_constant_faults (home p k n) 0 n.constants ≡ []) × (flat_map (statement_faults (body_scope (home p k n))) n.body ≡ []) =
    no_parts (local_constant_faults (home p k n) 0 n.constants) _ (no_parts _
    (local_constant_faults (home p k n) 0 n.constants ++ flat_map (statement_faults (body_scope (home p k n))) n.body) bodies).1 in
    let clocks : (flat_map (contract_statement_clock_faults n) (contract_statements n) ≡ []) × (flat_map (statement_clock_faults n) n.body ≡ []) =
    no_parts (flat_map (contract_statement_clock_faults n) (contract_statements n)) (flat_map (statement_clock_faults n) n.body)
    (at_one (λ m. component_clock_faults m ≡ []) (components p) n (none_mapped component_clock_faults (components p)
    (empty_of (clock_faults p) c.clocked.clocks)) j) in
    record {
      contract = contract.0;
      constants = parts.0;
      statements = parts.1;
      contract_clocks = clocks.0;
      statement_clocks = clocks.1;
      lefts = (at_one IsGrammaticalComponent (components p) n (all_grammatical p c.grammatical) j).lefts;
    }

-- ---- instances

abbrev pub sub_of : Instances → ℕ → Terms
sub_of is j = slice_index_or (terms_each is) (pred j) no_terms

is_called : (i : Instance) (d : Site) (named : Option Component) → HasItsPlace i named d
    → instance_at (calls_of i) (pred d.number) ≡ call_instance i d.number
is_called i d named h = go d.number h.number
  where
    go : (k : ℕ) → 1 ≤ k → instance_at (calls_of i) (pred k) ≡ call_instance i k
    go zero l = absurd (omega arith)
    go (suc k) l = refl

abbrev is_site : Option Site → Bool
is_site None = false
is_site (Some d) = true

sub_is : (is : Instances) (j : ℕ) (d : Site) → site_at is j ≡ Some d → slice_index_or (terms_each is) j no_terms ≡ terms (instance_at is j)
sub_is no_instances j d e = absurd (false≢true (ap is_site e))
sub_is (with_instance s k is) zero d e = refl
sub_is (with_instance s k is) (suc j) d e = sub_is is j d e

pub sub_named_of : (i : Instance) (d : Site) (named : Option Component) → HasItsPlace i named d → (x : Name) → has_mode x named ≡ true → has_key ([], x)
    (sub_of (calls_of i) d.number).modes ≡ true
sub_named_of i d named h x e =
    let its : sub_of (calls_of i) d.number ≡ terms (call_instance i d.number) = sub_is (calls_of i) (pred d.number) d h.site
    ∙ ap terms (is_called i d named h) in
    subst (λ r. has_key ([], x) r.modes ≡ true) (sym its) (own_keys (call_instance i d.number) x (subst (λ o. has_mode x o ≡ true) h.callee e))

-- of a checked program
module _ (p : Program) (c : IsChecked p) where
  pub unfolded_same : (i : Instance) → IsUnfolded p i → Contains (components p) (component_of i) → i ≡ instance_of p (component_of i)
  unfolded_same i u j = sym (one_instance p c i u j)

  pub imports_placed : (i : Instance) → Contains (components p) (component_of i) → i ≡ instance_of p (component_of i) → AllByRecursion
      (λ d. HasItsPlace i (contract_named p d.callee) d) (flat_map import_site (contract_statements (component_of i)))
  imports_placed i j same = all_contained (λ d. HasItsPlace i (contract_named p d.callee) d) (flat_map import_site (contract_statements (component_of i)))
      (λ d h. subst (λ k. HasItsPlace k (contract_named p d.callee) d) (sym same) (imports_in_place p c (component_of i) j d h))

  pub declared_at : (n : Component) (s : Site) (k : Instance) → GoesDown p n s.callee → component_named p s.callee ≡ Some (component_of k)
      → Contains (components p) (component_of k)
  declared_at n s k g e = subst (Contains (components p)) (some_same g.is_callee.callee (component_of k) (sym g.is_callee.named ∙ e)) g.is_callee.declared

-- ---- contracts

module _ (p : Program) (c : IsClockedTree p) where
  numbered_texts : (i : Instance) → Contains (components p) (component_of i) → i ≡ instance_of p (component_of i) → (m : ℕ) (b : Instants) (f : Frame)
      → IsOnClocks i m b f → AllByRecursion (λ x. Each (IsNumberedIn p i f) (component_of i) x.0 x.1) (texts (component_of i))
  numbered_texts i j same m b f on =
      let n : Component = component_of i in
      let calls : AllByRecursion (λ o. AllByRecursion (λ d. HasItsPlace i (node_named p d.callee) d) (site_in o.standing o.expression)) (all_occurrences n) =
      all_of_each (λ d. HasItsPlace i (node_named p d.callee) d) (λ o. site_in o.standing o.expression) (all_occurrences n)
      (all_contained (λ d. HasItsPlace i (node_named p d.callee) d) (gathered site_in n)
      (λ d h. subst (λ k. HasItsPlace k (node_named p d.callee) d) (sym same) (each_call_placed p (typed_part p c) n j d h))) in
      let firsts : AllByRecursion (λ o. AllByRecursion (λ x. has_sort (sort_of i x.operand) (first_value f x.number) ≡ true)
      (memory_in o.standing o.expression)) (all_occurrences n) =
      all_of_each (λ x. has_sort (sort_of i x.operand) (first_value f x.number) ≡ true) (λ o. memory_in o.standing o.expression) (all_occurrences n)
      (all_contained (λ x. has_sort (sort_of i x.operand) (first_value f x.number) ≡ true) (memories n)
      (λ x h. subst (λ k. has_sort (sort_of k x.operand) (first_value f x.number) ≡ true) (sym same) (firsts_placed p c.grammatical n j f
      (subst (λ k. have_sorts (first_sorts k) (firsts_of f) ≡ true) same (firsts_right i m b f on)) x h))) in
      let each : AllByRecursion (IsNumberedIn p i f) (all_occurrences n) = all_from_both
      (λ o. AllByRecursion (λ d. HasItsPlace i (node_named p d.callee) d) (site_in o.standing o.expression))
      (λ o. AllByRecursion (λ x. has_sort (sort_of i x.operand) (first_value f x.number) ≡ true) (memory_in o.standing o.expression))
      (IsNumberedIn p i f) (λ o a q. record { calls = a; firsts = q }) (all_occurrences n) calls firsts in
      all_from (λ x. AllByRecursion (IsNumberedIn p i f) (occurrences n x.0 x.1)) (λ x. Each (IsNumberedIn p i f) n x.0 x.1)
      (λ x a. each_part (IsNumberedIn p i f) n x.0 x.1 a) (texts n)
      (all_of_each (IsNumberedIn p i f) (λ x. occurrences n x.0 x.1) (texts n) each)

  -- what a walk through a contract gives
  pub record IsContractOn (i : Instance) (m : ℕ) (b : Instants) (f : Frame) (on : IsOnClocks i m b f) : Type 0 where
    home_at : ℕ
    placed_here : Contains (placed 0 p) (home_at, component_of i)
    declared : Contains (components p) (component_of i)
    same : i ≡ instance_of p (component_of i)
    known : Known p c home_at i placed_here same m b f on (contract_statements (component_of i)) (terms i).modes
    its_texts : AllByRecursion (λ x. Each (λ o. (u : ℕ) → u < m → HasItsValue i b f u o) (component_of i) x.0 x.1)
        (flat_map contract_statement_texts (contract_statements (component_of i)))
    its_terms : IsContractSaid m b f (terms i)

  mutual
    pub contract_on : (i : Instance) → IsUnfolded p i → Contains (components p) (component_of i) → (m : ℕ) (b : Instants) (f : Frame)
        → (on : IsOnClocks i m b f)
        → IsContractOn i m b f on
    contract_on (instance n cs is) u j m b f on =
        let i : Instance = instance n cs is in
        let same : i ≡ instance_of p n = sym (typed_instance p (typed_part p c) i u j) in
        let at : (k : ℕ) × Contains (placed 0 p) (k, n) = placed_of 0 p n j in
        let q : IsFaultless p at.0 n = faultless p c at.0 n j at.1 in
        let sub_have : (d : Site) (named : Option Component) → HasItsPlace i named d → IsOnClocks (call_instance i d.number) m b (call_frame f d.number)
        → IsContractSaid m b (call_frame f d.number) (sub_of is d.number) = λ d named h o. calls_terms_on (all_sites n) is u.1
        (pred d.number) d h.site m b (call_frame f d.number)
        (subst (λ k. IsOnClocks k m b (call_frame f d.number)) (sym (is_called i d named h)) o) in
        let w : Walked p c at.0 i at.1 same m b f on (sub_of is) sub_have (sub_named_of i) [] (contract_statements n) [] =
        walk p c at.0 i at.1 same m b f on (sub_of is) sub_have (sub_named_of i) [] (contract_statements n) [] q.contract q.contract_clocks
        (left_part (λ x. Each (IsNumberedIn p i f) n x.0 x.1) (flat_map contract_statement_texts (contract_statements n)) _ (numbered_texts i j
        same m b f on))
        (imports_there p (typed_part p c) i u j) refl record {
          extended = extends i (sub_of is) [] (contract_statements n);
          have = tt;
          ensures_each = tt;
          covers = record { by_name = λ x e. absurd (false≢true e); by_import = λ d x e h. absurd (false≢true e) };
        } in
        record {
          home_at = at.0;
          placed_here = at.1;
          declared = j;
          same = same;
          known = w.known;
          its_texts = w.texts;
          its_terms = record { assumes = w.assumes; guarantees = w.guarantees; modes = w.known.have; ensures_each = w.known.ensures_each };
        }

    calls_terms_on : (ss : List Site) (is : Instances) → AreUnfolded p ss is → (j : ℕ) (d : Site) → site_at is j ≡ Some d → (m : ℕ) (b : Instants) (g : Frame) → IsOnClocks (instance_at is j) m b g → IsContractSaid m b g
        (slice_index_or (terms_each is) j no_terms)
    calls_terms_on [] no_instances u j d e m b g o = absurd (false≢true (ap is_site e))
    calls_terms_on [] (with_instance s k is) u j d e m b g o = absurd u
    calls_terms_on (s ∷ ss) no_instances u j d e m b g o = absurd u
    calls_terms_on (s ∷ ss) (with_instance r k is) u zero d e m b g o =
        (contract_on k u.2 (found_declared p s.callee (component_of k) u.1) m b g o).its_terms
    calls_terms_on (s ∷ ss) (with_instance r k is) u (suc j) d e m b g o = calls_terms_on ss is u.3 j d e m b g o

  -- ---- constants and bodies

  module _ (i : Instance) (m : ℕ) (b : Instants) (f : Frame) (on : IsOnClocks i m b f) (r : IsContractOn i m b f on) where
    abbrev here : Component
    here = component_of i

    abbrev Has : Text → Type 0
    Has x = Each (λ o. (u : ℕ) → u < m → HasItsValue i b f u o) (component_of i) x.0 x.1

    abbrev IsNumberedText : Text → Type 0
    IsNumberedText x = Each (IsNumberedIn p i f) (component_of i) x.0 x.1

    abbrev scope_behind : ℕ → Scope
    scope_behind j = constant_scope (home p r.home_at (component_of i)) j

    text_has : (j : ℕ) (t : Standing) (e : Expression) → expression_faults (scope_behind j) t e ≡ [] → clock_faults_of here t.clock e ≡ []
        → (t.whole_side ≡ true → TopFits p e) → IsNumberedText (t, e) → Has (t, e)
    text_has j t e h g w num = clean_has p c r.home_at i r.placed_here r.same m b f on (contract_statements here) (terms i).modes r.known (scope_behind j)
        refl refl refl t e record {
          program = refl;
          owner = refl;
          shows = constant_shows p (r.home_at, here) j;
          types = h;
          clocks = g;
          top = w;
        } num

    constants_have : (j : ℕ) (xs : List Constant) → local_constant_faults (home p r.home_at here) j xs ≡ []
        → AllByRecursion IsNumberedText (constant_texts xs)
        → AllByRecursion Has (constant_texts xs)
    constants_have j [] h num = tt
    constants_have j (x ∷ xs) h num =
        let q = no_parts (definition_faults (scope_behind j) x.sort x.value) (local_constant_faults (home p r.home_at here) (suc j) xs) h in
        let two : (not_allowed (scope_behind j) x.value ≡ []) × (expression_faults (scope_behind j) (on_clock base) x.value ≡ []) = no_parts
        (not_allowed (scope_behind j) x.value) (expression_faults (scope_behind j) (on_clock base) x.value) (no_parts _ _ q.0).0 in
        let clocks : clock_faults_of here base x.value ≡ [] = constant_clocks (scope_behind j) here
        (constant_apart p c r.home_at i r.placed_here r.same (scope_behind j) (constant_shows p (r.home_at, here) j)) refl x.value two.0 in
        (text_has j (on_clock base) x.value two.1 clocks (λ w. absurd (false≢true w)) num.0, constants_have (suc j) xs q.1 num.1)

    side_has : (j : ℕ) (xs : List Spelled) (e : Expression) → has_left_name (equation xs e) ≡ true → sides_fit (scope_behind j) xs e ≡ [] → TopFits p e
    side_has j [] e h g = absurd (false≢true h)
    side_has j (x ∷ xs) e h g = side_top (scope_behind j) x xs e g

    statement_has : (j : ℕ) (x : Statement) → has_left_name x ≡ true → statement_faults (scope_behind j) x ≡ [] → statement_clock_faults here x ≡ []
        → AllByRecursion IsNumberedText (statement_texts here x) → AllByRecursion Has (statement_texts here x)
    statement_has j (equation xs e) l h g num =
        let t : Standing = as_side (clock_of_names here (map text_of xs)) in
        let q = no_parts _ (expression_faults (scope_behind j) t e) h in (
          text_has j t e q.1 (no_parts _ (clock_faults_of here (clock_of_names here (map text_of xs)) e) g).1
              (λ _. side_has j xs e l (no_parts _ (sides_fit (scope_behind j) xs e) q.0).1) num.0,
          tt,
        )
    statement_has j (assertion e) l h g num = (
      text_has j (on_clock base) e (no_parts (needs_sort (scope_behind j) Flags e) _ h).1 g
          (λ w. absurd (false≢true w)) num.0,
      tt,
    )
    statement_has j (property x) l h g num = (
      text_has j (on_clock base) x.value (no_parts (needs_sort (scope_behind j) Flags x.value) _ h).1 g
          (λ w. absurd (false≢true w)) num.0,
      tt,
    )
    statement_has j (main_mark q) l h g num = tt

    body_has : (j : ℕ) (xs : List Statement) → list_all has_left_name xs ≡ true → flat_map (statement_faults (scope_behind j)) xs ≡ []
        → flat_map (statement_clock_faults here) xs ≡ [] → AllByRecursion IsNumberedText (flat_map (statement_texts here) xs) → AllByRecursion Has
        (flat_map (statement_texts here) xs)
    body_has j [] l h g num = tt
    body_has j (x ∷ xs) l h g num =
        let a = all_pass has_left_name (x ∷ xs) l in
        both_parts Has (statement_texts here x) (flat_map (statement_texts here) xs)
        (statement_has j x a.0 (no_parts (statement_faults (scope_behind j) x) _ h).0 (no_parts (statement_clock_faults here x) _ g).0
        (left_part IsNumberedText (statement_texts here x) (flat_map (statement_texts here) xs) num))
        (body_has j xs (rest (has_left_name x) l) (no_parts (statement_faults (scope_behind j) x) _ h).1 (no_parts (statement_clock_faults here x) _ g).1
        (right_part IsNumberedText (statement_texts here x) (flat_map (statement_texts here) xs) num))
      where
        rest : (a : Bool) → (a && list_all has_left_name xs) ≡ true → list_all has_left_name xs ≡ true
        rest true e = e
        rest false e = absurd (false≢true e)

    texts_have : AllByRecursion Has (texts here)
    texts_have =
        let q : IsFaultless p r.home_at here = faultless p c r.home_at here r.declared r.placed_here in
        let num : AllByRecursion IsNumberedText (texts here) = numbered_texts i r.declared r.same m b f on in
        let behind : AllByRecursion IsNumberedText (constant_texts here.constants ++ flat_map (statement_texts here) here.body) = right_part IsNumberedText
        (flat_map contract_statement_texts (contract_statements here)) (constant_texts here.constants ++ flat_map (statement_texts here) here.body) num in
        both_parts Has (flat_map contract_statement_texts (contract_statements here)) (constant_texts here.constants ++ flat_map (statement_texts here)
        here.body)
        r.its_texts (both_parts Has (constant_texts here.constants) (flat_map (statement_texts here) here.body)
        (constants_have 0 here.constants q.constants (left_part IsNumberedText (constant_texts here.constants) (flat_map (statement_texts here)
        here.body) behind))
        (body_has (length here.constants) here.body q.lefts q.statements q.statement_clocks
        (right_part IsNumberedText (constant_texts here.constants) (flat_map (statement_texts here) here.body) behind)))

    pub occurrences_have : AllByRecursion (λ o. (u : ℕ) → u < m → HasItsValue i b f u o) (all_occurrences (component_of i))
    occurrences_have = all_flat (λ o. (u : ℕ) → u < m → HasItsValue i b f u o) (λ x. occurrences here x.0 x.1) (texts here)
        (all_from Has (λ x. AllByRecursion (λ o. (u : ℕ) → u < m → HasItsValue i b f u o) (occurrences here x.0 x.1))
        (λ x a. all_parts (λ o. (u : ℕ) → u < m → HasItsValue i b f u o) here x.0 x.1 a) (texts here) texts_have)

-- ---- the laws

instance_declared : (p : Program) (n : Component) → Contains (components p) n → Contains (components p) (component_of (instance_of p n))
instance_declared p n j = subst (Contains (components p)) (sym (component_within _ p n)) j

of_instance : (p : Program) (c : IsClockedTree p) (n : Component) → Contains (components p) n → (m : ℕ) (b : Instants) (f : Frame) →
    (on : IsOnClocks (instance_of p n) m b f) → IsContractOn p c (instance_of p n) m b f on
of_instance p c n j m b f on = contract_on p c (instance_of p n) (unfolded_typed p (typed_part p c) n j) (instance_declared p n j) m b f on

pub expressions_on_clocks : ExpressionsOnClocks
expressions_on_clocks p c n j m b f on o h t l =
    at_one (λ o. (u : ℕ) → u < m → HasItsValue (instance_of p n) b f u o) (all_occurrences (component_of (instance_of p n))) o
    (occurrences_have p c (instance_of p n) m b f on (of_instance p c n j m b f on))
    (subst (λ k. Contains (all_occurrences k) o) (sym (component_within _ p n)) h) t l

pub contracts_on_clocks : ContractsOnClocks
contracts_on_clocks p c n j m b f on = (of_instance p c n j m b f on).its_terms
