-- The modes that a contract names are among the terms of its instance, those of imports too.
use Rattle.std.proofs.Common.{◌≡◌, ℕ, zero, suc, pred, ◌≤◌, Bool, true, false, cond, ◌||◌, List, [], ◌∷◌, ◌++◌, map, flat_map, length, Option, Some, None, refl, sym, ap, ◌∙◌, subst, arith, get_or, slice_index_or}
use Rattle.std.specs.Prelude.{Contains}
use Rattle.std.specs.List.{AllByRecursion, list_any}
use Rattle.std.specs.Str.{bytes_eq}
use Rattle.std.proofs.lemmas.Bool.{false≢true}
use Rattle.lus_tree.specs.Tree.{Name, Labelled, ContractStatement, assume, guarantee, ghost_variable, constant, mode, «import», Component, declared_constant, declared_node, declared_contract, Program}
use Rattle.lus_meaning.specs.Scene.{Site, Instance, Instances, instance, no_instances, with_instance, component_of, instance_at, call_instance, contract_statements}
use Rattle.lus_meaning.specs.Meaning.{mode_key}
use Rattle.lus_meaning.specs.Contract.{ModeTerms, Terms, no_terms, mode_terms, imported_mode, terms_after, terms, terms_each}
use Rattle.lus_meaning.specs.Program.{import_site, all_sites, component_named, first_of_two, constants_in, instance_of}
use Rattle.lus_meaning.specs.Depends.{named_in}
use Rattle.lus_meaning.specs.Scope.{mode_names, import_names, contract_named}
use Rattle.lus_meaning.specs.ExpressionFaults.{has_mode}
use Rattle.lus_meaning.specs.ClockFaults.{components}
use Rattle.lus_meaning.proofs.Lists.{append_none, named_append, or_left, or_true}
use Rattle.lus_meaning.proofs.Unique.{same_bytes}
use Rattle.rule_laws.specs.Laws.{IsTypedTree, OneInstance, NamedIsDeclared, IsUnfolded, AreUnfolded, HasItsPlace}
use Rattle.rule_laws.specs.Fitting.{has_key}
use Rattle.rule_laws.proofs.Places.{each_import_placed}
use Rattle.rule_laws.proofs.Unfolded.{component_within, typed_tree, unfolded_typed}
use Rattle.rule_laws.proofs.Truths.{same_some}

-- ---- lists

pub all_contained : {A : Type 0} (P : A → Type 0) (xs : List A) → ((x : A) → Contains xs x → P x) → AllByRecursion P xs
all_contained P [] h = tt
all_contained {A = A} P (x ∷ xs) h = (h x (0, omega arith, refl), all_contained P xs later)
  where
    later : (y : A) → Contains xs y → P y
    later y (k, l, e) = h y (suc k, omega arith, e)

-- ---- declarations

abbrev is_some : Option Component → Bool
is_some None = false
is_some (Some k) = true

one_of : (n : Component) (ds : Program) (x : Name) (m : Component) (b : Bool) → first_of_two (cond b (Some n) None) (component_named ds x) ≡ Some m
    → (component_named ds x ≡ Some m → Contains (components ds) m) → Contains (n ∷ components ds) m
one_of n ds x m true e f = (0, omega arith, same_some e)
one_of n ds x m false e f = next (f e)
  where
    next : Contains (components ds) m → Contains (n ∷ components ds) m
    next (k, l, g) = (suc k, omega arith, g)

pub found_declared : NamedIsDeclared
found_declared [] x m e = absurd (false≢true (ap is_some e))
found_declared (declared_constant c ∷ ds) x m e = found_declared ds x m e
found_declared (declared_node n ∷ ds) x m e = one_of n ds x m (bytes_eq x n.name.text) e (found_declared ds x m)
found_declared (declared_contract n ∷ ds) x m e = one_of n ds x m (bytes_eq x n.name.text) e (found_declared ds x m)

-- two unfolded instances of one declaration are one
mutual
  pub same_instance : (p : Program) (i j : Instance) → IsUnfolded p i → IsUnfolded p j → component_of i ≡ component_of j → i ≡ j
  same_instance p (instance n cs is) (instance m ds js) u v e =
      let w : (ds ≡ constants_in p n) × AreUnfolded p (all_sites n) js =
      subst (λ k. (ds ≡ constants_in p k) × AreUnfolded p (all_sites k) js) (sym e) v in
      ap (λ k. instance k cs is) e ∙ ap (λ xs. instance m xs is) (u.0 ∙ sym w.0)
      ∙ ap (λ ks. instance m ds ks) (same_instances p (all_sites n) is js u.1 w.1)

  same_instances : (p : Program) (ss : List Site) (is js : Instances) → AreUnfolded p ss is → AreUnfolded p ss js → is ≡ js
  same_instances p [] no_instances no_instances u v = refl
  same_instances p [] no_instances (with_instance d j js) u v = absurd v
  same_instances p [] (with_instance c i is) js u v = absurd u
  same_instances p (s ∷ ss) no_instances js u v = absurd u
  same_instances p (s ∷ ss) (with_instance c i is) no_instances u v = absurd v
  same_instances p (s ∷ ss) (with_instance c i is) (with_instance d j js) u v =
      let q : i ≡ j = same_instance p i j u.2 v.2 (same_some (sym u.1 ∙ v.1)) in
      let r : is ≡ js = same_instances p ss is js u.3 v.3 in
      ap (λ x. with_instance x i is) (u.0 ∙ sym v.0) ∙ ap (λ x. with_instance d x is) q ∙ ap (λ x. with_instance d j x) r

pub typed_instance : (p : Program) → IsTypedTree p → (i : Instance) → IsUnfolded p i → Contains (components p) (component_of i)
    → instance_of p (component_of i) ≡ i
typed_instance p c i u d =
    same_instance p (instance_of p (component_of i)) i (unfolded_typed p c (component_of i) d) u (component_within (length p) p (component_of i))

pub one_instance : OneInstance
one_instance p c i u d = typed_instance p (typed_tree p c) i u d

-- ---- keys

key_append : (key : List Name × Name) (ms ns : List ModeTerms) → list_any (λ m. mode_key key m.key) (ms ++ ns)
    ≡ (list_any (λ m. mode_key key m.key) ms || list_any (λ m. mode_key key m.key) ns)
key_append key [] ns = refl
key_append key (m ∷ ms) ns = go (mode_key key m.key) (key_append key ms ns)
  where
    go : (c : Bool) → list_any (λ m. mode_key key m.key) (ms ++ ns)
        ≡ (list_any (λ m. mode_key key m.key) ms || list_any (λ m. mode_key key m.key) ns) → (c || list_any (λ m. mode_key key m.key) (ms ++ ns))
        ≡ ((c || list_any (λ m. mode_key key m.key) ms) || list_any (λ m. mode_key key m.key) ns)
    go true r = refl
    go false r = r

pub has_left : (key : List Name × Name) (ms ns : List ModeTerms) → has_key key ms → has_key key (ms ++ ns)
has_left key ms ns h = key_append key ms ns ∙ or_left _ _ h

has_right : (key : List Name × Name) (ms ns : List ModeTerms) → has_key key ns → has_key key (ms ++ ns)
has_right key ms ns h = key_append key ms ns ∙ or_true _ _ h

-- the modes of these statements are among these terms
pub record Covers (p : Program) (cs : List ContractStatement) (ms : List ModeTerms) : Type 0 where
  pub own : (x : Name) → named_in x (mode_names cs) ≡ true → has_key ([], x) ms
  pub imported : (d x : Name) → named_in d (import_names cs) ≡ true → has_mode x (contract_named p d) ≡ true → has_key (d ∷ [], x) ms

modes_append : (bs cs : List ContractStatement) → mode_names (bs ++ cs) ≡ mode_names bs ++ mode_names cs
modes_append [] cs = refl
modes_append (assume l ∷ bs) cs = modes_append bs cs
modes_append (guarantee l ∷ bs) cs = modes_append bs cs
modes_append (ghost_variable v a ∷ bs) cs = modes_append bs cs
modes_append (constant c ∷ bs) cs = modes_append bs cs
modes_append (mode m rs es ∷ bs) cs = ap (λ xs. m.text ∷ xs) (modes_append bs cs)
modes_append («import» k c as_ xs ∷ bs) cs = modes_append bs cs

imports_append : (bs cs : List ContractStatement) → import_names (bs ++ cs) ≡ import_names bs ++ import_names cs
imports_append [] cs = refl
imports_append (assume l ∷ bs) cs = imports_append bs cs
imports_append (guarantee l ∷ bs) cs = imports_append bs cs
imports_append (ghost_variable v a ∷ bs) cs = imports_append bs cs
imports_append (constant c ∷ bs) cs = imports_append bs cs
imports_append (mode m rs es ∷ bs) cs = imports_append bs cs
imports_append («import» k c as_ xs ∷ bs) cs = ap (λ xs. c.text ∷ xs) (imports_append bs cs)

in_either : {Q : Type 0} (x : Name) (xs ys : List Name) → named_in x (xs ++ ys) ≡ true → (named_in x xs ≡ true → Q)
    → (named_in x ys ≡ true → Q) → Q
in_either {Q = Q} x xs ys e f g = go (named_in x xs) f (sym (named_append x xs ys) ∙ e)
  where
    go : (c : Bool) → (c ≡ true → Q) → (c || named_in x ys) ≡ true → Q
    go true f e = f refl
    go false f e = g e

covers_both : (p : Program) (bs cs : List ContractStatement) (ms ns : List ModeTerms) → Covers p bs ms → Covers p cs ns → Covers p (bs ++ cs) (ms ++ ns)
covers_both p bs cs ms ns a b = record {
  own = λ x e. in_either x (mode_names bs) (mode_names cs) (subst (λ xs. named_in x xs ≡ true) (modes_append bs cs) e)
      (λ f. has_left ([], x) ms ns (a.own x f)) (λ f. has_right ([], x) ms ns (b.own x f));
  imported = λ d x e h. in_either d (import_names bs) (import_names cs) (subst (λ xs. named_in d xs ≡ true) (imports_append bs cs) e)
      (λ f. has_left (d ∷ [], x) ms ns (a.imported d x f h)) (λ f. has_right (d ∷ [], x) ms ns (b.imported d x f h));
}

pub covers_none : (p : Program) (ms : List ModeTerms) → Covers p [] ms
covers_none p ms = record { own = λ x e. absurd (false≢true e); imported = λ d x e. absurd (false≢true e) }

-- a statement without a mode and an import
abbrev IsOther : ContractStatement → Type 0
IsOther (mode m rs es) = ⊥
IsOther («import» k c as_ xs) = ⊥
IsOther _ = Unit {0}

covers_without : (p : Program) (cs : List ContractStatement) (ms : List ModeTerms) → mode_names cs ≡ [] → import_names cs ≡ [] → Covers p cs ms
covers_without p cs ms e f = record {
  own = λ x g. absurd (false≢true (subst (λ xs. named_in x xs ≡ true) e g));
  imported = λ d x g. absurd (false≢true (subst (λ xs. named_in d xs ≡ true) f g));
}

covers_other : (p : Program) (c : ContractStatement) → IsOther c → Covers p (c ∷ []) []
covers_other p (assume l) o = covers_without p (assume l ∷ []) [] refl refl
covers_other p (guarantee l) o = covers_without p (guarantee l ∷ []) [] refl refl
covers_other p (ghost_variable v a) o = covers_without p (ghost_variable v a ∷ []) [] refl refl
covers_other p (constant c) o = covers_without p (constant c ∷ []) [] refl refl
covers_other p (mode m rs es) o = absurd o
covers_other p («import» k c as_ xs) o = absurd o

pub covers_plain : (p : Program) (bs : List ContractStatement) (c : ContractStatement) (ms : List ModeTerms) → IsOther c → Covers p bs ms
    → Covers p (bs ++ c ∷ []) ms
covers_plain p bs c ms o a = subst (Covers p (bs ++ c ∷ [])) (append_none ms) (covers_both p bs (c ∷ []) ms [] a (covers_other p c o))

pub covers_mode : (p : Program) (i : Instance) (bs : List ContractStatement) (ms : List ModeTerms) (m : Name) (w : ContractStatement)
    (rs es : List Labelled) → mode_names (w ∷ []) ≡ m ∷ [] → import_names (w ∷ []) ≡ [] → Covers p bs ms
    → Covers p (bs ++ w ∷ []) (ms ++ mode_terms i ms m rs es ∷ [])
covers_mode p i bs ms m w rs es e f a = covers_both p bs (w ∷ []) ms (mode_terms i ms m rs es ∷ []) a record {
  own = λ x g. subst (λ xs. named_in x xs ≡ true) e g;
  imported = λ d x g. absurd (false≢true (subst (λ xs. named_in d xs ≡ true) f g));
}

through_import : (k : ℕ) (d c x : Name) → bytes_eq d c ≡ true → (ms : List ModeTerms) → has_key ([], x) ms → has_key (d ∷ [], x) (map (imported_mode k c) ms)
through_import k d c x e [] h = h
through_import k d c x e (m ∷ ms) h = go (mode_key ([], x) m.key) refl h (through_import k d c x e ms)
  where
    same : mode_key (d ∷ [], x) (c ∷ m.key.0, m.key.1) ≡ mode_key ([], x) m.key
    same = rw e refl

    go : (b : Bool) → mode_key ([], x) m.key ≡ b → (b || list_any (λ m. mode_key ([], x) m.key) ms) ≡ true
        → (has_key ([], x) ms → has_key (d ∷ [], x) (map (imported_mode k c) ms))
        → (mode_key (d ∷ [], x) (c ∷ m.key.0, m.key.1) || list_any (λ m. mode_key (d ∷ [], x) m.key) (map (imported_mode k c) ms)) ≡ true
    go true f g r = or_left _ _ (same ∙ f)
    go false f g r = or_true _ _ (r g)

pub covers_import : (p : Program) (bs : List ContractStatement) (ms ns : List ModeTerms) (k : ℕ) (c : Name) (w : ContractStatement) (m : Component)
    → mode_names (w ∷ []) ≡ [] → import_names (w ∷ []) ≡ c ∷ [] → contract_named p c ≡ Some m
    → Covers p (contract_statements m) ns → Covers p bs ms → Covers p (bs ++ w ∷ []) (ms ++ map (imported_mode k c) ns)
covers_import p bs ms ns k c w m e f h b a = covers_both p bs (w ∷ []) ms (map (imported_mode k c) ns) a record {
  own = λ x g. absurd (false≢true (subst (λ xs. named_in x xs ≡ true) e g));
  imported = λ d x g j. one d x (subst (λ xs. named_in d xs ≡ true) f g) j;
}
  where
    only : (b : Bool) → (b || false) ≡ true → b ≡ true
    only true e = refl
    only false e = e

    one : (d x : Name) → (bytes_eq d c || false) ≡ true → has_mode x (contract_named p d) ≡ true → has_key (d ∷ [], x) (map (imported_mode k c) ns)
    one d x g j =
        let s : bytes_eq d c ≡ true = only (bytes_eq d c) g in
        let q : has_mode x (Some m) ≡ true = subst (λ o. has_mode x o ≡ true) (ap (contract_named p) (same_bytes d c s) ∙ h) j in
        through_import k d c x s ns (b.own x q)

-- ---- contracts

pub moved_on : (bs cs : List ContractStatement) (c : ContractStatement) → bs ++ c ∷ cs ≡ (bs ++ c ∷ []) ++ cs
moved_on [] cs c = refl
moved_on (b ∷ bs) cs c = ap (λ xs. b ∷ xs) (moved_on bs cs c)

abbrev pub ImportPlaced : Program → Instance → Site → Type 0
ImportPlaced p i s = HasItsPlace i (contract_named p s.callee) s

-- the modes of each import of an instance are covered
abbrev pub ImportsCovered : Program → Instance → (ℕ → Terms) → Type 0
ImportsCovered p i sub = (k : ℕ) → 1 ≤ k → Covers p (contract_statements (component_of (call_instance i k))) (sub k).modes

module _ (p : Program) (i : Instance) (sub : ℕ → Terms) (below : ImportsCovered p i sub) where
  after_covers : (all before : List ContractStatement) (ms : List ModeTerms) (cs : List ContractStatement) → all ≡ before ++ cs
      → Covers p before ms → AllByRecursion (ImportPlaced p i) (flat_map import_site cs) → Covers p all (terms_after i sub ms cs).modes
  after_covers all before ms [] e a h = subst (λ xs. Covers p xs ms) (sym (e ∙ append_none before)) a
  after_covers all before ms (assume l ∷ cs) e a h =
      after_covers all (before ++ assume l ∷ []) ms cs (e ∙ moved_on before cs (assume l)) (covers_plain p before (assume l) ms tt a) h
  after_covers all before ms (guarantee l ∷ cs) e a h =
      after_covers all (before ++ guarantee l ∷ []) ms cs (e ∙ moved_on before cs (guarantee l)) (covers_plain p before (guarantee l) ms tt a) h
  after_covers all before ms (ghost_variable v x ∷ cs) e a h =
      after_covers all (before ++ ghost_variable v x ∷ []) ms cs (e ∙ moved_on before cs (ghost_variable v x))
      (covers_plain p before (ghost_variable v x) ms tt a) h
  after_covers all before ms (constant c ∷ cs) e a h =
      after_covers all (before ++ constant c ∷ []) ms cs (e ∙ moved_on before cs (constant c)) (covers_plain p before (constant c) ms tt a) h
  after_covers all before ms (mode m rs es ∷ cs) e a h =
      after_covers all (before ++ mode m rs es ∷ []) (ms ++ mode_terms i ms m.text rs es ∷ []) cs (e ∙ moved_on before cs (mode m rs es))
      (covers_mode p i before ms m.text (mode m rs es) rs es refl refl a) h
  after_covers all before ms («import» k c as_ xs ∷ cs) e a h =
      after_covers all (before ++ «import» k c as_ xs ∷ []) (ms ++ map (imported_mode k c.text) (sub k).modes) cs
      (e ∙ moved_on before cs («import» k c as_ xs))
      (covers_import p before ms (sub k).modes k c.text («import» k c as_ xs) (component_of (call_instance i k)) refl refl h.0.callee
      (below k h.0.number) a) h.1

-- an import's place in an unfolded instance
pub imports_placed : (p : Program) → IsTypedTree p → (i : Instance) → IsUnfolded p i → Contains (components p) (component_of i)
    → AllByRecursion (ImportPlaced p i) (flat_map import_site (contract_statements (component_of i)))
imports_placed p c i u d =
    all_contained (ImportPlaced p i) (flat_map import_site (contract_statements (component_of i)))
    (λ s h. subst (λ j. HasItsPlace j (contract_named p s.callee) s) (typed_instance p c i u d) (each_import_placed p c (component_of i) d s h))

mutual
  pub covered : (p : Program) → IsTypedTree p → (i : Instance) → IsUnfolded p i → Contains (components p) (component_of i)
      → Covers p (contract_statements (component_of i)) (terms i).modes
  covered p c (instance n cs is) u d =
      after_covers p (instance n cs is) (λ k. slice_index_or (terms_each is) (pred k) no_terms) (below is (covered_each p c (all_sites n) is u.1))
      (contract_statements n) [] [] (contract_statements n) refl (covers_none p []) (imports_placed p c (instance n cs is) u d)
    where
      below : (is : Instances) → ((j : ℕ) → Covers p (contract_statements (component_of (instance_at is j))) (get_or (terms_each is) j no_terms).modes)
          → (k : ℕ) → 1 ≤ k → Covers p (contract_statements (component_of (call_instance (instance n cs is) k)))
          (slice_index_or (terms_each is) (pred k) no_terms).modes
      below is f zero l = absurd (omega arith)
      below is f (suc k) l = f k

  pub covered_each : (p : Program) → IsTypedTree p → (ss : List Site) (is : Instances) → AreUnfolded p ss is → (j : ℕ)
      → Covers p (contract_statements (component_of (instance_at is j))) (get_or (terms_each is) j no_terms).modes
  covered_each p c ss no_instances u j = covers_none p []
  covered_each p c [] (with_instance x i is) u j = absurd u
  covered_each p c (s ∷ ss) (with_instance x i is) u zero = covered p c i u.2 (found_declared p s.callee (component_of i) u.1)
  covered_each p c (s ∷ ss) (with_instance x i is) u (suc j) = covered_each p c ss is u.3 j
