-- A chain of calls without recursion has no more declarations than the program: so the instance is unfolded to its end,
-- already where names and types are right.
use Rattle.std.proofs.Common.{◌≡◌, ℕ, zero, suc, ◌≤◌, ◌+◌, Bool, true, false, ◌||◌, List, [], ◌∷◌, map, length, Some, unwrap_or, refl, sym, ap, ◌∙◌, subst, arith}
use Rattle.std.specs.Prelude.{Contains}
use Rattle.std.specs.List.{AllByRecursion}
use Rattle.std.specs.Str.{bytes_eq}
use Rattle.std.proofs.lemmas.Bool.{false≢true}
use Rattle.lus_tree.specs.Tree.{Name, text_of, Component, declared_constant, declared_node, declared_contract, Program}
use Rattle.lus_meaning.specs.Scene.{Site, component_of, no_component}
use Rattle.lus_meaning.specs.Program.{all_sites, component_named, instances_with, instance_within, instance_of}
use Rattle.lus_meaning.specs.Depends.{named_in}
use Rattle.lus_meaning.specs.WellMade.{AreDistinct}
use Rattle.lus_meaning.specs.NameFaults.{callees, graph_of, next_in, reached}
use Rattle.lus_meaning.specs.ClockFaults.{components}
use Rattle.lus_meaning.specs.Refusals.{IsTyped}
use Rattle.lus_meaning.proofs.Exists.{self_bytes}
use Rattle.lus_meaning.proofs.Lists.{all_from, or_left}
use Rattle.lus_meaning.proofs.NamesOnce.{at_one}
use Rattle.lus_meaning.proofs.Unique.{same_bytes}
use Rattle.rule_laws.specs.Laws.{IsUnfolded, AreUnfolded}
use Rattle.rule_laws.proofs.Lists.{each_named, no_more_names}
use Rattle.rule_laws.proofs.Reached.{reach_first, reach_most, reach_next, Leads, leads}
use Rattle.rule_laws.proofs.Callees.{IsCallee, GoesDown, each_site}
use Rattle.rule_laws.proofs.Unfolded.{component_within}

abbrev declared_words : Program → List Name
declared_words p = map (λ n. n.name.text) (components p)

few_words : (p : Program) → length (declared_words p) ≤ length p
few_words [] = omega arith
few_words (declared_constant c ∷ ds) = let r : length (declared_words ds) ≤ length ds = few_words ds in omega arith
few_words (declared_node n ∷ ds) = let r : length (declared_words ds) ≤ length ds = few_words ds in omega arith
few_words (declared_contract n ∷ ds) = let r : length (declared_words ds) ≤ length ds = few_words ds in omega arith

-- the name of a declaration is among them
one_word : (ns : List Component) (n : Component) → Contains ns n → named_in n.name.text (map (λ m. m.name.text) ns) ≡ true
one_word ns n i = at_one (λ m. named_in m.name.text (map (λ k. k.name.text) ns) ≡ true) ns n (each ns) i
  where
    each : (ms : List Component) → AllByRecursion (λ m. named_in m.name.text (map (λ k. k.name.text) ms) ≡ true) ms
    each ms = mapped (λ x. named_in x (map (λ k. k.name.text) ms) ≡ true) ms (each_named (map (λ k. k.name.text) ms))
      where
        mapped : (P : Name → Type 0) (ks : List Component) → AllByRecursion P (map (λ k. k.name.text) ks) → AllByRecursion (λ k. P k.name.text) ks
        mapped P [] a = tt
        mapped P (k ∷ ks) a = (a.0, mapped P ks a.1)

-- the names on the way to a declaration, its own first, all distinct; each reaches it
record Way (p : Program) (k : ℕ) (n : Component) (vs : List Name) : Type 0 where
  distinct : AreDistinct vs
  many : length vs ≡ suc k
  declared : AllByRecursion (λ v. named_in v (declared_words p) ≡ true) vs
  reach : AllByRecursion (λ v. named_in n.name.text (reached k (graph_of p p) (v ∷ [])) ≡ true) vs

self_named : (x : Name) (xs : List Name) → named_in x (x ∷ xs) ≡ true
self_named x xs = or_left (bytes_eq x x) (named_in x xs) (self_bytes x)

start : (p : Program) (n : Component) → Contains (components p) n → Way p 0 n (n.name.text ∷ [])
start p n i = record {
  distinct = (refl, tt);
  many = refl;
  declared = (one_word (components p) n i, tt);
  reach = (self_named n.name.text [], tt);
}

-- a way is no longer than the program
not_longer : (p : Program) (k : ℕ) (n : Component) (vs : List Name) → Way p k n vs → suc k ≤ length p
not_longer p k n vs w =
    let a : length vs ≤ length (declared_words p) = no_more_names vs (declared_words p) w.distinct w.declared in
    let b : length (declared_words p) ≤ length p = few_words p in
    let c : length vs ≡ suc k = w.many in
    omega arith

-- a name of the way reaches its end, so none is called from there
not_back : (p : Program) (d k : ℕ) → d + k ≡ length p → (n : Component) (x : Name) (vs : List Name) → named_in n.name.text
    (reached (length p) (graph_of p p) (x ∷ [])) ≡ false → AllByRecursion
    (λ v. named_in n.name.text (reached k (graph_of p p) (v ∷ [])) ≡ true) vs → named_in x vs ≡ false
not_back p d k e n x [] a r = refl
not_back p d k e n x (v ∷ vs) a r = go (bytes_eq x v) refl (not_back p d k e n x vs a r.1)
  where
    go : (c : Bool) → bytes_eq x v ≡ c → named_in x vs ≡ false → (c || named_in x vs) ≡ false
    go true m f =
        let there : named_in n.name.text (reached (length p) (graph_of p p) (x ∷ [])) ≡ true =
        reach_most d k (length p) e (graph_of p p) n.name.text (x ∷ [])
        (subst (λ y. named_in n.name.text (reached k (graph_of p p) (y ∷ [])) ≡ true) (sym (same_bytes x v m)) r.0) in
        absurd (false≢true (sym a ∙ there))
    go false m f = f

-- the way to a callee
onward : (p : Program) (d k : ℕ) → d + k ≡ length p → (n : Component) → Contains (components p) n → (vs : List Name) → Way p k n vs →
    (x : Name) (g : GoesDown p n x) → Way p (suc k) g.is_callee.callee (x ∷ vs)
onward p d k e n i vs w x g =
    let m : Component = g.is_callee.callee in
    let called : named_in m.name.text (map text_of (callees p n)) ≡ true = subst (λ y. named_in y (map text_of (callees p n)) ≡ true)
    (sym g.is_callee.word) g.called in
    let next : (xs : List Name) → named_in n.name.text xs ≡ true → named_in m.name.text (next_in (graph_of p p) xs) ≡ true =
    λ xs h. at_one (Leads p (graph_of p p) m.name.text xs) (components p) n (leads p m.name.text xs p) i h called in
    let own : named_in m.name.text (x ∷ []) ≡ true = subst (λ y. named_in y (x ∷ []) ≡ true) (sym g.is_callee.word) (self_named x []) in
    record {
      distinct = (not_back p d k e n x vs g.apart w.reach, w.distinct);
      many = ap suc w.many;
      declared = (subst (λ y. named_in y (declared_words p) ≡ true) g.is_callee.word (one_word (components p) m g.is_callee.declared), w.declared);
      reach = (
        reach_first (suc k) (graph_of p p) m.name.text (x ∷ []) own,
        all_from (λ v. named_in n.name.text (reached k (graph_of p p) (v ∷ [])) ≡ true)
            (λ v. named_in m.name.text (reached (suc k) (graph_of p p) (v ∷ [])) ≡ true)
            (λ v h. reach_next k (graph_of p p) n.name.text m.name.text next (v ∷ []) h) vs w.reach,
      );
    }

abbrev Down : Program → Component → Site → Type 0
Down p n s = GoesDown p n s.callee

-- with calls nested so deep, behind a way of so many calls
unfolded : (p : Program) → ((n : Component) → Contains (components p) n → AllByRecursion (Down p n) (all_sites n)) → (d k : ℕ)
    → d + k ≡ length p → (n : Component) → Contains (components p) n → (vs : List Name) → Way p k n vs → IsUnfolded p
    (instance_within d p n)
unfolded p down zero k e n i vs w = let a : suc k ≤ length p = not_longer p k n vs w in absurd (omega arith)
unfolded p down (suc d) k e n i vs w = (refl, go (unfolded p down d (suc k) (omega arith)) (all_sites n) (down n i))
  where
    go : ((m : Component) → Contains (components p) m → (us : List Name) → Way p (suc k) m us → IsUnfolded p (instance_within d p m)) →
        (ss : List Site) → AllByRecursion (Down p n) ss → AreUnfolded p ss
        (instances_with (λ x. instance_within d p (unwrap_or (component_named p x) no_component)) ss)
    go below [] a = tt
    go below (s ∷ ss) a =
        let c : IsCallee p s.callee = a.0.is_callee in
        let u : IsUnfolded p (instance_within d p c.callee) = below c.callee c.declared (s.callee ∷ vs) (onward p (suc d) k e n i vs w s.callee a.0) in
        let q : (component_named p s.callee ≡ Some (component_of (instance_within d p c.callee))) × IsUnfolded p
        (instance_within d p c.callee) = (c.named ∙ ap Some (sym (component_within d p c.callee)), u) in
        let r : (component_named p s.callee ≡ Some (component_of (instance_within d p
        (unwrap_or (component_named p s.callee) no_component)))) × IsUnfolded p
        (instance_within d p (unwrap_or (component_named p s.callee) no_component)) =
        subst (λ m. (component_named p s.callee ≡ Some (component_of (instance_within d p m))) × IsUnfolded p (instance_within d p m))
        (sym (ap (λ o. unwrap_or o no_component) c.named)) q in
        (refl, r.0, r.1, go below ss a.1)

pub typed_unfolded : (p : Program) → IsTyped p → (n : Component) → Contains (components p) n → IsUnfolded p (instance_of p n)
typed_unfolded p t n i = unfolded p (each_site p t) (length p) 0 (omega arith) n i (n.name.text ∷ []) (start p n i)
