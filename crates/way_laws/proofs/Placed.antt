-- Call occurrences and imports stand at their numbers, in the tree of a declaration whose names and types are right, each
-- with the instance of the declaration that it names.
use Rattle.std.proofs.Common.{◌≡◌, ℕ, zero, suc, ◌<◌, ◌≤◌, Bool, true, false, cond, List, [], ◌∷◌, ◌++◌, map, flat_map, length, Option, Some, None, unwrap_or, refl, sym, ap, ◌∙◌, subst, arith}
use Rattle.std.specs.Prelude.{Contains, pred, is_none}
use Rattle.std.specs.List.{AllByRecursion}
use Rattle.std.specs.Str.{bytes_eq}
use Rattle.std.proofs.Math.Logic.{inl, inr}
use Rattle.std.proofs.lemmas.Bool.{false≢true}
use Rattle.lus_tree.specs.Tree.{Variable, Expression, truth, number, name, negation, minus, pre, arrow, binary, choice, sampled, merged, call, condact, mode_name, ContractStatement, assume, guarantee, ghost_variable, constant, mode, «import», Component, Program}
use Rattle.lus_tree.specs.Numbers.{a_call, call_number, all_numbers, import_number, numbers_in, are_counted, IsNumbered}
use Rattle.lus_meaning.specs.Scene.{Site, Instance, Instances, instance, no_instances, with_instance, component_of, calls_of, instance_at, call_instance, contract_statements, clock_from, variables, no_component}
use Rattle.lus_meaning.specs.Program.{site_in, import_site, all_sites, component_named, instance_of}
use Rattle.lus_meaning.specs.Occurrences.{Standing, gathered}
use Rattle.lus_meaning.specs.Depends.{the_beat, clock_needs}
use Rattle.lus_meaning.specs.Scope.{node_named, contract_named}
use Rattle.lus_meaning.specs.NameFaults.{is_declared}
use Rattle.lus_meaning.specs.ClockFaults.{components}
use Rattle.lus_meaning.specs.Grammatical.{IsGrammatical, IsGrammaticalComponent, have_no_clock, ghost_names}
use Rattle.lus_meaning.specs.Refusals.{IsTyped}
use Rattle.lus_meaning.proofs.Members.{IsIn, in_left, in_right, in_mapped}
use Rattle.lus_meaning.proofs.Exists.{self_bytes}
use Rattle.lus_meaning.proofs.Lists.{all_from_both, map_append}
use Rattle.lus_meaning.proofs.NamesOnce.{at_one}
use Rattle.lus_meaning.proofs.Now.{left_part, right_part}
use Rattle.lus_meaning.proofs.Numbering.{numbers_gathered}
use Rattle.rule_laws.specs.Laws.{IsUnfolded, AreUnfolded, site_at}
use Rattle.rule_laws.proofs.Callees.{each_call, each_import, where_is_named}
use Rattle.rule_laws.proofs.Covered.{found_declared, same_instance}
use Rattle.rule_laws.proofs.Numbered.{At, InPlace, all_in_place}
use Rattle.rule_laws.proofs.Places.{all_grammatical, numbered}
use Rattle.rule_laws.proofs.Unfolded.{component_within}
use Rattle.clock_laws.proofs.Texts.{HasOutputs}
use Rattle.way_laws.specs.OwnGraph.{Summaries}
use Rattle.way_laws.specs.Summaries.{IsExact, CalleesExact}
use Rattle.way_laws.proofs.Unfolded.{typed_unfolded}
use Rattle.way_laws.proofs.Crossing.{CallAt, call_at}
use Rattle.way_laws.proofs.Expressions.{CallReady}
use Rattle.way_laws.proofs.Lists.{all_true}

-- ---- numbers

site_is : (s : Standing) (e : Expression) → map (λ (c : Site). c.number) (site_in s e) ≡ call_number e
site_is s (truth p b) = refl
site_is s (number p k) = refl
site_is s (name p x) = refl
site_is s (negation p a) = refl
site_is s (minus p a) = refl
site_is s (pre p k a) = refl
site_is s (arrow p k a b) = refl
site_is s (binary p o a b) = refl
site_is s (choice p a b c) = refl
site_is s (sampled p a b x) = refl
site_is s (merged p x a b) = refl
site_is s (call p k f as_) = refl
site_is s (condact p k a f as_ ds) = refl
site_is s (mode_name p c m) = refl

imports_are : (cs : List ContractStatement) → map (λ (c : Site). c.number) (flat_map import_site cs) ≡ flat_map (import_number a_call) cs
imports_are [] = refl
imports_are (assume l ∷ cs) = imports_are cs
imports_are (guarantee l ∷ cs) = imports_are cs
imports_are (ghost_variable x e ∷ cs) = imports_are cs
imports_are (constant c ∷ cs) = imports_are cs
imports_are (mode m rs es ∷ cs) = imports_are cs
imports_are («import» k f as_ xs ∷ cs) = ap (λ ks. k ∷ ks) (imports_are cs)

abbrev found_sites : Component → List Site
found_sites n = gathered site_in n ++ flat_map import_site (contract_statements n)

sites_counted : (n : Component) → IsNumbered n → are_counted (map (λ c. c.number) (found_sites n)) ≡ true
sites_counted n k =
    let calls : map (λ (c : Site). c.number) (gathered site_in n) ≡ all_numbers call_number n = numbers_gathered site_in
    (λ c. c.number) call_number site_is n in
    let both : map (λ (c : Site). c.number) (gathered site_in n) ++ map (λ (c : Site). c.number)
    (flat_map import_site (contract_statements n)) ≡ numbers_in a_call n =
    ap (λ xs. xs ++ map (λ (c : Site). c.number) (flat_map import_site (contract_statements n))) calls ∙ ap
    (λ xs. all_numbers call_number n ++ xs) (imports_are (contract_statements n)) in
    subst (λ xs. are_counted xs ≡ true) (sym (map_append (λ (c : Site). c.number) (gathered site_in n)
    (flat_map import_site (contract_statements n)) ∙ both)) (k.each a_call)

-- ---- places

record AtPlace (p : Program) (is : Instances) (k : ℕ) (s : Site) : Type 0 where
  site : site_at is k ≡ Some s
  named : component_named p s.callee ≡ Some (component_of (instance_at is k))
  unfolded : IsUnfolded p (instance_at is k)

at_place : (p : Program) (ss : List Site) (is : Instances) (k : ℕ) (s : Site) → AreUnfolded p ss is → At ss k s → AtPlace p is k s
at_place p [] is k s u a = absurd a
at_place p (c ∷ ss) no_instances k s u a = absurd u
at_place p (c ∷ ss) (with_instance d i is) zero s u a = record {
  site = ap (λ (x : Site). Some x) (u.0 ∙ a);
  named = subst (λ x. component_named p x.callee ≡ Some (component_of i)) a u.1;
  unfolded = u.2;
}
at_place p (c ∷ ss) (with_instance d i is) (suc k) s u a =
    let r : AtPlace p is k s = at_place p ss is k s u.3 a in
    record { site = r.site; named = r.named; unfolded = r.unfolded }

at_contains : {A : Type 0} (xs : List A) (k : ℕ) (x : A) → At xs k x → Contains xs x
at_contains [] k x h = absurd h
at_contains (y ∷ xs) zero x h = (0, omega arith, h)
at_contains (y ∷ xs) (suc k) x h =
    let r : Contains xs x = at_contains xs k x h in
    let l : r.0 < length xs = r.1 in
    (suc r.0, omega arith, r.2)

pub calls_unfolded : (p : Program) (i : Instance) (n : Component) → component_of i ≡ n → IsUnfolded p i → AreUnfolded p (all_sites n) (calls_of i)
calls_unfolded p (instance m cs is) n e u = subst (λ k. AreUnfolded p (all_sites k) is) e u.1

by_number : (i : Instance) (k : ℕ) → 1 ≤ k → instance_at (calls_of i) (pred k) ≡ call_instance i k
by_number i zero l = absurd (omega arith)
by_number i (suc k) l = refl

-- a call occurrence or import at its place, with an exact summary
pub record SitePlaced (p : Program) (i : Instance) (g : Summaries) (named : Option Component) (s : Site) : Type 0 where
  pub positive : 1 ≤ s.number
  pub there : CallAt i (pred s.number) s (call_instance i s.number)
  pub exact : IsExact (call_instance i s.number) (g s.callee)
  pub callee : named ≡ Some (component_of (call_instance i s.number))
  pub declared : Contains (components p) (component_of (call_instance i s.number))

module _ (p : Program) (grammatical : IsGrammatical p) (typed : IsTyped p) (n : Component) (d : Contains (components p) n) (g : Summaries)
    (exact : CalleesExact p n g) where
  abbrev here : Instance
  here = instance_of p n

  site_placed : (named : Option Component) (s : Site) → named ≡ component_named p s.callee → InPlace (λ c. c.number) (found_sites n) s
      → SitePlaced p here g named s
  site_placed named s e h =
      let j : ℕ = pred s.number in
      let k : Instance = instance_at (calls_of here) j in
      let u : AreUnfolded p (all_sites n) (calls_of here) = calls_unfolded p here n (component_within _ p n) (typed_unfolded p typed n d) in
      let a : AtPlace p (calls_of here) j s = at_place p (all_sites n) (calls_of here) j s u h.place in
      let c : Contains (components p) (component_of k) = found_declared p s.callee (component_of k) a.named in
      let same : instance_of p (unwrap_or (component_named p s.callee) no_component) ≡ k = ap (λ o. instance_of p (unwrap_or o no_component)) a.named
      ∙ same_instance p (instance_of p (component_of k)) k (typed_unfolded p typed (component_of k) c) a.unfolded (component_within _ p (component_of k)) in
      let ready : IsExact k (g s.callee) = subst (λ m. IsExact m (g s.callee)) same (exact s (at_contains (all_sites n) j s h.place)) in
      let number : k ≡ call_instance here s.number = by_number here s.number h.positive in
      record {
        positive = h.positive;
        there = subst (CallAt here j s) number (call_at here j s a.site);
        exact = subst (λ m. IsExact m (g s.callee)) number ready;
        callee = e ∙ a.named ∙ ap (λ m. Some (component_of m)) number;
        declared = subst (λ m. Contains (components p) (component_of m)) number c;
      }

  in_place : AllByRecursion (InPlace (λ c. c.number) (found_sites n)) (found_sites n)
  in_place = all_in_place (λ c. c.number) (found_sites n) (sites_counted n (numbered p grammatical n d))

  pub calls_placed : AllByRecursion (λ s. SitePlaced p here g (node_named p s.callee) s) (gathered site_in n)
  calls_placed = all_from_both (InPlace (λ c. c.number) (found_sites n)) (λ s. is_declared (node_named p s.callee) ≡ true)
      (λ s. SitePlaced p here g (node_named p s.callee) s) (λ s h e. site_placed (node_named p s.callee) s (where_is_named true p s.callee e) h)
      (gathered site_in n) (left_part _ (gathered site_in n) (flat_map import_site (contract_statements n)) in_place) (each_call p typed n d)

  pub imports_placed : AllByRecursion (λ s. SitePlaced p here g (contract_named p s.callee) s) (flat_map import_site (contract_statements n))
  imports_placed = all_from_both (InPlace (λ c. c.number) (found_sites n)) (λ s. is_declared (contract_named p s.callee) ≡ true)
      (λ s. SitePlaced p here g (contract_named p s.callee) s) (λ s h e. site_placed (contract_named p s.callee) s (where_is_named false p s.callee e) h)
      (flat_map import_site (contract_statements n)) (right_part _ (gathered site_in n) (flat_map import_site (contract_statements n)) in_place)
      (each_import p typed n d)

  -- ---- outputs on the base clock

  beat_declared : (v : Variable) → is_none v.clock ≡ true → (vs : List Variable) → IsIn v vs → IsIn the_beat (flat_map
      (λ w. cond (bytes_eq v.name.text w.name.text) (clock_needs (clock_from w.clock)) []) vs)
  beat_declared v e [] h = absurd h
  beat_declared v e (w ∷ vs) (inl s) = in_left the_beat (cond (bytes_eq v.name.text w.name.text) (clock_needs (clock_from w.clock)) []) _
      (subst (λ (u : Variable). IsIn the_beat (cond (bytes_eq v.name.text u.name.text) (clock_needs (clock_from u.clock)) [])) s
      (subst (λ b. IsIn the_beat (cond b (clock_needs (clock_from v.clock)) [])) (sym (self_bytes v.name.text)) (unclocked v.clock e)))
    where
      unclocked : (c : Option (Bool × _)) → is_none c ≡ true → IsIn the_beat (clock_needs (clock_from c))
      unclocked None e = inl refl
      unclocked (Some c) e = absurd (false≢true e)
  beat_declared v e (w ∷ vs) (inr h) = in_right the_beat (cond (bytes_eq v.name.text w.name.text) (clock_needs (clock_from w.clock)) []) _
      (beat_declared v e vs h)

  pub ready_call : (s : Site) → SitePlaced p here g (node_named p s.callee) s → HasOutputs (node_named p s.callee) → CallReady here g s
  ready_call s a h =
      let m : Component = component_of (call_instance here s.number) in
      let o : (v : Variable) × (vs : List Variable) × (m.outputs ≡ v ∷ vs) = subst HasOutputs a.callee h in
      let out : IsIn o.0 m.outputs = subst (IsIn o.0) (sym o.2) (inl refl) in
      let clocks : have_no_clock m ≡ true = (at_one IsGrammaticalComponent (components p) m (all_grammatical p grammatical) a.declared).clocks in
      let none : is_none o.0.clock ≡ true = all_true (λ v. is_none v.clock) o.0 (m.inputs ++ (m.outputs ++ flat_map ghost_names (contract_statements m)))
      clocks (in_right o.0 m.inputs _ (in_left o.0 m.outputs _ out)) in
      record {
        there = a.there;
        exact = a.exact;
        output = o.0.name.text;
        is_output = in_mapped (λ v. v.name.text) o.0 m.outputs out;
        on_beat = beat_declared o.0 none (variables m) (in_left o.0 (m.inputs ++ m.outputs ++ m.locals) _
            (in_left o.0 (m.inputs ++ m.outputs) m.locals (in_right o.0 m.inputs m.outputs out)));
      }
