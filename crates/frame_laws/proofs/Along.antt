-- The instance at the end of a way of calls, each by its number; and what holds at every depth of a checked program.
use Rattle.std.proofs.Common.{◌≡◌, ℕ, zero, suc, pred, ◌≤◌, Bool, true, false, cond, List, [], ◌∷◌, ◌++◌, map, flat_map, refl, sym, ap, ◌∙◌, subst, Option, Some}
use Rattle.std.specs.Prelude.{Contains}
use Rattle.std.specs.List.{AllByRecursion}
use Rattle.std.specs.Str.{bytes_eq}
use Rattle.std.proofs.lemmas.Option.{none-some}
use Rattle.lus_tree.specs.Tree.{Name, Expression, truth, number, name, negation, minus, pre, arrow, binary, choice, sampled, merged, call, condact, mode_name, Component, declared_constant, declared_node, declared_contract, Program}
use Rattle.lus_meaning.specs.Scene.{Manner, plain, while_true, as_import, Site, Instance, Instances, instance, no_instances, with_instance, component_of, calls_of, instance_at, call_instance, contract_statements, variables}
use Rattle.lus_meaning.specs.Program.{site_in, import_site, all_sites, component_named, instance_of}
use Rattle.lus_meaning.specs.Run.{sort_of_name}
use Rattle.lus_meaning.specs.Occurrences.{Standing, gathered, all_occurrences}
use Rattle.lus_meaning.specs.Scope.{node_if, component_where, node_named, contract_named}
use Rattle.lus_meaning.specs.WellMade.{AreDistinct}
use Rattle.lus_meaning.specs.NameFaults.{is_declared}
use Rattle.lus_meaning.specs.ClockFaults.{components}
use Rattle.lus_meaning.specs.Grammatical.{IsGrammatical}
use Rattle.lus_meaning.specs.Refusals.{IsChecked}
use Rattle.lus_meaning.proofs.InOrder.{in_order_all}
use Rattle.lus_meaning.proofs.Lists.{all_from, both_parts}
use Rattle.lus_meaning.proofs.NamesOnce.{at_one}
use Rattle.rule_laws.specs.Laws.{IsUnfolded, AreUnfolded, site_at, HasItsPlace}
use Rattle.rule_laws.specs.Declarations.{StreamFits}
use Rattle.rule_laws.proofs.Callees.{GoesDown, each_site, each_import, where_is_named}
use Rattle.rule_laws.proofs.Lists.{all_flat}
use Rattle.rule_laws.proofs.Places.{by_number, calls_in_place, imports_in_place}
use Rattle.clock_laws.proofs.Clocks.{unfolded_same, declared_at}
use Rattle.clock_laws.proofs.OrderLaws.{names_distinct}
use Rattle.rule_laws.proofs.Covered.{all_contained}
use Rattle.clock_laws.proofs.Same.{some_same, same_instance}
use Rattle.run_laws.proofs.Texts.{declaration, named_at}
use Rattle.frame_laws.proofs.Free.{IsBare}

-- ---- ways

abbrev pub along : Instance → List ℕ → Instance
along i [] = i
along i (j ∷ ks) = along (call_instance i j) ks

along_on : (i : Instance) (ks : List ℕ) (j : ℕ) → along i (ks ++ j ∷ []) ≡ call_instance (along i ks) j
along_on i [] j = refl
along_on i (k ∷ ks) j = along_on (call_instance i k) ks j

-- an instance stands at the end of its way, its names stand once and have their types, and its imports have no locals;
-- and so do those of its calls
abbrev mutual
  pub IsAlong : Instance → List ℕ → Instance → Type 0
  IsAlong top path (instance d cs is) =
      (along top path ≡ instance d cs is)
      × AreDistinct (map (λ v. v.name.text) (variables d))
      × AllByRecursion (λ v. sort_of_name (instance d cs is) v.name.text ≡ v.sort) (variables d)
      × CallsAlong top path is

  pub CallsAlong : Instance → List ℕ → Instances → Type 0
  CallsAlong top path no_instances = Unit {0}
  CallsAlong top path (with_instance c k is) =
      IsBare c.manner (component_of k) × IsAlong top (path ++ c.number ∷ []) k × CallsAlong top path is

-- ---- sites

-- a site has the place of its number, and names a contract node only as an import
record IsSiteOf (p : Program) (i : Instance) (s : Site) : Type 0 where
  number : 1 ≤ s.number
  site : site_at (calls_of i) (pred s.number) ≡ Some s
  bare : (k : Component) → component_named p s.callee ≡ Some k → IsBare s.manner k

bare_of : (m : Manner) (k : Component) → k.locals ≡ [] → IsBare m k
bare_of plain k e = tt
bare_of (while_true a) k e = tt
bare_of (as_import xs) k e = e

contract_bare : (ds : Program) → IsGrammatical ds → (x : Name) (k : Component) → contract_named ds x ≡ Some k → k.locals ≡ []
contract_bare [] g x k e = absurd (none-some k e)
contract_bare (declared_constant c ∷ ds) g x k e = contract_bare ds g.1 x k e
contract_bare (declared_node n ∷ ds) g x k e = go (bytes_eq x n.name.text) e (contract_bare ds g.1 x k)
  where
    go : (c : Bool) → cond c (node_if false n) (component_where false ds x) ≡ Some k → (component_where false ds x ≡ Some k → k.locals ≡ [])
        → k.locals ≡ []
    go true h r = absurd (none-some k h)
    go false h r = r h
contract_bare (declared_contract n ∷ ds) g x k e = go (bytes_eq x n.name.text) e (contract_bare ds g.1 x k)
  where
    go : (c : Bool) → cond c (node_if true n) (component_where false ds x) ≡ Some k → (component_where false ds x ≡ Some k → k.locals ≡ [])
        → k.locals ≡ []
    go true h r = subst (λ m. m.locals ≡ []) (some_same n k h) g.0.1.locals
    go false h r = r h

-- a call is no import
abbrev CallsBare : Program → Site → Type 0
CallsBare p s = (k : Component) → component_named p s.callee ≡ Some k → IsBare s.manner k

call_bare : (p : Program) (t : Standing) (e : Expression) → AllByRecursion (CallsBare p) (site_in t e)
call_bare p t (call q k x as_) = ((λ k e. tt), tt)
call_bare p t (condact q k a x as_ ds) = ((λ k e. tt), tt)
call_bare p t (truth q a) = tt
call_bare p t (number q a) = tt
call_bare p t (name q a) = tt
call_bare p t (negation q a) = tt
call_bare p t (minus q a) = tt
call_bare p t (pre q k a) = tt
call_bare p t (arrow q k a d) = tt
call_bare p t (binary q o a d) = tt
call_bare p t (choice q a d e) = tt
call_bare p t (sampled q a d x) = tt
call_bare p t (merged q x a d) = tt
call_bare p t (mode_name q d m) = tt

-- what a site of an unfolded instance has at its place is unfolded
unfolded_at : (p : Program) (ss : List Site) (is : Instances) → AreUnfolded p ss is → (j : ℕ) (s : Site) → site_at is j ≡ Some s
    → IsUnfolded p (instance_at is j)
unfolded_at p ss no_instances u j s e = absurd (none-some s e)
unfolded_at p [] (with_instance d k is) u j s e = absurd u
unfolded_at p (r ∷ ss) (with_instance d k is) u zero s e = u.2
unfolded_at p (r ∷ ss) (with_instance d k is) u (suc j) s e = unfolded_at p ss is u.3 j s e

module _ (p : Program) (c : IsChecked p) where
  sites_of : (i : Instance) → IsUnfolded p i → Contains (components p) (component_of i) → AllByRecursion (IsSiteOf p i) (all_sites (component_of i))
  sites_of i u j = in_order_all (λ s. s.number) (IsSiteOf p i) (gathered site_in here ++ flat_map import_site (contract_statements here))
      (both_parts (IsSiteOf p i) (gathered site_in here) (flat_map import_site (contract_statements here))
      (all_contained (IsSiteOf p i) (gathered site_in here) (λ s h. site (node_named p s.callee) s
      (calls_in_place p c here j s h) (at_one (CallsBare p) (gathered site_in here) s bare_calls h)))
      (all_contained (IsSiteOf p i) (flat_map import_site (contract_statements here)) (λ s h. site (contract_named p s.callee) s
      (imports_in_place p c here j s h) (λ k e. bare_of s.manner k (contract_bare p c.grammatical s.callee k
      (where_is_named false p s.callee (at_one (λ x. is_declared (contract_named p x.callee) ≡ true)
      (flat_map import_site (contract_statements here)) s (each_import p c.rules.clocked.typed here j) h) ∙ e))))))
    where
      here : Component
      here = component_of i

      site : (named : Option Component) (s : Site) → HasItsPlace (instance_of p here) named s → CallsBare p s → IsSiteOf p i s
      site named s h b =
          let q : HasItsPlace i named s = subst (λ k. HasItsPlace k named s) (sym (unfolded_same p c i u j)) h in
          record { number = q.number; site = q.site; bare = b }

      bare_calls : AllByRecursion (CallsBare p) (gathered site_in here)
      bare_calls = all_flat (CallsBare p) (λ o. site_in o.standing o.expression) (all_occurrences here)
          (all_contained (λ o. AllByRecursion (CallsBare p) (site_in o.standing o.expression)) (all_occurrences here)
          (λ o _. call_bare p o.standing o.expression))

  -- at the place of its number a site has its instance
  at_its_number : (i : Instance) → IsUnfolded p i → (s : Site) → IsSiteOf p i s → (k : Instance) → IsUnfolded p k
      → component_named p s.callee ≡ Some (component_of k) → call_instance i s.number ≡ k
  at_its_number (instance d cs is) u s q k w e =
      sym (by_number (instance d cs is) s.number q.number)
      ∙ same_instance p (instance_at is (pred s.number)) k (unfolded_at p (all_sites d) is u.1 (pred s.number) s q.site) w
      (some_same (component_of (instance_at is (pred s.number))) (component_of k)
      (sym (named_at p (all_sites d) is u.1 (pred s.number) s q.site) ∙ e))

  mutual
    pub tree_along : (top : Instance) (path : List ℕ) (i : Instance) → along top path ≡ i → IsUnfolded p i → Contains (components p) (component_of i)
        → IsAlong top path i
    tree_along top path (instance d cs is) e u j = (
      e,
      names_distinct p c.rules.clocked.typed d j,
      all_from (StreamFits (instance d cs is)) (λ v. sort_of_name (instance d cs is) v.name.text ≡ v.sort) (λ v f. f.name.sort) (variables d)
          (declaration p c (instance d cs is) u j).streams,
      calls_along top path (instance d cs is) e u (all_sites d) is u.1 (each_site p c.rules.clocked.typed d j) (sites_of (instance d cs is) u j),
    )

    calls_along : (top : Instance) (path : List ℕ) (i : Instance) → along top path ≡ i → IsUnfolded p i → (ss : List Site) (is : Instances)
        → AreUnfolded p ss is → AllByRecursion (λ s. GoesDown p (component_of i) s.callee) ss → AllByRecursion (IsSiteOf p i) ss
        → CallsAlong top path is
    calls_along top path i e u ss no_instances w a q = tt
    calls_along top path i e u [] (with_instance z k is) w a q = absurd w
    calls_along top path i e u (r ∷ ss) (with_instance z k is) w a q = (
      subst (λ s. IsBare s.manner (component_of k)) (sym w.0) (q.0.bare (component_of k) w.1),
      tree_along top (path ++ z.number ∷ []) k
          (along_on top path z.number ∙ ap (λ x. call_instance x z.number) e
          ∙ subst (λ s. call_instance i s.number ≡ k) (sym w.0) (at_its_number i u r q.0 k w.2 w.1)) w.2
          (declared_at p c (component_of i) r k a.0 w.1),
      calls_along top path i e u ss is w.3 a.1 q.1,
    )
