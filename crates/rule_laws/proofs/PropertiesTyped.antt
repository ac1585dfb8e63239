-- In a typed frame of a checked program each property is a truth value wherever the beat is on.
use Rattle.std.proofs.Common.{◌≡◌, ℕ, zero, suc, pred, ◌<◌, ◌≤◌, Bool, true, false, cond, List, [], ◌∷◌, ◌++◌, map, flat_map, length, Option, Some, refl, sym, ap, ◌∙◌, subst}
use Rattle.std.specs.Prelude.{Contains}
use Rattle.std.specs.List.{AllByRecursion}
use Rattle.std.proofs.lemmas.Option.{none-some}
use Rattle.lus_tree.specs.declared.expression.Operator.TheVariants.{Or}
use Rattle.lus_tree.specs.declared.place.Sort.TheVariants.{Bool as Flags}
use Rattle.lus_tree.specs.Tree.{Statement, equation, assertion, property, main_mark, Component, Program}
use Rattle.lus_meaning.specs.Value.{flag, Instants, Stream, has_sort}
use Rattle.lus_meaning.specs.Frame.{Frame, call_frame}
use Rattle.lus_meaning.specs.Scene.{base, Manner, plain, while_true, as_import, Site, Instance, Instances, instance, no_instances, with_instance, component_of, calls_of, instance_at, call_instance, contract_statements}
use Rattle.lus_meaning.specs.Meaning.{value}
use Rattle.lus_meaning.specs.Contract.{Property, ModeTerms, Terms, terms, scene, some_true}
use Rattle.lus_meaning.specs.Property.{body_properties, one_mode, owed, owed_by_site, owed_by_calls, properties}
use Rattle.lus_meaning.specs.Program.{site_in, import_site, all_sites, component_named, instance_of}
use Rattle.lus_meaning.specs.Run.{sort_of, active}
use Rattle.lus_meaning.specs.Occurrences.{occurs, contract_statement_texts, constant_texts, statement_texts, gathered}
use Rattle.lus_meaning.specs.Scope.{node_named, contract_named}
use Rattle.lus_meaning.specs.NameFaults.{is_declared}
use Rattle.lus_meaning.specs.ClockFaults.{components}
use Rattle.lus_meaning.specs.Refusals.{IsChecked}
use Rattle.lus_meaning.proofs.InOrder.{in_order_all}
use Rattle.lus_meaning.proofs.Lists.{both_parts}
use Rattle.lus_meaning.proofs.NamesOnce.{at_one}
use Rattle.lus_meaning.proofs.Now.{right_part}
use Rattle.lus_meaning.proofs.Typed.{on_has, apply_has, has_as}
use Rattle.rule_laws.specs.Laws.{IsUnfolded, AreUnfolded, HasItsPlace, site_at, placed}
use Rattle.rule_laws.specs.Declarations.{contract_flags, statement_flags, flags_in}
use Rattle.rule_laws.specs.Types.{IsTypedFrame, IsTypedThere, IsTruth, HasTruths, TypesOfProperties}
use Rattle.rule_laws.proofs.Callees.{where_is_named}
use Rattle.rule_laws.proofs.Covered.{all_contained, found_declared, one_instance, same_instance}
use Rattle.rule_laws.proofs.Goods.{PlaceOf, place_of}
use Rattle.rule_laws.proofs.Items.{declarations_fit}
use Rattle.rule_laws.proofs.Lists.{all_flat}
use Rattle.rule_laws.proofs.Places.{by_number, calls_in_place, imports_in_place}
use Rattle.rule_laws.proofs.Truths.{same_some}
use Rattle.rule_laws.proofs.TypedFrames.{called_frame}
use Rattle.rule_laws.proofs.TypedModes.{TypedMode, roots_typed, modes_typed, truths}
use Rattle.rule_laws.proofs.Unfolded.{component_within, each_unfolded}

-- ---- one active mode

some_true_has : (xss : List Stream) (t : ℕ) → AllByRecursion (λ xs. has_sort Flags (xs t) ≡ true) xss → has_sort Flags (some_true xss t) ≡ true
some_true_has [] t a = refl
some_true_has (xs ∷ []) t a = a.0
some_true_has (xs ∷ ys ∷ yss) t a = apply_has Or Flags (xs t) (some_true (ys ∷ yss) t) refl a.0 (some_true_has (ys ∷ yss) t a.1)

asked_now : (n : ℕ) (b : Instants) (f : Frame) (ms : List ModeTerms) → AllByRecursion (TypedMode n b f) ms → (t : ℕ) → t < n → b t ≡ true
    → AllByRecursion (λ xs. has_sort Flags (xs t) ≡ true) (map (λ m. m.requires_all b f) ms)
asked_now n b f [] a t l o = tt
asked_now n b f (m ∷ ms) a t l o = (on_has Flags (b t) (m.requires_all b f t) (a.0 t l) o, asked_now n b f ms a.1 t l o)

one_typed : (d : Component) (n : ℕ) (b : Instants) (f : Frame) (ms : List ModeTerms) → AllByRecursion (TypedMode n b f) ms
    → AllByRecursion (IsTruth n b f) (one_mode d ms)
one_typed d n b f [] a = tt
one_typed d n b f (m ∷ ms) a =
    (λ t l o. some_true_has (map (λ w. w.requires_all b f) (m ∷ ms)) t (asked_now n b f (m ∷ ms) a t l o), tt)

-- ---- what a body checks

body_typed : (i : Instance) (d : Component) (n : ℕ) (b : Instants) (f : Frame) (xs : List Statement)
    → AllByRecursion (λ e. sort_of i e ≡ Flags) (flat_map statement_flags xs)
    → AllByRecursion (λ x. IsTypedThere i n b f (occurs x.0 x.1)) (flat_map (statement_texts d) xs)
    → AllByRecursion (IsTruth n b f) (body_properties i xs)
body_typed i d n b f [] a r = tt
body_typed i d n b f (equation ws e ∷ xs) a r = body_typed i d n b f xs a r.1
body_typed i d n b f (assertion e ∷ xs) a r = body_typed i d n b f xs a.1 r.1
body_typed i d n b f (property m ∷ xs) a r = (
  λ t l o. has_as (sort_of i m.value) Flags (value (scene i b f) base m.value t) a.0
      (on_has (sort_of i m.value) (b t) (value (scene i b f) base m.value t) (r.0 t l) o),
  body_typed i d n b f xs a.1 r.1,
)
body_typed i d n b f (main_mark q ∷ xs) a r = body_typed i d n b f xs a r

-- ---- what calls owe

-- a call has the place of its number
record HasPlace (p : Program) (i : Instance) (s : Site) : Type 0 where
  number : 1 ≤ s.number
  site : site_at (calls_of i) (pred s.number) ≡ Some s
  callee : component_named p s.callee ≡ Some (component_of (call_instance i s.number))

named_there : (w : Bool) (p : Program) (i : Instance) (o : Option Component) (s : Site) → (is_declared o ≡ true → o ≡ component_named p s.callee)
    → HasItsPlace i o s → HasPlace p i s
named_there w p i o s e h = record {
  number = h.number;
  site = h.site;
  callee = sym (e (ap is_declared h.callee)) ∙ h.callee;
}

sites_there : (p : Program) → IsChecked p → (n : Component) → Contains (components p) n → AllByRecursion (HasPlace p (instance_of p n)) (all_sites n)
sites_there p c n d =
    in_order_all (λ s. s.number) (HasPlace p (instance_of p n)) (gathered site_in n ++ flat_map import_site (contract_statements n))
    (both_parts (HasPlace p (instance_of p n)) (gathered site_in n) (flat_map import_site (contract_statements n))
    (all_contained (HasPlace p (instance_of p n)) (gathered site_in n)
    (λ s h. named_there true p (instance_of p n) (node_named p s.callee) s (where_is_named true p s.callee) (calls_in_place p c n d s h)))
    (all_contained (HasPlace p (instance_of p n)) (flat_map import_site (contract_statements n))
    (λ s h. named_there false p (instance_of p n) (contract_named p s.callee) s (where_is_named false p s.callee) (imports_in_place p c n d s h))))

unfolded_at : (p : Program) (ss : List Site) (is : Instances) → AreUnfolded p ss is → (j : ℕ) (s : Site) → site_at is j ≡ Some s
    → IsUnfolded p (instance_at is j)
unfolded_at p ss no_instances u j s e = absurd (none-some s e)
unfolded_at p [] (with_instance x i is) u j s e = absurd u
unfolded_at p (y ∷ ss) (with_instance x i is) u zero s e = u.2
unfolded_at p (y ∷ ss) (with_instance x i is) u (suc j) s e = unfolded_at p ss is u.3 j s e

owed_truths : (i : Instance) (x : Site) (n : ℕ) (b : Instants) (f : Frame) (qs : List Property)
    → AllByRecursion (IsTruth n (active (scene i b f) x) (call_frame f x.number)) qs → AllByRecursion (IsTruth n b f) (map (owed i x) qs)
owed_truths i x n b f [] a = tt
owed_truths i x n b f (q ∷ qs) a = (λ t l o. one t l (active (scene i b f) x t) refl, owed_truths i x n b f qs a.1)
  where
    one : (t : ℕ) → t < n → (k : Bool) → active (scene i b f) x t ≡ k
        → has_sort Flags (cond k (q.test (active (scene i b f) x) (call_frame f x.number) t) (flag true)) ≡ true
    one t l true e = a.0 t l e
    one t l false e = refl

owed_site : (i : Instance) (x : Site) (m : Manner) (r : Terms) (n : ℕ) (b : Instants) (f : Frame)
    → AllByRecursion (IsTruth n (active (scene i b f) x) (call_frame f x.number)) r.assumes → AllByRecursion (IsTruth n b f) (owed_by_site i x m r)
owed_site i x plain r n b f a = owed_truths i x n b f r.assumes a
owed_site i x (while_true e) r n b f a = owed_truths i x n b f r.assumes a
owed_site i x (as_import ws) r n b f a = tt

abbrev CallsUnfolded : Program → Instance → Type 0
CallsUnfolded p i = (j : ℕ) (s : Site) → site_at (calls_of i) j ≡ Some s → IsUnfolded p (instance_at (calls_of i) j)

module _ (p : Program) (c : IsChecked p) (i : Instance) (n : ℕ) (b : Instants) (f : Frame) (typed : IsTypedFrame i n b f) (all : CallsUnfolded p i) where
  -- a call's frame, by its place among the calls
  frame_there : (s : Site) (j : Instance) → HasPlace p i s → component_named p s.callee ≡ Some (component_of j) → IsUnfolded p j
      → IsTypedFrame j n (active (scene i b f) s) (call_frame f s.number)
  frame_there s j h e u =
      let k : Instance = call_instance i s.number in
      let there : IsUnfolded p k = subst (IsUnfolded p) (by_number i s.number h.number) (all (pred s.number) s h.site) in
      let same : k ≡ j = same_instance p k j there u (same_some (sym h.callee ∙ e)) in
      subst (λ w. IsTypedFrame w n (active (scene i b f) s) (call_frame f s.number)) same (called_frame i n b f typed s h.number h.site)

  owed_typed : (ss : List Site) (js : Instances) → AreUnfolded p ss js → AllByRecursion (HasPlace p i) ss → AllByRecursion (IsTruth n b f) (owed_by_calls i js)
  owed_typed ss no_instances u a = tt
  owed_typed [] (with_instance x j js) u a = absurd u
  owed_typed (s ∷ ss) (with_instance x j js) u a =
      let h : HasPlace p i x = subst (HasPlace p i) (sym u.0) a.0 in
      let e : component_named p x.callee ≡ Some (component_of j) = subst (λ (y : Site). component_named p y.callee ≡ Some (component_of j)) (sym u.0) u.1 in
      both_parts (IsTruth n b f) (owed_by_site i x x.manner (terms j)) (owed_by_calls i js)
      (owed_site i x x.manner (terms j) n b f (truths p c j u.2 (found_declared p x.callee (component_of j) e) n (active (scene i b f) x)
      (call_frame f x.number) (frame_there x j h e u.2)).assumes)
      (owed_typed ss js u.3 a.1)

-- ---- all properties

properties_typed : (p : Program) → IsChecked p → (i : Instance) → IsUnfolded p i → Contains (components p) (component_of i) → (n : ℕ) (b : Instants)
    (f : Frame) → IsTypedFrame i n b f → AllByRecursion (IsTruth n b f) (properties i)
properties_typed p c (instance m cs is) u d n b f w =
    let i : Instance = instance m cs is in
    let own : instance_of p m ≡ i = one_instance p c i u d in
    let q : PlaceOf (placed 0 p) m = place_of 0 p m d in
    let modes : AllByRecursion (TypedMode n b f) (terms i).modes = modes_typed p c i u d n b f w in
    let says : HasTruths n b f (terms i) = truths p c i u d n b f w in
    let roots = roots_typed p c (q.before, m) q.is d i own n b f w modes in
    let flags : AllByRecursion (λ e. sort_of i e ≡ Flags) (flags_in m) =
    subst (λ j. AllByRecursion (λ e. sort_of j e ≡ Flags) (flags_in (component_of j))) own (declarations_fit p c m d).flags in
    let body : AllByRecursion (IsTruth n b f) (body_properties i m.body) = body_typed i m n b f m.body
    (right_part (λ e. sort_of i e ≡ Flags) (flat_map contract_flags (contract_statements m)) (flat_map statement_flags m.body) flags)
    (right_part (λ x. IsTypedThere i n b f (occurs x.0 x.1)) (constant_texts m.constants) (flat_map (statement_texts m) m.body)
    (right_part (λ x. IsTypedThere i n b f (occurs x.0 x.1)) (flat_map contract_statement_texts (contract_statements m)) _ roots)) in
    let sites : AllByRecursion (HasPlace p i) (all_sites m) = subst (λ j. AllByRecursion (HasPlace p j) (all_sites m)) own (sites_there p c m d) in
    let owes : AllByRecursion (IsTruth n b f) (owed_by_calls i is) = owed_typed p c i n b f w (unfolded_at p (all_sites m) is u.1) (all_sites m) is u.1 sites in
    both_parts (IsTruth n b f) _ (owed_by_calls i is) (both_parts (IsTruth n b f) _ (one_mode m (terms i).modes)
    (both_parts (IsTruth n b f) _ (flat_map (λ w. w.ensures_each) (terms i).modes)
    (both_parts (IsTruth n b f) (body_properties i m.body) (terms i).guarantees body says.guarantees)
    (all_flat (IsTruth n b f) (λ w. w.ensures_each) (terms i).modes says.ensures)) (one_typed m n b f (terms i).modes modes)) owes

pub types_of_properties : TypesOfProperties
types_of_properties p c n d k b f w q h =
    at_one (IsTruth k b f) (properties (instance_of p n)) q
    (properties_typed p c (instance_of p n) (each_unfolded p c n d) (subst (Contains (components p)) (sym (component_within (length p) p n)) d) k b f w) h
