-- The least orders of the declarations are the least orders of the frames.
use Rattle.std.proofs.Common.{◌≡◌, refl, sym, ap, ◌∙◌, subst, ℕ, zero, suc, List, [], ◌∷◌, ◌++◌, map, length, Option, Some, None, option_map, unwrap_or, slice_get}
use Rattle.std.specs.Prelude.{Contains}
use Rattle.std.specs.List.{AllByRecursion}
use Rattle.std.proofs.lemmas.Option.{slice_get-map}
use Rattle.lus_tree.specs.Tree.{Name, Component, Program}
use Rattle.lus_meaning.specs.ClockFaults.{components}
use Rattle.lus_meaning.specs.Order.{IsLeastEquationOrder, NeedsEquation}
use Rattle.lus_meaning.specs.Program.{all_sites, component_named, instance_of, instance_within, instances_with}
use Rattle.lus_meaning.specs.Refusals.{IsChecked}
use Rattle.lus_meaning.specs.Run.{equations}
use Rattle.lus_meaning.specs.Scene.{Site, Instance, no_component, component_of, call_instance}
use Rattle.name_table.specs.Names.{number_of}
use Rattle.rule_laws.specs.Laws.{IsUnfolded, AreUnfolded}
use Rattle.rule_laws.proofs.Covered.{found_declared}
use Rattle.rule_laws.proofs.Unfolded.{component_within, each_unfolded}
use Rattle.clock_laws.proofs.Clocks.{unfolded_same}
use Rattle.frame_laws.proofs.Along.{along, IsAlong, CallsAlong, tree_along}
use Rattle.lus_evaluation.specs.Evaluation.{instance_on}
use Rattle.lus_evaluation.specs.Frame.{Orders}
use Rattle.lus_evaluation.proofs.OneOrder.{one_least_order}
use Rattle.evaluation_parts.specs.Declares.{names_in, linked_in, declared_in, all_declared}
use Rattle.evaluation_parts.specs.Framed.{order_at}
use Rattle.evaluation_parts.specs.Turns.{IfThere, Agrees}
use Rattle.evaluation_turns.specs.Turned.{AreLeast, AreOrders}
use Rattle.evaluation_turns.proofs.Places.{below, found}

along_same : (i : Instance) (w : List ℕ) → instance_on i w ≡ along i w
along_same i [] = refl
along_same i (k ∷ w) = along_same (call_instance i k) w

-- the calls of an instance within a number of levels
abbrev called : Program → ℕ → Name → Instance
called p d x = instance_within d p (unwrap_or (component_named p x) no_component)

module _ (p : Program) (c : IsChecked p) (os : List (List ℕ)) (least : AreOrders p os) (o : Orders) (top : Instance) (frames : AreLeast top o) where
  -- an unfolded instance of a declaration at the end of a way
  record Stands (d : ℕ) (w : List ℕ) (k : ℕ) (n : Component) : Type 0 where
    there : slice_get (components p) k ≡ Some n
    declared : Contains (components p) n
    unfolded : IsUnfolded p (instance_within d p n)
    reached : IsAlong top w (instance_within d p n)

  abbrev Agree : ℕ → Type 0
  Agree d = (w : List ℕ) (k : ℕ) (n : Component) → Stands d w k n → Agrees o (all_declared p) os d w k (declared_in p n)

  whole : (d : ℕ) (n : Component) → Contains (components p) n → IsUnfolded p (instance_within d p n) → instance_within d p n ≡ instance_of p n
  whole d n j u =
      unfolded_same p c (instance_within d p n) u (subst (Contains (components p)) (sym (component_within d p n)) j)
      ∙ ap (instance_of p) (component_within d p n)

  here : (d : ℕ) (w : List ℕ) (k : ℕ) (n : Component) → Stands d w k n → instance_on top w ≡ instance_within d p n → o w ≡ order_at os k
  here d w k n s e =
      let i : Instance = instance_of p n in
      let same : instance_on top w ≡ i = e ∙ whole d n s.declared s.unfolded in
      let own : IsLeastEquationOrder i (equations (component_of i)) (o w) =
      subst (λ j. IsLeastEquationOrder j (equations (component_of j)) (o w)) same (frames w) in
      let one : IsLeastEquationOrder i (equations n) (o w) =
      subst (λ m. IsLeastEquationOrder i (equations m) (o w)) (component_within (length p) p n) own in
      one_least_order (length (equations n)) (NeedsEquation i (equations n)) (o w) (order_at os k) one
      (least.each k (below (components p) k n s.there) n s.there)

  call : (d : ℕ) → Agree d → (w : List ℕ) (s : Site) → IsUnfolded p (called p d s.callee) → IsAlong top (w ++ s.number ∷ []) (called p d s.callee)
      → IfThere (Agrees o (all_declared p) os d (w ++ s.number ∷ []) (number_of (names_in p) s.callee))
      (slice_get (all_declared p) (number_of (names_in p) s.callee))
  call d h w s u a =
      subst (IfThere (Agrees o (all_declared p) os d (w ++ s.number ∷ []) place))
      (sym (slice_get-map (declared_in p) (components p) place ∙ ap (option_map (declared_in p)) (found p s.callee)))
      (go (component_named p s.callee) refl)
    where
      place : ℕ
      place = number_of (names_in p) s.callee

      go : (x : Option Component) → component_named p s.callee ≡ x
          → IfThere (Agrees o (all_declared p) os d (w ++ s.number ∷ []) place) (option_map (declared_in p) x)
      go None e = tt
      go (Some m) e = h (w ++ s.number ∷ []) place m record {
        there = found p s.callee ∙ e;
        declared = found_declared p s.callee m e;
        unfolded = subst (λ z. IsUnfolded p (instance_within d p (unwrap_or z no_component))) e u;
        reached = subst (λ z. IsAlong top (w ++ s.number ∷ []) (instance_within d p (unwrap_or z no_component))) e a;
      }

  calls : (d : ℕ) → Agree d → (w : List ℕ) (ss : List Site) → AreUnfolded p ss (instances_with (called p d) ss)
      → CallsAlong top w (instances_with (called p d) ss)
      → AllByRecursion (λ l. IfThere (Agrees o (all_declared p) os d (w ++ l.site.number ∷ []) l.place) (slice_get (all_declared p) l.place))
      (map (linked_in p) ss)
  calls d h w [] u a = tt
  calls d h w (s ∷ ss) u a = (call d h w s u.2 a.1, calls d h w ss u.3 a.2)

  agree : (d : ℕ) → Agree d
  agree zero w k n s = here zero w k n s (along_same top w ∙ s.reached.0)
  agree (suc d) w k n s =
      (here (suc d) w k n s (along_same top w ∙ s.reached.0), calls d (agree d) w (all_sites n) s.unfolded.1 s.reached.3)

module _ (p : Program) (c : IsChecked p) (os : List (List ℕ)) (least : AreOrders p os) where
  -- so by all least orders of the frames of a declaration the orders agree
  pub agreed : (k : ℕ) (n : Component) → slice_get (components p) k ≡ Some n → Contains (components p) n
      → (o : Orders) → AreLeast (instance_of p n) o → Agrees o (all_declared p) os (length p) [] k (declared_in p n)
  agreed k n e j o frames =
      let u : IsUnfolded p (instance_of p n) = each_unfolded p c n j in
      agree p c os least o (instance_of p n) frames (length p) [] k n record {
        there = e;
        declared = j;
        unfolded = u;
        reached = tree_along p c (instance_of p n) [] (instance_of p n) refl u
            (subst (Contains (components p)) (sym (component_within (length p) p n)) j);
      }
