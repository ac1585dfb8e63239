-- Whether some numbers give the evaluation of a declaration: a test that computes.
use Rattle.std.proofs.Common.{◌≡◌, ℕ, zero, suc, pred, ◌<◌, Bool, true, false, not, ◌&&◌, ◌||◌, List, [], ◌∷◌, map, length, get_or, Option, Some, None, position, refl, ap, ◌∙◌, sym, subst, eqb, nat_lt, arith}
use Rattle.std.specs.List.{list_all, list_any}
use Rattle.std.proofs.Math.Logic.{◌⊎◌, inl, inr}
use Rattle.std.proofs.lemmas.Bool.{true≢false, false≢true, eqb-true, ltb-true}
use Rattle.std.proofs.lemmas.Option.{get_or_from_slice_get, slice_get-get_or}
use Rattle.std.proofs.lemmas.List.Quantifiers.{position-Some}
use Rattle.lus_tree.specs.Tree.{Name, truth}
use Rattle.lus_tree.specs.declared.place.Pos.{Pos}
use Rattle.lus_meaning.specs.Scene.{base, Instance, Instances, instance, no_instances, with_instance, component_of, instance_at, no_instance}
use Rattle.lus_meaning.specs.Run.{Equation, equations}
use Rattle.lus_meaning.specs.Depends.{named_in}
use Rattle.lus_meaning.specs.Trace.{same_numbers}
use Rattle.lus_meaning.specs.Order.{IsLeastOrder, NeedsEquation, left_at, IsLeastEquationOrder}
use Rattle.lus_meaning.proofs.FirstFault.{both}
use Rattle.sys_meaning.proofs.Shows.{same_ways}
use Rattle.lus_evaluation.specs.Part.{Part}
use Rattle.lus_evaluation.specs.Frame.{picked}
use Rattle.lus_evaluation.specs.Turn.{in_turn}
use Rattle.lus_evaluation.specs.Evaluation.{is_above, gives_name, place_named, Waits, instance_on, IsEvaluation, NeedsPlace}
use Rattle.evaluation_rows.specs.Orders.{OrderTree, OrderTrees, order_tree, no_trees, with_tree, orders_on, orders_in, orders_of}
use Rattle.evaluation_rows.proofs.LeastTest.{all_below, each_below, is_least_order, least_by, not_true, either}
use Rattle.evaluation_rows.proofs.NeedTest.{leads, misses, needs_by, no_need, name_of, each_name, reaches, never_reaches, reaches_by, no_reach}

-- ---- the equations of a frame

abbrev needs_equation : ℕ → Instance → List Equation → ℕ → ℕ → Bool
needs_equation m i es k j = reaches m i (left_at es k) (left_at es j)

-- whether so many steps are enough
abbrev equations_decided : ℕ → Instance → List Equation → Bool
equations_decided m i es =
    all_below (length es) (λ k. all_below (length es) (λ j. needs_equation m i es k j || never_reaches m i (left_at es k) (left_at es j)))

abbrev least_equations : ℕ → Instance → List Equation → List ℕ → Bool
least_equations m i es ks =
    equations_decided m i es && is_least_order (length es) (NeedsEquation i es) (needs_equation m i es) ks

least_equations_by : (m : ℕ) (i : Instance) (es : List Equation) (ks : List ℕ) → least_equations m i es ks ≡ true →
    IsLeastEquationOrder i es ks
least_equations_by m i es ks e =
    let a : (equations_decided m i es ≡ true) × (is_least_order (length es) (NeedsEquation i es) (needs_equation m i es) ks ≡ true) =
    both (equations_decided m i es) (is_least_order (length es) (NeedsEquation i es) (needs_equation m i es) ks) e in
    least_by (length es) (NeedsEquation i es) (needs_equation m i es) (λ k j h. reaches_by m i (left_at es k) (left_at es j) h)
    (λ k j l n f r. none k j (each_below (length es) (λ j. needs_equation m i es k j || never_reaches m i (left_at es k) (left_at es j))
    (each_below (length es) (λ k. all_below (length es) (λ j. needs_equation m i es k j || never_reaches m i (left_at es k) (left_at es j))) a.0 k l)
    j n) f r) ks a.1
  where
    none : (k j : ℕ) → (needs_equation m i es k j || never_reaches m i (left_at es k) (left_at es j)) ≡ true →
        needs_equation m i es k j ≡ false → NeedsEquation i es k j → ⊥
    none k j h f r = go (either (needs_equation m i es k j) (never_reaches m i (left_at es k) (left_at es j)) h)
      where
        go : (needs_equation m i es k j ≡ true) ⊎ (never_reaches m i (left_at es k) (left_at es j) ≡ true) → ⊥
        go (inl t) = true≢false (sym t ∙ f)
        go (inr t) = no_reach m i (left_at es k) (left_at es j) t r

-- ---- the orders of all frames

abbrev mutual
  pub least_in : ℕ → Instance → OrderTree → Bool
  least_in m (instance d cs is) (order_tree ks ts) = least_equations m (instance d cs is) (equations d) ks && least_below m is ts

  pub least_below : ℕ → Instances → OrderTrees → Bool
  least_below m no_instances no_trees = true
  least_below m (with_instance c i is) (with_tree t ts) = least_in m i t && least_below m is ts
  least_below m no_instances (with_tree t ts) = false
  least_below m (with_instance c i is) no_trees = false

abbrev pub IsLeastOn : Instance → List ℕ → Type 0
IsLeastOn i ks = IsLeastEquationOrder i (equations (component_of i)) ks

nowhere : (w : List ℕ) → instance_on no_instance w ≡ no_instance
nowhere [] = refl
nowhere (zero ∷ w) = nowhere w
nowhere (suc k ∷ w) = nowhere w

least_nowhere : (w : List ℕ) → IsLeastOn (instance_on no_instance w) []
least_nowhere w = subst (λ i. IsLeastOn i []) (sym (nowhere w)) (least_equations_by 1 no_instance [] [] refl)

mutual
  least_on : (m : ℕ) (i : Instance) (t : OrderTree) → least_in m i t ≡ true → (w : List ℕ) → IsLeastOn (instance_on i w) (orders_on t w)
  least_on m (instance d cs is) (order_tree ks ts) e [] =
      least_equations_by m (instance d cs is) (equations d) ks
      (both (least_equations m (instance d cs is) (equations d) ks) (least_below m is ts) e).0
  least_on m (instance d cs is) (order_tree ks ts) e (zero ∷ w) = least_nowhere w
  least_on m (instance d cs is) (order_tree ks ts) e (suc k ∷ w) =
      least_among m is ts (both (least_equations m (instance d cs is) (equations d) ks) (least_below m is ts) e).1 k w

  least_among : (m : ℕ) (is : Instances) (ts : OrderTrees) → least_below m is ts ≡ true → (k : ℕ) (w : List ℕ) →
      IsLeastOn (instance_on (instance_at is k) w) (orders_in ts k w)
  least_among m no_instances no_trees e k w = least_nowhere w
  least_among m (with_instance c i is) (with_tree t ts) e zero w = least_on m i t (both (least_in m i t) (least_below m is ts) e).0 w
  least_among m (with_instance c i is) (with_tree t ts) e (suc k) w = least_among m is ts (both (least_in m i t) (least_below m is ts) e).1 k w
  least_among m no_instances (with_tree t ts) e k w = absurd (false≢true e)
  least_among m (with_instance c i is) no_trees e k w = absurd (false≢true e)

-- ---- what waits

abbrev no_place : Pos
no_place = record { line = 0; column = 0 }

abbrev pub no_part : Part
no_part = record { way = []; clock = base; expression = truth record { from = no_place; at = no_place } true; needs = []; gives = [] }

abbrev is_number : ℕ → Option ℕ → Bool
is_number j None = false
is_number j (Some k) = eqb k j

number_is : (j : ℕ) (o : Option ℕ) → is_number j o ≡ true → o ≡ Some j
number_is j None e = absurd (false≢true e)
number_is j (Some k) e = ap Some (eqb-true k j e)

number_there : (j : ℕ) (o : Option ℕ) → o ≡ Some j → is_number j o ≡ true
number_there j o e = rw e (grind arith)

module _ (m : ℕ) (i : Instance) (ps : List Part) where
  abbrev at : ℕ → Part
  at k = get_or ps k no_part

  abbrev gives_first : ℕ → Name → Bool
  gives_first j x = is_number j (position (gives_name (at j).way x) ps)

  abbrev waits_for : ℕ → ℕ → Name → Bool
  waits_for k j x =
      gives_first j x && (is_above (at j).way (at k).way && list_any (leads m i (map pred (at j).way) x) (at k).needs)

  abbrev pub waits : ℕ → ℕ → Bool
  waits k j = nat_lt k (length ps) && list_any (waits_for k j) (at j).gives

  abbrev never_for : ℕ → ℕ → Name → Bool
  never_for k j x =
      not (gives_first j x) || (not (is_above (at j).way (at k).way) || list_all (misses m i (map pred (at j).way) x) (at k).needs)

  abbrev never : ℕ → ℕ → Bool
  never k j = list_all (never_for k j) (at j).gives

  abbrev pub waits_decided : Bool
  waits_decided = all_below (length ps) (λ k. all_below (length ps) (λ j. waits k j || never k j))

  waits_by : (k j : ℕ) → waits k j ≡ true → Waits i ps k j
  waits_by k j e =
      let a : (nat_lt k (length ps) ≡ true) × (list_any (waits_for k j) (at j).gives ≡ true) =
      both (nat_lt k (length ps)) (list_any (waits_for k j) (at j).gives) e in
      let x = name_of (waits_for k j) (at j).gives a.1 in
      let b : (gives_first j x.0 ≡ true) × ((is_above (at j).way (at k).way && list_any (leads m i (map pred (at j).way) x.0) (at k).needs) ≡ true) =
      both (gives_first j x.0) (is_above (at j).way (at k).way && list_any (leads m i (map pred (at j).way) x.0) (at k).needs) x.2 in
      let c : (is_above (at j).way (at k).way ≡ true) × (list_any (leads m i (map pred (at j).way) x.0) (at k).needs ≡ true) =
      both (is_above (at j).way (at k).way) (list_any (leads m i (map pred (at j).way) x.0) (at k).needs) b.1 in
      record {
        waiting = at k;
        is_there = slice_get-get_or ps k no_part (ltb-true k (length ps) a.0);
        way = (at j).way;
        name = x.0;
        above = c.0;
        given = number_is j (position (gives_name (at j).way x.0) ps) b.0;
        needed = needs_by m i (map pred (at j).way) x.0 (at k).needs c.1;
      }

  not_both : (a : Bool) → not a ≡ true → a ≡ true → ⊥
  not_both a n e = true≢false (sym e ∙ not_true a n)

  -- what none leads to is not waited for
  excluded : (k j : ℕ) (x : Name) → never_for k j x ≡ true → position (gives_name (at j).way x) ps ≡ Some j →
      is_above (at j).way (at k).way ≡ true → NeedsPlace i (at k).needs (place_named (at j).way x) → ⊥
  excluded k j x e g a n = go (either (not (gives_first j x)) (not (is_above (at j).way (at k).way) || all_miss) e)
    where
      all_miss : Bool
      all_miss = list_all (misses m i (map pred (at j).way) x) (at k).needs

      rest : (not (is_above (at j).way (at k).way) ≡ true) ⊎ (all_miss ≡ true) → ⊥
      rest (inl h) = not_both (is_above (at j).way (at k).way) h a
      rest (inr h) = no_need m i (map pred (at j).way) x (at k).needs h n

      go : (not (gives_first j x) ≡ true) ⊎ ((not (is_above (at j).way (at k).way) || all_miss) ≡ true) → ⊥
      go (inl h) = not_both (gives_first j x) h (number_there j (position (gives_name (at j).way x) ps) g)
      go (inr h) = rest (either (not (is_above (at j).way (at k).way)) all_miss h)

  never_waits : (k j : ℕ) → never k j ≡ true → Waits i ps k j → ⊥
  never_waits k j e w =
      let g : gives_name w.way w.name (at j) ≡ true = (position-Some (gives_name w.way w.name) ps j no_part w.given).1 in
      let h : (same_numbers w.way (at j).way ≡ true) × (named_in w.name (at j).gives ≡ true) =
      both (same_numbers w.way (at j).way) (named_in w.name (at j).gives) g in
      let v : w.way ≡ (at j).way = same_ways w.way (at j).way h.0 in
      let q : w.waiting ≡ at k = sym (get_or_from_slice_get ps k w.waiting no_part w.is_there) in
      excluded k j w.name (each_name (never_for k j) (at j).gives e w.name h.1)
      (subst (λ u. position (gives_name u w.name) ps ≡ Some j) v w.given)
      (subst (λ u. is_above u (at k).way ≡ true) v (subst (λ r. is_above w.way r.way ≡ true) q w.above))
      (subst (λ u. NeedsPlace i (at k).needs (place_named u w.name)) v
      (subst (λ r. NeedsPlace i r.needs (place_named w.way w.name)) q w.needed))

  waits_missed : waits_decided ≡ true → (k j : ℕ) → k < length ps → j < length ps → waits k j ≡ false → Waits i ps k j → ⊥
  waits_missed d k j l n f w =
      go (either (waits k j) (never k j) (each_below (length ps) (λ j. waits k j || never k j)
      (each_below (length ps) (λ k. all_below (length ps) (λ j. waits k j || never k j)) d k l) j n))
    where
      go : (waits k j ≡ true) ⊎ (never k j ≡ true) → ⊥
      go (inl t) = true≢false (sym t ∙ f)
      go (inr t) = never_waits k j t w

  abbrev pub least_waits : List ℕ → Bool
  least_waits ks = waits_decided && is_least_order (length ps) (Waits i ps) waits ks

  pub least_waits_by : (ks : List ℕ) → least_waits ks ≡ true → IsLeastOrder (length ps) (Waits i ps) ks
  least_waits_by ks e =
      let a : (waits_decided ≡ true) × (is_least_order (length ps) (Waits i ps) waits ks ≡ true) =
      both waits_decided (is_least_order (length ps) (Waits i ps) waits ks) e in
      least_by (length ps) (Waits i ps) waits waits_by (waits_missed a.0) ks a.1

-- ---- the evaluation

-- These numbers give the evaluation of the declaration, in whose frames the equations have these orders, if these tests say so.
pub evaluation_by : (m : ℕ) (i : Instance) (t : OrderTree) (ks : List ℕ) → least_in m i t ≡ true →
    least_waits m i (in_turn (orders_of t) i) ks ≡ true → IsEvaluation i (picked ks (in_turn (orders_of t) i))
evaluation_by m i t ks e h = record {
  orders = orders_of t;
  least = λ w. least_on m i t e w;
  numbers = ks;
  turn = least_waits_by m i (in_turn (orders_of t) i) ks h;
  parts = refl;
}
