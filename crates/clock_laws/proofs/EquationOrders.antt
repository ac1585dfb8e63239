-- The equations of an instance have an order exactly where none needs itself, and then exactly one least order.
use Rattle.std.proofs.Common.{◌≡◌, ℕ, zero, suc, ◌<◌, Bool, true, false, ◌||◌, eqb, List, [], ◌∷◌, ◌++◌, length, refl, sym, ◌∙◌, subst, arith}
use Rattle.std.specs.List.{AllByRecursion}
use Rattle.std.proofs.Math.Logic.{◌⊎◌, inl, inr}
use Rattle.std.proofs.lemmas.Bool.{false≢true, cases_Bool, eqb-true}
use Rattle.std.proofs.lemmas.List.Folds.{list_any-append}
use Rattle.lus_tree.specs.Tree.{Name}
use Rattle.lus_meaning.specs.Scene.{Instance, component_of}
use Rattle.lus_meaning.specs.Run.{Equation, equations}
use Rattle.lus_meaning.specs.Depends.{left_names}
use Rattle.lus_meaning.specs.Cycle.{Reaches}
use Rattle.lus_meaning.specs.Order.{is_listed, AreReady, IsOrder, IsLeastOrder, IsStuck, Passes, left_at, NeedsEquation, IsEquationOrder, IsLeastEquationOrder}
use Rattle.lus_meaning.specs.WellMade.{AreDistinct}
use Rattle.lus_meaning.proofs.Orders.{least_order, same_least, IsWalk, last_of, stuck_walk}
use Rattle.lus_meaning.proofs.Steps.{fewer_order, far_least, near_least}
use Rattle.clock_laws.proofs.Reaching.{needs_some, reaches_from, reaches_to, reaches_on}

-- in an order none needs itself
module _ (count : ℕ) (Needs : ℕ → ℕ → Type 0) where
  never_itself : (done ks : List ℕ) → AreReady count Needs done ks → (k : ℕ) → k < count → Needs k k → is_listed ks k ≡ true → is_listed done k ≡ false → ⊥
  never_itself done [] a k l n e h = false≢true e
  never_itself done (m ∷ ks) a k l n e h = go (cases_Bool (eqb k m)) (never_itself (done ++ m ∷ []) ks a.1 k l n)
    where
      go : (eqb k m ≡ true) ⊎ (eqb k m ≡ false) → (is_listed ks k ≡ true → is_listed (done ++ m ∷ []) k ≡ false → ⊥) → ⊥
      go (inl t) r = false≢true (sym h ∙ a.0 k l (subst (λ q. Needs q k) (eqb-true k m t) n))
      go (inr f) r = r (subst (λ c. (c || is_listed ks k) ≡ true) f e) (list_any-append (eqb k) done (m ∷ []) ∙ rw (h, f) refl)

  pub order_never : (ks : List ℕ) → IsOrder count Needs ks → (k : ℕ) → k < count → Needs k k → ⊥
  order_never ks o k l n = never_itself [] ks o.ready k l n (o.all k l) refl

module _ (i : Instance) (distinct : AreDistinct (left_names (component_of i))) where
  abbrev es : List Equation
  es = equations (component_of i)

  abbrev lefts : ℕ → List Name
  lefts k = left_at es k

  abbrev test : ℕ → ℕ → Bool
  test k j = needs_some i (lefts k) (lefts j)

  walk_reaches : (k j : ℕ) (js : List ℕ) → IsWalk (length es) test k (j ∷ js) → Reaches i (lefts k) (lefts (last_of (length es) test j js))
  walk_reaches k j [] w = reaches_from i (lefts k) (lefts j) w.0
  walk_reaches k j (l ∷ js) w = reaches_on i distinct (lefts k) j (lefts (last_of (length es) test l js)) (reaches_from i (lefts k) (lefts j) w.0)
      (walk_reaches j l js w.1)

  module _ (none : (k : ℕ) → k < length es → Reaches i (lefts k) (lefts k) → ⊥) where
    never : (done : List ℕ) → IsStuck (length es) (Passes test) done → ⊥
    never done stuck =
        let t : (k : ℕ) × (k < length es) × (j : ℕ) × (js : List ℕ) × IsWalk (length es) test k (j ∷ js) × (last_of (length es) test j js ≡ k) =
        stuck_walk (length es) test done stuck in
        none t.0 t.1 (subst (λ m. Reaches i (lefts t.0) (lefts m)) t.5 (walk_reaches t.0 t.2 t.3 t.4))

    by_test : (ks : List ℕ) × IsLeastOrder (length es) (Passes test) ks
    by_test = least_order (length es) test never

    pub some_order : (ks : List ℕ) × IsEquationOrder i es ks
    some_order = (
      by_test.0,
      fewer_order (length es) (NeedsEquation i es) (Passes test) (λ k j l h n. reaches_to i (lefts k) (lefts j) n) by_test.0
          by_test.1.order,
    )

    to_least : (ks : List ℕ) → IsLeastOrder (length es) (Passes test) ks → IsLeastEquationOrder i es ks
    to_least ks o = far_least (length es) (Passes test) (NeedsEquation i es) (λ k j l h n. reaches_from i (lefts k) (lefts j) n)
        (λ k j l h n. record { first = j; rest = []; steps = (h, reaches_to i (lefts k) (lefts j) n, tt); last = refl }) ks o

    from_least : (ks : List ℕ) → IsLeastEquationOrder i es ks → IsLeastOrder (length es) (Passes test) ks
    from_least ks o = near_least (length es) (Passes test) (NeedsEquation i es) (λ k j l h n. reaches_from i (lefts k) (lefts j) n)
        (λ k j l h n. record { first = j; rest = []; steps = (h, reaches_to i (lefts k) (lefts j) n, tt); last = refl }) ks o

    pub one_least_order : (ks : List ℕ) × IsLeastEquationOrder i es ks × ((js : List ℕ) → IsLeastEquationOrder i es js → js ≡ ks)
    one_least_order = (by_test.0, to_least by_test.0 by_test.1, (λ js o. same_least (length es) test js by_test.0 (from_least js o) by_test.1))

-- equations by number and in a list
pub none_at : (i : Instance) (es : List Equation) → AllByRecursion (λ e. Reaches i e.names e.names → ⊥) es → (k : ℕ) → k < length es
    → Reaches i (left_at es k) (left_at es k) → ⊥
none_at i [] a k l r = absurd (omega arith)
none_at i (e ∷ es) a zero l r = a.0 r
none_at i (e ∷ es) a (suc k) l r = none_at i es a.1 k (omega arith) r

pub none_in : (i : Instance) (es : List Equation) → ((k : ℕ) → k < length es → Reaches i (left_at es k) (left_at es k) → ⊥) → AllByRecursion
    (λ e. Reaches i e.names e.names → ⊥) es
none_in i [] h = tt
none_in i (e ∷ es) h = ((λ r. h 0 (omega arith) r), none_in i es (λ k l r. h (suc k) (omega arith) r))
