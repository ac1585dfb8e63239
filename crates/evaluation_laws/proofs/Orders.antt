-- Each frame of a checked declaration has its least order of equations.
use Rattle.std.proofs.Common.{◌≡◌, ℕ, zero, suc, List, [], ◌∷◌, refl, ap, sym, subst, arith}
use Rattle.std.specs.Prelude.{Contains}
use Rattle.std.specs.List.{AllByRecursion}
use Rattle.std.proofs.Math.Logic.{◌⊎◌, inl, inr}
use Rattle.lus_tree.specs.Tree.{Component, Program}
use Rattle.lus_meaning.specs.Scene.{Site, Instance, Instances, instance, no_instances, with_instance, no_instance, component_of, instance_at, call_instance}
use Rattle.lus_meaning.specs.Program.{all_sites}
use Rattle.lus_meaning.specs.Run.{equations}
use Rattle.lus_meaning.specs.Order.{IsLeastEquationOrder}
use Rattle.lus_meaning.specs.ClockFaults.{components}
use Rattle.lus_meaning.specs.Refusals.{IsChecked}
use Rattle.lus_meaning.proofs.Orders.{no_numbers}
use Rattle.rule_laws.specs.Laws.{IsUnfolded, AreUnfolded}
use Rattle.rule_laws.proofs.Callees.{GoesDown, each_site}
use Rattle.clock_laws.proofs.Clocks.{unfolded_same, declared_at}
use Rattle.clock_laws.proofs.OrderLaws.{one_order}
use Rattle.lus_evaluation.specs.Evaluation.{instance_on}

abbrev HasLeastOrder : Instance → Type 0
HasLeastOrder i = (ks : List ℕ) × IsLeastEquationOrder i (equations (component_of i)) ks

none_ordered : HasLeastOrder no_instance
none_ordered = (
  [],
  record { order = record { below = tt; all = λ k l. absurd (omega arith); once = no_numbers; ready = tt }; next = tt },
)

module _ (p : Program) (c : IsChecked p) where
  -- an unfolded instance of a declaration
  pub record IsDeclared (i : Instance) : Type 0 where
    pub unfolded : IsUnfolded p i
    pub declared : Contains (components p) (component_of i)

  abbrev IsThere : Instance → Type 0
  IsThere i = IsDeclared i ⊎ (i ≡ no_instance)

  ordered : (i : Instance) → IsDeclared i → HasLeastOrder i
  ordered i d =
      let r = one_order p c (component_of i) d.declared in
      (r.0, subst (λ k. IsLeastEquationOrder k (equations (component_of i)) r.0) (sym (unfolded_same p c i d.unfolded d.declared)) r.1)

  there_at : (n : Component) (ss : List Site) (is : Instances) → AreUnfolded p ss is → AllByRecursion (λ s. GoesDown p n s.callee) ss → (k : ℕ) →
      IsThere (instance_at is k)
  there_at n ss no_instances u a k = inr refl
  there_at n [] (with_instance d m is) u a k = absurd u
  there_at n (s ∷ ss) (with_instance d m is) u a zero = inl record { unfolded = u.2; declared = declared_at p c n s m a.0 u.1 }
  there_at n (s ∷ ss) (with_instance d m is) u a (suc k) = there_at n ss is u.3 a.1 k

  there_called : (i : Instance) → IsThere i → (k : ℕ) → IsThere (call_instance i k)
  there_called i t zero = inr refl
  there_called i (inr e) (suc k) = inr (ap (λ j. call_instance j (suc k)) e)
  there_called (instance n cs is) (inl d) (suc k) =
      there_at n (all_sites n) is d.unfolded.1 (each_site p c.rules.clocked.typed n d.declared) k

  there_on : (i : Instance) → IsThere i → (w : List ℕ) → IsThere (instance_on i w)
  there_on i t [] = t
  there_on i t (k ∷ w) = there_on (call_instance i k) (there_called i t k) w

  pub order_on : (i : Instance) → IsDeclared i → (w : List ℕ) → HasLeastOrder (instance_on i w)
  order_on i d w = go (instance_on i w) (there_on i (inl d) w)
    where
      go : (j : Instance) → IsThere j → HasLeastOrder j
      go j (inl t) = ordered j t
      go j (inr e) = subst HasLeastOrder (sym e) none_ordered
