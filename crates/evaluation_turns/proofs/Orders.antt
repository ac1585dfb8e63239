-- The orders of the declarations, one behind the other.
use Rattle.std.proofs.Common.{◌≡◌, refl, sym, ap, ◌∙◌, subst, ℕ, zero, suc, ◌<◌, List, [], ◌∷◌, ◌++◌, length, arith}
use Rattle.std.proofs.Math.Logic.{◌⊎◌, inl, inr}
use Rattle.std.proofs.lemmas.Bool.{cases_order}
use Rattle.lus_tree.specs.Tree.{Program}
use Rattle.lus_checked.specs.Program.{IsOrderOf}
use Rattle.evaluation_parts.specs.Framed.{order_at}
use Rattle.evaluation_turns.specs.Turned.{AreFirstOrders}

longer : (os : List (List ℕ)) (x : List ℕ) → length (os ++ x ∷ []) ≡ suc (length os)
longer [] x = refl
longer (o ∷ os) x = ap suc (longer os x)

before : (os : List (List ℕ)) (x : List ℕ) (k : ℕ) → k < length os → order_at (os ++ x ∷ []) k ≡ order_at os k
before [] x k l = absurd (omega (arith, l))
before (o ∷ os) x zero l = refl
before (o ∷ os) x (suc k) l = before os x k (omega (arith, l))

behind : (os : List (List ℕ)) (x : List ℕ) → order_at (os ++ x ∷ []) (length os) ≡ x
behind [] x = refl
behind (o ∷ os) x = behind os x

pub none : (p : Program) → AreFirstOrders p 0 []
none p = record { many = refl; each = λ k l. absurd (omega (arith, l)) }

pub one_more : (p : Program) (n m : ℕ) (os new : List (List ℕ)) (x : List ℕ) → m ≡ suc n → new ≡ os ++ x ∷ [] → AreFirstOrders p n os
    → IsOrderOf p n x → AreFirstOrders p m new
one_more p n m os new x more e a o = record {
  many = ap length e ∙ longer os x ∙ ap suc a.many ∙ sym more;
  each = λ k l. subst (λ z. IsOrderOf p k (order_at z k)) (sym e) (go k (cases_order k n) l);
}
  where
    go : (k : ℕ) → (k ≡ n) ⊎ ((k < n) ⊎ (n < k)) → k < m → IsOrderOf p k (order_at (os ++ x ∷ []) k)
    go k (inl h) l =
        subst (λ z. IsOrderOf p k z) (sym (ap (order_at (os ++ x ∷ [])) (h ∙ sym a.many) ∙ behind os x)) (subst (λ z. IsOrderOf p z x) (sym h) o)
    go k (inr (inl h)) l = subst (IsOrderOf p k) (sym (before os x k (subst (λ z. k < z) (sym a.many) h))) (a.each k h)
    go k (inr (inr h)) l = absurd (omega (arith, l, more, h))
