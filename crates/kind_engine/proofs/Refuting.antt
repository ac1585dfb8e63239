-- Refuted instants.
use Rattle.std.specs.Prelude.{ℕ, zero, suc, ◌≡◌, ◌+◌, ◌<◌, List, [], ◌∷◌, ◌++◌, length, Contains, Some, None, refl}
use Rattle.std.proofs.Common.{subst, arith}
use Rattle.proof_steps.specs.View.{Refutation}
use Rattle.proof_steps.specs.declared.stops.Budgets.{Budgets}
use Rattle.sys_terms.specs.View.{Formula, Machine, Task, base}
use Rattle.sys_terms.specs.Answers.{IsAnswer}
use Rattle.sys_terms.specs.declared.term.Entry.{Entry}
use Rattle.smt_solver.specs.View.{unsat, sat}
use Rattle.smt_solver.specs.Answered.{IsAnswered}
use Rattle.cert_rules.specs.Facts.{AreBases, IsRefuted}
use Rattle.proof_checker.specs.declared.rule.Rule.{Rule}
use Rattle.cert_rules.specs.declared.fault.RuleFault.{RuleFault}
use Rattle.cert_rules.specs.declared.fault.RuleFault.TheVariants.{Refused}
use Rattle.cert_rules.specs.Faults.{Misfit}
use Rattle.cert_rules.specs.Answers.{IsMisfit}
use Rattle.board_core.specs.Entries.{AreRefutedBefore, IsRefutedBy}
use Rattle.kind_engine.proofs.Lists.{contains-last, contains-front, contains-back}

-- no rule is told where none is broken
pub never-refused : (misfit : Misfit) (e : RuleFault) (part : ℕ) (rule : Rule) → misfit ≡ None → e ≡ Refused part rule
    → IsMisfit misfit e → ⊥
never-refused misfit e part rule none is told =
    let h : misfit ≡ Some (part, rule) = subst (IsMisfit misfit) is told in absurd cc

-- what the solver says of a query
module _ (m : Machine) (budgets : Budgets) (task : Task) (cites : List Formula) where
  pub refuted-by : (p : Refutation) → IsAnswered m task cites budgets (unsat p) → IsRefuted m task cites p
  refuted-by p a = record { form = a.form; is_form = a.is_form; right = a.is_true }

  pub answer-by : (states : List (List Entry)) → IsAnswered m task cites budgets (sat states)
      → IsAnswer m task cites states
  answer-by states a = a.is_true

module _ (m : Machine) (p : ℕ) (cites : List Formula) where
  same-place : (i k : ℕ) (r : Refutation) → i ≡ k → IsRefuted m (base p i) cites r → IsRefuted m (base p k) cites r
  same-place i k r e h = subst (λ j. IsRefuted m (base p j) cites r) e h

  -- one instant more
  pub bases-push : (from : ℕ) (proofs : List Refutation) (r : Refutation) → AreBases m p cites from proofs
      → IsRefuted m (base p (from + length proofs)) cites r → AreBases m p cites from (proofs ++ r ∷ [])
  bases-push from [] r h k = (same-place (from + 0) from r (omega arith) k, tt)
  bases-push from (q ∷ proofs) r h k = (
    h.0,
    bases-push (suc from) proofs r h.1
        (same-place (from + suc (length proofs)) (suc from + length proofs) r (omega arith) k),
  )

  -- each of them is refuted by one of the proofs
  base-among : (from : ℕ) (proofs : List Refutation) → AreBases m p cites from proofs → (j : ℕ) → j < length proofs
      → (r : Refutation) × Contains proofs r × IsRefuted m (base p (from + j)) cites r
  base-among from [] h j l = absurd (omega arith)
  base-among from (r ∷ proofs) h zero l =
      (r, (0, omega arith, refl), same-place from (from + 0) r (omega arith) h.0)
  base-among from (r ∷ proofs) h (suc j) l =
      let b = base-among (suc from) proofs h.1 j (omega arith) in (
        b.0,
        (suc b.1.0, (let s = b.1.1 in omega arith), b.1.2),
        same-place (suc from + j) (from + suc j) b.0 (omega arith) b.2,
      )

  pub refuted-before : (proofs : List Refutation) → AreBases m p cites 0 proofs
      → AreRefutedBefore m proofs p (length proofs) cites
  refuted-before proofs h j l =
      let b = base-among 0 proofs h j l in (b.0, b.1, same-place (0 + j) j b.0 (omega arith) b.2)

-- one more instant that is refuted
pub bases-next : (m : Machine) (p : ℕ) (cites : List Formula) (proofs : List Refutation) (r : Refutation) (i : ℕ)
    → length proofs ≡ i → AreBases m p cites 0 proofs → IsRefuted m (base p i) cites r
    → AreBases m p cites 0 (proofs ++ r ∷ [])
bases-next m p cites proofs r i e h a =
    bases-push m p cites 0 proofs r h (subst (λ n. IsRefuted m (base p n) cites r) (place (length proofs) e) a)
  where
    place : (n : ℕ) → n ≡ i → i ≡ 0 + n
    place n f = omega (arith, f)

-- what some of the proofs refute
module _ (m : Machine) (task : Task) (cites : List Formula) where
  pub by-front : (xs ys : List Refutation) → IsRefutedBy m xs task cites → IsRefutedBy m (xs ++ ys) task cites
  by-front xs ys h = (h.0, contains-front xs ys h.0 h.1.0 h.1.1 h.1.2, h.2)

  pub by-back : (xs ys : List Refutation) → IsRefutedBy m ys task cites → IsRefutedBy m (xs ++ ys) task cites
  by-back xs ys h = (h.0, contains-back xs ys h.0 h.1, h.2)

  pub by-last : (xs : List Refutation) (r : Refutation) → IsRefuted m task cites r → IsRefutedBy m (xs ++ r ∷ []) task cites
  by-last xs r h = (r, contains-last xs r, h)
