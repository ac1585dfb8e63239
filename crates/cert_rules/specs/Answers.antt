-- What the calls answer: a fact exactly where no rule is broken, else the first one that is.
use Rattle.std.specs.Prelude.{ℕ, ◌≡◌, Result, Ok, Err, Some, None}
use Rattle.proof_steps.specs.View.{Refutation}
use Rattle.sys_terms.specs.View.{Machine}
use Rattle.cert_rules.specs.Facts.{Fact, held_fact, held_by_fact}
use Rattle.cert_rules.specs.Faults.{Misfit}
use Rattle.cert_rules.specs.Kept.{held_machine, held_at}
use Rattle.cert_rules.specs.declared.held.Held.{Held}
use Rattle.cert_rules.specs.declared.fault.RuleFault.{RuleFault}
use Rattle.cert_rules.specs.declared.fault.RuleFault.TheVariants.{Refused, Memory}

-- the rule that is told is the first one broken; memory may run out at any time
abbrev pub IsMisfit : Misfit → RuleFault → Type 0
IsMisfit misfit (Refused part rule) = misfit ≡ Some (part, rule)
IsMisfit misfit Memory = Unit

-- no rule is broken, or it is told
abbrev pub Allows : {X : Type 0} → Misfit → Result X RuleFault → Type 0
Allows misfit (Ok x) = misfit ≡ None
Allows misfit (Err e) = IsMisfit misfit e

-- a made fact is this one, of this system, and breaks no rule
pub record IsMade {T : Type 0} (view : T → Fact) (machine : T
    → Machine) (m : Machine) (fact : Fact) (misfit : Misfit) (x : T) : Type 0 where
  pub says : view x ≡ fact
  pub system : machine x ≡ m
  pub unbroken : misfit ≡ None

abbrev pub Makes : {T : Type 0}
    → (T → Fact) → (T → Machine) → Machine → Fact → Misfit → Result T RuleFault → Type 0
Makes view machine m fact misfit (Ok x) = IsMade view machine m fact misfit x
Makes view machine m fact misfit (Err e) = IsMisfit misfit e

-- a held property is this one, by entries at any places, of this system, and breaks no rule
pub record IsHeld (m : Machine) (fact_at : ℕ → ℕ → Fact) (misfit : Misfit) (h : Held) : Type 0 where
  pub says : (first second : ℕ) → held_at h first second ≡ fact_at first second
  pub system : held_machine h ≡ m
  pub unbroken : misfit ≡ None

abbrev pub Holds : Machine → (ℕ → ℕ → Fact) → Misfit → Result Held RuleFault → Type 0
Holds m fact_at misfit (Ok h) = IsHeld m fact_at misfit h
Holds m fact_at misfit (Err e) = IsMisfit misfit e

-- by a base and a step, or by a lemma and the refutation of what it implies
abbrev pub both_named : ℕ → ℕ → ℕ → Fact
both_named p first second = held_fact p first second

abbrev pub lemma_named : ℕ → Refutation → ℕ → ℕ → Fact
lemma_named p proof first second = held_by_fact p first proof
