-- The facts themselves as clauses see them: what each says and keeps, and of which system.
use Rattle.std.specs.Prelude.{ℕ, List, Option, Some, None}
use Rattle.proof_steps.specs.View.{Refutation, proof_view}
use Rattle.sys_terms.specs.View.{Formula, Machine, term_view, system_view}
use Rattle.cert_rules.specs.Facts.{Citation, Fact, base_fact, step_fact, lemma_fact, held_fact, held_by_fact}
use Rattle.cert_rules.specs.View.{cites_view, proofs_view}
use Rattle.cert_rules.specs.declared.base.Base.{Base}
use Rattle.cert_rules.specs.declared.step.Step.{Step}
use Rattle.cert_rules.specs.declared.lemma.Lemma.{Lemma}
use Rattle.cert_rules.specs.declared.held.Held.{Held}
use Rattle.cert_rules.specs.declared.held.Reason.{Reason}
use Rattle.cert_rules.specs.declared.held.Reason.TheVariants.{Both, By}

abbrev pub base_property : Base → ℕ
base_property b = b.property

abbrev pub base_instant : Base → ℕ
base_instant b = b.instant

abbrev pub base_cites : Base → List Citation
base_cites b = cites_view b.cites.items

abbrev pub base_proofs : Base → List Refutation
base_proofs b = proofs_view b.proofs.items

abbrev pub base_view : Base → Fact
base_view b = base_fact (base_property b) (base_instant b) (base_cites b) (base_proofs b)

abbrev pub base_machine : Base → Machine
base_machine b = system_view b.of.value

abbrev pub step_property : Step → ℕ
step_property s = s.property

abbrev pub step_k : Step → ℕ
step_k s = s.k

abbrev pub step_cites : Step → List Citation
step_cites s = cites_view s.cites.items

abbrev pub step_proof : Step → Refutation
step_proof s = proof_view s.proof

abbrev pub step_view : Step → Fact
step_view s = step_fact (step_property s) (step_k s) (step_cites s) (step_proof s)

abbrev pub step_machine : Step → Machine
step_machine s = system_view s.of.value

abbrev pub lemma_term : Lemma → Formula
lemma_term l = term_view l.term

abbrev pub lemma_cites : Lemma → List Citation
lemma_cites l = cites_view l.cites.items

abbrev pub lemma_first_proof : Lemma → Refutation
lemma_first_proof l = proof_view l.first

abbrev pub lemma_next_proof : Lemma → Refutation
lemma_next_proof l = proof_view l.next

abbrev pub lemma_view : Lemma → Fact
lemma_view l = lemma_fact (lemma_term l) (lemma_cites l) (lemma_first_proof l) (lemma_next_proof l)

abbrev pub lemma_machine : Lemma → Machine
lemma_machine l = system_view l.of.value

-- of a held property: the fact as an entry that names these places
abbrev pub reason_at : ℕ → ℕ → ℕ → Reason → Fact
reason_at p first second (Both base step) = held_fact p first second
reason_at p first second (By lemma proof) = held_by_fact p first (proof_view proof)

abbrev pub held_property : Held → ℕ
held_property h = h.property

abbrev pub held_at : Held → ℕ → ℕ → Fact
held_at h first second = reason_at (held_property h) first second h.reason

abbrev pub held_machine : Held → Machine
held_machine h = system_view h.of.value.value

-- the refutation of what a lemma implies, where it is held by one
abbrev pub reason_proof : Reason → Option Refutation
reason_proof (Both base step) = None
reason_proof (By lemma proof) = Some (proof_view proof)

abbrev pub held_proof : Held → Option Refutation
held_proof h = reason_proof h.reason
