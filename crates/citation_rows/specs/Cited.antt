-- Lists of facts that cite: a step after a lemma, and what it may not cite.
use Rattle.std.specs.Prelude.{ℕ, false, List, [], ◌∷◌}
use Rattle.proof_steps.specs.View.{Refutation}
use Rattle.sys_terms.specs.View.{Formula, Machine, flag}
use Rattle.cert_rules.specs.Facts.{Citation, Fact, step_fact, lemma_fact, AreCited, AreFacts}

-- the first variable, and the second
abbrev pub first_flag : Formula
first_flag = flag record { number = 0; next = false }

abbrev pub second_flag : Formula
second_flag = flag record { number = 1; next = false }

abbrev pub no_proof : Refutation
no_proof = record { atoms = []; moves = [] }

-- a lemma that cites nothing
abbrev pub a_lemma : Fact
a_lemma = lemma_fact first_flag [] no_proof no_proof

abbrev pub cite : ℕ → Formula → List Citation
cite n f = record { place = n; term = f } ∷ []

-- no list of facts has, behind these entries, a step that cites this
abbrev pub NoStepCites : List Fact → List Citation → Type 0
NoStepCites earlier cites = ¬ AreCited earlier cites

-- a list that begins with a step that cites is no list of facts, whatever the system, the property and the proof
abbrev pub NothingToCite : Type 0
NothingToCite =
    (m : Machine) (property k place : ℕ) (f : Formula) (proof : Refutation) (rest : List Fact)
    → ¬ AreFacts m (step_fact property k (cite place f) proof ∷ rest)
