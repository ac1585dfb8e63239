-- Each row by computation.
use Rattle.std.proofs.Common.{◌≡◌, ℕ, zero, suc, List, [], ◌∷◌, refl, ap, arith}
use Rattle.proof_steps.specs.View.{Refutation}
use Rattle.sys_terms.specs.View.{Formula, Machine, flag}
use Rattle.cert_rules.specs.Facts.{Fact, step_fact, held_fact, AreCited, AreFacts}
use Rattle.citation_rows.specs.Cited.{first_flag, second_flag, a_lemma, cite}

pub earlier_lemma : AreCited (a_lemma ∷ []) (cite 0 first_flag)
earlier_lemma zero d l = refl
earlier_lemma (suc k) d l = absurd (omega arith)

pub none_before : ¬ AreCited [] (cite 0 first_flag)
none_before h = h 0 record { place = 0; term = first_flag } (omega arith)

pub past_the_list : ¬ AreCited (a_lemma ∷ []) (cite 1 first_flag)
past_the_list h = h 0 record { place = 0; term = first_flag } (omega arith)

pub no_lemma : ¬ AreCited (held_fact 0 0 0 ∷ []) (cite 0 first_flag)
no_lemma h = h 0 record { place = 0; term = first_flag } (omega arith)

abbrev number_of : Formula → ℕ
number_of (flag v) = v.number
number_of _ = 2

pub another_term : ¬ AreCited (a_lemma ∷ []) (cite 0 second_flag)
another_term h =
    let e : first_flag ≡ second_flag = h 0 record { place = 0; term = first_flag } (omega arith) in
    let n : 0 ≡ 1 = ap number_of e in
    absurd (omega (arith, n))

pub nothing_to_cite : (m : Machine) (property k place : ℕ) (f : Formula) (proof : Refutation) (rest : List Fact) → ¬ AreFacts m
    (step_fact property k (cite place f) proof ∷ rest)
nothing_to_cite m property k place f proof rest h = (h 0 (step_fact property k (cite place f) proof) refl).1 0 record { place = place; term = f } (omega arith)
