-- Clauses with a true literal, one after the other.
use Rattle.std.specs.Prelude.{ℕ, ◌≡◌, ◌+◌, ◌<◌, Bool, List, Option, All, length, take, get_or}
use Rattle.std.proofs.Common.{subst}
use Rattle.std.proofs.lemmas.List.Elements.{All-more}
use Rattle.proof_steps.specs.declared.Clause.{Clause}
use Rattle.proof_steps.specs.declared.Literal.{Literal}
use Rattle.proof_steps.specs.View.{clause_view}
use Rattle.search_trial.specs.Values.{HasTrue}

pub met_next : (values : List (Option Bool)) (cs : List Clause) (i : ℕ) (c : Clause) (ls : List Literal) → i < length cs
    → c ≡ get_or cs i c → ls ≡ clause_view c → HasTrue values ls → All (λ x. HasTrue values (clause_view x)) (take i cs)
    → All (λ x. HasTrue values (clause_view x)) (take (i + 1) cs)
met_next values cs i c ls h e s t a = All-more (λ x. HasTrue values (clause_view x)) cs i c h a
    (subst (λ x. HasTrue values (clause_view x)) e (subst (HasTrue values) s t))
