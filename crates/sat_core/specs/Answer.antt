-- What propagation came to.
use Rattle.std.specs.Prelude.{◌≡◌, ◌<◌, Bool, true, false, List, None, length}
use Rattle.proof_steps.specs.declared.Literal.{Literal}
use Rattle.proof_steps.specs.View.{Move}
use Rattle.sat_core.specs.declared.assigned.Assigned.{Assigned}
use Rattle.sat_core.specs.declared.answer.Answer.{Answer}
use Rattle.sat_core.specs.declared.answer.Answer.TheVariants.{Full, Conflict, Empty}
use Rattle.sat_core.specs.Trail.{HasDecision}
use Rattle.sat_core.specs.Analysis.{IsLast}
use Rattle.sat_core.specs.Propagation.{IsStill, IsFalseAt}
use Rattle.sat_core.specs.Refuted.{IsRefuted}

-- neither clauses nor log have changed
pub record AreKept (known known' : List (List Literal)) (log log' : List Move) : Type 0 where
  pub clauses : known' ≡ known
  pub steps : log' ≡ log

-- the empty clause is derived, where it was not yet
abbrev pub IsEnded : Bool → List (List Literal) → List (List Literal) → List Move → List Move → Type 0
IsEnded true known known' log log' = AreKept known known' log log'
IsEnded false known known' log log' = IsRefuted known known' log log' × (length known < 4294967295)

abbrev pub IsAnswered : Bool → List (List Literal) → List (List Literal) → List Move → List Move → List Literal → List Assigned → Answer → Type 0
IsAnswered ended known known' log log' variables trail Full = AreKept known known' log log' × IsStill known variables trail None
IsAnswered ended known known' log log' variables trail (Conflict n) =
    AreKept known known' log log' × IsFalseAt known trail n × HasDecision trail
IsAnswered ended known known' log log' variables trail (Empty n) =
    IsEnded ended known known' log log' × IsLast trail None × IsFalseAt known trail n
