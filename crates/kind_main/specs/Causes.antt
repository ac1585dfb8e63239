-- Why an engine leaves a property undecided, and when that is true.
use Rattle.std.specs.Prelude.{◌≡◌, ℕ, List, Some, take, slice_get}
use Rattle.sys_terms.specs.View.{Machine}
use Rattle.board_core.specs.declared.plan.Plan.{Plan}
use Rattle.board_core.specs.Entries.{Why, Grounds, Posting, spent, IsWhy}
use Rattle.board_core.specs.Verdicts.{cause_of}
use Rattle.board_core.specs.View.{cause_view}
use Rattle.kind_main.specs.declared.cause.Because.{Because as Reason}
use Rattle.kind_main.specs.Options.{number_of}

-- the engine by its number, and its cause
pub record Because : Type 0 where
  pub engine : ℕ
  pub why : Why

-- A book of the system with this plan has the cause of the engine for the property of number k: it is the one that the book
-- answers, and it is true after the entries before it.
pub record IsTrueCause (m : Machine) (plan : Plan) (history : List Posting) (k : ℕ) (b : Because) : Type 0 where
  pub answered : cause_of b.engine k history ≡ Some b.why
  pub place : ℕ
  pub entry : Posting
  pub stands : slice_get history place ≡ Some entry
  pub grounds : Grounds
  pub says : entry.says ≡ spent b.engine k b.why grounds
  pub is_true : IsWhy m plan (take place history) b.engine k b.why grounds

-- ---- as clauses see it

abbrev pub because_view : Reason → Because
because_view r = record { engine = number_of r.engine; why = cause_view r.cause }
