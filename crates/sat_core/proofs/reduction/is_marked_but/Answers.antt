use Rattle.std.specs.Prelude.{◌≡◌, Bool, true, IsTrue}
use Rattle.std.proofs.Common.{sym, ◌∙◌}
use Rattle.proof_checker.proofs.Sets.{has-contains}
use Rattle.sat_core.proofs.reduction.is_marked_but.Goals as goal

pub returns-else-same : goal.returns-else-same
returns-else-same c = λ t ne. has-contains c.args.marked.now c.args.literal (sym c.has.ensures ∙ is_true t) where
  is_true : {b : Bool} → IsTrue b → b ≡ true
  is_true t = cc
