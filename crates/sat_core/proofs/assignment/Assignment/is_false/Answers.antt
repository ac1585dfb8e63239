use Rattle.std.proofs.Common.{sym, ◌∙◌, ap}
use Rattle.proof_checker.specs.Derived.{has}
use Rattle.sat_core.specs.Trail.{trues}
use Rattle.sat_core.proofs.Assigning.{has-falses}
use Rattle.sat_core.proofs.assignment.Assignment.is_false.Goals as goal

pub returns : goal.returns
returns c = c.is_true.ensures ∙ ap (has (trues c.args.self.now)) c.opposite.ensures ∙ sym (has-falses c.args.self.now c.args.literal)
