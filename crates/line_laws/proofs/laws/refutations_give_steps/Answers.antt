use Rattle.line_laws.proofs.Refutations.{refutation_gives_step}
use Rattle.line_laws.proofs.laws.refutations_give_steps.Goals as goal

pub returns : goal.returns
returns c = λ g known bounds pairs plain means f. refutation_gives_step g bounds means known pairs plain f
