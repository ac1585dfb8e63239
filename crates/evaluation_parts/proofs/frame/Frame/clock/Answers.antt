use Rattle.std.proofs.Common.{ap, ◌∙◌}
use Rattle.lus_meaning.specs.Scene.{clock_of}
use Rattle.evaluation_parts.proofs.frame.Frame.clock.Goals as goal

pub returns : goal.returns
returns c = c.clock_or_base.ensures ∙ ap (λ n. clock_of n c.args.name.now) c.names.ensures
