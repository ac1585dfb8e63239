use Rattle.std.proofs.Common.{sym, ◌∙◌}
use Rattle.frame_sources.specs.Views.{all_asked_view}
use Rattle.frame_sources.proofs.Frames.{name_is}
use Rattle.frame_sources.proofs.frame.FrameSlots.name.Goals as goal

pub returns : goal.returns
returns c = c.found.ensures ∙ sym (name_is c.args.self.now.sight.now (all_asked_view c.args.self.now.modes.now) c.args.name.now)
