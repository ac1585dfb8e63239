use Rattle.std.proofs.Common.{◌≡◌, IfOk, option_map, sym, subst}
use Rattle.slot_values.specs.Resolution.{resolved_view}
use Rattle.frame_sources.specs.Views.{all_asked_view}
use Rattle.frame_sources.proofs.Frames.{modes_are}
use Rattle.frame_sources.proofs.frame.FrameSlots.mode.Goals as goal

pub returns : goal.returns
returns c =
    subst (λ m. IfOk c.asked_of.result (λ r. resolved_view r ≡ m))
    (sym (modes_are c.args.self.now.sight.now (all_asked_view c.args.self.now.modes.now) (option_map (λ d. d.now) c.args.contract) c.args.mode.now))
    c.asked_of.ensures
