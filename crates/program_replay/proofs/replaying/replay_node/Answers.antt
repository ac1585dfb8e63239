use Rattle.std.proofs.Common.{sym, subst}
use Rattle.lus_checked.specs.Program.{tree_of}
use Rattle.lus_meaning.specs.Refusals.{IsChecked}
use Rattle.lus_meaning.specs.TraceView.{trace_view}
use Rattle.frame_names.specs.Slots.{KnowsSlots}
use Rattle.frame_names.specs.Views.{slot_by}
use Rattle.slot_replay.specs.Shown.{replayed_view}
use Rattle.program_replay.specs.NamedView.{named_view}
use Rattle.program_replay.proofs.Joined.{trace_shown}
use Rattle.program_replay.proofs.replaying.replay_node.Goals as goal

pub frame_names-requires : goal.frame_names-requires
frame_names-requires c = record { checked = subst IsChecked (sym c.program-program.ensures.same) c.program-program.ensures.rules }

pub returns : goal.returns
returns c =
    let p = tree_of c.args.checked.now in
    let t = trace_view c.args.trace.now in
    let m = named_view c.args.named in
    record {
      shows = trace_shown p t c.program-program.ensures.rules c.requires.fits m (sym c.requires.found) c.replays_tell_frames.ensures.answered
          c.program-program.ensures.within (replayed_view c.in_ok-replayed.replayed) c.in_ok-replayed.ensures.shown (slot_by c.in_ok-frames.frames)
          (subst (λ z. KnowsSlots z m.place (slot_by c.in_ok-frames.frames)) c.program-program.ensures.same c.in_ok-frames.ensures) c.in_ok-node.node
          c.in_ok-node.ensures;
      fault = tt;
    }
