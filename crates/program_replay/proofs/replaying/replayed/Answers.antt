use Rattle.std.proofs.Common.{◌≡◌, ◌<◌, ℕ, sym, subst}
use Rattle.std.specs.Prelude.{Contains}
use Rattle.lus_checked.specs.Program.{tree_of}
use Rattle.lus_tree.specs.Tree.{Program}
use Rattle.lus_meaning.specs.ClockFaults.{components}
use Rattle.lus_meaning.specs.Program.{instance_of}
use Rattle.lus_meaning.specs.Refusals.{IsChecked}
use Rattle.lus_meaning.specs.Slots.{width}
use Rattle.lus_meaning.specs.TraceView.{lines_of, trace_view}
use Rattle.slot_replay.specs.Shown.{replayed_view}
use Rattle.trace_fits.specs.Given.{given_at}
use Rattle.trace_fits.specs.Views.{fitted_at}
use Rattle.program_replay.specs.Faults.{IsFault}
use Rattle.program_replay.specs.Instants.{AreNamedParts}
use Rattle.program_replay.specs.NamedView.{named_view}
use Rattle.program_replay.specs.Slots.{ShowsSlots, TellsSlots}
use Rattle.program_replay.proofs.Joined.{fault_told, node_declared, node_small}
use Rattle.program_replay.proofs.replaying.replayed.Goals as goal

pub replay_slots-requires : goal.replay_slots-requires
replay_slots-requires c =
    let p = tree_of c.args.checked.now in
    let t = trace_view c.args.trace.now in
    let m = named_view c.args.named in
    record {
      checked = subst IsChecked (sym c.program-program.ensures.same) c.program-program.ensures.rules;
      declared = subst (λ p. Contains (components p) m.node) (sym c.program-program.ensures.same) (node_declared p t.node m (sym c.requires.found));
      small = subst (λ (p : Program). width (instance_of p m.node) < 20001) (sym c.program-program.ensures.same)
          (node_small p t.node m (sym c.requires.found) c.program-program.ensures.within);
      listed = subst (λ p. (k n : ℕ) → fitted_at c.args.fitted k n ≡ given_at (instance_of p m.node) (lines_of t) k n) (sym c.program-program.ensures.same)
          c.requires.listed;
    }

pub returns-in-Ok : goal.returns-in-Ok
returns-in-Ok c =
    let t = trace_view c.args.trace.now in
    let p = tree_of c.args.checked.now in
    let m = named_view c.args.named in
    record {
      shown = subst (λ x. ShowsSlots (instance_of p m.node) (lines_of t) t.length (AreNamedParts p x) (replayed_view c.in-Ok.replayed)) c.deref.ensures
          (subst (λ z. ShowsSlots (instance_of z m.node) (lines_of t) t.length (AreNamedParts p c.deref.result.now) (replayed_view c.in-Ok.replayed))
          c.program-program.ensures.same c.in-Ok.ensures.shown);
      fault = tt;
    }

pub returns-in-Err : goal.returns-in-Err
returns-in-Err c =
    let t = trace_view c.args.trace.now in
    let p = tree_of c.args.checked.now in
    let m = named_view c.args.named in
    record {
      shown = tt;
      fault = subst (IsFault p t) (sym c.of_slots.ensures)
          (fault_told p t c.program-program.ensures.rules c.requires.fits m (sym c.requires.found) c.replays_tell_frames.ensures.told c.in-Err.fault
          (subst (λ x. TellsSlots (instance_of p m.node) (lines_of t) t.length (AreNamedParts p x) c.in-Err.fault) c.deref.ensures
          (subst (λ z. TellsSlots (instance_of z m.node) (lines_of t) t.length (AreNamedParts p c.deref.result.now) c.in-Err.fault)
          c.program-program.ensures.same c.in-Err.ensures.told)));
    }
