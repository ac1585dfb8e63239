-- The names of a run are on their clocks.
use Rattle.std.proofs.Common.{ℕ}
use Rattle.lus_meaning.specs.Frame.{Frames, no_frames, with_frame, frame_at, calls_in}
use Rattle.lus_meaning.specs.Scene.{Scene, Instances, instance, no_instances, with_instance}
use Rattle.lus_meaning.specs.Contract.{scene}
use Rattle.lus_meaning.specs.Run.{active, CallsRun}
use Rattle.clock_laws.specs.Laws.{CallsOnClocks, RunsOnClocks}

mutual
  pub runs_on_clocks : RunsOnClocks
  runs_on_clocks (instance d cs is) m b f r = (r.0.types, r.0.firsts, calls_on_clocks m (scene (instance d cs is) b f) is (calls_in f) r.1)

  pub calls_on_clocks : (m : ℕ) (s : Scene) (is : Instances) (fs : Frames) → CallsRun m s is fs → CallsOnClocks m s is (frame_at fs)
  calls_on_clocks m s no_instances fs r = tt
  calls_on_clocks m s (with_instance c k is) no_frames r = absurd r
  calls_on_clocks m s (with_instance c k is) (with_frame f fs) r = (runs_on_clocks k m (active s c) f r.1, calls_on_clocks m s is fs r.2)
