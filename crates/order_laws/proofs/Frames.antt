-- The frame at the end of a way of calls, and that of a call in it.
use Rattle.std.proofs.Common.{◌≡◌, ℕ, zero, suc, pred, ◌<◌, true, List, [], ◌∷◌, ◌++◌, refl, ap, ◌∙◌, sym, subst, append_assoc}
use Rattle.std.proofs.Math.Path.{fun_ext}
use Rattle.lus_meaning.specs.Value.{Instants, is}
use Rattle.lus_meaning.specs.Frame.{Frame, call_frame}
use Rattle.lus_meaning.specs.Scene.{Clock, base, sampled_by, Instance, calls_of, call_instance, Scene, is_on}
use Rattle.lus_meaning.specs.Contract.{scene}
use Rattle.lus_meaning.specs.Run.{active}
use Rattle.lus_meaning.specs.Verdict.{throughout}
use Rattle.sys_meaning.specs.Slot.{Place}
use Rattle.sys_meaning.specs.Defaults.{site_of}
use Rattle.sys_meaning.specs.System.{below_call}
use Rattle.sys_meaning.specs.WellTyped.{count_of, IsKnown, ClockEnds, ClockFits, TreeFits}
use Rattle.sys_meaning.proofs.Forward.{calls_fit}
use Rattle.sys_meaning.proofs.Whole.{fits_called}
use Rattle.lus_evaluation.specs.Evaluation.{instance_on}
use Rattle.lus_evaluation.specs.Past.{scene_on}
use Rattle.slot_values.specs.Clocked.{row_by, clock_on}
use Rattle.evaluation_laws.specs.Rows.{AreCalls, numbers_on, row_at, scene_there, numbers_there, RowShows}
use Rattle.evaluation_laws.proofs.FrameShown.{true_flag}

-- the scene of a call
abbrev pub scene_below : Scene → ℕ → Scene
scene_below s k = scene (call_instance s.place k) (active s (site_of s.place k)) (call_frame s.frame k)

pub scene_further : (w : List ℕ) (i : Instance) (b : Instants) (f : Frame) (k : ℕ) → scene_on (w ++ k ∷ []) i b f ≡ scene_below (scene_on w i b f) k
scene_further [] i b f k = refl
scene_further (j ∷ w) i b f k = scene_further w (call_instance i j) (active (scene i b f) (site_of i j)) (call_frame f j) k

-- the instance at the end of a way of calls is that of the scene there
pub same_place : (w : List ℕ) (i : Instance) (b : Instants) (f : Frame) → (scene_on w i b f).place ≡ instance_on i w
same_place [] i b f = refl
same_place (k ∷ w) i b f = same_place w (call_instance i k) (active (scene i b f) (site_of i k)) (call_frame f k)

pub numbers_further : (w : List ℕ) (at : Place → ℕ) (k : ℕ) → numbers_on (w ++ k ∷ []) at ≡ below_call k (numbers_on w at)
numbers_further w at k = fun_ext (λ p. ap (λ (v : List ℕ). at (v, p.1)) (append_assoc w (k ∷ []) p.0))

calls_further : (w : List ℕ) (i : Instance) (b : Instants) (f : Frame) (k : ℕ) → AreCalls i w → 0 < k →
    pred k < count_of (calls_of (scene_on w i b f).place) → AreCalls i (w ++ k ∷ [])
calls_further [] i b f k a c l = (c, l, tt)
calls_further (j ∷ w) i b f k a c l =
    (a.0, a.1, calls_further w (call_instance i j) (active (scene i b f) (site_of i j)) (call_frame f j) k a.2 c l)

fits_along : (w : List ℕ) (i : Instance) (b : Instants) (f : Frame) → AreCalls i w → TreeFits IsKnown i → TreeFits IsKnown (scene_on w i b f).place
fits_along [] i b f a h = h
fits_along (k ∷ w) i b f a h =
    fits_along w (call_instance i k) (active (scene i b f) (site_of i k)) (call_frame f k) a.2
    (fits_called IsKnown i k a.0 a.1 (calls_fit IsKnown i h))

-- an instance that stands at the end of a way of calls
pub record StandsAt (i : Instance) (f : Frame) (w : List ℕ) (j : Instance) : Type 0 where
  pub calls : AreCalls i w
  pub place : (scene_there i f w).place ≡ j
  pub fits : TreeFits IsKnown j

pub stands_there : (i : Instance) (f : Frame) (w : List ℕ) → AreCalls i w → TreeFits IsKnown i → StandsAt i f w (scene_there i f w).place
stands_there i f w a h = record { calls = a; place = refl; fits = fits_along w i throughout f a h }

pub stands_called : (i : Instance) (f : Frame) (w : List ℕ) (j : Instance) → StandsAt i f w j → (k : ℕ) → 0 < k → pred k < count_of (calls_of j) →
    StandsAt i f (w ++ k ∷ []) (call_instance j k)
stands_called i f w j s k c l = record {
  calls = calls_further w i throughout f k s.calls c (subst (λ q. pred k < count_of (calls_of q)) (sym s.place) l);
  place = ap (λ q. q.place) (scene_further w i throughout f k) ∙ ap (λ q. call_instance q k) s.place;
  fits = fits_called IsKnown j k c l (calls_fit IsKnown j s.fits);
}

-- ---- clocks

module _ (i : Instance) (f : Frame) (t : ℕ) (w : List ℕ) (shows : RowShows i f t w) where
  abbrev s : Scene
  s = scene_there i f w

  beat_shown : clock_on (row_by (numbers_there i w) (row_at i f t)) base ≡ is_on s base t
  beat_shown = ap (is true) shows.beats ∙ true_flag (s.beat t)

  ends_shown : (m : ℕ) (c : Clock) → ClockEnds s.place (IsKnown s.place) m c → clock_on (row_by (numbers_there i w) (row_at i f t)) c ≡ is_on s c t
  ends_shown m base h = beat_shown
  ends_shown zero (sampled_by q x) h = absurd h
  ends_shown (suc m) (sampled_by q x) h = ap (is q) (shows.names x h.0.stream h.0.declared)

  pub clock_there : (c : Clock) → ClockFits s.place (IsKnown s.place) c → clock_on (row_by (numbers_there i w) (row_at i f t)) c ≡ is_on s c t
  clock_there c h = ends_shown _ c h

  pub base_there : clock_on (row_by (numbers_there i w) (row_at i f t)) base ≡ is_on s base t
  base_there = beat_shown
