-- A row that has what a frame of a run reads shows that frame.
use Rattle.std.proofs.Common.{not, ◌≡◌, ℕ, zero, suc, ◌<◌, Bool, true, false, List, [], ◌∷◌, refl, ap, ◌∙◌, sym, subst, Option, option_to_list}
use Rattle.std.specs.List.{AllByRecursion}
use Rattle.lus_tree.specs.declared.place.Sort.{Sort}
use Rattle.lus_tree.specs.declared.place.Sort.TheVariants.{Bool as Flags}
use Rattle.lus_tree.specs.Tree.{Name, Variable, Expression, Expressions}
use Rattle.lus_meaning.specs.Value.{absent, flag, Instants, is, was_on, latest}
use Rattle.lus_meaning.specs.Frame.{Frame, entry, first_value, call_frame, calls_in}
use Rattle.lus_meaning.specs.Scene.{Clock, base, sampled_by, as_import, Instance, component_of, call_instance, outputs_of, Scene, clock_from, variables, is_on}
use Rattle.lus_meaning.specs.Meaning.{value, mode_stream}
use Rattle.lus_meaning.specs.Contract.{scene}
use Rattle.lus_meaning.specs.Run.{IsRun, is_typed, sort_of, sort_of_name, active}
use Rattle.lus_meaning.specs.Depends.{named_in}
use Rattle.lus_meaning.proofs.Lists.{mapped_all}
use Rattle.lus_meaning.proofs.Ranked.{all_named}
use Rattle.sys_meaning.specs.Slot.{Spot, Place, beat, named, memory, starting, held, own, in_call}
use Rattle.sys_meaning.specs.Items.{Key, Known}
use Rattle.sys_meaning.specs.Defaults.{site_of}
use Rattle.sys_meaning.specs.State.{remembered, still_starting, held_before, reading}
use Rattle.sys_meaning.specs.Path.{Course}
use Rattle.sys_meaning.specs.Seen.{Row, seen_mode}
use Rattle.sys_meaning.specs.System.{below_call}
use Rattle.sys_meaning.specs.WellTyped.{no_constant, is_declared, clock_here, IsMemory, IsStart, OutputFits, IsCall, IsHeldCall, StreamFits, ClockEnds, ClockFits, TreeFits, HasPlaceIn, IsKnown}
use Rattle.sys_meaning.proofs.Balanced.{Picked, pick}
use Rattle.sys_meaning.proofs.ContractStatements.{modes_off}
use Rattle.sys_meaning.proofs.Forward.{modes_of, calls_of_run, own_fits, calls_fit}
use Rattle.sys_meaning.proofs.Owned.{stream_typed, call_of, run_called}
use Rattle.sys_meaning.proofs.Rows.{CallShown}
use Rattle.sys_meaning.proofs.Shows.{Reads, in_any, call_reads}
use Rattle.sys_meaning.proofs.Whole.{fits_called}
use Rattle.slot_values.specs.Resolution.{Resolution}
use Rattle.slot_values.specs.Evaluated.{SlotValues, worth}
use Rattle.slot_values.specs.Clocked.{row_by, clock_on, Passes, sight_by}
use Rattle.slot_values.specs.FrameRow.{numbering, ShowsCall, ShowsHeld, Shows}

pub true_flag : (b : Bool) → is true (flag b) ≡ b
true_flag true = refl
true_flag false = refl

-- the row has what the frame reads, absent where that is
abbrev pub RowHas : Instance → (Place → ℕ) → Instants → Frame → SlotValues → ℕ → Type 0
RowHas i at b f row t =
    (ks : List ℕ) (p : Spot) (z : Sort) → HasPlaceIn IsKnown (as_import []) ks i p z → row (at (ks, p)) ≡ reading i b f (ks, p) t

-- and what the frame of a call reads
pub call_has : (i : Instance) (at : Place → ℕ) (b : Instants) (f : Frame) (row : SlotValues) (t : ℕ) → RowHas i at b f row t → (k : ℕ) →
    IsCall i (IsKnown i) k → RowHas (call_instance i k) (below_call k at) (active (scene i b f) (site_of i k)) (call_frame f k) row t
call_has i at b f row t h k c ks p z w = h (k ∷ ks) p z (c, in_any IsKnown (site_of i k).manner ks (call_instance i k) p z w)

-- A frame of a run whose states read it, and a row that has what it reads at an instant.
pub record Standing (i : Instance) : Type 0 where
  pub at : Place → ℕ
  pub b : Instants
  pub f : Frame
  pub course : Course
  pub n : ℕ
  pub run : IsRun i n b f
  pub fits : TreeFits IsKnown i
  pub reads : (t : ℕ) → t < n → Reads IsKnown i at b f t (course t)
  pub row : SlotValues
  pub t : ℕ
  pub before : t < n
  pub has : RowHas i at b f row t

module _ (i : Instance) (v : Standing i) where
  abbrev s : Scene
  s = scene i v.b v.f

  abbrev M : Key → Type 0
  M = IsKnown i

  abbrev pub places : Row
  places = row_by v.at v.row

  pub beat_shown : v.row (v.at (own beat)) ≡ flag (v.b v.t)
  beat_shown = v.has [] beat Flags refl

  pub name_shown : (x : Name) → no_constant i M x → is_declared i M x → v.row (v.at (own (named x))) ≡ entry v.f x v.t
  name_shown x e d = v.has [] (named x) (sort_of_name i x) (d, e, refl)

  name_typed : (x : Name) → no_constant i M x → is_declared i M x →
      is_typed (sort_of_name i x) (is_on s (clock_here i M x) v.t) (entry v.f x v.t) ≡ true
  name_typed x e d =
      stream_typed IsKnown i v.at v.course v.n v.b v.f (modes_of IsKnown i v.at) v.run (calls_of_run i v.n v.b v.f v.run) v.reads
      (own_fits IsKnown i v.fits) v.t v.before x e d

  -- ---- clocks

  pub beat_clock : clock_on places base ≡ v.b v.t
  beat_clock = ap (is true) beat_shown ∙ true_flag (v.b v.t)

  ends_shown : (m : ℕ) (c : Clock) → ClockEnds i M m c → clock_on places c ≡ is_on s c v.t
  ends_shown m base h = beat_clock
  ends_shown zero (sampled_by q x) h = absurd h
  ends_shown (suc m) (sampled_by q x) h = ap (is q) (name_shown x h.0.stream h.0.declared)

  pub clock_shown : (c : Clock) → ClockFits i M c → clock_on places c ≡ is_on s c v.t
  clock_shown c h = ends_shown _ c h

  name_clock : (x : Name) → is_declared i M x → clock_on places (clock_here i M x) ≡ is_on s (clock_here i M x) v.t
  name_clock x d = by (pick x (StreamFits i M) (variables (component_of i)) (own_fits IsKnown i v.fits).streams d)
    where
      by : Picked x (StreamFits i M) → clock_on places (clock_here i M x) ≡ is_on s (clock_here i M x) v.t
      by r =
          let same : clock_from r.variable.clock ≡ clock_here i M x =
          sym r.holds.name.clock ∙ ap (λ y. clock_here i M y) r.same in
          subst (λ c. clock_on places c ≡ is_on s c v.t) same (clock_shown (clock_from r.variable.clock) r.holds.clock)

  -- ---- memories and starts

  memory_shown : (k : ℕ) (c : Clock) (a : Expression) → IsMemory i M k c a →
      v.row (v.at (own (memory k))) ≡ latest (is_on s c) (value s c a) (first_value v.f k) v.t
  memory_shown k c a e = v.has [] (memory k) (sort_of i a) (c, a, e, refl) ∙ ap (λ o. remembered s k o v.t) e

  start_shown : (k : ℕ) (c : Clock) → IsStart i M k c → v.row (v.at (own (starting k))) ≡ flag (not (was_on (is_on s c) v.t))
  start_shown k c e = v.has [] (starting k) Flags (c, e, refl) ∙ ap (λ o. still_starting s o v.t) e

  -- ---- calls

  outputs_shown : (k : ℕ) → IsCall i M k → (vs : List Variable) → AllByRecursion (OutputFits i M k) vs →
      AllByRecursion (λ x. v.row (v.at (in_call k (own (named x.name.text)))) ≡ entry (call_frame v.f k) x.name.text v.t) vs
  outputs_shown k c [] a = tt
  outputs_shown k c (x ∷ vs) a =
      (v.has (k ∷ []) (named x.name.text) x.sort (c, (a.0.2, a.0.3, a.0.1)), outputs_shown k c vs a.1)

  call_shown : (k : ℕ) → IsCall i M k → ShowsCall s v.at v.row k v.t
  call_shown k c =
      let r : CallShown s M v.at (v.course v.t) (v.course v.t) v.t k =
      call_of IsKnown i v.at v.course v.n v.b v.f (modes_of IsKnown i v.at) v.run (calls_of_run i v.n v.b v.f v.run) v.reads
      (own_fits IsKnown i v.fits) v.t v.before (v.course v.t) k c (calls_of_run i v.n v.b v.f v.run) in
      record { outputs = outputs_shown k c (component_of (call_instance i k)).outputs c.named; types = r.typed }

  helds_shown : (k : ℕ) (c : Clock) (a : Expression) (ds : Expressions) → IsHeldCall i M k c a ds → (vs : List Variable) →
      AllByRecursion (OutputFits i M k) vs → AllByRecursion (λ x. named_in x.name.text (outputs_of (call_instance i k)) ≡ true) vs →
      AllByRecursion (λ x. v.row (v.at (own (held k x.name.text))) ≡ held_before s k x.name.text v.t) vs
  helds_shown k c a ds h [] o q = tt
  helds_shown k c a ds h (x ∷ vs) o q =
      (v.has [] (held k x.name.text) x.sort (c, a, ds, h, q.0, o.0.1), helds_shown k c a ds h vs o.1 q.1)

  held_shown : (k : ℕ) (c : Clock) (a : Expression) (ds : Expressions) → IsHeldCall i M k c a ds → ShowsHeld s v.at v.row k v.t
  held_shown k c a ds h = record {
    beats = v.has (k ∷ []) beat Flags (h.call, refl);
    held = helds_shown k c a ds h (component_of (call_instance i k)).outputs h.call.named
        (mapped_all (λ y. named_in y (outputs_of (call_instance i k)) ≡ true) (λ x. x.name.text) (component_of (call_instance i k)).outputs
        (all_named (λ y. named_in y (outputs_of (call_instance i k)) ≡ true) (outputs_of (call_instance i k)) (λ y q. q)));
  }

  -- ---- whatever modes are known

  module _ (test : Key → Bool) where
    as_call : (k : ℕ) → IsCall i (Passes test) k → IsCall i M k
    as_call k h = record { number = h.number; counted = h.counted; listed = h.listed; named = h.named }

    as_held : (k : ℕ) (c : Clock) (a : Expression) (ds : Expressions) → IsHeldCall i (Passes test) k c a ds → IsHeldCall i M k c a ds
    as_held k c a ds h =
        record { call = as_call k h.call; outputs = h.outputs; clock = h.clock; manner = h.manner; defaults = h.defaults }

    pub shows_with : (modes : Known Resolution) →
        ((d : Option Name) (m : Name) → test (option_to_list d, m) ≡ true → v.b v.t ≡ true →
        seen_mode (sight_by (numbering s v.at modes) v.row) (option_to_list d, m) ≡ mode_stream s d m v.t) →
        (v.b v.t ≡ false → AllByRecursion (λ m. worth v.row false m.1 ≡ absent) modes) → Shows s test v.at modes v.row v.t
    shows_with modes on off = record {
      beats = beat_shown;
      names = λ x e d. name_shown x e d;
      types = λ x e d. name_typed x e d;
      clocks = λ x e d. name_clock x d;
      memories = λ k c a e. memory_shown k c a e;
      starts = λ k c e. start_shown k c e;
      calls = λ k c e. call_shown k (as_call k e.call);
      held_calls = λ k c a ds e. (call_shown k (as_call k e.call), held_shown k c a ds (as_held k c a ds e));
      modes_on = on;
      modes_off = λ d m o. modes_off v.b v.t i v.f d m o;
      asked_off = off;
    }

-- the frame of a call
abbrev pub called : (i : Instance) (v : Standing i) (k : ℕ) → IsCall i (IsKnown i) k → Standing (call_instance i k)
called i v k c = record {
  at = below_call k v.at;
  b = active (scene i v.b v.f) (site_of i k);
  f = call_frame v.f k;
  course = v.course;
  n = v.n;
  run = run_called i v.n (scene i v.b v.f) (calls_in v.f) k c.counted c.listed (calls_of_run i v.n v.b v.f v.run);
  fits = fits_called IsKnown i k c.counted c.listed (calls_fit IsKnown i v.fits);
  reads = λ t l. call_reads IsKnown i v.at v.b v.f t (v.course t) (v.reads t l) k c;
  row = v.row;
  t = v.t;
  before = v.before;
  has = call_has i v.at v.b v.f v.row v.t v.has k c;
}
