-- Frames that are computed in rounds as recomputed ones are, but in which each name has a value of its type exactly where
-- its clock is on, whatever its source says. After enough rounds such a frame stays.
use Rattle.std.proofs.Common.{◌≡◌, ℕ, zero, suc, ◌<◌, ◌≤◌, ◌+◌, Bool, true, false, cond, List, [], ◌∷◌, map, pos, refl, arith, Some, None}
use Rattle.std.specs.List.{AllByRecursion}
use Rattle.std.proofs.lemmas.Bool.{false≢true}
use Rattle.lus_tree.specs.declared.place.Sort.{Sort}
use Rattle.lus_tree.specs.declared.place.Sort.TheVariants.{Bool as Flags, Int as Numbers}
use Rattle.lus_tree.specs.Tree.{Name, Variable}
use Rattle.lus_meaning.specs.Value.{Value, absent, flag, whole, Stream, Instants, has_sort}
use Rattle.lus_meaning.specs.Frame.{Frame, Frames, frame, no_frames, with_frame, entry, first_value, frame_at, calls_in, firsts_of}
use Rattle.lus_meaning.specs.Scene.{Scene, Instance, Instances, instance, no_instances, with_instance, component_of, clock_from, variables, is_on}
use Rattle.lus_meaning.specs.Contract.{scene}
use Rattle.lus_meaning.specs.Run.{is_typed, equations, active}
use Rattle.lus_meaning.specs.Depends.{clock_needs, modes_need, Rank, below_calls, AllBelow, site_needs, equation_needs, IsRanked, CallsRanked}
use Rattle.lus_meaning.specs.Recompute.{sample, Pool, source, call_pool}
use Rattle.lus_meaning.proofs.Now.{frame_on, SameBefore, up_to}
use Rattle.lus_meaning.proofs.Stable.{SamePool, entry_same, sources_same, source_same, call_pool_same, rounds}
use Rattle.lus_meaning.proofs.Unique.{SameBelow, met, on_met, active_now, active_past}

-- ---- values

abbrev some_value : Sort → Value
some_value Flags = flag false
some_value Numbers = whole (pos 0)

-- the value where it is of the type, and some of the type where it isn't; absent where the clock is off
abbrev pub mended_value : Sort → Bool → Value → Value
mended_value q on v = cond on (cond (has_sort q v) v (some_value q)) absent

some_has : (q : Sort) → has_sort q (some_value q) ≡ true
some_has Flags = refl
some_has Numbers = refl

pub mended_typed : (q : Sort) (on : Bool) (v : Value) → is_typed q on (mended_value q on v) ≡ true
mended_typed q false v = refl
mended_typed q true v = go (has_sort q v) refl
  where
    go : (k : Bool) → has_sort q v ≡ k → has_sort q (cond k v (some_value q)) ≡ true
    go true e = e
    go false e = some_has q

-- what is of its type stays
pub mended_stays : (q : Sort) (on : Bool) (v : Value) → is_typed q on v ≡ true → mended_value q on v ≡ v
mended_stays q true v h = rw h refl
mended_stays q false absent h = refl
mended_stays q false (flag b) h = absurd (false≢true h)
mended_stays q false (whole n) h = absurd (false≢true h)

-- ---- frames

abbrev pub mended : Scene → Pool → Frame → Variable → Stream
mended s given c v t = mended_value v.sort (is_on s (clock_from v.clock) t) (source s given c v t)

abbrev mutual
  pub mend : Instance → ℕ → Instants → Pool → Frame → Frame → Frame
  mend (instance d cs is) n b given c f =
      frame (map (λ v. (v.name.text, sample n (mended (scene (instance d cs is) b f) given c v))) (variables d)) (firsts_of c)
      (mend_calls is n (scene (instance d cs is) b f) (frame_at (calls_in c)) (frame_at (calls_in f)))

  pub mend_calls : Instances → ℕ → Scene → (ℕ → Frame) → (ℕ → Frame) → Frames
  mend_calls no_instances n s cs fs = no_frames
  mend_calls (with_instance c k is) n s cs fs = with_frame (mend k n (active s c) (call_pool s c k) (cs 0) (fs 0))
      (mend_calls is n s (λ j. cs (suc j)) (λ j. fs (suc j)))

module _ (i : Instance) (r : Rank) (n R t : ℕ) (inside_n : t < n) (b b' : Instants) (f f' : Frame)
    (past : SameBefore t b b' f f') (low : SameBelow r R t f f') (beat : r [] None < suc R → b t ≡ b' t) where
  mended_same : (given given' : Pool) (c : Frame) → SamePool r R t given given' →
      AllByRecursion (λ e. AllByRecursion (λ y. AllBelow r (equation_needs i e) (r [] (Some y))) e.names) (equations (component_of i)) →
      (v : Variable) → AllBelow r (clock_needs (clock_from v.clock)) (r [] (Some v.name.text)) → r [] (Some v.name.text) < suc R
      → mended (scene i b f) given c v t ≡ mended (scene i b' f') given' c v t
  mended_same given given' c g q v k h = rw (
    on_met i r n R t inside_n b b' f f' past low beat (clock_from v.clock)
        (met i r n R t inside_n b b' f f' past low beat (clock_needs (clock_from v.clock)) (r [] (Some v.name.text)) k h),
    source_same i r n R t inside_n b b' f f' past low beat given given' c g q v k h,
  ) refl

-- Mending makes one more rank the same.
mutual
  mend_step : (i : Instance) (r : Rank) (n R t : ℕ) (b b' : Instants) (given given' : Pool) (c f f' : Frame) → t < n → IsRanked i r →
      SameBefore t b b' f f' → SameBelow r R t f f' → (r [] None < suc R → b t ≡ b' t) → SamePool r R t given given' →
      SameBelow r (suc R) t (mend i n b given c f) (mend i n b' given' c f')
  mend_step (instance d cs is) r n R t b b' given given' c f f' inside_n q past low beat pool [] x h =
      entry_same x n t (mended (scene (instance d cs is) b f) given c) (mended (scene (instance d cs is) b' f') given' c) (variables d) inside_n
      (sources_same x r R t (mended (scene (instance d cs is) b f) given c) (mended (scene (instance d cs is) b' f') given' c) (variables d) h
      (mended_same (instance d cs is) r n R t inside_n b b' f f' past low beat given given' c pool q.0) q.1)
  mend_step (instance d cs is) r n R t b b' given given' c f f' inside_n q past low beat pool (j ∷ ks) x h =
      mend_calls_step is (instance d cs is) r (below_calls r) n R t b b' f f' inside_n past low beat q.2 (frame_at (calls_in c))
      (frame_at (calls_in f)) (frame_at (calls_in f'))
      (λ j ks y u l. past.names (j ∷ ks) y u l) (λ j ks k. past.firsts (j ∷ ks) k) (λ j ks y l. low (j ∷ ks) y l) j ks x h

  mend_calls_step : (is : Instances) (i : Instance) (r : Rank) (rs : ℕ → Rank) (n R t : ℕ) (b b' : Instants) (f f' : Frame) → t < n →
      SameBefore t b b' f f' → SameBelow r R t f f' → (r [] None < suc R → b t ≡ b' t) →
      CallsRanked i r rs is → (cs fs fs' : ℕ → Frame) →
      ((j : ℕ) (ks : List ℕ) (x : Name) (u : ℕ) → u < t → entry (frame_on (fs j) ks) x u ≡ entry (frame_on (fs' j) ks) x u) →
      ((j : ℕ) (ks : List ℕ) (k : ℕ) → first_value (frame_on (fs j) ks) k ≡ first_value (frame_on (fs' j) ks) k) →
      ((j : ℕ) (ks : List ℕ) (x : Name) → rs j ks (Some x) < R → entry (frame_on (fs j) ks) x t ≡ entry (frame_on (fs' j) ks) x t) →
      (j : ℕ) (ks : List ℕ) (x : Name) → rs j ks (Some x) < suc R →
      entry (frame_on (frame_at (mend_calls is n (scene i b f) cs fs) j) ks) x t ≡ entry
      (frame_on (frame_at (mend_calls is n (scene i b' f') cs fs') j) ks) x t
  mend_calls_step no_instances i r rs n R t b b' f f' inside_n past low beat q cs fs fs' names firsts lows j ks x h = refl
  mend_calls_step (with_instance d k is) i r rs n R t b b' f f' inside_n past low beat q cs fs fs' names firsts lows zero ks x h =
      mend_step k (rs 0) n R t (active (scene i b f) d) (active (scene i b' f') d) (call_pool (scene i b f) d k)
      (call_pool (scene i b' f') d k) (cs 0) (fs 0) (fs' 0) inside_n q.3
      record { beats = active_past i r n R t inside_n b b' f f' past low beat d; names = names 0; firsts = firsts 0 }
      (lows 0)
      (λ l. active_now i r n R t inside_n b b' f f' past low beat d
      (met i r n R t inside_n b b' f f' past low beat (site_needs i (modes_need i) d d.manner) (rs 0 [] None) q.0 l))
      (call_pool_same i r n R t inside_n b b' f f' past low beat d k (rs 0) q.1 q.2)
      ks x h
  mend_calls_step (with_instance d k is) i r rs n R t b b' f f' inside_n past low beat q cs fs fs' names firsts lows (suc j) ks x h =
      mend_calls_step is i r (λ j. rs (suc j)) n R t b b' f f' inside_n past low beat q.4 (λ j. cs (suc j)) (λ j. fs (suc j))
      (λ j. fs' (suc j)) (λ j. names (suc j)) (λ j. firsts (suc j)) (λ j. lows (suc j)) j ks x h

-- ---- rounds

mutual
  mend_firsts : (i : Instance) (n : ℕ) (b b' : Instants) (given given' : Pool) (c f f' : Frame) (ks : List ℕ) (k : ℕ) → first_value
      (frame_on (mend i n b given c f) ks) k ≡ first_value (frame_on (mend i n b' given' c f') ks) k
  mend_firsts (instance d cs is) n b b' given given' c f f' [] k = refl
  mend_firsts (instance d cs is) n b b' given given' c f f' (j ∷ ks) k = mend_calls_firsts is n (scene (instance d cs is) b f)
      (scene (instance d cs is) b' f') (frame_at (calls_in c)) (frame_at (calls_in f)) (frame_at (calls_in f')) j ks k

  mend_calls_firsts : (is : Instances) (n : ℕ) (a a' : Scene) (cs fs fs' : ℕ → Frame) (j : ℕ) (ks : List ℕ) (k : ℕ) → first_value
      (frame_on (frame_at (mend_calls is n a cs fs) j) ks) k ≡ first_value (frame_on (frame_at (mend_calls is n a' cs fs') j) ks) k
  mend_calls_firsts no_instances n a a' cs fs fs' j ks k = refl
  mend_calls_firsts (with_instance d i is) n a a' cs fs fs' zero ks k = mend_firsts i n (active a d) (active a' d) (call_pool a d i)
      (call_pool a' d i) (cs 0) (fs 0) (fs' 0) ks k
  mend_calls_firsts (with_instance d i is) n a a' cs fs fs' (suc j) ks k =
      mend_calls_firsts is n a a' (λ j. cs (suc j)) (λ j. fs (suc j)) (λ j. fs' (suc j)) j ks k

module _ (i : Instance) (r : Rank) (ranked : IsRanked i r) (M : ℕ) (bound : (ks : List ℕ) (x : Name) → r ks (Some x) < M) (n : ℕ) (b : Instants)
    (c : Frame) where
  -- what the round is made from, and the round
  abbrev pub before_round : ℕ → Frame
  before_round zero = c
  before_round (suc m) = mend i n b [] c (before_round m)

  abbrev at_round : ℕ → Frame
  at_round m = mend i n b [] c (before_round m)

  round_firsts : (m : ℕ) (ks : List ℕ) (k : ℕ) → first_value (frame_on (at_round m) ks) k ≡ first_value (frame_on (at_round (suc m)) ks) k
  round_firsts m ks k = mend_firsts i n b b [] [] c (before_round m) (at_round m) ks k

  ranks_settle : (t : ℕ) → t < n → ((m : ℕ) → rounds M t ≤ m → SameBefore t b b (at_round m) (at_round (suc m))) → (R m : ℕ)
      → rounds M t + R ≤ m → SameBelow r R t (at_round m) (at_round (suc m))
  ranks_settle t h past zero m g = λ ks x l. absurd (omega arith)
  ranks_settle t h past (suc R) zero g = absurd (omega arith)
  ranks_settle t h past (suc R) (suc m) g = mend_step i r n R t b b [] [] c (at_round m) (at_round (suc m)) h ranked
      (past m (omega arith)) (ranks_settle t h past R m (omega arith)) (λ _. refl) tt

  settles : (t : ℕ) → t ≤ n → (m : ℕ) → rounds M t ≤ m → SameBefore t b b (at_round m) (at_round (suc m))
  settles zero h m g = record { beats = λ u l. refl; names = λ ks x u l. absurd (omega arith); firsts = round_firsts m }
  settles (suc t) h m g =
      let past : (m : ℕ) → rounds M t ≤ m → SameBefore t b b (at_round m) (at_round (suc m)) = settles t (omega arith) in
      record {
        beats = λ u l. refl;
        names = λ ks x u l. up_to (entry (frame_on (at_round m) ks) x) (entry (frame_on (at_round (suc m)) ks) x) t u
            ((past m (omega arith)).names ks x) (ranks_settle t (omega arith) past M m g ks x (bound ks x)) (omega arith);
        firsts = round_firsts m;
      }

  -- a frame that another round leaves as it is
  pub mended_settles : (ks : List ℕ) (x : Name) (t : ℕ) → t < n → entry (frame_on (mend i n b [] c (before_round (rounds M n))) ks) x t
      ≡ entry (frame_on (mend i n b [] c (mend i n b [] c (before_round (rounds M n)))) ks) x t
  mended_settles ks x t h = (settles n (omega arith) (rounds M n) (omega arith)).names ks x t h
