-- The states of a run meet what holds at each instant.
use Rattle.std.proofs.Common.{◌≡◌, ℕ, zero, suc, ◌<◌, Bool, true, false, cond, ◌&&◌, List, [], ◌∷◌, map, refl, ap, ◌∙◌, sym, subst}
use Rattle.std.specs.List.{AllByRecursion}
use Rattle.std.proofs.lemmas.Bool.{false≢true}
use Rattle.lus_tree.specs.declared.place.Sort.TheVariants.{Bool as Flags}
use Rattle.lus_tree.specs.Tree.{Name, Expression}
use Rattle.lus_meaning.specs.Value.{Value, absent, flag, Instants, has_sort, is}
use Rattle.lus_meaning.specs.Frame.{Frame, Frames, no_frames, with_frame, frame_at, calls_in, entry, call_frame}
use Rattle.lus_meaning.specs.Scene.{Clock, base, Manner, plain, while_true, as_import, Site, Scene, Instance, Instances, instance, no_instances, with_instance, instance_at, no_instance, calls_of, call_instance, outputs_of, is_on}
use Rattle.lus_meaning.specs.Meaning.{value}
use Rattle.lus_meaning.specs.Contract.{scene}
use Rattle.lus_meaning.specs.Run.{Equation, IsRun, CallsRun, IsCalled, SharesOutputs, sort_of, sort_of_name, have_sorts, active, condition_of, equations, IsBalanced, inputs_of}
use Rattle.lus_meaning.proofs.Unique.{at_entries}
use Rattle.sys_terms.specs.View.{Formula, same}
use Rattle.sys_terms.specs.Meaning.{Values, truth_of}
use Rattle.sys_meaning.specs.Slot.{Place, beat, named, own, in_call}
use Rattle.sys_meaning.specs.Items.{Key, Known, known}
use Rattle.sys_meaning.specs.Defaults.{site_at, site_of}
use Rattle.sys_meaning.specs.Path.{Course}
use Rattle.sys_meaning.specs.Part.{worth}
use Rattle.sys_meaning.specs.Translate.{Stage, flag_at, name_part, present, term_of, formula}
use Rattle.sys_meaning.specs.System.{at_numbers, below_call, contract_of, stage, Sources, paired, names_here, runs_where, shared_outputs, from_call, here_of, calls_here}
use Rattle.sys_meaning.specs.WellTyped.{clock_here, ClockFits, IsNameOn, Stands, OwnFits, CallFits, MannerFits, TreeFits, CallsFit}
use Rattle.sys_meaning.proofs.Conditions.{equal_flags_self, flags_same}
use Rattle.sys_meaning.proofs.Present.{present_on}
use Rattle.sys_meaning.proofs.Rows.{OwnShown, modes_agree, as_it_is, on_sort}
use Rattle.sys_meaning.proofs.Shown.{variable_worth, value_has}
use Rattle.sys_meaning.proofs.Main.{stage_here, term_has, term_value, formula_value}
use Rattle.sys_meaning.proofs.Pools.{true_all, all_both, Holds, pairs_hold, names_true}
use Rattle.sys_meaning.proofs.Shows.{FlagReads, call_flag, Reads, call_reads}
use Rattle.sys_meaning.proofs.Owned.{own_shown}

-- ---- the calls from a place on

abbrev pub drop_calls : ℕ → Instances → Instances
drop_calls zero is = is
drop_calls (suc p) no_instances = no_instances
drop_calls (suc p) (with_instance c k is) = drop_calls p is

abbrev pub drop_frames : ℕ → Frames → Frames
drop_frames zero fs = fs
drop_frames (suc p) no_frames = no_frames
drop_frames (suc p) (with_frame f fs) = drop_frames p fs

abbrev pub first_site : Instances → Site → Site
first_site no_instances d = d
first_site (with_instance c k is) d = c

abbrev pub first_instance : Instances → Instance → Instance
first_instance no_instances d = d
first_instance (with_instance c k is) d = k

abbrev pub later_calls : Instances → Instances
later_calls no_instances = no_instances
later_calls (with_instance c k is) = is

abbrev pub first_frame : Frames → Frame → Frame
first_frame no_frames d = d
first_frame (with_frame f fs) d = f

abbrev pub later_frames : Frames → Frames
later_frames no_frames = no_frames
later_frames (with_frame f fs) = fs

pub site_dropped : (is : Instances) (p : ℕ) (d : Site) →
    site_at is p ≡ first_site (drop_calls p is) (site_at no_instances 0)
site_dropped no_instances zero d = refl
site_dropped no_instances (suc p) d = refl
site_dropped (with_instance c k is) zero d = refl
site_dropped (with_instance c k is) (suc p) d = site_dropped is p d

pub instance_dropped : (is : Instances) (p : ℕ) →
    instance_at is p ≡ first_instance (drop_calls p is) no_instance
instance_dropped no_instances zero = refl
instance_dropped no_instances (suc p) = refl
instance_dropped (with_instance c k is) zero = refl
instance_dropped (with_instance c k is) (suc p) = instance_dropped is p

pub frame_dropped : (fs : Frames) (p : ℕ) → frame_at fs p ≡ first_frame (drop_frames p fs) (frame_at no_frames 0)
frame_dropped no_frames zero = refl
frame_dropped no_frames (suc p) = refl
frame_dropped (with_frame f fs) zero = refl
frame_dropped (with_frame f fs) (suc p) = frame_dropped fs p

pub calls_later : (p : ℕ) (is : Instances) → drop_calls (suc p) is ≡ later_calls (drop_calls p is)
calls_later zero no_instances = refl
calls_later zero (with_instance c k is) = refl
calls_later (suc p) no_instances = refl
calls_later (suc p) (with_instance c k is) = calls_later p is

pub frames_later : (p : ℕ) (fs : Frames) → drop_frames (suc p) fs ≡ later_frames (drop_frames p fs)
frames_later zero no_frames = refl
frames_later zero (with_frame f fs) = refl
frames_later (suc p) no_frames = refl
frames_later (suc p) (with_frame f fs) = frames_later p fs

module _ (Modes : Instance → Key → Type 0) where
  abbrev pub modes_of : Instance → (Place → ℕ) → Known Formula
  modes_of i at = at_numbers at (known (contract_of i).modes)

  -- that the modes of a frame's contract ask what their formulas say
  abbrev pub Contracts : Type 0
  Contracts = (i : Instance) (at : Place → ℕ) (c : Course) (n : ℕ) (b : Instants) (f : Frame) → IsRun i n b f →
      ((t : ℕ) → t < n → Reads Modes i at b f t (c t)) → TreeFits Modes i →
      (t : ℕ) → t < n → (nx : Values) → (sh : OwnShown (scene i b f) (Modes i) at (c t) nx t (modes_of i at)) →
      modes_agree (scene i b f) (Modes i) at (c t) nx t (modes_of i at) sh

  -- the frame of the call at a place, as the states read it
  pub call_at_reads : (i : Instance) (at : Place → ℕ) (b : Instants) (f : Frame) (t : ℕ) (now : Values) (a : Site)
      (k : Instance) (is : Instances) (g : Frame) (fs : Frames) (p : ℕ) → CallFits Modes i a k p →
      drop_calls p (calls_of i) ≡ with_instance a k is → drop_frames p (calls_in f) ≡ with_frame g fs →
      Reads Modes i at b f t now → Reads Modes k (below_call a.number at) (active (scene i b f) a) g t now
  call_at_reads i at b f t now a k is g fs p fit e d r =
      let there : Reads Modes (call_instance i (suc p)) (below_call (suc p) at) (active (scene i b f) (site_of i
      (suc p))) (call_frame f (suc p)) t now = call_reads Modes i at b f t now r (suc p) fit.call in
      let site : site_at (calls_of i) p ≡ a =
      site_dropped (calls_of i) p a ∙ ap (λ z. first_site z (site_at no_instances 0)) e in
      let inst : instance_at (calls_of i) p ≡ k =
      instance_dropped (calls_of i) p ∙ ap (λ z. first_instance z no_instance) e in
      let frm : frame_at (calls_in f) p ≡ g =
      frame_dropped (calls_in f) p ∙ ap (λ z. first_frame z (frame_at no_frames 0)) d in
      let one : Reads Modes k (below_call (suc p) at) (active (scene i b f) (site_of i (suc p))) (call_frame f
      (suc p)) t now =
      subst (λ z. Reads Modes z (below_call (suc p) at) (active (scene i b f) (site_of i (suc p)))
      (call_frame f (suc p)) t now) inst there in
      let two : Reads Modes k (below_call (suc p) at) (active (scene i b f) a) (call_frame f (suc p)) t now =
      subst (λ z. Reads Modes k (below_call (suc p) at) (active (scene i b f) z) (call_frame f
      (suc p)) t now) site one in
      let three : Reads Modes k (below_call (suc p) at) (active (scene i b f) a) g t now =
      subst (λ z. Reads Modes k (below_call (suc p) at) (active (scene i b f) a) z t now) frm two in
      subst (λ z. Reads Modes k (below_call z at) (active (scene i b f) a) g t now) (sym fit.number) three

  -- its flag
  pub call_at_flag : (i : Instance) (at : Place → ℕ) (c : Course) (n : ℕ) (b : Instants) (f : Frame) →
      ((t : ℕ) → t < n → Reads Modes i at b f t (c t)) → (a : Site)
      (k : Instance) (is : Instances) (g : Frame) (fs : Frames) (p : ℕ) → CallFits Modes i a k p →
      drop_calls p (calls_of i) ≡ with_instance a k is → drop_frames p (calls_in f) ≡ with_frame g fs →
      FlagReads Modes a.manner k (below_call a.number at) c n (active (scene i b f) a) g
  call_at_flag i at c n b f reads a k is g fs p fit e d =
      let s : Scene = scene i b f in
      let there : FlagReads Modes (site_of i (suc p)).manner (call_instance i (suc p)) (below_call (suc p) at) c n
      (active s (site_of i (suc p))) (call_frame f (suc p)) = call_flag Modes i at c n b f reads (suc p) fit.call in
      let site : site_at (calls_of i) p ≡ a =
      site_dropped (calls_of i) p a ∙ ap (λ z. first_site z (site_at no_instances 0)) e in
      let inst : instance_at (calls_of i) p ≡ k =
      instance_dropped (calls_of i) p ∙ ap (λ z. first_instance z no_instance) e in
      let frm : frame_at (calls_in f) p ≡ g =
      frame_dropped (calls_in f) p ∙ ap (λ z. first_frame z (frame_at no_frames 0)) d in
      let one : FlagReads Modes (site_of i (suc p)).manner k (below_call (suc p) at) c n (active s (site_of i (suc p))) (call_frame f (suc p)) =
      subst (λ z. FlagReads Modes (site_of i (suc p)).manner z (below_call (suc p) at) c n (active s (site_of i (suc p)))
      (call_frame f (suc p))) inst there in
      let two : FlagReads Modes a.manner k (below_call (suc p) at) c n (active s a) (call_frame f (suc p)) =
      subst (λ (z : Site). FlagReads Modes z.manner k (below_call (suc p) at) c n (active s z) (call_frame f (suc p))) site one in
      let three : FlagReads Modes a.manner k (below_call (suc p) at) c n (active s a) g =
      subst (λ z. FlagReads Modes a.manner k (below_call (suc p) at) c n (active s a) z) frm two in
      subst (λ z. FlagReads Modes a.manner k (below_call z at) c n (active s a) g) (sym fit.number) three

-- ---- one call

pub both_true : (a b : Bool) → a ≡ true → b ≡ true → (a && b) ≡ true
both_true true true e d = refl
both_true true false e d = absurd (false≢true d)
both_true false b e d = absurd (false≢true e)

pub left_of : (a b : Bool) → (a && b) ≡ true → a ≡ true
left_of true b e = refl
left_of false b e = absurd (false≢true e)

cond_true : (a : Bool) (v w : Value) → a ≡ true → cond a v w ≡ v
cond_true true v w e = refl
cond_true false v w e = absurd (false≢true e)

and_one : (a : Bool) → (a && true) ≡ a
and_one true = refl
and_one false = refl

pub conditional : (o q : Bool) (v : Value) → (o ≡ true → flag q ≡ v) → (o && q) ≡ (o && is true v)
conditional true q v h = sym (ap (is true) (sym (h refl)) ∙ by q)
  where
    by : (q : Bool) → is true (flag q) ≡ q
    by true = refl
    by false = refl
conditional false q v h = refl

module _ (s : Scene) (M : Key → Type 0) (num : Place → ℕ) (modes : Known Formula) (now next : Values) (t : ℕ)
    (shown : OwnShown s M num now next t modes) (agree : modes_agree s M num now next t modes shown) where
  abbrev pub g : Stage
  g = stage_here s M num modes now next

  -- where a call's frame is active
  pub runs_as : (a : Site) (m : Manner) → a.manner ≡ m →
      ((z : Clock) → z ≡ a.clock → truth_of now next (present g z) ≡ is_on s z t) →
      ((x : Expression) → m ≡ while_true x → is_on s a.clock t ≡ true → flag (truth_of now next
      (formula g x)) ≡ value s a.clock x t) → ((xs : List Name) → m ≡ as_import xs → a.clock ≡ base) →
      truth_of now next (runs_where g a m) ≡ active s a t
  runs_as a plain e p w b = p a.clock refl ∙ rw e (sym (and_one (is_on s a.clock t)))
  runs_as a (while_true x) e p w b =
      rw (p a.clock refl, e) (conditional (is_on s a.clock t) (truth_of now next (formula g x))
      (value s a.clock x t) (w x refl))
  runs_as a (as_import xs) e p w b = shown.beats ∙ rw (e, b xs refl) (sym (and_one (s.beat t)))

  -- the terms of arguments
  pub arguments_have : (c : Clock) (es : List Expression) → AllByRecursion (Stands s.place M c) es →
      have_sorts (map (sort_of s.place) es) (map (worth now next) (map (term_of g) es)) ≡ true
  arguments_have c [] a = refl
  arguments_have c (e ∷ es) a =
      both_true (has_sort (sort_of s.place e) (worth now next (term_of g e))) (have_sorts (map
      (sort_of s.place) es) (map (worth now next) (map (term_of g) es))) (term_has s M num modes now next e c a.0)
      (arguments_have c es a.1)

  pub arguments_worth : (c : Clock) (on : Bool) → on ≡ true → is_on s c t ≡ true → (es : List Expression) →
      AllByRecursion (Stands s.place M c) es →
      map (worth now next) (map (term_of g) es) ≡ map (λ a. cond on (value s c a t) absent) es
  arguments_worth c on o h [] a = refl
  arguments_worth c on o h (e ∷ es) a =
      rw (
        term_value s M num modes now next t shown agree e c a.0 h,
        cond_true on
            (value s c e t) absent o,
        arguments_worth c on o h es a.1,
      ) refl

  -- the names that an import's outputs are
  pub names_have : (xs : List Name) →
      have_sorts (map (sort_of_name s.place) xs) (map (worth now next) (map (name_part g) xs)) ≡ true
  names_have [] = refl
  names_have (x ∷ xs) =
      both_true (has_sort (sort_of_name s.place x) (worth now next (name_part g x))) (have_sorts (map
      (sort_of_name s.place) xs) (map (worth now next) (map (name_part g) xs)))
      (rw (variable_worth now next (sort_of_name s.place x) (num ([], named x))) (value_has now
      (sort_of_name s.place x) (num ([], named x)))) (names_have xs)

  pub names_worth : (xs : List Name) → AllByRecursion (IsNameOn s.place M base) xs → s.beat t ≡ true →
      map (worth now next) (map (name_part g) xs) ≡ map (λ x. entry s.frame x t) xs
  names_worth [] a o = refl
  names_worth (x ∷ xs) a o =
      let here : worth now next (name_part g x) ≡ entry s.frame x t =
      variable_worth now next (sort_of_name s.place x) (num ([], named x)) ∙ shown.names x a.0.stream a.0.declared
      ∙ as_it_is (sort_of_name s.place x) (entry s.frame x t) (on_sort (sort_of_name s.place x) (is_on s
      (clock_here s.place M x) t) (entry s.frame x t) (shown.typed x a.0.stream a.0.declared) (ap
      (λ z. is_on s z t) a.0.clock ∙ o)) in
      rw (here, names_worth xs a.1 o) refl

-- what the caller gives holds of the callee's names
module _ (Modes : Instance → Key → Type 0) (i : Instance) (at : Place → ℕ) (b : Instants) (f : Frame)
    (modes modes' : Known Formula) (now next : Values) (t n : ℕ)
    (shown : OwnShown (scene i b f) (Modes i) at now next t modes) (agree : modes_agree (scene i b f)
    (Modes i) at now next t modes shown)
    (a : Site) (k : Instance) (p : ℕ) (fit : CallFits Modes i a k p) (h : Frame) (called : IsCalled n
    (scene i b f) a k h) (inside : t < n)
    (shown' : OwnShown (scene k (active (scene i b f) a) h) (Modes k) (below_call a.number at) now next t modes')
    (agree' : modes_agree (scene k (active (scene i b f) a) h) (Modes k)
    (below_call a.number at) now next t modes' shown') where
  abbrev pub s : Scene
  s = scene i b f

  abbrev pub s' : Scene
  s' = scene k (active s a) h

  abbrev pub GivenHolds : Sources → Type 0
  GivenHolds ps =
      AllByRecursion (λ q. Holds s' (Modes k) (below_call a.number at) modes' now next t shown' agree' q.0 q.1) ps

  inputs_hold : GivenHolds (paired (inputs_of k) (map (term_of (g s
      (Modes i) at modes now next t shown agree)) a.arguments))
  inputs_hold = pairs_hold s' (Modes k) (below_call a.number at) modes' now next t shown' agree' base (inputs_of k)
      (map (term_of (g s (Modes i) at modes now next t shown agree)) a.arguments) fit.inputs
      (ap (λ z. have_sorts z (map (worth now next) (map (term_of (g s
      (Modes i) at modes now next t shown agree)) a.arguments)))
      (fit.input_sorts ∙ sym fit.sorts) ∙ arguments_have s
      (Modes i) at modes now next t shown agree a.clock a.arguments fit.arguments)
      (λ o. arguments_worth s (Modes i) at modes now next t shown agree a.clock (active s a t) o (left_of
      (is_on s a.clock t) (condition_of s a.clock a.manner t) o) a.arguments fit.arguments ∙ sym
      (called.inputs t inside) ∙ at_entries t h (inputs_of k))

  outputs_hold : (m : Manner) → a.manner ≡ m → MannerFits Modes i a.clock m k → SharesOutputs m s k h t →
      GivenHolds (shared_outputs (g s (Modes i) at modes now next t shown agree) m k)
  outputs_hold plain e w q = tt
  outputs_hold (while_true x) e w q = tt
  outputs_hold (as_import xs) e w q =
      pairs_hold s' (Modes k) (below_call a.number at) modes' now next t shown' agree' base (outputs_of k) (map
      (name_part (g s (Modes i) at modes now next t shown agree)) xs) fit.outputs
      (ap (λ z. have_sorts z (map (worth now next) (map (name_part (g s
      (Modes i) at modes now next t shown agree)) xs))) (fit.output_sorts ∙ sym w.2) ∙ names_have s
      (Modes i) at modes now next t shown agree xs)
      (λ o. names_worth s (Modes i) at modes now next t shown agree xs w.1 (ap (λ z. is_on s z t)
      (sym w.0) ∙ left_of (is_on s a.clock t) (condition_of s a.clock a.manner t) o) ∙ sym
      (at_entries t f xs) ∙ sym q ∙ at_entries t h (outputs_of k))

  pub given_hold : GivenHolds (from_call (g s (Modes i) at modes now next t shown agree) a k)
  given_hold = all_both (λ q. Holds s' (Modes k) (below_call a.number at) modes' now next t shown' agree' q.0 q.1)
      (paired (inputs_of k) (map (term_of (g s (Modes i) at modes now next t shown agree)) a.arguments))
      (shared_outputs (g s (Modes i) at modes now next t shown agree) a.manner k)
      inputs_hold (outputs_hold a.manner refl fit.manner (called.outputs t inside))

-- ---- the tree

pub calls_of_run : (i : Instance) (n : ℕ) (b : Instants) (f : Frame) → IsRun i n b f →
    CallsRun n (scene i b f) (calls_of i) (calls_in f)
calls_of_run (instance d cs is) n b f r = r.1

pub own_fits : (Modes : Instance → Key → Type 0) (i : Instance) → TreeFits Modes i → OwnFits i (Modes i)
own_fits Modes (instance d cs is) w = w.0

pub calls_fit : (Modes : Instance → Key → Type 0) (i : Instance) → TreeFits Modes i → CallsFit Modes i (calls_of i) 0
calls_fit Modes (instance d cs is) w = w.1

balanced_at : (s : Scene) (n t : ℕ) → t < n → (es : List Equation) →
    AllByRecursion (λ e. (t : ℕ) → t < n → IsBalanced s e t) es → AllByRecursion (λ e. IsBalanced s e t) es
balanced_at s n t h [] a = tt
balanced_at s n t h (e ∷ es) a = (a.0 t h, balanced_at s n t h es a.1)

module _ (Modes : Instance → Key → Type 0) (contracts : Contracts Modes) (c : Course) (n : ℕ) where
  module _ (i : Instance) (at : Place → ℕ) (b : Instants) (f : Frame) (run : IsRun i n b f)
      (fits : TreeFits Modes i) (reads : (t : ℕ) → t < n → Reads Modes i at b f t (c t)) where
    abbrev pub agrees_here : (t : ℕ) → t < n → (nx : Values) →
        (sh : OwnShown (scene i b f) (Modes i) at (c t) nx t (modes_of Modes i at)) →
        modes_agree (scene i b f) (Modes i) at (c t) nx t (modes_of Modes i at) sh
    agrees_here t h nx sh = contracts i at c n b f run reads fits t h nx sh

    -- the states show the frame, and its modes
    abbrev pub shown_here : (t : ℕ) → t < n → (nx : Values) →
        OwnShown (scene i b f) (Modes i) at (c t) nx t (modes_of Modes i at)
    shown_here t h nx =
        own_shown Modes i at c n b f (modes_of Modes i at) run (calls_of_run i n b f run) reads
        (own_fits Modes i fits) agrees_here t h nx

    abbrev pub agreed_here : (t : ℕ) (h : t < n) (nx : Values) →
        modes_agree (scene i b f) (Modes i) at (c t) nx t (modes_of Modes i at) (shown_here t h nx)
    agreed_here t h nx = agrees_here t h nx (shown_here t h nx)

    abbrev pub GivenTo : (t : ℕ) (h : t < n) (nx : Values) → Sources → Type 0
    GivenTo t h nx ps =
        AllByRecursion (λ q. Holds (scene i b f) (Modes i) at (modes_of Modes i at) (c t) nx t (shown_here t h nx)
        (agreed_here t h nx) q.0 q.1) ps

    -- where the call at a place is active
    pub active_true : (t : ℕ) (h : t < n) (nx : Values) (a : Site) (k : Instance) (p : ℕ) → CallFits Modes i a k p →
        (g : Frame) → Reads Modes k (below_call a.number at) (active (scene i b f) a) g t (c t) →
        truth_of (c t) nx (same (flag_at (stage i at) (in_call a.number (own beat))) (runs_where
        (stage i at) a a.manner)) ≡ true
    active_true t h nx a k p fit g r =
        rw (mine, where_true a.manner refl fit.manner) (equal_flags_self (active (scene i b f) a t))
      where
        mine : (c t).flag_at (at (a.number ∷ [], beat)) ≡ active (scene i b f) a t
        mine = flags_same ((c t).flag_at (at (a.number ∷ [], beat))) (active (scene i b f) a t)
            (r [] beat Flags refl refl)

        sh : OwnShown (scene i b f) (Modes i) at (c t) nx t (modes_of Modes i at)
        sh = own_shown Modes i at c n b f (modes_of Modes i at) run (calls_of_run i n b f run) reads
            (own_fits Modes i fits) (λ t h nx sh. contracts i at c n b f run reads fits t h nx sh) t h nx

        ag : modes_agree (scene i b f) (Modes i) at (c t) nx t (modes_of Modes i at) sh
        ag = contracts i at c n b f run reads fits t h nx sh

        there : (z : Clock) → z ≡ a.clock → truth_of (c t) nx (present (stage i at) z) ≡ is_on (scene i b f) z t
        there z e = present_on (scene i b f) (Modes i) at (modes_of Modes i at)
            (c t) nx t sh.beats sh.names sh.typed z (subst (ClockFits i (Modes i)) (sym e) fit.clock)

        where_true : (m : Manner) → a.manner ≡ m → MannerFits Modes i a.clock m k →
            truth_of (c t) nx (runs_where (stage i at) a a.manner) ≡ active (scene i b f) a t
        where_true m e w =
            ap (λ z. truth_of (c t) nx (runs_where (stage i at) a z)) e ∙ runs_as (scene i b f) (Modes i) at
            (modes_of Modes i at) (c t) nx t sh ag a m e there (condition m w) (import_base m w)
          where
            condition : (m : Manner) → MannerFits Modes i a.clock m k → (x : Expression) → m ≡ while_true x →
                is_on (scene i b f) a.clock t ≡ true →
                flag (truth_of (c t) nx (formula (stage i at) x)) ≡ value (scene i b f) a.clock x t
            condition m w x q o = let v : MannerFits Modes i a.clock (while_true x) k =
                subst (λ z. MannerFits Modes i a.clock z k) q w in formula_value (scene i b f) (Modes i) at
                (modes_of Modes i at) (c t) nx t sh ag x a.clock v.0 v.1 o

            import_base : (m : Manner) → MannerFits Modes i a.clock m k → (xs : List Name) → m ≡ as_import xs →
                a.clock ≡ base
            import_base m w xs q = let v : MannerFits Modes i a.clock (as_import xs) k =
                subst (λ z. MannerFits Modes i a.clock z k) q w in v.0

  mutual
    pub here_true : (i : Instance) (at : Place → ℕ) (b : Instants) (f : Frame) (run : IsRun i n b f)
        (fits : TreeFits Modes i) (reads : (t : ℕ) → t < n → Reads Modes i at b f t (c t)) (t : ℕ) (h : t < n)
        (nx : Values) (act : Formula) (given : Sources) →
        truth_of (c t) nx act ≡ true → GivenTo i at b f run fits reads t h nx given →
        true_all (c t) nx (here_of i at act given)
    here_true (instance d cs is) at b f run fits reads t h nx act given e q =
        let i : Instance = instance d cs is in (
          e,
          all_both (λ z. truth_of (c t) nx z ≡ true) (names_here (stage i at) given) (calls_here is (stage i at))
              (names_true (scene i b f) (Modes i) at (modes_of Modes i at) (c t) nx t
              (shown_here i at b f run fits reads t h nx)
              (agreed_here i at b f run fits reads t h nx) given fits.0 q (balanced_at (scene i b f) n t h
              (equations d) run.0.equations))
              (calls_true is i at b f run fits reads t h nx 0 (calls_in f) refl refl run.1 fits.1),
        )

    calls_true : (is : Instances) (i : Instance) (at : Place → ℕ) (b : Instants) (f : Frame) (run : IsRun i n b f)
        (fits : TreeFits Modes i) (reads : (t : ℕ) → t < n → Reads Modes i at b f t (c t)) (t : ℕ) (h : t < n)
        (nx : Values) (p : ℕ) (fs : Frames) →
        drop_calls p (calls_of i) ≡ is → drop_frames p (calls_in f) ≡ fs → CallsRun n (scene i b f) is fs →
        CallsFit Modes i is p → true_all (c t) nx (calls_here is (stage i at))
    calls_true no_instances i at b f run fits reads t h nx p fs e d r w = tt
    calls_true (with_instance a k is) i at b f run fits reads t h nx p no_frames e d r w = absurd r
    calls_true (with_instance a k is) i at b f run fits reads t h nx p (with_frame g fs) e d r w =
        let below : (t : ℕ) → t < n → Reads Modes k (below_call a.number at) (active (scene i b f) a) g t (c t) =
        λ t h. call_at_reads Modes i at b f t (c t) a k is g fs p w.0 e d (reads t h) in
        all_both (λ z. truth_of (c t) nx z ≡ true) (here_of k (below_call a.number at) (same (flag_at (stage i at)
        (in_call a.number (own beat))) (runs_where (stage i at) a a.manner)) (from_call (stage i at) a k))
        (calls_here is (stage i at))
        (here_true k (below_call a.number at) (active (scene i b f) a) g r.1 w.1 below t h nx (same (flag_at
        (stage i at) (in_call a.number (own beat))) (runs_where (stage i at) a a.manner)) (from_call
        (stage i at) a k)
        (active_true i at b f run fits reads t h nx a k p w.0 g (below t h))
        (given_hold Modes i at b f (modes_of Modes i at) (modes_of Modes k (below_call a.number at)) (c t) nx t n
        (shown_here i at b f run fits reads t h nx) (agreed_here i at b f run fits reads t h nx) a k p w.0 g r.0 h
        (shown_here k (below_call a.number at) (active (scene i b f) a) g r.1 w.1 below t h nx) (agreed_here k
        (below_call a.number at) (active (scene i b f) a) g r.1 w.1 below t h nx)))
        (calls_true is i at b f run fits reads t h nx (suc p) fs (calls_later p (calls_of i) ∙ ap later_calls e)
        (frames_later p (calls_in f) ∙ ap later_frames d) r.2 w.2)
