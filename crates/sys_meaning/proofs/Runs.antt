-- The frame of a path is a run.
use Rattle.std.proofs.Common.{◌+◌, zero, pred, ◌≡◌, ℕ, suc, ◌<◌, Bool, true, false, cond, List, [], ◌∷◌, ◌++◌, map, length, refl, ap, ◌∙◌, sym, subst, arith}
use Rattle.std.specs.List.{AllByRecursion}
use Rattle.lus_tree.specs.Tree.{Component, Name, Expression}
use Rattle.lus_meaning.specs.Value.{Value, absent, flag, Instants}
use Rattle.lus_meaning.specs.Frame.{call_frame, Frame, entry}
use Rattle.lus_meaning.specs.Scene.{outputs_of, call_instance, instance_at, calls_of, Clock, base, Manner, plain, while_true, as_import, Site, Scene, Instance, Instances, instance, no_instances, with_instance, component_of, variables, is_on}
use Rattle.lus_meaning.specs.Meaning.{value}
use Rattle.lus_meaning.specs.Contract.{terms, scene}
use Rattle.lus_meaning.specs.Run.{IsRun, CallsRun, IsCalled, SharesOutputs, active, condition_of, inputs_of, at_instant, entries, equations, have_sorts, sort_of, sort_of_name}
use Rattle.lus_meaning.proofs.Unique.{at_entries}
use Rattle.sys_terms.specs.View.{Formula, same}
use Rattle.sys_terms.specs.Meaning.{Values, truth_of}
use Rattle.sys_meaning.specs.Slot.{Place, beat, own, named, in_call}
use Rattle.sys_meaning.specs.Part.{value_in, worth}
use Rattle.sys_meaning.specs.Path.{Course, bare_stage, frame_by, frames_by}
use Rattle.sys_meaning.specs.Translate.{name_part, flag_at, present, term_of, formula}
use Rattle.sys_meaning.specs.System.{contract_of, below_call, stage, Sources, paired, equation_sources, runs_where, shared_outputs, from_call}
use Rattle.sys_meaning.specs.Law.{Distinct, TreeDistinct, CallsDistinct}
use Rattle.sys_meaning.specs.WellTyped.{count_of, IsKnown, no_constant, is_declared, clock_here, ClockFits, IsNameOn, MannerFits, CallFits, TreeFits, CallsFit, OwnFits}
use Rattle.sys_meaning.proofs.Conditions.{bools_equal, zero_value}
use Rattle.sys_meaning.proofs.Present.{present_on}
use Rattle.sys_meaning.proofs.Rows.{OwnShown, modes_agree}
use Rattle.sys_meaning.proofs.Main.{formula_value}
use Rattle.sys_meaning.proofs.Off.{all_absent, typed_off}
use Rattle.sys_meaning.proofs.Balanced.{absents_same, IsFound, all_found, pairs_sourced}
use Rattle.lus_meaning.proofs.Now.{right_part, left_part}
use Rattle.sys_meaning.proofs.Forward.{names_have, names_worth, modes_of, runs_as, left_of, arguments_worth, arguments_have}
use Rattle.sys_meaning.proofs.Offs.{present_same}
use Rattle.sys_meaning.proofs.Backward.{call_fits_called, meets_called, frame_called, TreeMeets, CallsMeet, own_meets, tree_own, call_offs}
use Rattle.sys_meaning.proofs.ContractStatements.{SameTerms, ImportsSame, terms_same, modes_agreed}
use Rattle.sys_meaning.proofs.Given.{AgreeBy, frame_shown}
use Rattle.sys_meaning.proofs.Kept.{path_keeps}
use Rattle.sys_meaning.proofs.Whole.{import_beat}
use Rattle.sys_meaning.specs.Defaults.{site_of}

-- that a path's frames are shown, for any instance
abbrev pub Offs : Instance → (Place → ℕ) → Course → ℕ → Type 0
Offs k at c n = (t : ℕ) → t < n → (x : Name) → is_declared k (λ key. ⊥) x → no_constant k (λ key. ⊥) x →
    truth_of (c t) (c t) (present (bare_stage k at) (clock_here k (λ key. ⊥) x)) ≡ false →
    value_in (c t) (sort_of_name k x) (at (own (named x))) ≡ zero_value (sort_of_name k x)

-- what a path gives of a frame is so
abbrev ByPath : (Instance → (Place → ℕ) → Course → ℕ → Instants → (t : ℕ) → Values → Type 0) → Instance → Type 0
ByPath P i = (at : Place → ℕ) (c : Course) (n : ℕ) (b : Instants) (m : Manner) (act : Formula) (given : Sources) →
    TreeFits IsKnown i → TreeMeets c n m i at act given → ((t : ℕ) → t < n → (c t).flag_at (at (own beat)) ≡ b t) →
    Offs i at c n → (t : ℕ) → t < n → (nx : Values) → P i at c n b t nx

abbrev IsShownAt : Instance → (Place → ℕ) → Course → ℕ → Instants → ℕ → Values → Type 0
IsShownAt i at c n b t nx = OwnShown (scene i b (frame_by i at c n)) (IsKnown i) at (c t) nx t (modes_of IsKnown i at)

abbrev IsSameAt : Instance → (Place → ℕ) → Course → ℕ → Instants → ℕ → Values → Type 0
IsSameAt i at c n b t nx = SameTerms at (c t) nx b (frame_by i at c n) t (terms i) (contract_of i)

abbrev ImportsAt : Instance → (Place → ℕ) → Course → ℕ → Instants → ℕ → Values → Type 0
ImportsAt i at c n b t nx = ImportsSame at (c t) nx b (frame_by i at c n) t i

agree_by : (i : Instance) → ByPath ImportsAt i → (at : Place → ℕ) (c : Course) (n : ℕ) (b : Instants) (m : Manner) (act : Formula)
    (given : Sources) → TreeFits IsKnown i → TreeMeets c n m i at act given →
    ((t : ℕ) → t < n → (c t).flag_at (at (own beat)) ≡ b t) → Offs i at c n → AgreeBy i at c n b
agree_by i im at c n b m act given fits meets beats offs t h nx sh =
    modes_agreed at (c t) nx b (frame_by i at c n) t i (tree_own IsKnown i fits) sh (im at c n b m act given fits meets beats offs t h nx)

shown_from : (i : Instance) → ByPath ImportsAt i → ByPath IsShownAt i
shown_from (instance d cs is) im at c n b m act given fits meets beats offs t h nx =
    frame_shown d cs is at c n b m act given fits meets.0 meets.1 beats offs
    (agree_by (instance d cs is) im at c n b m act given fits meets beats offs) t h nx

same_from : (i : Instance) → ByPath ImportsAt i → ByPath IsSameAt i
same_from i im at c n b m act given fits meets beats offs t h nx =
    terms_same at (c t) nx b (frame_by i at c n) t i (tree_own IsKnown i fits)
    (shown_from i im at c n b m act given fits meets beats offs t h nx) (im at c n b m act given fits meets beats offs t h nx)

imports_from : (d : Component) (cs : List (Name × Value)) (is : Instances) →
    ((k : ℕ) → 0 < k → pred k < count_of is → ByPath IsSameAt (call_instance (instance d cs is) k)) → ByPath ImportsAt (instance d cs is)
imports_from d cs is below at c n b m act given fits meets beats offs t h nx k im =
    subst (λ z. SameTerms (below_call z at) (c t) nx b (call_frame f k) t (terms callee) (contract_of callee)) im.call.number
    (subst (λ g. SameTerms at' (c t) nx b g t (terms callee) (contract_of callee)) (sym (frame_called i at c n k im.call.counted im.call.listed))
    (subst (λ z. SameTerms at' (c t) nx z (frame_by callee at' c n) t (terms callee) (contract_of callee)) beat_is
    (below k im.call.counted im.call.listed at' c n (active s a) a.manner there passed fit.1 meets' beats' offs' t h nx)))
  where
    i : Instance
    i = instance d cs is

    f : Frame
    f = frame_by i at c n

    s : Scene
    s = scene i b f

    a : Site
    a = site_of i k

    callee : Instance
    callee = call_instance i k

    at' : Place → ℕ
    at' = below_call a.number at

    there : Formula
    there = same (flag_at (stage i at) (in_call a.number (own beat))) (runs_where (stage i at) a a.manner)

    passed : Sources
    passed = from_call (stage i at) a callee

    fit : CallFits IsKnown i a callee (0 + pred k) × TreeFits IsKnown callee
    fit = call_fits_called IsKnown i k im.call.counted im.call.listed fits.1

    meets' : TreeMeets c n a.manner callee at' there passed
    meets' = (meets_called c n i (stage i at) k im.call.counted im.call.listed meets.1).2

    beat_is : active s a ≡ b
    beat_is = import_beat s a im.outputs im.clock im.manner

    beats' : (t : ℕ) → t < n → (c t).flag_at (at' (own beat)) ≡ active s a t
    beats' t h =
        bools_equal ((c t).flag_at (at' (own beat))) (truth_of (c t) (c t) (runs_where (stage i at) a a.manner))
        ((own_meets c n a.manner callee at' there passed meets').runs t h).0
        ∙ ap (λ m. truth_of (c t) (c t) (runs_where (stage i at) a m)) im.manner ∙ beats t h ∙ sym (ap (λ z. z t) beat_is)

    offs' : Offs callee at' c n
    offs' t h x w e o = call_offs IsKnown i at (c t) (c t) (stage i at).modes (stage callee at').modes a callee (0 + pred k) fit.0
        (tree_own IsKnown callee fit.1) at' ((own_meets c n a.manner callee at' there passed meets').names t h) x w e
        (present_same (c t) (c t) callee at' (stage callee at').modes [] (length (variables (component_of callee)))
        (clock_here callee (λ key. ⊥) x) ∙ o)

by_number : (P : Instance → Type 0) (i : Instance) → ((p : ℕ) → p < count_of (calls_of i) → P (instance_at (calls_of i) p)) → (k : ℕ) → 0 < k →
    pred k < count_of (calls_of i) → P (call_instance i k)
by_number P i h zero c l = absurd (omega arith)
by_number P i h (suc p) c l = h p l

mutual
  pub imports_backward : (i : Instance) → ByPath ImportsAt i
  imports_backward (instance d cs is) = imports_from d cs is (by_number (ByPath IsSameAt) (instance d cs is) (each_backward is))

  each_backward : (is : Instances) (p : ℕ) → p < count_of is → ByPath IsSameAt (instance_at is p)
  each_backward no_instances p l = absurd (omega arith)
  each_backward (with_instance c k is) zero l = same_from k (imports_backward k)
  each_backward (with_instance c k is) (suc p) l = each_backward is p (omega arith)

pub any_shown : (i : Instance) → ByPath IsShownAt i
any_shown i = shown_from i (imports_backward i)

pub any_agree : (i : Instance) (at : Place → ℕ) (c : Course) (n : ℕ) (b : Instants) (m : Manner) (act : Formula)
    (given : Sources) → TreeFits IsKnown i → TreeMeets c n m i at act given →
    ((t : ℕ) → t < n → (c t).flag_at (at (own beat)) ≡ b t) → Offs i at c n → AgreeBy i at c n b
any_agree i = agree_by i (imports_backward i)

-- the beat of a callee is where its site says
module _ (i : Instance) (at : Place → ℕ) (c : Course) (n : ℕ) (b : Instants) (t : ℕ) (sh : OwnShown (scene i b
    (frame_by i at c n)) (IsKnown i) at (c t) (c t) t (modes_of IsKnown i at)) (agree : modes_agree
    (scene i b (frame_by i at c n)) (IsKnown i) at (c t) (c t) t (modes_of IsKnown i at) sh)
    (a : Site) (k : Instance) (p : ℕ) (fit : CallFits IsKnown i a k p) where
  abbrev pub s : Scene
  s = scene i b (frame_by i at c n)

  pub beat_of : truth_of (c t) (c t) (same (flag_at (stage i at) (in_call a.number (own beat))) (runs_where
      (stage i at) a a.manner)) ≡ true → (c t).flag_at (below_call a.number at (own beat)) ≡ active s a t
  beat_of e = bools_equal ((c t).flag_at (below_call a.number at (own beat))) (truth_of (c t) (c t) (runs_where
      (stage i at) a a.manner)) e ∙ where_is a.manner refl fit.manner
    where
      there : (z : Clock) → z ≡ a.clock → truth_of (c t) (c t) (present (stage i at) z) ≡ is_on s z t
      there z q = present_on s (IsKnown i) at (modes_of IsKnown i at) (c t) (c t) t sh.beats sh.names sh.typed z
          (subst (ClockFits i (IsKnown i)) (sym q) fit.clock)

      condition : (m : Manner) → MannerFits IsKnown i a.clock m k → (x : Expression) → m ≡ while_true x →
          is_on s a.clock t ≡ true → flag (truth_of (c t) (c t) (formula (stage i at) x)) ≡ value s a.clock x t
      condition m w x q o = let v : MannerFits IsKnown i a.clock (while_true x) k =
          subst (λ z. MannerFits IsKnown i a.clock z k) q w in formula_value s (IsKnown i) at
          (modes_of IsKnown i at) (c t) (c t) t sh agree x a.clock v.0 v.1 o

      import_base : (m : Manner) → MannerFits IsKnown i a.clock m k → (xs : List Name) → m ≡ as_import xs →
          a.clock ≡ base
      import_base m w xs q = let v : MannerFits IsKnown i a.clock (as_import xs) k =
          subst (λ z. MannerFits IsKnown i a.clock z k) q w in v.0

      where_is : (m : Manner) → a.manner ≡ m → MannerFits IsKnown i a.clock m k →
          truth_of (c t) (c t) (runs_where (stage i at) a a.manner) ≡ active s a t
      where_is m q w =
          ap (λ z. truth_of (c t) (c t) (runs_where (stage i at) a z)) q ∙ runs_as s (IsKnown i) at
          (modes_of IsKnown i at) (c t) (c t) t sh agree a m q there (condition m w) (import_base m w)

-- ---- a call of a path's frame

tree_distinct : (k : Instance) (at : Place → ℕ) (given : Sources) → TreeDistinct k at given → Distinct k at given
tree_distinct (instance d cs is) at given w = w.0

module _ (i : Instance) (at : Place → ℕ) (c : Course) (n : ℕ) (b : Instants) (shown : (t : ℕ) → t < n → OwnShown
    (scene i b (frame_by i at c n)) (IsKnown i) at (c t) (c t) t (modes_of IsKnown i at)) (agree_here : (t : ℕ) (h : t < n) → modes_agree
    (scene i b (frame_by i at c n)) (IsKnown i) at (c t) (c t) t (modes_of IsKnown i at) (shown t h))
    (a : Site) (k : Instance) (p : ℕ) (fit : CallFits IsKnown i a k p) (fits : TreeFits IsKnown k) (m : Manner)
    (act : Formula)
    (meets : TreeMeets c n m k (below_call a.number at) act (from_call (stage i at) a k)) (distinct : Distinct k
    (below_call a.number at) (from_call (stage i at) a k))
    (shown' : (t : ℕ) → t < n → OwnShown (scene k (active (scene i b (frame_by i at c n)) a) (frame_by k
    (below_call a.number at) c n)) (IsKnown k) (below_call a.number at) (c t) (c t) t (modes_of IsKnown k
    (below_call a.number at)))
    (agree_below : (t : ℕ) (h : t < n) → modes_agree (scene k (active (scene i b (frame_by i at c n)) a) (frame_by k
    (below_call a.number at) c n)) (IsKnown k) (below_call a.number at) (c t) (c t) t (modes_of IsKnown k
    (below_call a.number at)) (shown' t h)) where
  abbrev pub caller : Scene
  caller = scene i b (frame_by i at c n)

  abbrev pub g : Frame
  g = frame_by k (below_call a.number at) c n

  abbrev pub callee : Scene
  callee = scene k (active caller a) g

  abbrev pub given : Sources
  given = from_call (stage i at) a k

  all_here : AllByRecursion (IsFound (given ++ equation_sources (stage k (below_call a.number at)) (equations
      (component_of k)))) given
  all_here = left_part (IsFound (given ++ equation_sources (stage k (below_call a.number at)) (equations
      (component_of k)))) given (equation_sources (stage k (below_call a.number at)) (equations (component_of k)))
      (all_found (given ++ equation_sources (stage k (below_call a.number at)) (equations (component_of k))) distinct)

  count_args : (es : List Expression) (f : Expression → Value) → length (map f es) ≡ length es
  count_args [] f = refl
  count_args (e ∷ es) f = ap suc (count_args es f)

  off_args : (t : ℕ) (o : Bool) → o ≡ false → (es : List Expression) →
      all_absent (map (λ e. cond o (value caller a.clock e t) absent) es)
  off_args t o h [] = tt
  off_args t o h (e ∷ es) = (rw h refl, off_args t o h es)

  -- the callee's names on the base clock are absent where it is not active
  callee_absent : (t : ℕ) (h : t < n) → active caller a t ≡ false → (xs : List Name) → AllByRecursion (IsNameOn k (IsKnown k) base) xs →
      all_absent (map (λ x. entry g x t) xs)
  callee_absent t h o [] w = tt
  callee_absent t h o (x ∷ xs) w = (
    typed_off (sort_of_name k x) (is_on callee (clock_here k (IsKnown k) x) t) (entry g x t)
        ((shown' t h).typed x w.0.stream w.0.declared) (ap (λ z. is_on callee z t) w.0.clock ∙ o),
    callee_absent t h o xs w.1,
  )

  inputs_are : (t : ℕ) → t < n →
      at_instant t (entries g (inputs_of k)) ≡ map (λ e. cond (active caller a t)
      (value caller a.clock e t) absent) a.arguments
  inputs_are t h = at_entries t g (inputs_of k) ∙ by (active caller a t) refl
    where
      by : (o : Bool) → active caller a t ≡ o →
          map (λ x. entry g x t) (inputs_of k) ≡ map (λ e. cond (active caller a t)
          (value caller a.clock e t) absent) a.arguments
      by true o =
          pairs_sourced callee (IsKnown k) (below_call a.number at) (modes_of IsKnown k (below_call a.number at))
          (c t) (c t) t (shown' t h) (agree_below t h) given (tree_own IsKnown k fits) ((own_meets c n m k
          (below_call a.number at) act given meets).names t h)
          base o (inputs_of k) (map (term_of (stage i at)) a.arguments) fit.inputs
          (ap (λ z. have_sorts z (map (worth (c t) (c t)) (map (term_of (stage i at)) a.arguments)))
          (fit.input_sorts ∙ sym fit.sorts) ∙ arguments_have caller (IsKnown i) at
          (modes_of IsKnown i at) (c t) (c t) t (shown t h)
          (agree_here t h) a.clock a.arguments fit.arguments)
          (left_part (IsFound (given ++ equation_sources (stage k (below_call a.number at)) (equations
          (component_of k)))) (paired (inputs_of k) (map (term_of (stage i at)) a.arguments))
          (shared_outputs (stage i at) a.manner k) all_here)
          ∙ arguments_worth caller (IsKnown i) at (modes_of IsKnown i at) (c t) (c t) t (shown t h)
          (agree_here t h) a.clock (active caller a t) o (left_of (is_on caller a.clock t)
          (condition_of caller a.clock a.manner t) o) a.arguments fit.arguments
      by false o = absents_same (map (λ x. entry g x t) (inputs_of k)) (map (λ e. cond (active caller a t)
          (value caller a.clock e t) absent) a.arguments)
          (callee_absent t h o (inputs_of k) fit.inputs) (off_args t (active caller a t) o a.arguments) (counts
          (inputs_of k) a.arguments (ap length (fit.input_sorts ∙ sym fit.sorts)))
        where
          counts : (xs : List Name) (es : List Expression) →
              length (map (sort_of_name k) xs) ≡ length (map (sort_of i) es) →
              length (map (λ x. entry g x t) xs) ≡ length (map (λ e. cond (active caller a t)
              (value caller a.clock e t) absent) es)
          counts [] [] e = refl
          counts [] (x ∷ es) e = absurd (omega (arith, e))
          counts (x ∷ xs) [] e = absurd (omega (arith, e))
          counts (x ∷ xs) (y ∷ es) e = ap suc (counts xs es (omega (arith, e)))

  called : IsCalled n caller a k g
  called = record { inputs = inputs_are; outputs = λ t h. shares a.manner refl t h }
    where
      shares : (m : Manner) → a.manner ≡ m → (t : ℕ) → t < n → SharesOutputs m caller k g t
      shares plain e t h = tt
      shares (while_true x) e t h = tt
      shares (as_import xs) e t h = at_entries t g (outputs_of k) ∙ by (active caller a t) refl ∙ sym (at_entries t (frame_by i at c n) xs)
        where
          w : (a.clock ≡ base) × AllByRecursion (IsNameOn i (IsKnown i) base) xs
              × (map (sort_of_name i) xs ≡ map (λ v. v.sort) (component_of k).outputs)
          w = subst (λ z. MannerFits IsKnown i a.clock z k) e fit.manner

          on_here : (o : Bool) → active caller a t ≡ o → b t ≡ o
          on_here o q = sym (ap (λ z. z t) (import_beat caller a xs w.0 e)) ∙ q

          by : (o : Bool) → active caller a t ≡ o → map (λ x. entry g x t) (outputs_of k) ≡ map (λ x. entry (frame_by i at c n) x t) xs
          by true o =
              pairs_sourced callee (IsKnown k) (below_call a.number at) (modes_of IsKnown k (below_call a.number at))
              (c t) (c t) t (shown' t h) (agree_below t h) given (tree_own IsKnown k fits) ((own_meets c n m k
              (below_call a.number at) act given meets).names t h)
              base o (outputs_of k) (map (name_part (stage i at)) xs) fit.outputs
              (ap (λ z. have_sorts z (map (worth (c t) (c t)) (map (name_part (stage i at)) xs)))
              (fit.output_sorts ∙ sym w.2) ∙ names_have caller (IsKnown i) at (modes_of IsKnown i at) (c t) (c t) t (shown t h)
              (agree_here t h) xs)
              (subst (λ z. AllByRecursion (IsFound (given ++ equation_sources (stage k (below_call a.number at)) (equations (component_of k))))
              (shared_outputs (stage i at) z k)) e
              (right_part (IsFound (given ++ equation_sources (stage k (below_call a.number at)) (equations
              (component_of k)))) (paired (inputs_of k) (map (term_of (stage i at)) a.arguments))
              (shared_outputs (stage i at) a.manner k) all_here))
              ∙ names_worth caller (IsKnown i) at (modes_of IsKnown i at) (c t) (c t) t (shown t h) (agree_here t h) xs w.1 (on_here true o)
          by false o = absents_same (map (λ x. entry g x t) (outputs_of k)) (map (λ x. entry (frame_by i at c n) x t) xs)
              (callee_absent t h o (outputs_of k) fit.outputs) (caller_absent xs w.1)
              (many (outputs_of k) xs (ap length (fit.output_sorts ∙ sym w.2)))
            where
              caller_absent : (ys : List Name) → AllByRecursion (IsNameOn i (IsKnown i) base) ys →
                  all_absent (map (λ x. entry (frame_by i at c n) x t) ys)
              caller_absent [] v = tt
              caller_absent (y ∷ ys) v = (
                typed_off (sort_of_name i y) (is_on caller (clock_here i (IsKnown i) y) t) (entry (frame_by i at c n) y t)
                    ((shown t h).typed y v.0.stream v.0.declared) (ap (λ z. is_on caller z t) v.0.clock ∙ on_here false o),
                caller_absent ys v.1,
              )

              many : (xs ys : List Name) → length (map (sort_of_name k) xs) ≡ length (map (sort_of_name i) ys) →
                  length (map (λ x. entry g x t) xs) ≡ length (map (λ x. entry (frame_by i at c n) x t) ys)
              many [] [] e = refl
              many [] (y ∷ ys) e = absurd (omega (arith, e))
              many (x ∷ xs) [] e = absurd (omega (arith, e))
              many (x ∷ xs) (y ∷ ys) e = ap suc (many xs ys (omega (arith, e)))

-- ---- the tree

mutual
  pub run_by : (i : Instance) (at : Place → ℕ) (c : Course) (n : ℕ) (b : Instants) (m : Manner) (act : Formula)
      (given : Sources) → TreeFits IsKnown i → TreeMeets c n m i at act given → TreeDistinct i at given →
      ((t : ℕ) → t < n → (c t).flag_at (at (own beat)) ≡ b t) → Offs i at c n → IsRun i n b (frame_by i at c n)
  run_by (instance d cs is) at c n b m act given fits meets distinct beats offs = (
    path_keeps d cs is at c n b m act given fits meets.0 meets.1 beats offs
        (any_agree (instance d cs is) at c n b m act given fits meets beats offs) distinct.0,
    calls_by is (instance d cs is) at c n b 0 (λ t h. any_shown
        (instance d cs is) at c n b m act given fits meets beats offs t h (c t))
        (λ t h. any_agree (instance d cs is) at c n b m act given fits meets beats offs t h (c t)
        (any_shown (instance d cs is) at c n b m act given fits meets beats offs t h (c t))) fits.1 meets.1 distinct.1,
  )

  calls_by : (is : Instances) (i : Instance) (at : Place → ℕ) (c : Course) (n : ℕ) (b : Instants) (p : ℕ) →
      (shown : (t : ℕ) → t < n → OwnShown (scene i b (frame_by i at c n)) (IsKnown i) at (c t) (c t) t
      (modes_of IsKnown i at)) → ((t : ℕ) (h : t < n) → modes_agree (scene i b (frame_by i at c n)) (IsKnown i) at (c t) (c t) t
      (modes_of IsKnown i at) (shown t h)) →
      CallsFit IsKnown i is p → CallsMeet c n is (stage i at) → CallsDistinct is (stage i at) →
      CallsRun n (scene i b (frame_by i at c n)) is (frames_by is at c n)
  calls_by no_instances i at c n b p shown agree fits meets distinct = tt
  calls_by (with_instance a k is) i at c n b p shown agree fits meets distinct =
      let below : Place → ℕ = below_call a.number at in
      let act : Formula =
      same (flag_at (stage i at) (in_call a.number (own beat))) (runs_where (stage i at) a a.manner) in
      let given : Sources = from_call (stage i at) a k in
      let beats : (t : ℕ) → t < n → (c t).flag_at (below (own beat)) ≡ active (scene i b (frame_by i at c n)) a t =
      λ t h. beat_of i at c n b t (shown t h) (agree t h) a k p fits.0
      ((own_meets c n a.manner k below act given meets.2).runs t h).0 in
      let offs : Offs k below c n =
      λ t h x w e o. call_offs IsKnown i at (c t) (c t) (stage i at).modes (stage k below).modes a k p fits.0
      (tree_own IsKnown k fits.1) below ((own_meets c n a.manner k below act given meets.2).names t h) x w e
      (present_same (c t) (c t) k below (stage k below).modes [] (length (variables (component_of k)))
      (clock_here k (λ key. ⊥) x) ∙ o) in
      let shown_below : (t : ℕ) → t < n →
      OwnShown (scene k (active (scene i b (frame_by i at c n)) a) (frame_by k below c n)) (IsKnown k) below
      (c t) (c t) t (modes_of IsKnown k below) =
      λ t h. any_shown k below c n (active (scene i b
      (frame_by i at c n)) a) a.manner act given fits.1 meets.2 beats offs t h (c t) in
      let agree_below : (t : ℕ) (h : t < n) →
      modes_agree (scene k (active (scene i b (frame_by i at c n)) a) (frame_by k below c n)) (IsKnown k) below
      (c t) (c t) t (modes_of IsKnown k below) (shown_below t h) =
      λ t h. any_agree k below c n (active (scene i b (frame_by i at c n)) a) a.manner act given fits.1 meets.2 beats offs t h (c t)
      (shown_below t h) in (
        called i at c n b shown agree a k p fits.0 fits.1 a.manner act meets.2
            (tree_distinct k below given distinct.0) shown_below agree_below,
        run_by k below c n (active (scene i b
            (frame_by i at c n)) a) a.manner act given fits.1 meets.2 distinct.0 beats offs,
        calls_by is i at c n b (suc p) shown agree fits.2 meets.3 distinct.1,
      )
