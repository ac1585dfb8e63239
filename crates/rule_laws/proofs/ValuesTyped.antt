-- An expression that fits has a value of its type exactly where the clock of its place is on, where names, calls and modes have.
use Rattle.std.proofs.Common.{◌≡◌, ℕ, zero, suc, ◌<◌, ◌≤◌, Bool, true, false, cond, ◌&&◌, List, [], ◌∷◌, map, pos, Option, Some, None, option_map, refl, sym, ap, subst, arith}
use Rattle.std.specs.Map.{lookup}
use Rattle.std.specs.Str.{bytes_eq}
use Rattle.std.proofs.lemmas.Bool.{false≢true}
use Rattle.lus_tree.specs.declared.place.Sort.{Sort}
use Rattle.lus_tree.specs.declared.place.Sort.TheVariants.{Bool as Flags, Int as Numbers}
use Rattle.lus_tree.specs.Tree.{Name, text_of, Expression, truth, number, name, negation, minus, pre, arrow, binary, choice, sampled, merged, call, condact, mode_name, no_more, more, Variable, Component}
use Rattle.lus_meaning.specs.Value.{Value, flag, whole, Stream, is, has_sort, not_value, minus_value, apply, choose, was_on, latest}
use Rattle.lus_meaning.specs.Frame.{entry, first_value, call_frame}
use Rattle.lus_meaning.specs.Scene.{Clock, sampled_by, Site, Scene, clock_of, component_of, constants_of, call_instance, instance_called, is_on}
use Rattle.lus_meaning.specs.Meaning.{value, values, constant_or, mode_stream, call_outputs, head_stream}
use Rattle.lus_meaning.specs.Program.{listed}
use Rattle.lus_meaning.specs.Run.{is_typed, sort_of, sort_of_name, sort_of_operator, output_sort, first_sort, active}
use Rattle.lus_meaning.specs.Occurrences.{Standing, within, before, moved, Occurrence}
use Rattle.lus_meaning.specs.ClockFaults.{name_clock}
use Rattle.lus_meaning.proofs.EachPart.{Each}
use Rattle.lus_meaning.proofs.Settled.{below_suc}
use Rattle.lus_meaning.proofs.Typed.{on_has, only_typed, not_has, minus_has, has_as, apply_has, choose_has, latest_has, on_from_is, merge_typed, typed_as, either, held_head}
use Rattle.lus_meaning.proofs.Typed as typed
use Rattle.rule_laws.specs.Fitting.{sorts_of, NameFits, IsFlagOn, NotEmpty, CallFits, FitsThere}

-- ---- operators and outputs

pub and_true : (b : Bool) → (b && true) ≡ b
and_true true = refl
and_true false = refl

some_streams : (g : Name → Stream) (vs : List Variable) → NotEmpty vs → typed.NotEmpty (map g (map (λ v. v.name.text) vs))
some_streams g [] e = absurd e
some_streams g (v ∷ vs) e = tt

abbrev head_sort : List Sort → Sort
head_sort [] = Flags
head_sort (q ∷ qs) = q

pub first_is : (q : Sort) (qs : List Sort) (vs : List Variable) → NotEmpty vs → q ∷ qs ≡ sorts_of vs → q ≡ first_sort vs
first_is q qs [] n e = absurd n
first_is q qs (v ∷ vs) n e = ap head_sort e

abbrev is_empty : List Sort → Bool
is_empty [] = true
is_empty (q ∷ qs) = false

none_for_some : {A : Type 0} (vs : List Variable) → NotEmpty vs → [] ≡ sorts_of vs → A
none_for_some [] n e = absurd n
none_for_some (v ∷ vs) n e = absurd (false≢true (sym (ap is_empty e)))

-- ---- expressions

module _ (s : Scene) (n : ℕ) where
  abbrev type_here : Expression → Sort
  type_here e = sort_of s.place e

  abbrev here : Component
  here = component_of s.place

  -- a first value of its type, and a mode that is a truth value
  abbrev pub HasRest : Expression → Type 0
  HasRest (pre p k a) = has_sort (type_here a) (first_value s.frame k) ≡ true
  HasRest (mode_name p d m) = (u : ℕ) → u < n → is_typed Flags (s.beat u) (mode_stream s (option_map text_of d) m.text u) ≡ true
  HasRest _ = Unit {0}

  pub record Ready (o : Occurrence) : Type 0 where
    pub fits : FitsThere s.place o
    pub rest : HasRest o.expression

  abbrev pub AllReady : Standing → Expression → Type 0
  AllReady = Each Ready here

  -- names and calls have values of their types
  pub record NamesReady : Type 0 where
    pub names : (x : Name) → lookup (bytes_eq x) (constants_of s.place) ≡ None → (c : Clock) → name_clock here x ≡ Some c
        → (u : ℕ) → u < n → is_typed (sort_of_name s.place x) (is_on s c u) (entry s.frame x u) ≡ true
    pub calls : (c : Site) → CallFits s.place c → (u : ℕ) → u < n
        → is_typed (output_sort (call_instance s.place c.number)) (active s c u) (head_stream (call_outputs s c.number) u) ≡ true

  abbrev TypedAt : ℕ → Type 0
  TypedAt u = (e : Expression) (t : Standing) → AllReady t e → is_typed (type_here e) (is_on s t.clock u) (value s t.clock e u) ≡ true

  module _ (ready : NamesReady) (u : ℕ) (l : u < n) (earlier : (v : ℕ) → v < u → TypedAt v) where
    name_typed : (o : Option Value) (c : Clock) (x : Name) → lookup (bytes_eq x) (constants_of s.place) ≡ o → NameFits s.place o c x
        → is_typed (sort_of_name s.place x) (is_on s c u) (constant_or o (is_on s c) (entry s.frame x) u) ≡ true
    name_typed None c x e h = ready.names x e c h u l
    name_typed (Some v) c x e h = only_typed (sort_of_name s.place x) (is_on s c u) v (λ _. h)

    flag_typed : (c : Clock) (x : Name) → IsFlagOn s.place c x → is_typed Flags (is_on s c u) (entry s.frame x u) ≡ true
    flag_typed c x h = typed_as (sort_of_name s.place x) Flags (is_on s c u) (entry s.frame x u) h.sort (ready.names x h.stream c h.clock u l)

    called : (c : Site) → CallFits s.place c → output_sort (instance_called s.place c.callee) ≡ output_sort (call_instance s.place c.number)
    called c h = ap (λ (m : Component). first_sort m.outputs) h.callee

    -- a value where its clock is on
    has_value : (e : Expression) (c : Clock) (q : Sort) → type_here e ≡ q → is_typed (type_here e) (is_on s c u) (value s c e u) ≡ true
        → is_on s c u ≡ true → has_sort q (value s c e u) ≡ true
    has_value e c q i h k = has_as (type_here e) q (value s c e u) i (on_has (type_here e) (is_on s c u) (value s c e u) h k)

    pub value_typed : (e : Expression) (t : Standing) → AllReady t e → is_typed (type_here e) (is_on s t.clock u) (value s t.clock e u) ≡ true
    value_typed (truth p b) t h = only_typed Flags (is_on s t.clock u) (flag b) (λ _. refl)
    value_typed (number p k) t h = only_typed Numbers (is_on s t.clock u) (whole (pos k)) (λ _. refl)
    value_typed (name p x) t h = name_typed (lookup (bytes_eq x) (constants_of s.place)) t.clock x refl h.fits
    value_typed (negation p a) t h = only_typed Flags (is_on s t.clock u) (not_value (value s t.clock a u))
        (λ k. not_has (value s t.clock a u) (has_value a t.clock Flags h.0.fits (value_typed a (within t) h.1) k))
    value_typed (minus p a) t h = only_typed Numbers (is_on s t.clock u) (minus_value (value s t.clock a u))
        (λ k. minus_has (value s t.clock a u) (has_value a t.clock Numbers h.0.fits (value_typed a (within t) h.1) k))
    value_typed (pre p k a) t h = only_typed (type_here a) (is_on s t.clock u)
        (latest (is_on s t.clock) (value s t.clock a) (first_value s.frame k) u)
        (λ _. latest_has (type_here a) (is_on s t.clock) (value s t.clock a) (first_value s.frame k) u
        (λ v g. earlier v g a (before t) h.1) h.0.rest)
    value_typed (arrow p k a d) t h = only_typed (type_here a) (is_on s t.clock u)
        (cond (was_on (is_on s t.clock) u) (value s t.clock d u) (value s t.clock a u))
        (λ o. either (was_on (is_on s t.clock) u) (type_here a) (value s t.clock d u) (value s t.clock a u)
        (has_value d t.clock (type_here a) h.0.fits (value_typed d (within t) h.2) o) (has_value a t.clock (type_here a) refl (value_typed a (within t) h.1) o))
    value_typed (binary p o a d) t h = only_typed (sort_of_operator o) (is_on s t.clock u) (apply o (value s t.clock a u) (value s t.clock d u))
        (λ k. apply_has o (type_here a) (value s t.clock a u) (value s t.clock d u) h.0.fits.0
        (has_value a t.clock (type_here a) refl (value_typed a (within t) h.1) k)
        (has_value d t.clock (type_here a) h.0.fits.1 (value_typed d (within t) h.2) k))
    value_typed (choice p a b d) t h = only_typed (type_here b) (is_on s t.clock u)
        (choose (value s t.clock a u) (value s t.clock b u) (value s t.clock d u))
        (λ k. choose_has (type_here b) (value s t.clock a u) (value s t.clock b u) (value s t.clock d u)
        (has_value a t.clock Flags h.0.fits.0 (value_typed a (within t) h.1) k) (has_value b t.clock (type_here b) refl (value_typed b (within t) h.2) k)
        (has_value d t.clock (type_here b) h.0.fits.1 (value_typed d (within t) h.3) k))
    value_typed (sampled p a q x) t h =
        let c : Clock = clock_of here x.text in
        subst (λ (k : Clock). is_typed (type_here a) (is_on s k u) (value s t.clock (sampled p a q x) u) ≡ true) (sym h.0.fits.0)
        (only_typed (type_here a) (is q (entry s.frame x.text u)) (value s c a u)
        (λ k. on_has (type_here a) (is_on s c u) (value s c a u) (value_typed a (moved c t) h.1)
        (on_from_is Flags q (is_on s c u) (entry s.frame x.text u) (flag_typed c x.text h.0.fits.1) k)))
    value_typed (merged p x a d) t h = merge_typed (type_here a) (is_on s t.clock u) (entry s.frame x.text u)
        (value s (sampled_by true x.text) a u) (value s (sampled_by false x.text) d u) (flag_typed t.clock x.text h.0.fits.0)
        (value_typed a (moved (sampled_by true x.text) t) h.1)
        (typed_as (type_here d) (type_here a) (is false (entry s.frame x.text u)) (value s (sampled_by false x.text) d u) h.0.fits.1
        (value_typed d (moved (sampled_by false x.text) t) h.2))
    value_typed (call p k f as_) t h =
        subst (λ (b : Bool). is_typed (output_sort (instance_called s.place f.text)) b (head_stream (call_outputs s k) u) ≡ true)
        (and_true (is_on s t.clock u))
        (typed_as (output_sort (call_instance s.place k)) (output_sort (instance_called s.place f.text)) (is_on s t.clock u && true)
        (head_stream (call_outputs s k) u) (sym (called _ h.0.fits)) (ready.calls _ h.0.fits u l))
    value_typed (condact p k a f as_ no_more) t h =
        none_for_some (component_of (call_instance s.place k)).outputs h.0.fits.0.outputs h.0.fits.2
    value_typed (condact p k a f as_ (more d ds)) t h =
        let q : Sort = output_sort (call_instance s.place k) in
        let outputs : List Variable = (component_of (call_instance s.place k)).outputs in
        typed_as q (output_sort (instance_called s.place f.text)) (is_on s t.clock u) (value s t.clock (condact p k a f as_ (more d ds)) u)
        (sym (called _ h.0.fits.0))
        (held_head s (λ c j g. Unit {0}) q (is_on s t.clock) (λ v. is_on s t.clock v && is true (value s t.clock a v)) (call_outputs s k)
        (values s t.clock (more d ds)) u (some_streams (entry (call_frame s.frame k)) outputs h.0.fits.0.outputs) tt
        (λ v g. ready.calls _ h.0.fits.0 v (omega arith))
        (λ o. has_value d t.clock q (first_is (type_here d) (map type_here (listed ds)) outputs h.0.fits.0.outputs h.0.fits.2)
        (value_typed d (within t) h.3.0) o))
    value_typed (mode_name p d m) t h =
        subst (λ (k : Clock). is_typed Flags (is_on s k u) (mode_stream s (option_map text_of d) m.text u) ≡ true) (sym h.fits.0) (h.rest u l)

  pub all_typed : NamesReady → (u : ℕ) → u < n → TypedAt u
  all_typed ready u l = value_typed ready u l (up_to u (omega arith))
    where
      up_to : (u : ℕ) → u ≤ n → (v : ℕ) → v < u → TypedAt v
      up_to zero l v g = absurd (omega arith)
      up_to (suc u) l v g = below_suc TypedAt u (up_to u (omega arith)) (value_typed ready u (omega arith) (up_to u (omega arith))) v g
