-- In a typed frame what the names of a declaration get is of their types on their clocks: from equations, and in the
-- frame of a call or an import from its caller.
use Rattle.std.proofs.Common.{◌≡◌, ℕ, suc, pred, ◌<◌, ◌≤◌, Bool, true, false, cond, ◌&&◌, ◌||◌, List, [], ◌∷◌, ◌++◌, map, refl, sym, ap, ◌∙◌, subst, arith, Option, Some, unwrap_or}
use Rattle.std.specs.List.{AllByRecursion}
use Rattle.std.specs.Map.{lookup}
use Rattle.std.specs.Str.{bytes_eq}
use Rattle.std.proofs.lemmas.Bool.{false≢true}
use Rattle.lus_tree.specs.declared.place.Sort.{Sort}
use Rattle.lus_tree.specs.declared.place.Sort.TheVariants.{Bool as Flags}
use Rattle.lus_tree.specs.Tree.{Name, Spelled, Expression, Expressions, truth, number, name, negation, minus, pre, arrow, binary, choice, sampled, merged, call, condact, mode_name, no_more, more, Variable, Component}
use Rattle.lus_meaning.specs.Value.{Stream, Instants, is, latest}
use Rattle.lus_meaning.specs.Frame.{Frame, entry, call_frame}
use Rattle.lus_meaning.specs.Scene.{Clock, base, Manner, plain, while_true, as_import, Site, Scene, Instance, instance, component_of, calls_of, call_instance, outputs_of, clock_from, contract_statements, ghosts, variables, is_on, clock_of_names}
use Rattle.lus_meaning.specs.Meaning.{value, values, call_outputs, held_outputs}
use Rattle.lus_meaning.specs.Contract.{scene}
use Rattle.lus_meaning.specs.Program.{listed}
use Rattle.lus_meaning.specs.Run.{Equation, sort_of, sort_of_name, is_typed, right_values, inputs_of, active}
use Rattle.lus_meaning.specs.Occurrences.{Standing, as_side, Occurrence}
use Rattle.lus_meaning.specs.Depends.{named_in}
use Rattle.lus_meaning.specs.Recompute.{Pool, paired, equation_pool, argument, outputs_pool, call_pool}
use Rattle.lus_meaning.specs.WellMade.{HasTypes}
use Rattle.lus_meaning.proofs.EachPart.{Each, EachAmong}
use Rattle.lus_meaning.proofs.Exists.{keys}
use Rattle.lus_meaning.proofs.Lists.{both_parts}
use Rattle.lus_meaning.proofs.Now.{left_part, right_part}
use Rattle.lus_meaning.proofs.Typed.{on_has, only_typed, latest_has}
use Rattle.lus_meaning.proofs.Unique.{same_bytes}
use Rattle.rule_laws.specs.Laws.{site_at}
use Rattle.rule_laws.specs.Fitting.{sorts_of, IsStreamOn, OnBase, CallFits, FitsThere}
use Rattle.rule_laws.specs.Declarations.{StreamFits, right_sorts, EquationFits, OutputsFit}
use Rattle.rule_laws.specs.Types.{IsTypedFrame, IsTypedThere}
use Rattle.rule_laws.proofs.Truths.{same_some}
use Rattle.rule_laws.proofs.TypedFrames.{called_frame, names_ready}
use Rattle.rule_laws.proofs.ValuesTyped.{and_true}
use Rattle.clock_laws.proofs.Walk.{at_whole}

-- ---- streams and names

-- streams of these types where this is on, before instant n
abbrev pub StreamsFit : ℕ → Instants → List Sort → List Stream → Type 0
StreamsFit n on [] ws = Unit {0}
StreamsFit n on (q ∷ qs) [] = ⊥
StreamsFit n on (q ∷ qs) (w ∷ ws) = ((t : ℕ) → t < n → is_typed q (on t) (w t) ≡ true) × StreamsFit n on qs ws

-- what a name gets is of its type on its clock
abbrev pub SourceFits : Scene → ℕ → Name × Stream → Type 0
SourceFits s n q = (k : Clock) (z : Sort) → IsStreamOn s.place k z q.0 → (t : ℕ) → t < n → is_typed z (is_on s k t) (q.1 t) ≡ true

abbrev is_empty : List Sort → Bool
is_empty [] = true
is_empty (q ∷ qs) = false

abbrev head_sort : List Sort → Sort
head_sort [] = Flags
head_sort (q ∷ qs) = q

abbrev tail_sorts : List Sort → List Sort
tail_sorts [] = []
tail_sorts (q ∷ qs) = qs

paired_fit : (s : Scene) (n : ℕ) (k0 : Clock) (xs : List Name) (qs : List Sort) (ss : List Stream)
    → AllByRecursion (λ x. IsStreamOn s.place k0 (sort_of_name s.place x) x) xs → map (sort_of_name s.place) xs ≡ qs
    → StreamsFit n (is_on s k0) qs ss → AllByRecursion (SourceFits s n) (paired xs ss)
paired_fit s n k0 [] qs ss a e h = tt
paired_fit s n k0 (x ∷ xs) [] ss a e h = absurd (false≢true (ap is_empty e))
paired_fit s n k0 (x ∷ xs) (q ∷ qs) [] a e h = absurd h
paired_fit s n k0 (x ∷ xs) (q ∷ qs) (w ∷ ws) a e h = (
  (λ k z o t l. subst (λ c. is_typed z (is_on s c t) (w t) ≡ true) (same_some (sym a.0.clock ∙ o.clock))
      (subst (λ y. is_typed y (is_on s k0 t) (w t) ≡ true) (sym (ap head_sort e) ∙ o.sort) (h.0 t l))),
  paired_fit s n k0 xs qs ws a.1 (ap tail_sorts e) h.1,
)

abbrev NameTyped : Scene → ℕ → Variable → Type 0
NameTyped s n v = (t : ℕ) → t < n → is_typed v.sort (is_on s (clock_from v.clock) t) (entry s.frame v.name.text t) ≡ true

own_names : (i : Instance) (n : ℕ) (b : Instants) (f : Frame) → HasTypes i n b f → AllByRecursion (NameTyped (scene i b f) n) (variables (component_of i))
own_names (instance d cs is) n b f h = h.0

names_fit : (s : Scene) (n : ℕ) (vs : List Variable) → OnBase vs → AllByRecursion (NameTyped s n) vs
    → StreamsFit n s.beat (sorts_of vs) (map (entry s.frame) (map (λ v. v.name.text) vs))
names_fit s n [] o a = tt
names_fit s n (v ∷ vs) o a = (
  (λ t l. subst (λ (c : Option (Bool × Spelled)). is_typed v.sort (is_on s (clock_from c) t) (entry s.frame v.name.text t) ≡ true) o.0 (a.0 t l)),
  names_fit s n vs o.1 a.1,
)

fit_on : (n : ℕ) (on on' : Instants) → ((t : ℕ) → on t ≡ on' t) → (qs : List Sort) (ws : List Stream) → StreamsFit n on qs ws
    → StreamsFit n on' qs ws
fit_on n on on' e [] ws h = tt
fit_on n on on' e (q ∷ qs) [] h = absurd h
fit_on n on on' e (q ∷ qs) (w ∷ ws) h = (
  (λ t l. subst (λ c. is_typed q c (w t) ≡ true) (e t) (h.0 t l)),
  fit_on n on on' e qs ws h.1,
)

held_fit : (n : ℕ) (on act : Instants) (qs : List Sort) (ws ds : List Stream) → StreamsFit n act qs ws → StreamsFit n on qs ds
    → StreamsFit n on qs (held_outputs on act ws ds)
held_fit n on act [] ws ds a d = tt
held_fit n on act (q ∷ qs) [] ds a d = absurd a
held_fit n on act (q ∷ qs) (w ∷ ws) [] a d = absurd d
held_fit n on act (q ∷ qs) (w ∷ ws) (x ∷ ds) a d = (
  (λ t l. only_typed q (on t) (latest act w (x t) (suc t))
      (λ o. latest_has q act w (x t) (suc t) (λ u g. a.0 u (omega arith)) (on_has q (on t) (x t) (d.0 t l) o))),
  held_fit n on act qs ws ds a.1 d.1,
)

-- streams of a declaration that stand on the base clock
base_streams : (k : Instance) (vs : List Variable) → OnBase vs → AllByRecursion (StreamFits k) vs
    → AllByRecursion (λ x. IsStreamOn k base (sort_of_name k x) x) (map (λ v. v.name.text) vs)
base_streams k [] o a = tt
base_streams k (v ∷ vs) o a = (
  record { stream = a.0.name.stream; clock = a.0.name.clock ∙ ap (λ (c : Option (Bool × Spelled)). Some (clock_from c)) o.0; sort = refl },
  base_streams k vs o.1 a.1,
)

name_sorts : (k : Instance) (vs : List Variable) → AllByRecursion (StreamFits k) vs → map (sort_of_name k) (map (λ v. v.name.text) vs) ≡ sorts_of vs
name_sorts k [] a = refl
name_sorts k (v ∷ vs) a = rw (a.0.name.sort, name_sorts k vs a.1) refl

first_true : (a b : Bool) → (a && b) ≡ true → a ≡ true
first_true true b e = refl
first_true false b e = absurd (false≢true e)

-- what is asked of the callee: its inputs and outputs are streams on the base clock
pub record IsCallee (k : Instance) : Type 0 where
  pub inputs : AllByRecursion (StreamFits k) (component_of k).inputs
  pub outputs : AllByRecursion (StreamFits k) (component_of k).outputs
  pub inputs_on_base : OnBase (component_of k).inputs
  pub outputs_on_base : OnBase (component_of k).outputs

-- ---- a typed frame

module _ (i : Instance) (n : ℕ) (b : Instants) (f : Frame) where
  -- an occurrence that fits where it stands and has its value on the clock of its place
  pub record Good (o : Occurrence) : Type 0 where
    pub fits : FitsThere i o
    pub typed : IsTypedThere i n b f o

  abbrev here : Component
  here = component_of i

  abbrev s : Scene
  s = scene i b f

  module _ (frame_typed : IsTypedFrame i n b f) where
    -- ---- equations

    called_outputs : (c : Site) → CallFits i c
        → StreamsFit n (active s c) (sorts_of (component_of (call_instance i c.number)).outputs) (call_outputs s c.number)
    called_outputs c h =
        let j : Instance = call_instance i c.number in
        let g : Frame = call_frame f c.number in
        let d : Component = component_of j in
        let its : IsTypedFrame j n (active s c) g = called_frame i n b f frame_typed c h.number h.site in
        let P : Variable → Type 0 = NameTyped (scene j (active s c) g) n in
        names_fit (scene j (active s c) g) n d.outputs h.on_base
        (right_part P d.inputs d.outputs (left_part P (d.inputs ++ d.outputs) d.locals
        (left_part P (d.inputs ++ d.outputs ++ d.locals) (ghosts (contract_statements d)) (own_names j n (active s c) g its.names))))

    defaults_fit : (t : Standing) (ds : Expressions) → EachAmong Good here t ds → StreamsFit n (is_on s t.clock) (map (sort_of i) (listed ds)) (values
        s t.clock ds)
    defaults_fit t no_more g = tt
    defaults_fit t (more d ds) g = ((at_whole Good here t d g.0).typed, defaults_fit t ds g.1)

    right_fit : (k : Clock) (e : Expression) → Each Good here (as_side k) e → StreamsFit n (is_on s k) (right_sorts i e) (right_values s k e)
    right_fit k (truth p q) g = (g.typed, tt)
    right_fit k (number p q) g = (g.typed, tt)
    right_fit k (name p x) g = (g.typed, tt)
    right_fit k (negation p a) g = (g.0.typed, tt)
    right_fit k (minus p a) g = (g.0.typed, tt)
    right_fit k (pre p j a) g = (g.0.typed, tt)
    right_fit k (arrow p j a d) g = (g.0.typed, tt)
    right_fit k (binary p o a d) g = (g.0.typed, tt)
    right_fit k (choice p a d e) g = (g.0.typed, tt)
    right_fit k (sampled p a q x) g = (g.0.typed, tt)
    right_fit k (merged p x a d) g = (g.0.typed, tt)
    right_fit k (call p j x as_) g = fit_on n (λ t. is_on s k t && true) (is_on s k) (λ t. and_true (is_on s k t))
        (sorts_of (component_of (call_instance i j)).outputs) (call_outputs s j) (called_outputs _ g.0.fits)
    right_fit k (condact p j a x as_ ds) g = held_fit n (is_on s k) (λ t. is_on s k t && is true (value s k a t))
        (sorts_of (component_of (call_instance i j)).outputs) (call_outputs s j) (values s k ds) (called_outputs _ g.0.fits.0)
        (subst (λ qs. StreamsFit n (is_on s k) qs (values s k ds)) g.0.fits.2 (defaults_fit _ ds g.3))
    right_fit k (mode_name p d m) g = (g.typed, tt)

    pub equations_fit : (es : List Equation) → AllByRecursion (EquationFits i) es
        → AllByRecursion (λ e. Each Good (component_of i) (as_side (clock_of_names (component_of i) e.names)) e.right) es
        → AllByRecursion (SourceFits (scene i b f) n) (equation_pool (scene i b f) es)
    equations_fit [] a g = tt
    equations_fit (e ∷ es) a g =
        let k : Clock = clock_of_names here e.names in
        both_parts (SourceFits s n) (paired e.names (right_values s k e.right)) (equation_pool s es)
        (paired_fit s n k e.names (right_sorts i e.right) (right_values s k e.right) a.0.names a.0.sorts (right_fit k e.right g.0))
        (equations_fit es a.1 g.1)

    -- ---- calls and imports

    abbrev pub OnItsClock : Manner → Clock → Type 0
    OnItsClock (as_import xs) k = k ≡ base
    OnItsClock plain k = Unit {0}
    OnItsClock (while_true a) k = Unit {0}

    -- what a caller gives is of the types of the callee's names
    pub record SiteFits (c : Site) : Type 0 where
      pub number : 1 ≤ c.number
      pub site : site_at (calls_of i) (pred c.number) ≡ Some c
      pub arguments : map (sort_of i) c.arguments ≡ sorts_of (component_of (call_instance i c.number)).inputs
      pub typed : AllByRecursion (λ a. (t : ℕ) → t < n → is_typed (sort_of i a) (is_on s c.clock t) (value s c.clock a t) ≡ true) c.arguments
      pub outputs : OutputsFit i c.manner (component_of (call_instance i c.number)).outputs
      pub clock : OnItsClock c.manner c.clock

    arguments_fit : (c : Site) (as_ : List Expression)
        → AllByRecursion (λ a. (t : ℕ) → t < n → is_typed (sort_of i a) (is_on s c.clock t) (value s c.clock a t) ≡ true) as_
        → StreamsFit n (active s c) (map (sort_of i) as_) (map (argument s c) as_)
    arguments_fit c [] h = tt
    arguments_fit c (a ∷ as_) h = (
      (λ t l. only_typed (sort_of i a) (active s c t) (value s c.clock a t)
          (λ o. on_has (sort_of i a) (is_on s c.clock t) (value s c.clock a t) (h.0 t l) (first_true (is_on s c.clock t) _ o))),
      arguments_fit c as_ h.1,
    )

    shared_fit : (xs : List Name) → AllByRecursion (λ x. IsStreamOn i base (sort_of_name i x) x) xs → StreamsFit n b (map (sort_of_name i) xs) (map
        (entry f) xs)
    shared_fit [] a = tt
    shared_fit (x ∷ xs) a = ((λ t l. (names_ready i n b f frame_typed).names x a.0.stream base a.0.clock t l), shared_fit xs a.1)

    beat_of : (c : Site) (xs : List Name) → c.manner ≡ as_import xs → c.clock ≡ base → (t : ℕ) → b t ≡ active s c t
    beat_of c xs m e t = rw (m, e) (sym (and_true (b t)))

    given_outputs : (c : Site) (k : Instance) (g : Frame) → SiteFits c → IsCallee k → component_of k ≡ component_of (call_instance i c.number)
        → (m : Manner) → c.manner ≡ m → OutputsFit i m (component_of (call_instance i c.number)).outputs → OnItsClock m c.clock
        → AllByRecursion (SourceFits (scene k (active s c) g) n) (outputs_pool s m (outputs_of k))
    given_outputs c k g h q e plain r o u = tt
    given_outputs c k g h q e (while_true a) r o u = tt
    given_outputs c k g h q e (as_import xs) r o u = paired_fit (scene k (active s c) g) n base (outputs_of k) (sorts_of (component_of k).outputs)
        (map (entry f) xs) (base_streams k (component_of k).outputs q.outputs_on_base q.outputs) (name_sorts k (component_of k).outputs q.outputs)
        (subst (λ qs. StreamsFit n (active s c) qs (map (entry f) xs)) (o.0 ∙ ap (λ (d : Component). sorts_of d.outputs) (sym e))
        (fit_on n b (active s c) (beat_of c xs r u) (map (sort_of_name i) xs) (map (entry f) xs) (shared_fit xs o.1)))

    pub given_fit : (c : Site) (k : Instance) (g : Frame) → SiteFits c → IsCallee k → component_of k ≡ component_of (call_instance i c.number)
        → AllByRecursion (SourceFits (scene k (active (scene i b f) c) g) n) (call_pool (scene i b f) c k)
    given_fit c k g h q e = both_parts (SourceFits (scene k (active s c) g) n) (paired (inputs_of k) (map (argument s c) c.arguments))
        (outputs_pool s c.manner (outputs_of k))
        (paired_fit (scene k (active s c) g) n base (inputs_of k) (sorts_of (component_of k).inputs) (map (argument s c) c.arguments)
        (base_streams k (component_of k).inputs q.inputs_on_base q.inputs) (name_sorts k (component_of k).inputs q.inputs)
        (subst (λ qs. StreamsFit n (active s c) qs (map (argument s c) c.arguments)) (h.arguments ∙ ap (λ (d : Component). sorts_of d.inputs) (sym e))
        (arguments_fit c c.arguments h.typed)))
        (given_outputs c k g h q e c.manner refl h.outputs h.clock)

-- ---- what is found for a name

pub found_fits : (x : Name) (pool : Pool) (d : Stream) (Q : Stream → Type 0) → AllByRecursion (λ q. x ≡ q.0 → Q q.1) pool
    → (named_in x (keys pool) ≡ false → Q d) → Q (unwrap_or (lookup (bytes_eq x) pool) d)
found_fits x [] d Q a h = h refl
found_fits x (q ∷ pool) d Q a h = go (bytes_eq x q.0) refl h (found_fits x pool d Q a.1)
  where
    go : (c : Bool) → bytes_eq x q.0 ≡ c → ((c || named_in x (keys pool)) ≡ false → Q d)
        → ((named_in x (keys pool) ≡ false → Q d) → Q (unwrap_or (lookup (bytes_eq x) pool) d))
        → Q (unwrap_or (cond c (Some q.1) (lookup (bytes_eq x) pool)) d)
    go true m g r = a.0 (same_bytes x q.0 m)
    go false m g r = r g
