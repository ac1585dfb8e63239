-- An expression whose types fit has a value of its type wherever it has one, where names, calls and modes have.
use Rattle.std.proofs.Common.{◌≡◌, ℕ, zero, suc, ◌<◌, ◌≤◌, Bool, true, false, cond, not, ◌&&◌, ◌||◌, List, [], ◌∷◌, map, pos, ℤ, Option, Some, None, option_map, refl, sym, ap, subst, arith}
use Rattle.std.specs.Prelude.{is_some}
use Rattle.std.specs.Map.{lookup}
use Rattle.std.specs.Str.{bytes_eq}
use Rattle.lus_tree.specs.declared.expression.Operator.{Operator}
use Rattle.lus_tree.specs.declared.expression.Operator.TheVariants.{Implies, Or, Xor, And, Less, AtMost, Equal, Differs, AtLeast, More, Add, Sub, Mul, Div, Mod}
use Rattle.lus_tree.specs.declared.place.Sort.{Sort}
use Rattle.lus_tree.specs.declared.place.Sort.TheVariants.{Bool as Flags, Int as Numbers}
use Rattle.lus_tree.specs.Tree.{Name, text_of, Expression, truth, number, name, negation, minus, pre, arrow, binary, choice, sampled, merged, call, condact, mode_name, no_more, more, Component}
use Rattle.lus_meaning.specs.Value.{Value, absent, flag, whole, Stream, Instants, is, has_sort, not_value, minus_value, on_flags, on_numbers, on_order, equal_values, apply, choose, was_on, latest}
use Rattle.lus_meaning.specs.Frame.{entry, first_value}
use Rattle.lus_meaning.specs.Scene.{Clock, sampled_by, Site, Scene, clock_of, component_of, constants_of, call_instance, instance_called, is_on}
use Rattle.lus_meaning.specs.Meaning.{value, values, constant_or, mode_stream, call_outputs, head_stream, held_outputs, merge_values}
use Rattle.lus_meaning.specs.Program.{listed}
use Rattle.lus_meaning.specs.Run.{sort_of, sort_of_name, sort_of_operator, output_sort, first_sort}
use Rattle.lus_meaning.specs.Occurrences.{Standing, within, before, moved, Occurrence}
use Rattle.lus_meaning.specs.ClockFaults.{name_clock}
use Rattle.lus_meaning.proofs.EachPart.{Each}
use Rattle.lus_meaning.proofs.Settled.{below_suc}
use Rattle.rule_laws.specs.Fitting.{CallFits}
use Rattle.rule_laws.specs.Types.{has_sort_if_there}
use Rattle.rule_laws.proofs.Fitted.{HasSortOfName, TypeFitsThere}
use Rattle.rule_laws.proofs.ValuesTyped.{first_is}

-- ---- operators

pub there_as : (q r : Sort) (v : Value) → q ≡ r → has_sort_if_there q v ≡ true → has_sort_if_there r v ≡ true
there_as q r v e h = subst (λ s. has_sort_if_there s v ≡ true) e h

pub only_there : (q : Sort) (on : Bool) (v : Value) → has_sort_if_there q v ≡ true → has_sort_if_there q (cond on v absent) ≡ true
only_there q true v h = h
only_there q false v h = refl

pub either_there : (q : Sort) (k : Bool) (v w : Value) → has_sort_if_there q v ≡ true → has_sort_if_there q w ≡ true
    → has_sort_if_there q (cond k v w) ≡ true
either_there q true v w h g = h
either_there q false v w h g = g

not_there : (v : Value) → has_sort_if_there Flags (not_value v) ≡ true
not_there absent = refl
not_there (flag b) = refl
not_there (whole n) = refl

minus_there : (v : Value) → has_sort_if_there Numbers (minus_value v) ≡ true
minus_there absent = refl
minus_there (flag b) = refl
minus_there (whole n) = refl

flags_there : (f : Bool → Bool → Bool) (v w : Value) → has_sort_if_there Flags (on_flags f v w) ≡ true
flags_there f (flag a) (flag b) = refl
flags_there f (flag a) absent = refl
flags_there f (flag a) (whole n) = refl
flags_there f absent w = refl
flags_there f (whole n) w = refl

numbers_there : (f : ℤ → ℤ → ℤ) (v w : Value) → has_sort_if_there Numbers (on_numbers f v w) ≡ true
numbers_there f (whole a) (whole b) = refl
numbers_there f (whole a) absent = refl
numbers_there f (whole a) (flag b) = refl
numbers_there f absent w = refl
numbers_there f (flag b) w = refl

order_there : (f : ℤ → ℤ → Bool) (v w : Value) → has_sort_if_there Flags (on_order f v w) ≡ true
order_there f (whole a) (whole b) = refl
order_there f (whole a) absent = refl
order_there f (whole a) (flag b) = refl
order_there f absent w = refl
order_there f (flag b) w = refl

equal_there : (v w : Value) → has_sort_if_there Flags (equal_values v w) ≡ true
equal_there (flag a) (flag b) = refl
equal_there (flag a) absent = refl
equal_there (flag a) (whole n) = refl
equal_there (whole a) (whole b) = refl
equal_there (whole a) absent = refl
equal_there (whole a) (flag b) = refl
equal_there absent w = refl

pub apply_there : (o : Operator) (v w : Value) → has_sort_if_there (sort_of_operator o) (apply o v w) ≡ true
apply_there Implies v w = flags_there (λ a b. not a || b) v w
apply_there Or v w = flags_there (λ a b. a || b) v w
apply_there Xor v w = flags_there _ v w
apply_there And v w = flags_there (λ a b. a && b) v w
apply_there Less v w = order_there _ v w
apply_there AtMost v w = order_there _ v w
apply_there Equal v w = equal_there v w
apply_there Differs v w = not_there (equal_values v w)
apply_there AtLeast v w = order_there _ v w
apply_there More v w = order_there _ v w
apply_there Add v w = numbers_there _ v w
apply_there Sub v w = numbers_there _ v w
apply_there Mul v w = numbers_there _ v w
apply_there Div v w = numbers_there _ v w
apply_there Mod v w = numbers_there _ v w

choose_there : (q : Sort) (c v w : Value) → has_sort_if_there q v ≡ true → has_sort_if_there q w ≡ true → has_sort_if_there q (choose c v w) ≡ true
choose_there q absent v w h g = refl
choose_there q (flag b) v w h g = either_there q b v w h g
choose_there q (whole n) v w h g = refl

merge_there : (q : Sort) (c v w : Value) → has_sort_if_there q v ≡ true → has_sort_if_there q w ≡ true
    → has_sort_if_there q (merge_values c v w) ≡ true
merge_there q c v w h g = either_there q (is true c) v (cond (is false c) w absent) h (only_there q (is false c) w g)

latest_there : (q : Sort) (on : Instants) (xs : Stream) (v : Value) (t : ℕ) → ((u : ℕ) → u < t → has_sort_if_there q (xs u) ≡ true)
    → has_sort_if_there q v ≡ true → has_sort_if_there q (latest on xs v t) ≡ true
latest_there q on xs v zero h e = e
latest_there q on xs v (suc t) h e =
    either_there q (on t) (xs t) (latest on xs v t) (h t (omega arith)) (latest_there q on xs v t (λ u g. h u (omega arith)) e)

-- ---- outputs that are held

held_there : (q : Sort) (on on_call : Instants) (xs ds : List Stream) (t : ℕ) → ((u : ℕ) → u < suc t → has_sort_if_there q (head_stream xs u) ≡ true)
    → has_sort_if_there q (head_stream ds t) ≡ true → has_sort_if_there q (head_stream (held_outputs on on_call xs ds) t) ≡ true
held_there q on on_call [] ds t h g = refl
held_there q on on_call (x ∷ xs) [] t h g = refl
held_there q on on_call (x ∷ xs) (d ∷ ds) t h g =
    only_there q (on t) (latest on_call x (d t) (suc t)) (latest_there q on_call x (d t) (suc t) h g)

-- ---- expressions

module _ (s : Scene) (n : ℕ) where
  abbrev type_here : Expression → Sort
  type_here e = sort_of s.place e

  abbrev here : Component
  here = component_of s.place

  abbrev pub HasSortThere : Sort → Stream → Type 0
  HasSortThere q xs = (u : ℕ) → u < n → has_sort_if_there q (xs u) ≡ true

  -- a first value of its type, and a mode that is a truth value, where they are there
  abbrev pub HasRest : Expression → Type 0
  HasRest (pre p k a) = has_sort_if_there (type_here a) (first_value s.frame k) ≡ true
  HasRest (mode_name p d m) = HasSortThere Flags (mode_stream s (option_map text_of d) m.text)
  HasRest _ = Unit {0}

  pub record Ready (o : Occurrence) : Type 0 where
    pub fits : TypeFitsThere s.place o
    pub rest : HasRest o.expression

  abbrev pub AllReady : Standing → Expression → Type 0
  AllReady = Each Ready here

  -- names and calls have values of their types
  pub record NamesReady : Type 0 where
    pub names : (x : Name) → is_some (name_clock here x) ≡ true → HasSortThere (sort_of_name s.place x) (entry s.frame x)
    pub calls : (c : Site) → CallFits s.place c
        → HasSortThere (output_sort (call_instance s.place c.number)) (head_stream (call_outputs s c.number))

  abbrev ThereAt : ℕ → Type 0
  ThereAt u = (e : Expression) (t : Standing) → AllReady t e → has_sort_if_there (type_here e) (value s t.clock e u) ≡ true

  module _ (ready : NamesReady) (u : ℕ) (l : u < n) (earlier : (v : ℕ) → v < u → ThereAt v) where
    name_there : (o : Option Value) (c : Clock) (x : Name) → HasSortOfName s.place o x
        → has_sort_if_there (sort_of_name s.place x) (constant_or o (is_on s c) (entry s.frame x) u) ≡ true
    name_there None c x h = ready.names x h u l
    name_there (Some v) c x h = only_there (sort_of_name s.place x) (is_on s c u) v (there (sort_of_name s.place x) v h)
      where
        there : (q : Sort) (v : Value) → has_sort q v ≡ true → has_sort_if_there q v ≡ true
        there q absent h = refl
        there q (flag b) h = h
        there q (whole k) h = h

    called : (c : Site) → CallFits s.place c → output_sort (call_instance s.place c.number) ≡ output_sort (instance_called s.place c.callee)
    called c h = sym (ap (λ (m : Component). first_sort m.outputs) h.callee)

    pub value_there : (e : Expression) (t : Standing) → AllReady t e → has_sort_if_there (type_here e) (value s t.clock e u) ≡ true
    value_there (truth p b) t h = only_there Flags (is_on s t.clock u) (flag b) refl
    value_there (number p k) t h = only_there Numbers (is_on s t.clock u) (whole (pos k)) refl
    value_there (name p x) t h = name_there (lookup (bytes_eq x) (constants_of s.place)) t.clock x h.fits
    value_there (negation p a) t h = only_there Flags (is_on s t.clock u) (not_value (value s t.clock a u)) (not_there (value s t.clock a u))
    value_there (minus p a) t h = only_there Numbers (is_on s t.clock u) (minus_value (value s t.clock a u)) (minus_there (value s t.clock a u))
    value_there (pre p k a) t h = only_there (type_here a) (is_on s t.clock u)
        (latest (is_on s t.clock) (value s t.clock a) (first_value s.frame k) u)
        (latest_there (type_here a) (is_on s t.clock) (value s t.clock a) (first_value s.frame k) u (λ v g. earlier v g a (before t) h.1) h.0.rest)
    value_there (arrow p k a d) t h = only_there (type_here a) (is_on s t.clock u)
        (cond (was_on (is_on s t.clock) u) (value s t.clock d u) (value s t.clock a u))
        (either_there (type_here a) (was_on (is_on s t.clock) u) (value s t.clock d u) (value s t.clock a u)
        (there_as (type_here d) (type_here a) (value s t.clock d u) h.0.fits (value_there d (within t) h.2)) (value_there a (within t) h.1))
    value_there (binary p o a d) t h = only_there (sort_of_operator o) (is_on s t.clock u) (apply o (value s t.clock a u) (value s t.clock d u))
        (apply_there o (value s t.clock a u) (value s t.clock d u))
    value_there (choice p a b d) t h = only_there (type_here b) (is_on s t.clock u)
        (choose (value s t.clock a u) (value s t.clock b u) (value s t.clock d u))
        (choose_there (type_here b) (value s t.clock a u) (value s t.clock b u) (value s t.clock d u) (value_there b (within t) h.2)
        (there_as (type_here d) (type_here b) (value s t.clock d u) h.0.fits (value_there d (within t) h.3)))
    value_there (sampled p a q x) t h = only_there (type_here a) (is q (entry s.frame x.text u)) (value s (clock_of here x.text) a u)
        (value_there a (moved (clock_of here x.text) t) h.1)
    value_there (merged p x a d) t h = merge_there (type_here a) (entry s.frame x.text u) (value s (sampled_by true x.text) a u)
        (value s (sampled_by false x.text) d u) (value_there a (moved (sampled_by true x.text) t) h.1)
        (there_as (type_here d) (type_here a) (value s (sampled_by false x.text) d u) h.0.fits
        (value_there d (moved (sampled_by false x.text) t) h.2))
    value_there (call p k f as_) t h =
        there_as (output_sort (call_instance s.place k)) (output_sort (instance_called s.place f.text)) (head_stream (call_outputs s k) u)
        (called _ h.0.fits) (ready.calls _ h.0.fits u l)
    value_there (condact p k a f as_ no_more) t h = none (call_outputs s k)
      where
        none : (xs : List Stream) → has_sort_if_there (output_sort (instance_called s.place f.text))
            (head_stream (held_outputs (is_on s t.clock) (λ v. is_on s t.clock v && is true (value s t.clock a v)) xs []) u) ≡ true
        none [] = refl
        none (x ∷ xs) = refl
    value_there (condact p k a f as_ (more d ds)) t h =
        let q : Sort = output_sort (call_instance s.place k) in
        there_as q (output_sort (instance_called s.place f.text)) (value s t.clock (condact p k a f as_ (more d ds)) u) (called _ h.0.fits.0)
        (held_there q (is_on s t.clock) (λ v. is_on s t.clock v && is true (value s t.clock a v)) (call_outputs s k)
        (values s t.clock (more d ds)) u (λ v g. ready.calls _ h.0.fits.0 v (omega arith))
        (there_as (type_here d) q (value s t.clock d u)
        (first_is (type_here d) (map type_here (listed ds)) (component_of (call_instance s.place k)).outputs h.0.fits.0.outputs h.0.fits.1)
        (value_there d (within t) h.3.0)))
    value_there (mode_name p d m) t h = h.rest u l

  pub all_there : NamesReady → (u : ℕ) → u < n → ThereAt u
  all_there ready u l = value_there ready u l (up_to u (omega arith))
    where
      up_to : (u : ℕ) → u ≤ n → (v : ℕ) → v < u → ThereAt v
      up_to zero l v g = absurd (omega arith)
      up_to (suc u) l v g = below_suc ThereAt u (up_to u (omega arith)) (value_there ready u (omega arith) (up_to u (omega arith))) v g
