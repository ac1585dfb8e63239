-- An expression without faults has its value exactly on its clock, where its names, its calls and its modes have theirs.
use Rattle.std.proofs.Common.{option_map, ◌≡◌, ℕ, ◌<◌, true, false, cond, ◌&&◌, pos, refl, sym, arith, Option, Some, None}
use Rattle.std.specs.Map.{lookup}
use Rattle.std.specs.Str.{bytes_eq}
use Rattle.lus_tree.specs.declared.place.Sort.{Sort}
use Rattle.lus_tree.specs.declared.place.Sort.TheVariants.{Bool as Flags, Int as Numbers}
use Rattle.lus_tree.specs.Tree.{Name, text_of, Expression, truth, number, name, negation, minus, pre, arrow, binary, choice, sampled, merged, call, condact, mode_name, no_more, more}
use Rattle.lus_meaning.specs.Value.{Value, flag, whole, is, not_value, minus_value, apply, choose, was_on, latest}
use Rattle.lus_meaning.specs.Frame.{entry, first_value}
use Rattle.lus_meaning.specs.Scene.{Clock, sampled_by, Scene, clock_of, component_of, constants_of, instance_called, is_on}
use Rattle.lus_meaning.specs.Meaning.{value, values, constant_or, mode_stream, call_outputs, head_stream}
use Rattle.lus_meaning.specs.Occurrences.{Standing, within, before, moved, Occurrence}
use Rattle.lus_meaning.specs.Run.{is_typed, sort_of, sort_of_name, sort_of_operator, output_sort}
use Rattle.lus_meaning.proofs.EachPart.{Each}
use Rattle.lus_meaning.proofs.Typed.{Fits, FitsName, held_head, on_has, only_typed, not_has, minus_has, has_as, latest_has, either, apply_has, choose_has, on_from_is, merge_typed, typed_as}

-- the rules of calls ask no more of a frame here; that is among what is asked of each part
abbrev pub AnyCall : Clock → ℕ → Name → Type 0
AnyCall c k f = Unit {0}

module _ (s : Scene) (m : ℕ) where
  abbrev pub call_sort_here : Name → Sort
  call_sort_here f = output_sort (instance_called s.place f)

  -- before instant m a stream has its value exactly on its clock
  abbrev pub StreamOn : Name → Type 0
  StreamOn x = lookup (bytes_eq x) (constants_of s.place) ≡ None → (u : ℕ) → u < m → is_typed (sort_of_name s.place x)
      (is_on s (clock_of (component_of s.place) x) u) (entry s.frame x u) ≡ true

  -- a call has its first output exactly where its frame is active
  abbrev pub OwnOn : Standing → Expression → Type 0
  OwnOn t (name p x) = StreamOn x
  OwnOn t (sampled p a b x) = StreamOn x.text
  OwnOn t (merged p x a b) = StreamOn x.text
  OwnOn t (call p k f as_) = (u : ℕ) → u < m → is_typed (call_sort_here f.text) (is_on s t.clock u) (head_stream (call_outputs s k) u) ≡ true
  OwnOn t (condact p k a f as_ ds) = (u : ℕ) → u < m → is_typed (call_sort_here f.text) (is_on s t.clock u && is true (value s t.clock a u))
      (head_stream (call_outputs s k) u) ≡ true
  OwnOn t (mode_name p d x) = (u : ℕ) → u < m → is_typed Flags (s.beat u) (mode_stream s (option_map text_of d) x.text u) ≡ true
  OwnOn t _ = Unit {0}

  abbrev pub IsOwnOn : Occurrence → Type 0
  IsOwnOn o = OwnOn o.standing o.expression

  abbrev EachOwn : Standing → Expression → Type 0
  EachOwn t e = Each IsOwnOn (component_of s.place) t e

  name_on : (o : Option Value) (c : Clock) (x : Name) (t : ℕ) → t < m → lookup (bytes_eq x) (constants_of s.place) ≡ o → StreamOn x
      → FitsName o s.place c x → is_typed (sort_of_name s.place x) (is_on s c t) (constant_or o (is_on s c) (entry s.frame x) t) ≡ true
  name_on None c x t l e n h = rw (sym h) (n e t l)
  name_on (Some v) c x t l e n h = only_typed (sort_of_name s.place x) (is_on s c t) v (λ _. h)

  abbrev Has : Standing → Expression → ℕ → Type 0
  Has t e u = is_typed (sort_of s.place e) (is_on s t.clock u) (value s t.clock e u) ≡ true

  pub value_on : (e : Expression) (t : Standing) → Fits s AnyCall t.clock e → EachOwn t e → (u : ℕ) → u < m → is_typed (sort_of s.place e)
      (is_on s t.clock u) (value s t.clock e u) ≡ true
  value_on (truth p b) t h o u l = only_typed Flags (is_on s t.clock u) (flag b) (λ _. refl)
  value_on (number p n) t h o u l = only_typed Numbers (is_on s t.clock u) (whole (pos n)) (λ _. refl)
  value_on (name p x) t h o u l = name_on (lookup (bytes_eq x) (constants_of s.place)) t.clock x u l refl o h
  value_on (negation p a) t h o u l = only_typed Flags (is_on s t.clock u) (not_value (value s t.clock a u))
      (λ k. not_has (value s t.clock a u) (has_as (sort_of s.place a) Flags (value s t.clock a u) h.0
      (on_has (sort_of s.place a) (is_on s t.clock u) (value s t.clock a u) (value_on a (within t) h.1 o.1 u l) k)))
  value_on (minus p a) t h o u l = only_typed Numbers (is_on s t.clock u) (minus_value (value s t.clock a u))
      (λ k. minus_has (value s t.clock a u) (has_as (sort_of s.place a) Numbers (value s t.clock a u) h.0
      (on_has (sort_of s.place a) (is_on s t.clock u) (value s t.clock a u) (value_on a (within t) h.1 o.1 u l) k)))
  value_on (pre p k a) t h o u l = only_typed (sort_of s.place a) (is_on s t.clock u)
      (latest (is_on s t.clock) (value s t.clock a) (first_value s.frame k) u)
      (λ _. latest_has (sort_of s.place a) (is_on s t.clock) (value s t.clock a) (first_value s.frame k) u
      (λ v g. value_on a (before t) h.1 o.1 v (omega arith)) h.0)
  value_on (arrow p k a d) t h o u l = only_typed (sort_of s.place a) (is_on s t.clock u)
      (cond (was_on (is_on s t.clock) u) (value s t.clock d u) (value s t.clock a u))
      (λ q. either (was_on (is_on s t.clock) u) (sort_of s.place a) (value s t.clock d u) (value s t.clock a u)
      (has_as (sort_of s.place d) (sort_of s.place a) (value s t.clock d u) h.0
      (on_has (sort_of s.place d) (is_on s t.clock u) (value s t.clock d u) (value_on d (within t) h.2 o.2 u l) q))
      (on_has (sort_of s.place a) (is_on s t.clock u) (value s t.clock a u) (value_on a (within t) h.1 o.1 u l) q))
  value_on (binary p q a d) t h o u l = only_typed (sort_of_operator q) (is_on s t.clock u) (apply q (value s t.clock a u) (value s t.clock d u))
      (λ k. apply_has q (sort_of s.place a) (value s t.clock a u) (value s t.clock d u) h.0
      (on_has (sort_of s.place a) (is_on s t.clock u) (value s t.clock a u) (value_on a (within t) h.2 o.1 u l) k)
      (has_as (sort_of s.place d) (sort_of s.place a) (value s t.clock d u) h.1
      (on_has (sort_of s.place d) (is_on s t.clock u) (value s t.clock d u) (value_on d (within t) h.3 o.2 u l) k)))
  value_on (choice p a b d) t h o u l = only_typed (sort_of s.place b) (is_on s t.clock u)
      (choose (value s t.clock a u) (value s t.clock b u) (value s t.clock d u))
      (λ k. choose_has (sort_of s.place b) (value s t.clock a u) (value s t.clock b u) (value s t.clock d u)
      (has_as (sort_of s.place a) Flags (value s t.clock a u) h.0
      (on_has (sort_of s.place a) (is_on s t.clock u) (value s t.clock a u) (value_on a (within t) h.2 o.1 u l) k))
      (on_has (sort_of s.place b) (is_on s t.clock u) (value s t.clock b u) (value_on b (within t) h.3 o.2 u l) k)
      (has_as (sort_of s.place d) (sort_of s.place b) (value s t.clock d u) h.1
      (on_has (sort_of s.place d) (is_on s t.clock u) (value s t.clock d u) (value_on d (within t) h.4 o.3 u l) k)))
  value_on (sampled p a q x) t h o u l = rw h.0 (only_typed (sort_of s.place a) (is q (entry s.frame x.text u))
      (value s (clock_of (component_of s.place) x.text) a u)
      (λ k. on_has (sort_of s.place a) (is_on s (clock_of (component_of s.place) x.text) u) (value s (clock_of (component_of s.place) x.text) a u)
      (value_on a (moved (clock_of (component_of s.place) x.text) t) h.2 o.1 u l)
      (on_from_is (sort_of_name s.place x.text) q (is_on s (clock_of (component_of s.place) x.text) u) (entry s.frame x.text u) (o.0 h.1 u l) k)))
  value_on (merged p x a d) t h o u l = merge_typed (sort_of s.place a) (is_on s t.clock u) (entry s.frame x.text u)
      (value s (sampled_by true x.text) a u) (value s (sampled_by false x.text) d u)
      (rw (sym h.0) (typed_as (sort_of_name s.place x.text) Flags (is_on s (clock_of (component_of s.place) x.text) u) (entry s.frame x.text u) h.2
      (o.0 h.1 u l)))
      (value_on a (moved (sampled_by true x.text) t) h.4 o.1 u l)
      (typed_as (sort_of s.place d) (sort_of s.place a) (is false (entry s.frame x.text u)) (value s (sampled_by false x.text) d u) h.3
      (value_on d (moved (sampled_by false x.text) t) h.5 o.2 u l))
  value_on (call p k f as_) t h o u l = o.0 u l
  value_on (condact p k a f as_ no_more) t h o u l = absurd h.3
  value_on (condact p k a f as_ (more d ds)) t h o u l =
      held_head s AnyCall (call_sort_here f.text) (is_on s t.clock) (λ v. is_on s t.clock v && is true (value s t.clock a v)) (call_outputs s k)
      (values s t.clock (more d ds)) u h.0.outputs tt
      (λ v g. o.0 v (omega arith))
      (λ q. has_as (sort_of s.place d) (call_sort_here f.text) (value s t.clock d u) h.3.0
      (on_has (sort_of s.place d) (is_on s t.clock u) (value s t.clock d u) (value_on d (within t) h.3.1 o.3.0 u l) q))
  value_on (mode_name p d x) t h o u l = rw h (o u l)
