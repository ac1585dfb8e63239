-- The presence of a clock in a state is whether the clock is on.
use Rattle.std.proofs.Common.{◌≡◌, ℕ, zero, suc, Bool, true, false, not, ◌&&◌, length, refl, ap, ◌∙◌, sym}
use Rattle.std.proofs.lemmas.Bool.{false≢true}
use Rattle.lus_tree.specs.declared.place.Sort.TheVariants.{Bool as Flags}
use Rattle.lus_tree.specs.Tree.{Name}
use Rattle.lus_meaning.specs.Value.{Value, absent, flag, whole, is, has_sort}
use Rattle.lus_meaning.specs.Frame.{entry}
use Rattle.lus_meaning.specs.Scene.{Clock, base, sampled_by, Scene, is_on, clock_of, component_of, variables}
use Rattle.lus_meaning.specs.Run.{is_typed, sort_of_name}
use Rattle.lus_meaning.specs.Trace.{or_default}
use Rattle.sys_terms.specs.View.{Formula}
use Rattle.sys_terms.specs.Meaning.{Values, truth_of}
use Rattle.sys_meaning.specs.Slot.{Place, beat, named, own}
use Rattle.sys_meaning.specs.Items.{Key, Known}
use Rattle.sys_meaning.specs.Part.{value_in}
use Rattle.sys_meaning.specs.Translate.{Stage, present_within, present}
use Rattle.sys_meaning.specs.WellTyped.{no_constant, is_declared, clock_here, IsNameOn, ClockEnds, ClockFits}
use Rattle.sys_meaning.proofs.Conditions.{flags_same}

abbrev pub NameShown : Scene → (Place → ℕ) → Values → ℕ → Name → Type 0
NameShown s number now t x =
    value_in now (sort_of_name s.place x) (number (own (named x))) ≡ or_default (sort_of_name s.place x)
    (entry s.frame x t)

abbrev pub NameTyped : Scene → ℕ → Name → Type 0
NameTyped s t x =
    is_typed (sort_of_name s.place x) (is_on s (clock_of (component_of s.place) x) t) (entry s.frame x t) ≡ true

flag_true : (b : Bool) (v : Value) → flag b ≡ or_default Flags v → has_sort Flags v ≡ true → b ≡ is true v
flag_true b (flag true) e h = flags_same b true e
flag_true b (flag false) e h = flags_same b false e
flag_true b absent e h = absurd (false≢true h)
flag_true b (whole n) e h = absurd (false≢true h)

true_where : (b on : Bool) (v : Value) → flag b ≡ or_default Flags v → is_typed Flags on v ≡ true → b ≡ is true v
true_where b true v e h = flag_true b v e h
true_where b false absent e h = flags_same b false e
true_where b false (flag c) e h = absurd (false≢true h)
true_where b false (whole n) e h = absurd (false≢true h)

false_where : (b on : Bool) (v : Value) → flag b ≡ or_default Flags v → is_typed Flags on v ≡ true →
    (on && not b) ≡ is false v
false_where b true (flag true) e h = ap not (flags_same b true e)
false_where b true (flag false) e h = ap not (flags_same b false e)
false_where b true absent e h = absurd (false≢true h)
false_where b true (whole n) e h = absurd (false≢true h)
false_where b false absent e h = refl
false_where b false (flag c) e h = absurd (false≢true h)
false_where b false (whole n) e h = absurd (false≢true h)

-- over a stage of the scene's instance
module _ (s : Scene) (ModeAt : Key → Type 0) (number : Place → ℕ) (modes : Known Formula) (now next : Values) (t : ℕ)
    (beats : now.flag_at (number (own beat)) ≡ s.beat t)
    (shown : (x : Name) → no_constant s.place ModeAt x → is_declared s.place ModeAt x → NameShown s number now t x)
    (typed : (x : Name) → no_constant s.place ModeAt x → is_declared s.place ModeAt x → NameTyped s t x) where
  abbrev pub g : Stage
  g = record { place = s.place; number = number; modes = modes }

  flag_shown : (x : Name) → IsNameOn s.place ModeAt (clock_here s.place ModeAt x) x →
      sort_of_name s.place x ≡ Flags →
      flag (now.flag_at (g.number (own (named x)))) ≡ or_default Flags (entry s.frame x t)
  flag_shown x n e =
      sym (ap (λ k. value_in now k (g.number (own (named x)))) e) ∙ shown x n.stream n.declared ∙ ap
      (λ k. or_default k (entry s.frame x t)) e

  flag_typed : (x : Name) → IsNameOn s.place ModeAt (clock_here s.place ModeAt x) x →
      sort_of_name s.place x ≡ Flags →
      is_typed Flags (is_on s (clock_here s.place ModeAt x) t) (entry s.frame x t) ≡ true
  flag_typed x n e =
      sym (ap (λ k. is_typed k (is_on s (clock_here s.place ModeAt x) t)
      (entry s.frame x t)) e) ∙ typed x n.stream n.declared

  pub present_on_within : (m : ℕ) (c : Clock) → ClockEnds s.place ModeAt m c →
      truth_of now next (present_within m g c) ≡ is_on s c t
  present_on_within m base h = beats
  present_on_within zero (sampled_by b x) h = absurd h
  present_on_within (suc m) (sampled_by true x) h =
      true_where (now.flag_at (g.number (own (named x)))) (is_on s (clock_here s.place ModeAt x) t)
      (entry s.frame x t) (flag_shown x h.0 h.1) (flag_typed x h.0 h.1)
  present_on_within (suc m) (sampled_by false x) h =
      rw (present_on_within m (clock_here s.place ModeAt x) h.2)
      (false_where (now.flag_at (g.number (own (named x)))) (is_on s (clock_here s.place ModeAt x) t)
      (entry s.frame x t) (flag_shown x h.0 h.1) (flag_typed x h.0 h.1))

  pub present_on : (c : Clock) → ClockFits s.place ModeAt c → truth_of now next (present g c) ≡ is_on s c t
  present_on c h = present_on_within (length (variables (component_of s.place))) c h
