-- What the memories, the flags of `->` and the held outputs become after an instant.
use Rattle.std.proofs.Common.{◌≡◌, ℕ, suc, Bool, true, false, cond, not, ◌&&◌, ◌||◌, refl, ap, ◌∙◌, sym}
use Rattle.std.proofs.lemmas.Bool.{false≢true, true≢false}
use Rattle.lus_tree.specs.declared.place.Sort.{Sort}
use Rattle.lus_tree.specs.declared.place.Sort.TheVariants.{Bool as Flags}
use Rattle.lus_tree.specs.Tree.{Variable}
use Rattle.lus_meaning.specs.Value.{Value, flag, has_sort, was_on, latest}
use Rattle.lus_meaning.specs.Frame.{entry, first_value, call_frame}
use Rattle.lus_meaning.specs.Scene.{Scene, is_on}
use Rattle.lus_meaning.specs.Meaning.{value}
use Rattle.lus_meaning.specs.Occurrences.{Memory, Start}
use Rattle.lus_meaning.specs.Run.{sort_of, is_typed, active}
use Rattle.lus_meaning.specs.Trace.{or_default}
use Rattle.sys_terms.specs.View.{Formula, negation, both}
use Rattle.sys_terms.specs.Meaning.{Values, truth_of}
use Rattle.sys_meaning.specs.Slot.{Place, beat, named, memory, starting, own, in_call}
use Rattle.sys_meaning.specs.Slot as slot
use Rattle.sys_meaning.specs.Items.{Key, Known}
use Rattle.sys_meaning.specs.Defaults.{site_of}
use Rattle.sys_meaning.specs.State.{held_before}
use Rattle.sys_meaning.specs.Part.{Part, a_flag, worth, value_in, variable, choose_part}
use Rattle.sys_meaning.specs.Translate.{Stage, term_of, flag_at, present, output_part, held_part}
use Rattle.sys_meaning.specs.System.{becomes, memory_next, start_next}
use Rattle.sys_meaning.specs.WellTyped.{MemoryFits, StartFits}
use Rattle.sys_meaning.proofs.Operators.{choose_worth}
use Rattle.sys_meaning.proofs.Shown.{variable_worth, value_has}
use Rattle.sys_meaning.proofs.Conditions.{becomes_gives, becomes_made, flags_same}
use Rattle.sys_meaning.proofs.Present.{present_on}
use Rattle.sys_meaning.proofs.Rows.{OwnShown, modes_agree, on_sort, as_it_is}
use Rattle.sys_meaning.proofs.Main.{stage_here, term_has, term_value}

chosen_as : (on on' : Bool) (v w u : Value) → on ≡ on' → (on' ≡ true → v ≡ w) → cond on v u ≡ cond on' w u
chosen_as true true v w u e h = h refl
chosen_as false false v w u e h = refl
chosen_as true false v w u e h = absurd (true≢false e)
chosen_as false true v w u e h = absurd (false≢true e)

either_has : (s : Sort) (b : Bool) (v w : Value) → has_sort s v ≡ true → has_sort s w ≡ true →
    has_sort s (cond b v w) ≡ true
either_has s true v w h k = h
either_has s false v w h k = k

ended : (a b o : Bool) → a ≡ not b → (a && not o) ≡ not (o || b)
ended a true true e = rw e refl
ended a true false e = rw e refl
ended a false true e = rw e refl
ended a false false e = rw e refl

module _ (s : Scene) (ModeAt : Key → Type 0) (num : Place → ℕ) (modes : Known Formula) (now next : Values) (t : ℕ)
    (shown : OwnShown s ModeAt num now next t modes) (agree : modes_agree s ModeAt num now next t modes shown) where
  abbrev pub g : Stage
  g = stage_here s ModeAt num modes now next

  -- ---- memories

  abbrev pub remembered_next : Memory → Part
  remembered_next m =
      choose_part (present g m.clock) (term_of g m.operand) (variable (sort_of s.place m.operand) (num (own
      (memory m.number))))

  module _ (m : Memory) (fits : MemoryFits s.place ModeAt m) where
    abbrev pub type_here : Sort
    type_here = sort_of s.place m.operand

    old_has : has_sort type_here (worth now next (variable type_here (num (own (memory m.number))))) ≡ true
    old_has = rw (variable_worth now next type_here (num (own (memory m.number)))) (value_has now type_here (num
        (own (memory m.number))))

    chosen : worth now next (remembered_next m) ≡ cond (truth_of now next (present g m.clock)) (worth now next
        (term_of g m.operand)) (worth now next (variable type_here (num (own (memory m.number)))))
    chosen = choose_worth now next type_here (present g m.clock) (term_of g m.operand) (variable type_here (num
        (own (memory m.number)))) (term_has s ModeAt num modes now next m.operand m.clock fits.operand) old_has

    pub memory_has : has_sort type_here (worth now next (remembered_next m)) ≡ true
    memory_has = rw chosen (either_has type_here (truth_of now next (present g m.clock)) (worth now next
        (term_of g m.operand)) (worth now next (variable type_here (num (own (memory m.number)))))
        (term_has s ModeAt num modes now next m.operand m.clock fits.operand) old_has)

    -- the memory becomes the argument's last value
    pub memory_worth : worth now next (remembered_next m) ≡ latest (is_on s m.clock) (value s m.clock m.operand)
        (first_value s.frame m.number) (suc t)
    memory_worth = chosen
        ∙ chosen_as (truth_of now next (present g m.clock)) (is_on s m.clock t) (worth now next
        (term_of g m.operand)) (value s m.clock m.operand t) (worth now next (variable type_here (num (own
        (memory m.number)))))
        (present_on s ModeAt num modes now next t shown.beats shown.names shown.typed m.clock fits.clock)
        (term_value s ModeAt num modes now next t shown agree m.operand m.clock fits.operand)
        ∙ ap (λ v. cond (is_on s m.clock t) (value s m.clock m.operand t) v) (variable_worth now next type_here
        (num (own (memory m.number))) ∙ shown.memories m.number m.clock m.operand fits.found)

    pub memory_gives : truth_of now next (memory_next g m) ≡ true →
        value_in next type_here (num (own (memory m.number))) ≡ latest (is_on s m.clock)
        (value s m.clock m.operand) (first_value s.frame m.number) (suc t)
    memory_gives e =
        becomes_gives now next g type_here (memory m.number) (remembered_next m) memory_has e ∙ memory_worth

    pub memory_made : value_in next type_here (num (own (memory m.number))) ≡ latest (is_on s m.clock)
        (value s m.clock m.operand) (first_value s.frame m.number) (suc t) →
        truth_of now next (memory_next g m) ≡ true
    memory_made e =
        becomes_made now next g type_here (memory m.number) (remembered_next m) memory_has (e ∙ sym memory_worth)

  -- ---- starts

  module _ (a : Start) (fits : StartFits s.place ModeAt a) where
    abbrev pub starting_next : Formula
    starting_next = both (flag_at g (own (starting a.number))) (negation (present g a.clock))

    pub start_worth : truth_of now next starting_next ≡ not (was_on (is_on s a.clock) (suc t))
    start_worth = rw (present_on s ModeAt num modes now next t shown.beats shown.names shown.typed a.clock fits.clock)
        (ended (now.flag_at (num (own (starting a.number)))) (was_on (is_on s a.clock) t) (is_on s a.clock t)
        (shown.starts a.number a.clock fits.found))

    pub start_gives : truth_of now next (start_next g a) ≡ true →
        next.flag_at (num (own (starting a.number))) ≡ not (was_on (is_on s a.clock) (suc t))
    start_gives e =
        flags_same (next.flag_at (num (own (starting a.number)))) (truth_of now next starting_next)
        (becomes_gives now next g Flags (starting a.number) (a_flag starting_next) refl e) ∙ start_worth

    pub start_made : next.flag_at (num (own (starting a.number))) ≡ not (was_on (is_on s a.clock) (suc t)) →
        truth_of now next (start_next g a) ≡ true
    start_made e = becomes_made now next g Flags (starting a.number) (a_flag starting_next) refl (ap flag
        (e ∙ sym start_worth))

  -- ---- held outputs

  abbrev pub held_on : ℕ → Variable → Part
  held_on k v = choose_part (flag_at g (in_call k (own beat))) (output_part g k v) (held_part g k v)

  module _ (k : ℕ) (v : Variable) (beats : now.flag_at (num (in_call k (own beat))) ≡ active s (site_of s.place k) t)
      (out : value_in now v.sort (num (in_call k (own (named v.name.text)))) ≡ or_default v.sort (entry
      (call_frame s.frame k) v.name.text t))
      (typed : is_typed v.sort (active s (site_of s.place k) t) (entry (call_frame s.frame k) v.name.text t) ≡ true)
      (old : value_in now v.sort (num (own (slot.held k v.name.text))) ≡ held_before s k v.name.text t) where
    abbrev pub out_number : ℕ
    out_number = num (in_call k (own (named v.name.text)))

    abbrev pub held_number : ℕ
    held_number = num (own (slot.held k v.name.text))

    var_has : (n : ℕ) → has_sort v.sort (worth now next (variable v.sort n)) ≡ true
    var_has n = rw (variable_worth now next v.sort n) (value_has now v.sort n)

    held_chosen : worth now next (held_on k v) ≡ cond (now.flag_at (num (in_call k (own beat)))) (worth now next
        (variable v.sort out_number)) (worth now next (variable v.sort held_number))
    held_chosen = choose_worth now next v.sort (flag_at g (in_call k (own beat))) (output_part g k v)
        (held_part g k v) (var_has out_number) (var_has held_number)

    pub held_has : has_sort v.sort (worth now next (held_on k v)) ≡ true
    held_has = rw held_chosen (either_has v.sort (now.flag_at (num (in_call k (own beat)))) (worth now next
        (variable v.sort out_number)) (worth now next (variable v.sort held_number)) (var_has out_number)
        (var_has held_number))

    pub held_worth : worth now next (held_on k v) ≡ held_before s k v.name.text (suc t)
    held_worth = held_chosen
        ∙ chosen_as (now.flag_at (num (in_call k (own beat)))) (active s (site_of s.place k) t) (worth now next
        (variable v.sort out_number)) (entry (call_frame s.frame k) v.name.text t) (worth now next
        (variable v.sort held_number)) beats
        (λ o. variable_worth now next v.sort out_number ∙ out ∙ as_it_is v.sort (entry
        (call_frame s.frame k) v.name.text t) (on_sort v.sort (active s (site_of s.place k) t) (entry
        (call_frame s.frame k) v.name.text t) typed o))
        ∙ ap (λ w. cond (active s (site_of s.place k) t) (entry (call_frame s.frame k) v.name.text t) w)
        (variable_worth now next v.sort held_number ∙ old)

    pub held_gives : truth_of now next (becomes g v.sort (slot.held k v.name.text) (held_on k v)) ≡ true →
        value_in next v.sort held_number ≡ held_before s k v.name.text (suc t)
    held_gives e = becomes_gives now next g v.sort (slot.held k v.name.text) (held_on k v) held_has e ∙ held_worth

    pub held_made : value_in next v.sort held_number ≡ held_before s k v.name.text (suc t) →
        truth_of now next (becomes g v.sort (slot.held k v.name.text) (held_on k v)) ≡ true
    held_made e = becomes_made now next g v.sort (slot.held k v.name.text) (held_on k v) held_has (e ∙ sym held_worth)
