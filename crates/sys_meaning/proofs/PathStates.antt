-- The states of a path's frame are the path, and it is lawful.
use Rattle.std.proofs.Common.{◌≡◌, ℕ, zero, suc, pred, ◌<◌, ◌+◌, true, List, [], ◌∷◌, map, length, refl, ap, ◌∙◌, sym, arith, Some, is_some, slice_get, get_or}
use Rattle.std.specs.List.{AllByRecursion}
use Rattle.std.proofs.lemmas.Bool.{false≢true}
use Rattle.lus_tree.specs.declared.place.Sort.{Sort}
use Rattle.lus_tree.specs.declared.place.Sort.TheVariants.{Bool as Flags, Int as Numbers}
use Rattle.lus_meaning.specs.Value.{Value}
use Rattle.lus_meaning.specs.Frame.{Frame}
use Rattle.lus_meaning.specs.Scene.{plain, Instance}
use Rattle.lus_meaning.specs.Slots.{Slot, slots}
use Rattle.lus_meaning.specs.Run.{IsRun}
use Rattle.lus_meaning.specs.Property.{IsLawful, all_assert, meets_all, meets_assumptions}
use Rattle.lus_meaning.specs.Trace.{or_default}
use Rattle.lus_meaning.specs.Verdict.{throughout}
use Rattle.lus_meaning.proofs.Now.{left_part, right_part}
use Rattle.sys_terms.specs.declared.term.Entry.{Entry}
use Rattle.sys_terms.specs.declared.term.Entry.TheVariants as entries
use Rattle.sys_terms.specs.Meaning.{values_of, truth_of}
use Rattle.sys_terms.specs.Fits.{entry_fits, state_fits}
use Rattle.sys_terms.specs.Paths.{IsPath}
use Rattle.sys_meaning.specs.Slot.{place_of, spot_of}
use Rattle.sys_meaning.specs.State.{entry_of, reading, state_of, states_from, states_of}
use Rattle.sys_meaning.specs.Part.{value_in}
use Rattle.sys_meaning.specs.Path.{Course, course_of, frame_of_path}
use Rattle.sys_meaning.specs.System.{number_of, assumed, asserts_in, shape_of, system_of}
use Rattle.sys_meaning.specs.Law.{TreeDistinct, IsRunOf}
use Rattle.sys_meaning.specs.WellTyped.{IsKnown, HasPlace, WellTyped}
use Rattle.sys_meaning.proofs.Shows.{in_any, Reads, same_both, later_value}
use Rattle.sys_meaning.proofs.Follows.{some_same}
use Rattle.sys_meaning.proofs.Forward.{both_true, own_fits, shown_here}
use Rattle.sys_meaning.proofs.Lawful.{all_asserted}
use Rattle.sys_meaning.proofs.ContractStatements.{IsShownBy, assumed_all, true_listed}
use Rattle.sys_meaning.proofs.PathRun.{from_places, start, path_meets, begins, path_offs, path_is_run}
use Rattle.sys_meaning.proofs.Reading.{path_reads}
use Rattle.sys_meaning.proofs.Whole.{imports_forward, known_contracts}

one_entry : (z : Sort) (x : Entry) (s : List Entry) (v : Value) → entry_fits (shape_of z) x ≡ true →
    value_in (values_of (x ∷ s)) z 0 ≡ v → entry_of v ≡ x
one_entry Flags (entries.Flag b) s v h e = rw (sym e) refl
one_entry Flags (entries.Number n) s v h e = absurd (false≢true h)
one_entry Numbers (entries.Flag b) s v h e = absurd (false≢true h)
one_entry Numbers (entries.Number n) s v h e = rw (sym e) refl

-- a state that fits, and whose entries are these values
pub entries_same : (qs : List Slot) (w : Slot → Value) (s : List Entry) →
    state_fits (map (λ q. shape_of q.sort) qs) s ≡ true →
    ((k : ℕ) (q : Slot) → slice_get qs k ≡ Some q → value_in (values_of s) q.sort k ≡ w q) →
    map (λ q. entry_of (w q)) qs ≡ s
entries_same [] w [] e h = refl
entries_same [] w (x ∷ s) e h = absurd (false≢true e)
entries_same (q ∷ qs) w [] e h = absurd (false≢true e)
entries_same (q ∷ qs) w (x ∷ s) e h =
    let p = same_both (entry_fits (shape_of q.sort) x) (state_fits (map (λ q. shape_of q.sort) qs) s) e in
    let one : entry_of (w q) ≡ x = one_entry q.sort x s (w q) p.0 (h 0 q refl) in
    let rest : map (λ q. entry_of (w q)) qs ≡ s = entries_same qs w s p.1
    (λ k r d. sym (later_value r.sort k x s) ∙ h (suc k) r d) in
    rw (one, rest) refl

pub states_same : (i : Instance) (f : Frame) (xs : List (List Entry)) (t : ℕ) →
    ((u : ℕ) → u < length xs → state_of i f (t + u) ≡ get_or xs u []) → states_from i f t (length xs) ≡ xs
states_same i f [] t e = refl
states_same i f (x ∷ xs) t e =
    let here : t ≡ t + 0 = omega arith in
    let one : state_of i f t ≡ x = ap (state_of i f) here ∙ e 0 (omega arith) in
    let rest : states_from i f (suc t) (length xs) ≡ xs = states_same i f xs (suc t)
    (λ u l. let there : suc t + u ≡ t + suc u = omega arith in ap (state_of i f) there ∙ e (suc u) (omega arith)) in
    rw (one, rest) refl

pub at_index : {A : Type 0} (P : A → Type 0) (xs : List A) → AllByRecursion P xs → (k : ℕ) (x : A) →
    slice_get xs k ≡ Some x → P x
at_index P [] a k x e = absurd (false≢true (ap is_some e))
at_index P (y ∷ xs) a zero x e = rw (sym (some_same y x e)) a.0
at_index P (y ∷ xs) a (suc k) x e = at_index P xs a.1 k x e

pub some_length : {A : Type 0} (xs : List A) → (xs ≡ [] → ⊥) → 0 < length xs
some_length [] h = absurd (h refl)
some_length (x ∷ xs) h = omega arith

module _ (i : Instance) (w : WellTyped IsKnown i) (states : List (List Entry))
    (path : IsPath (system_of i) states) where
  abbrev pub c : Course
  c = course_of states

  abbrev pub n : ℕ
  n = length states

  abbrev pub f : Frame
  f = frame_of_path i states

  pub all_reads : (t : ℕ) → t < n → Reads IsKnown i (number_of i) throughout f t (c t)
  all_reads t h ks p z hp e = path_reads ks i (number_of i) c n throughout plain (start i w states path) [] w.tree
      (path_meets i w states path) (begins i w states path) (path_offs i w states path) t h p z
      (in_any IsKnown plain ks i p z hp)

  state_same : (t : ℕ) → t < n → state_of i f t ≡ get_or states t []
  state_same t h =
      entries_same (slots i) (λ q. or_default q.sort (reading i throughout f (place_of q) t)) (get_or states t [])
      (path.loose.each t [] h).fit (λ k q d. ap (value_in (c t) q.sort) (sym (w.numbered k q d))
      ∙ path_reads q.path i (number_of i) c n throughout plain (start i w states path) [] w.tree
      (path_meets i w states path) (begins i w states path) (path_offs i w states path) t h (spot_of q.cell) q.sort
      (at_index (λ q. HasPlace IsKnown q.path i (spot_of q.cell) q.sort) (slots i) w.slots k q d))

  -- the states of the path's frame are the path
  pub path_goes : states_of i f n ≡ states
  path_goes = states_same i f states 0 (λ u l. let here : 0 + u ≡ u = omega arith in
      ap (state_of i f) here ∙ state_same u l)

  module _ (distinct : TreeDistinct i (number_of i) []) where
    run : IsRun i n throughout f
    run = path_is_run i w states path distinct

    shown : (t : ℕ) → t < n → IsShownBy (number_of i) (c t) (c t) throughout f t i
    shown t h = shown_here IsKnown known_contracts c n i (number_of i) throughout f run w.tree all_reads t h (c t)

    meets_here : (t : ℕ) → t < n → meets_all i throughout f t ≡ true
    meets_here t h =
        both_true (all_assert i throughout f t) (meets_assumptions i throughout f t)
        (all_asserted IsKnown known_contracts c n i (number_of i) throughout f run w.tree all_reads t h
        (right_part (λ z. truth_of (c t) (c t) z ≡ true) (assumed i (number_of i)) (asserts_in i (number_of i))
        (from_places (λ z. truth_of (c t) (c t) z ≡ true) (system_of i).legal (path.loose.each t [] h).legal)))
        (sym (assumed_all (number_of i) (c t) (c t) throughout f t i (own_fits IsKnown i w.tree) (shown t h)
        (imports_forward i (number_of i) c n throughout f run all_reads w.tree t h (c t)) refl)
        ∙ true_listed (c t) (c t) (assumed i (number_of i))
        (left_part (λ z. truth_of (c t) (c t) z ≡ true) (assumed i (number_of i)) (asserts_in i (number_of i))
        (from_places (λ z. truth_of (c t) (c t) z ≡ true) (system_of i).legal (path.loose.each t [] h).legal)))

    -- it is lawful at the last instant
    pub path_lawful : IsLawful i throughout f (pred n)
    path_lawful u l = let some : 0 < n = some_length states path.loose.some in meets_here u (omega (arith, some, l))

    pub path_is_run_of : IsRunOf i states f
    path_is_run_of = record { run = run; lawful = path_lawful; goes = path_goes }
