-- The rows of a run of a checked declaration have the truth of its conditions, so they break what the run breaks.
use Rattle.std.proofs.Common.{◌≡◌, ℕ, zero, suc, ◌<◌, Bool, true, false, cond, List, [], ◌∷◌, map, refl, ap, ◌∙◌, sym, subst, arith, Option, Some, None, slice_get, unwrap_or}
use Rattle.std.proofs.lemmas.Option.{none-some}
use Rattle.lus_tree.specs.declared.place.Sort.{Sort}
use Rattle.lus_meaning.specs.Value.{Value, absent, flag, Instants, is}
use Rattle.lus_meaning.specs.Frame.{Frame}
use Rattle.lus_meaning.specs.Program.{instance_of}
use Rattle.lus_meaning.specs.Scene.{plain, Instance}
use Rattle.lus_meaning.specs.Contract.{Property}
use Rattle.lus_meaning.specs.Property.{properties, meets_all, IsLawful}
use Rattle.lus_meaning.specs.Run.{IsRun}
use Rattle.lus_meaning.specs.Slots.{Slot, slots}
use Rattle.lus_meaning.specs.Verdict.{throughout, Breaks}
use Rattle.lus_meaning.specs.FirstBreak.{IsBreakOf}
use Rattle.sys_terms.specs.declared.term.Entry.{Entry}
use Rattle.sys_terms.specs.View.{Formula}
use Rattle.sys_terms.specs.Meaning.{values_of}
use Rattle.sys_meaning.specs.Slot.{Place, place_of, same_place, number_in}
use Rattle.sys_meaning.specs.State.{reading, state_of}
use Rattle.sys_meaning.specs.System.{number_of, system_of}
use Rattle.sys_meaning.specs.Law.{true_in, Agree}
use Rattle.sys_meaning.specs.WellTyped.{IsKnown, slot_sort, WellTyped}
use Rattle.sys_meaning.proofs.Shows.{same_places, in_any, state_reads}
use Rattle.sys_meaning.proofs.Truths.{truths_in_runs}
use Rattle.path_laws.proofs.Main.{each_is_well_typed}
use Rattle.slot_values.specs.Resolution.{Resolution}
use Rattle.slot_values.specs.Evaluated.{SlotValues, worth}
use Rattle.evaluation_laws.specs.Rows.{row_at}
use Rattle.evaluation_laws.proofs.FrameShown.{Standing, true_flag}
use Rattle.condition_laws.specs.Conditions.{legal_resolutions, property_resolutions}
use Rattle.condition_laws.specs.Breaks.{is_true, all_true, IsLawfulRow, BreaksRow, IsRowBreakOf}
use Rattle.condition_laws.specs.Laws.{LegalByRows, PropertiesByRows, BreaksByRows, LawfulByRows}
use Rattle.condition_laws.proofs.Counted.{AsMany, as_many}
use Rattle.condition_laws.proofs.Frames.{legal_same, AllWorth, properties_worth}

-- ---- lists

some_inner : {A : Type 0} (x y : A) → Some x ≡ Some y → x ≡ y
some_inner {A} x y e = ap back e
  where
    back : Option A → A
    back None = x
    back (Some z) = z

pub value_there : (w : Place → Value) (qs : List Slot) (p : Place) (z : Sort) → slot_sort IsKnown qs p ≡ Some z →
    unwrap_or (slice_get (map (λ q. w (place_of q)) qs) (number_in qs p)) absent ≡ w p
value_there w [] p z e = absurd (none-some z e)
value_there w (q ∷ qs) p z e = go (same_place p (place_of q)) refl e (value_there w qs p z)
  where
    go : (c : Bool) → same_place p (place_of q) ≡ c → cond c (Some q.sort) (slot_sort IsKnown qs p) ≡ Some z →
        (slot_sort IsKnown qs p ≡ Some z → unwrap_or (slice_get (map (λ q. w (place_of q)) qs) (number_in qs p)) absent ≡ w p) →
        unwrap_or (slice_get (w (place_of q) ∷ map (λ q. w (place_of q)) qs) (cond c zero (suc (number_in qs p)))) absent ≡ w p
    go true k d r = ap w (sym (same_places p (place_of q) k))
    go false k d r = r d

-- what has the same number in two lists of one length
abbrev AreFound : {A B : Type 0} → Option A → Option B → Type 0
AreFound None None = Unit {0}
AreFound (Some x) (Some y) = Unit {0}
AreFound None (Some y) = ⊥
AreFound (Some x) None = ⊥

both_found : {A B : Type 0} (xs : List A) (ys : List B) → AsMany xs ys → (k : ℕ) → AreFound (slice_get xs k) (slice_get ys k)
both_found [] [] a zero = tt
both_found [] [] a (suc k) = tt
both_found [] (y ∷ ys) a k = absurd a
both_found (x ∷ xs) [] a k = absurd a
both_found (x ∷ xs) (y ∷ ys) a zero = tt
both_found (x ∷ xs) (y ∷ ys) a (suc k) = both_found xs ys a k

worth_at : (b : Instants) (f : Frame) (row : SlotValues) (t : ℕ) (ps : List Property) (es : List Resolution) → AllWorth b f row t ps es →
    (k : ℕ) (q : Property) (e : Resolution) → slice_get ps k ≡ Some q → slice_get es k ≡ Some e → worth row true e ≡ q.test b f t
worth_at b f row t [] es a zero q e d h = absurd (none-some q d)
worth_at b f row t [] es a (suc k) q e d h = absurd (none-some q d)
worth_at b f row t (p ∷ ps) [] a k q e d h = absurd a
worth_at b f row t (p ∷ ps) (x ∷ es) a zero q e d h =
    subst (λ x. worth row true x ≡ q.test b f t) (some_inner x e h) (subst (λ p. worth row true x ≡ p.test b f t) (some_inner p q d) a.0)
worth_at b f row t (p ∷ ps) (x ∷ es) a (suc k) q e d h = worth_at b f row t ps es a.1 k q e d h

flag_at : (f : Frame) (t : ℕ) (s : List Entry) (ps : List Property) (qs : List Formula) → Agree f t s ps qs → (k : ℕ) (q : Property) →
    slice_get ps k ≡ Some q → (z : Bool) × (q.test throughout f t ≡ flag z)
flag_at f t s [] qs a zero q d = absurd (none-some q d)
flag_at f t s [] qs a (suc k) q d = absurd (none-some q d)
flag_at f t s (p ∷ ps) [] a k q d = absurd a
flag_at f t s (p ∷ ps) (x ∷ qs) a zero q d = (true_in s x, subst (λ p. p.test throughout f t ≡ flag (true_in s x)) (some_inner p q d) a.0)
flag_at f t s (p ∷ ps) (x ∷ qs) a (suc k) q d = flag_at f t s ps qs a.1 k q d

-- ---- a run

module _ (i : Instance) (w : WellTyped IsKnown i) (m : ℕ) (f : Frame) (run : IsRun i m throughout f) where
  abbrev pub standing : (t : ℕ) → t < m → Standing i
  standing t l = record {
    at = number_of i;
    b = throughout;
    f = f;
    course = λ u. values_of (state_of i f u);
    n = m;
    run = run;
    fits = w.tree;
    reads = λ u h. state_reads IsKnown i w f u;
    row = row_at i f t;
    t = t;
    before = l;
    has = λ ks p z h. value_there (λ q. reading i throughout f q t) (slots i) (ks, p) z (w.places ks p z (in_any IsKnown plain ks i p z h));
  }

  legal_at : (t : ℕ) → t < m → meets_all i throughout f t ≡ all_true (row_at i f t) (legal_resolutions i)
  legal_at t l = legal_same i (standing t l) refl

  property_at : (t : ℕ) → t < m → (k : ℕ) (q : Property) (e : Resolution) → slice_get (properties i) k ≡ Some q →
      slice_get (property_resolutions i) k ≡ Some e → worth (row_at i f t) true e ≡ q.test throughout f t
  property_at t l = worth_at throughout f (row_at i f t) t (properties i) (property_resolutions i) (properties_worth i (standing t l) refl)

  abbrev Lawful : ℕ → Type 0
  Lawful = IsLawfulRow (row_at i f) (legal_resolutions i)

  lawful_rows : (t : ℕ) → t < m → IsLawful i throughout f t → Lawful t
  lawful_rows t l h u y = sym (legal_at u (omega (arith, l, y))) ∙ h u y

  lawful_frame : (t : ℕ) → t < m → Lawful t → IsLawful i throughout f t
  lawful_frame t l h u y = legal_at u (omega (arith, l, y)) ∙ h u y

  -- ---- a property

  module _ (k : ℕ) (q : Property) (e : Resolution) (d : slice_get (properties i) k ≡ Some q) (r : slice_get (property_resolutions i) k ≡ Some e) where
    truth_at : (t : ℕ) → t < m → q.test throughout f t ≡ flag (is_true (row_at i f t) e)
    truth_at t l =
        let known = flag_at f t (state_of i f t) (properties i) (system_of i).properties (truths_in_runs i w m f t run l) k q d in
        known.1 ∙ ap flag (sym (ap (λ v. is true v) (property_at t l k q e d r ∙ known.1) ∙ true_flag known.0))

    broken_row : (t : ℕ) → t < m → Breaks i q f t → BreaksRow (row_at i f) (legal_resolutions i) e t
    broken_row t l h = record {
      lawful = lawful_rows t l h.lawful;
      first = λ u y. ap (λ v. is true v) (property_at u (omega (arith, l, y)) k q e d r ∙ h.first u y);
      fails = ap (λ v. is true v) (property_at t l k q e d r ∙ h.fails);
    }

    broken_frame : (t : ℕ) → t < m → BreaksRow (row_at i f) (legal_resolutions i) e t → Breaks i q f t
    broken_frame t l h = record {
      instants = m;
      enough = l;
      run = run;
      lawful = lawful_frame t l h.lawful;
      first = λ u y. truth_at u (omega (arith, l, y)) ∙ ap flag (h.first u y);
      fails = truth_at t l ∙ ap flag h.fails;
    }

  break_of : (k : ℕ) (q : Option Property) (e : Option Resolution) → slice_get (properties i) k ≡ q → slice_get (property_resolutions i) k ≡ e →
      AreFound q e → (hit : Option ℕ) → IsRowBreakOf (row_at i f) (legal_resolutions i) m e hit → IsBreakOf i q f m hit
  break_of k None None d r a hit h = h
  break_of k None (Some e) d r a hit h = absurd a
  break_of k (Some q) None d r a hit h = absurd a
  break_of k (Some q) (Some e) d r a None h = λ t l b. h t l (broken_row k q e d r t l b)
  break_of k (Some q) (Some e) d r a (Some t) h = (h.0, broken_frame k q e d r t h.0 h.1)

-- ---- of checked programs

pub legal_by_rows : LegalByRows
legal_by_rows p c n j m f run t l = legal_at (instance_of p n) (each_is_well_typed p c n j).0 m f run t l

pub properties_by_rows : PropertiesByRows
properties_by_rows p c n j m f run t l k q e d r = property_at (instance_of p n) (each_is_well_typed p c n j).0 m f run t l k q e d r

pub breaks_by_rows : BreaksByRows
breaks_by_rows p c n j m f run hits h k =
    let i : Instance = instance_of p n in
    break_of i (each_is_well_typed p c n j).0 m f run k (slice_get (properties i) k) (slice_get (property_resolutions i) k) refl refl
    (both_found (properties i) (property_resolutions i) (as_many i) k) (hits k) (h k)

pub lawful_by_rows : LawfulByRows
lawful_by_rows p c n j m f run a h =
    let i : Instance = instance_of p n in
    let w : WellTyped IsKnown i = (each_is_well_typed p c n j).0 in
    record {
      most = h.most;
      lawful = λ t l. lawful_frame i w m f run t (let s : t < m = omega (arith, l, h.most) in s) (h.lawful t l);
      lawless = λ t l y z. h.lawless t l y (lawful_rows i w m f run t y z);
    }
