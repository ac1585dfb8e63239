-- What is told, from instant to instant.
use Rattle.std.proofs.Common.{◌≡◌, ℕ, zero, suc, ◌<◌, ◌+◌, Bool, true, false, ◌||◌, List, Option, None, Some, slice_get, refl, ap, ◌∙◌, sym, subst, arith, IfErr, Result, Err}
use Rattle.std.proofs.lemmas.Result.{err_from_is_err_and}
use Rattle.std.specs.Result.{IsErrAnd}
use Rattle.std.proofs.Math.Logic.{◌⊎◌, inl, inr}
use Rattle.std.proofs.lemmas.Bool.{true≢false, cases_order}
use Rattle.slot_values.specs.Evaluated.{SlotValues}
use Rattle.slot_replay.specs.declared.fault.ReplayFault.{ReplayFault}
use Rattle.slot_replay.specs.declared.fault.ReplayFault.TheVariants as faults
use Rattle.slot_rows.specs.Table.{Row, row_in, value_in}
use Rattle.slot_replay.specs.Conditions.{Conditions, any_outside}
use Rattle.slot_replay.specs.Parts.{Part, pasts_of}
use Rattle.slot_replay.specs.Answer.{AllGoOn, GoesOn, GoesThrough, IsFirstTold, IsKept, IsKeptAfter, IsPast, IsTold, Seen, first_kept, is_outside, met_before, met_outside, seen_in}
use Rattle.slot_replay.specs.Marks.{Marks, marks_after, marks_at}

pub at_err : {T E : Type 0} (P : E → Type 0) (r : Result T E) (e : E) → IsErrAnd r (λ x. x ≡ e) → P e → IfErr r P
at_err P r e h p =
    let (y, u, w) = err_from_is_err_and r h in
    subst (λ (z : Result _ _). IfErr z P) (sym (u ∙ ap Err w)) p

-- ---- the parts that are kept

-- at no instant before something was outside there is anything to tell
none_before : (s : Seen) (q : Conditions) (t : ℕ) → met_before s q t ≡ false → (u : ℕ) → u < t → met_outside s q u ≡ false
none_before s q zero e u l = absurd (omega (arith, l))
none_before s q (suc t) e u l = go (cases_order u t) (none_before s q t (first (met_before s q t) (is_outside s q t) e) u)
  where
    first : (a b : Bool) → (a || b) ≡ false → a ≡ false
    first true b e = absurd (true≢false e)
    first false b e = refl

    go : (u ≡ t) ⊎ ((u < t) ⊎ (t < u)) → (u < t → met_outside s q u ≡ false) → met_outside s q u ≡ false
    go (inl i) earlier = subst (λ t. met_outside s q t ≡ false) (sym i) e
    go (inr (inl i)) earlier = earlier i
    go (inr (inr i)) earlier = absurd (omega (arith, l, i))

-- the parts that are kept behind an instant, at which there may be one to tell
abbrev IsKeptHere : Seen → Conditions → (List Part → Type 0) → ℕ → Option (List Part) → Type 0
IsKeptHere s q AreParts t None = met_outside s q t ≡ false
IsKeptHere s q AreParts t (Some ps) = (met_outside s q t ≡ true) × AreParts ps × AllGoOn s q ps t

pub kept_here : (s : Seen) (q : Conditions) (AreParts : List Part → Type 0) (t : ℕ) (old new : Option (List Part)) (b : Bool) → b ≡ is_outside s q t
    → IsKept s q AreParts t old → IsKeptAfter old b AreParts new → IsKeptHere s q AreParts t new
kept_here s q AreParts t (Some ps) new b here before after =
    subst (IsKeptHere s q AreParts t) (sym after) (ap (λ m. m || is_outside s q t) before.0, before.1, before.2)
kept_here s q AreParts t None new false here before after = subst (IsKeptHere s q AreParts t) (sym after) (rw (before, sym here) refl)
kept_here s q AreParts t None None true here before after = absurd after
kept_here s q AreParts t None (Some ps) true here before after =
    (rw (before, sym here) refl, after, λ u l met. absurd (true≢false (sym met ∙ none_before s q t before u l)))

pub told_here : (s : Seen) (q : Conditions) (AreParts : List Part → Type 0) (t : ℕ) (z : SlotValues) (new : Option (List Part)) (e : ReplayFault)
    → z ≡ s.values t → IsKeptHere s q AreParts t new → IsTold (first_kept z new) t e → IsPast s q AreParts (suc t) e
told_here s q AreParts t z None (faults.Past at u past) same kept told = cc
told_here s q AreParts t z (Some ps) (faults.Past at u past) same kept told = record {
  parts = ps;
  are_parts = kept.1;
  told = subst (λ u. IsFirstTold s q ps (suc t) u (record { at = at; past = past })) (sym told.0) record {
    below = omega arith;
    met = kept.0;
    first = subst (λ z. slice_get (pasts_of z ps) 0 ≡ Some (record { at = at; past = past })) same told.1;
    earlier = kept.2;
  };
}
told_here s q AreParts t z new faults.Memory same kept told = tt

goes_further : (s : Seen) (q : Conditions) (ps : List Part) (t : ℕ) → AllGoOn s q ps t → GoesOn s q ps t → AllGoOn s q ps (suc t)
goes_further s q ps t before here u l = go (cases_order u t)
  where
    go : (u ≡ t) ⊎ ((u < t) ⊎ (t < u)) → GoesOn s q ps u
    go (inl e) = subst (λ t. GoesOn s q ps t) (sym e) here
    go (inr (inl h)) = before u h
    go (inr (inr h)) = absurd (omega (arith, l, h))

pub kept_on : (s : Seen) (q : Conditions) (AreParts : List Part → Type 0) (t : ℕ) (z : SlotValues) (new : Option (List Part)) → z ≡ s.values t
    → IsKeptHere s q AreParts t new → first_kept z new ≡ None → IsKept s q AreParts (suc t) new
kept_on s q AreParts t z None same kept none = kept
kept_on s q AreParts t z (Some ps) same kept none =
    (kept.0, kept.1, goes_further s q ps t kept.2 (λ met. subst (λ z. slice_get (pasts_of z ps) 0 ≡ None) same none))

-- ---- from instant to instant

pub told_within : (s : Seen) (q : Conditions) (AreParts : List Part → Type 0) (n t : ℕ) (e : ReplayFault) → t < n → IsPast s q AreParts (suc t) e
    → IsPast s q AreParts n e
told_within s q AreParts n t (faults.Past at u past) l h = record {
  parts = h.parts;
  are_parts = h.are_parts;
  told = let m = h.told.below in record { below = omega (arith, l, m); met = h.told.met; first = h.told.first; earlier = h.told.earlier };
}
told_within s q AreParts n t faults.Memory l h = tt

pub kept_further : (s : Seen) (q : Conditions) (AreParts : List Part → Type 0) (t : ℕ) (new : Option (List Part)) → IsKept s q AreParts (suc t) new
    → IsKept s q AreParts (t + 1) new
kept_further s q AreParts t new h = let z : suc t ≡ t + 1 = omega arith in subst (λ n. IsKept s q AreParts n new) z h

pub goes_through : (s : Seen) (q : Conditions) (AreParts : List Part → Type 0) (n : ℕ) (o : Option (List Part)) → IsKept s q AreParts n o
    → GoesThrough s q AreParts n
goes_through s q AreParts n None h met = absurd (true≢false (sym met ∙ h))
goes_through s q AreParts n (Some ps) h met = record { parts = ps; are_parts = h.1; going_on = h.2 }

pub marks_further : (s : ℕ → SlotValues) (q : Conditions) (t : ℕ) (m u : Marks) → m ≡ marks_at s q t → u ≡ marks_after (s t) q t m
    → u ≡ marks_at s q (t + 1)
marks_further s q t m u e f =
    let z : suc t ≡ t + 1 = omega arith in subst (λ n. u ≡ marks_at s q n) z (f ∙ ap (marks_after (s t) q t) e)

pub met_here : (rs : List Row) (q : Conditions) (t : ℕ) (z : SlotValues) (a b : Bool) → z ≡ value_in rs t → a ≡ (row_in rs t).outside
    → b ≡ (any_outside z q.legal || any_outside z q.properties) → (a || b) ≡ is_outside (seen_in rs) q t
met_here rs q t z a b same e f =
    rw (e, f) (ap (λ z. (row_in rs t).outside || (any_outside z q.legal || any_outside z q.properties)) same)

pub marks_here : (q : Conditions) (t : ℕ) (m u : Marks) (z w : SlotValues) → z ≡ w → u ≡ marks_after z q t m → u ≡ marks_after w q t m
marks_here q t m u z w same e = e ∙ ap (λ z. marks_after z q t m) same
