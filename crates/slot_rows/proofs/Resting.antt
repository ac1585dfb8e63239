-- What is plain has nothing outside 128 bits, and what is still has no value where its clock is off.
use Rattle.std.proofs.Common.{◌≡◌, ◌⊎◌, inl, inr, ℕ, Bool, true, false, ◌&&◌, ◌||◌, [], Some, None, true≢false, refl, sym, ap}
use Rattle.lus_tree.specs.declared.place.Pos.{Pos}
use Rattle.lus_tree.specs.declared.expression.Operator.{Operator}
use Rattle.lus_meaning.specs.Value.{Value, absent, flag, whole, apply, choose, minus_value, not_value}
use Rattle.lus_evaluation.specs.Past.{past_of_values}
use Rattle.slot_values.specs.Resolution.{Resolution, known, slot, negated, opposite, combined, chosen, started, sampled, merged, latest}
use Rattle.slot_values.specs.Evaluated.{SlotValues, outside, worth}
use Rattle.slot_values.specs.Outcome.{value_within}
use Rattle.slot_values.proofs.Mismatched.{absent_left, flag_absent, whole_absent}
use Rattle.slot_rows.specs.Stillness.{is_plain, is_quiet, is_still}

both_true : (a b : Bool) → (a && b) ≡ true → (a ≡ true) × (b ≡ true)
both_true true b h = (refl, h)
both_true false b h = absurd (true≢false (sym h))

either_true : (a b : Bool) → (a || b) ≡ true → (a ≡ true) ⊎ (b ≡ true)
either_true true b h = inl refl
either_true false b h = inr h

pub plain_within : (s : SlotValues) (on : Bool) (e : Resolution) → is_plain e ≡ true → outside s on e ≡ []
plain_within s on (known v) h = refl
plain_within s on (slot k) h = refl
plain_within s on (negated a) h = plain_within s on a h
plain_within s on (opposite p a) h = absurd (true≢false (sym h))
plain_within s on (combined p o a b) h = absurd (true≢false (sym h))
plain_within s on (chosen a b d) h =
    let q = both_true _ _ h in
    let r = both_true _ _ q.0 in
    rw (plain_within s on a r.0, plain_within s on b r.1, plain_within s on d q.1) refl
plain_within s on (started k a b) h = let q = both_true _ _ h in rw (plain_within s on a q.0, plain_within s on b q.1) refl
plain_within s on (sampled k c a) h = plain_within s _ a h
plain_within s on (merged k a b) h = let q = both_true _ _ h in rw (plain_within s _ a q.0, plain_within s _ b q.1) refl
plain_within s on (latest a b o h') h = plain_within s on a h

-- ---- where its clock is off

record IsOff (s : SlotValues) (e : Resolution) : Type 0 where
  no_value : worth s false e ≡ absent
  within : outside s false e ≡ []

absent_right : (o : Operator) (v : Value) → apply o v absent ≡ absent
absent_right o absent = absent_left o absent
absent_right o (flag b) = flag_absent o b
absent_right o (whole n) = whole_absent o n

past_right : (o : Operator) (v : Value) → past_of_values o v absent ≡ None
past_right o absent = refl
past_right o (flag b) = refl
past_right o (whole n) = refl

neither : (c : Value) → choose c absent absent ≡ absent
neither absent = refl
neither (flag true) = refl
neither (flag false) = refl
neither (whole n) = refl

quiet_from : (s : SlotValues) (e : Resolution) → (is_still e ≡ true → IsOff s e) → (is_still e ≡ true) ⊎ (is_plain e ≡ true) → outside s false e ≡ []
quiet_from s e off (inl h) = (off h).within
quiet_from s e off (inr h) = plain_within s false e h

-- an operation that is not outside where one of its operands is absent
operated : (s : SlotValues) (p : Pos) (o : Operator) (a b : Resolution) → outside s false a ≡ [] → outside s false b ≡ []
    → (worth s false a ≡ absent) ⊎ (worth s false b ≡ absent) → IsOff s (combined p o a b)
operated s p o a b ha hb (inl h) = record {
  no_value = rw h (absent_left o (worth s false b));
  within = rw (ha, hb, h) refl;
}
operated s p o a b ha hb (inr h) = record {
  no_value = rw h (absent_right o (worth s false a));
  within = rw (ha, hb, h, past_right o (worth s false a)) refl;
}

chosen_off : (s : SlotValues) (a b d : Resolution) → outside s false a ≡ [] → IsOff s b → IsOff s d → IsOff s (chosen a b d)
chosen_off s a b d ha ib id = record {
  no_value = rw (ib.no_value, id.no_value) (neither (worth s false a));
  within = rw (ha, ib.within, id.within) refl;
}

started_off : (s : SlotValues) (k : ℕ) (a b : Resolution) → IsOff s a → IsOff s b → IsOff s (started k a b)
started_off s k a b ia ib = record { no_value = rw (ia.no_value, ib.no_value) (neither (s k)); within = rw (ia.within, ib.within) refl }

one_off : (s : SlotValues) (a b : Resolution) → (is_still a ≡ true → IsOff s a) → (is_still b ≡ true → IsOff s b)
    → (is_still a ≡ true) ⊎ (is_still b ≡ true) → (worth s false a ≡ absent) ⊎ (worth s false b ≡ absent)
one_off s a b fa fb (inl h) = inl (fa h).no_value
one_off s a b fa fb (inr h) = inr (fb h).no_value

still_off : (s : SlotValues) (e : Resolution) → is_still e ≡ true → IsOff s e
still_off s (known v) h = record { no_value = refl; within = refl }
still_off s (slot k) h = record { no_value = refl; within = refl }
still_off s (negated a) h = let i = still_off s a h in record { no_value = ap not_value i.no_value; within = i.within }
still_off s (opposite p a) h =
    let i = still_off s a h in
    record { no_value = ap minus_value i.no_value; within = rw (i.within, i.no_value) refl }
still_off s (combined p o a b) h =
    let q = both_true (is_quiet a && is_quiet b) (is_still a || is_still b) h in
    let r = both_true (is_quiet a) (is_quiet b) q.0 in
    operated s p o a b (quiet_from s a (still_off s a) (either_true (is_still a) (is_plain a) r.0))
    (quiet_from s b (still_off s b) (either_true (is_still b) (is_plain b) r.1))
    (one_off s a b (still_off s a) (still_off s b) (either_true (is_still a) (is_still b) q.1))
still_off s (chosen a b d) h =
    let q = both_true (is_quiet a && is_still b) (is_still d) h in
    let r = both_true (is_quiet a) (is_still b) q.0 in
    chosen_off s a b d (quiet_from s a (still_off s a) (either_true (is_still a) (is_plain a) r.0)) (still_off s b r.1) (still_off s d q.1)
still_off s (started k a b) h = let q = both_true _ _ h in started_off s k a b (still_off s a q.0) (still_off s b q.1)
still_off s (sampled k c a) h = absurd (true≢false (sym h))
still_off s (merged k a b) h = absurd (true≢false (sym h))
still_off s (latest a b o h') h = record { no_value = refl; within = quiet_from s a (still_off s a) (either_true (is_still a) (is_plain a) h) }

-- ---- as it is evaluated

pub off_no_value : (s : SlotValues) (on : Bool) (e : Resolution) → on ≡ false → is_still e ≡ true → worth s on e ≡ absent
off_no_value s on e f h = rw f (still_off s e h).no_value

pub off_within : (s : SlotValues) (on : Bool) (e : Resolution) → on ≡ false → is_still e ≡ true → outside s on e ≡ []
off_within s on e f h = rw f (still_off s e h).within

pub off_comes_to : (s : SlotValues) (on : Bool) (e : Resolution) → on ≡ false → is_still e ≡ true → value_within s on e ≡ Some absent
off_comes_to s on e f h = rw (off_within s on e f h, off_no_value s on e f h) refl
