-- Rows of the code and those of the table.
use Rattle.std.proofs.Common.{◌≡◌, ◌||◌, ℕ, zero, suc, List, [], ◌∷◌, Some, Bool, true, false, true≢false, is_none, map, set, unwrap_or, refl, sym, ap}
use Rattle.std.proofs.Math.Path.{fun_ext}
use Rattle.slot_values.specs.declared.slot.SlotValue.{SlotValue}
use Rattle.lus_meaning.specs.Value.{Value, absent}
use Rattle.slot_values.specs.declared.resolved.PastAt.{PastAt}
use Rattle.slot_values.specs.Evaluated.{slot_view, slots_in}
use Rattle.slot_values.specs.Outcome.{if_none}
use Rattle.slot_sources.specs.Source.{Source, always, runs, runs_while, same, given, argument, listed, remembered, starting, held, unread}
use Rattle.slot_sources.specs.Rows.{Choices, outside_now, value_now}
use Rattle.slot_rows.specs.Table.{Row, is_any, is_brought, listed_or, slots_of, unless, with_outcome, with_value}

pub slot_same : (vs : List SlotValue) (k : ℕ) → slots_in vs k ≡ slots_of (map slot_view vs) k
slot_same [] k = refl
slot_same (v ∷ vs) zero = refl
slot_same (v ∷ vs) (suc k) = slot_same vs k

pub slots_same : (vs : List SlotValue) → slots_in vs ≡ slots_of (map slot_view vs)
slots_same vs = fun_ext (slot_same vs)

pub kept_unless : (ps : List PastAt) (v : Value) → unwrap_or (if_none ps v) absent ≡ unless ps v
kept_unless [] v = refl
kept_unless (p ∷ ps) v = refl

pub outside_any : (ps : List PastAt) (v : Value) → is_none (if_none ps v) ≡ is_any ps
outside_any [] v = refl
outside_any (p ∷ ps) v = refl

-- ---- what a slot is given

abbrev pub row_of : List Value → Bool → Row
row_of vs b = record { values = vs; outside = b }

pub same_row : (vs ws : List Value) (a b : Bool) → vs ≡ ws → a ≡ b → row_of vs a ≡ row_of ws b
same_row vs ws a b p q = rw (p, q) refl

-- by its source it is given what that comes to
pub given_is : (c : Choices) (t k : ℕ) (e : Source) (r : Row)
    → with_outcome k (if_none (outside_now (slots_of r.values) e) (value_now (slots_of r.values) (listed_or c t k (slots_of r.values k) e) e)) r
    ≡ with_value c t k (Some e) r
given_is c t k e r =
    let ps = outside_now (slots_of r.values) e in
    let v = value_now (slots_of r.values) (listed_or c t k (slots_of r.values k) e) e in
    same_row _ _ _ _ (ap (set r.values k) (kept_unless ps v)) (ap (λ b. r.outside || b) (outside_any ps v))

-- ---- what was brought to a slot stays

own_set : (vs : List Value) (k : ℕ) → set vs k (slots_of vs k) ≡ vs
own_set [] k = refl
own_set (v ∷ vs) zero = refl
own_set (v ∷ vs) (suc k) = ap (λ ws. v ∷ ws) (own_set vs k)

pub or_none : (b : Bool) → (b || false) ≡ b
or_none true = refl
or_none false = refl

pub or_some : (b : Bool) → (b || true) ≡ true
or_some true = refl
or_some false = refl

pub ruleset noted_outside = (or_none, or_some)

unchanged : (vs : List Value) (b : Bool) (k : ℕ) → row_of vs b ≡ row_of (set vs k (slots_of vs k)) (b || false)
unchanged vs b k = same_row _ _ _ _ (sym (own_set vs k)) (sym (or_none b))

pub stays : (c : Choices) (t k : ℕ) (e : Source) (vs : List Value) (b : Bool) → is_brought e ≡ true →
    row_of vs b ≡ with_value c t k (Some e) (row_of vs b)
stays c t k (remembered w e) vs b h = unchanged vs b k
stays c t k (starting w) vs b h = unchanged vs b k
stays c t k (held j o d) vs b h = unchanged vs b k
stays c t k unread vs b h = unchanged vs b k
stays c t k always vs b h = absurd (true≢false (sym h))
stays c t k (runs w) vs b h = absurd (true≢false (sym h))
stays c t k (runs_while w e) vs b h = absurd (true≢false (sym h))
stays c t k (same j) vs b h = absurd (true≢false (sym h))
stays c t k (given w e) vs b h = absurd (true≢false (sym h))
stays c t k (argument j w e) vs b h = absurd (true≢false (sym h))
stays c t k (listed w) vs b h = absurd (true≢false (sym h))
