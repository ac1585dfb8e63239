-- Slots without values, as many as are needed.
use Rattle.std.proofs.Common.{◌≡◌, ℕ, zero, suc, ◌+◌, ◌<◌, ◌≤◌, max, List, [], ◌∷◌, ◌++◌, length, Option, None, refl, sym, ap, ◌∙◌, arith}
use Rattle.std.specs.Borrow.{Bor}
use Rattle.std.specs.List.{AllByRecursion}
use Rattle.lus_meaning.specs.declared.trace.PlacedValue.{PlacedValue as CodePlacedValue}
use Rattle.lus_meaning.proofs.Lists.{map_append}
use Rattle.trace_fits.specs.Slotted.{Slotted}
use Rattle.trace_fits.specs.Filling.{no_seats, seat_at, seats_needed}
use Rattle.trace_fits.specs.Views.{seat_view, seats_view}

last_none : (n : ℕ) → no_seats n ++ None ∷ [] ≡ no_seats (n + 1)
last_none zero = refl
last_none (suc n) = let e : suc n + 1 ≡ suc (n + 1) = omega arith in ap (λ l. None ∷ l) (last_none n) ∙ ap no_seats (sym e)

pub one_more : (old new : List (Option (Bor (List CodePlacedValue)))) (n : ℕ) → seats_view old ≡ no_seats n → new ≡ old ++ None ∷ []
    → seats_view new ≡ no_seats (n + 1)
one_more old new n e f = ap seats_view f ∙ map_append seat_view old (None ∷ []) ∙ ap (λ l. l ++ None ∷ []) e ∙ last_none n

pub none_seated : (n k : ℕ) → seat_at (no_seats n) k ≡ None
none_seated zero k = refl
none_seated (suc n) zero = refl
none_seated (suc n) (suc k) = none_seated n k

pub as_many : (n : ℕ) → length (no_seats n) ≡ n
as_many zero = refl
as_many (suc n) = ap suc (as_many n)

at_least : (n : ℕ) (ss : List Slotted) → n ≤ seats_needed n ss
at_least n [] = omega arith
at_least n (s ∷ ss) = let r : max n (s.slot + 1) ≤ seats_needed (max n (s.slot + 1)) ss = at_least (max n (s.slot + 1)) ss in omega (arith, r)

pub room_for : (n : ℕ) (ss : List Slotted) → AllByRecursion (λ s. s.slot < seats_needed n ss) ss
room_for n [] = tt
room_for n (s ∷ ss) =
    let r : max n (s.slot + 1) ≤ seats_needed (max n (s.slot + 1)) ss = at_least (max n (s.slot + 1)) ss in
    (omega (arith, r), room_for (max n (s.slot + 1)) ss)
