-- What is told of entries, when all are.
use Rattle.std.specs.Prelude.{ℕ, zero, suc, ◌≡◌, ◌≤◌, ◌++◌, List, [], ◌∷◌, length, drop, take, min, refl}
use Rattle.std.proofs.Common.{ap, sym, ◌∙◌, arith}
use Rattle.board_core.specs.declared.posted.Posted.{Posted}
use Rattle.board_core.specs.View.{Told, told_from}
use Rattle.board_core.specs.Books.{posted_view, history_in}

none-left : (n : ℕ) (xs : List Posted) → length xs ≤ n → drop n xs ≡ []
none-left zero [] l = refl
none-left zero (x ∷ xs) l = absurd (omega arith)
none-left (suc n) [] l = refl
none-left (suc n) (x ∷ xs) l = none-left n xs (omega arith)

and-none : (xs : List Told) → xs ++ [] ≡ xs
and-none [] = refl
and-none (x ∷ xs) = ap (λ l. x ∷ l) (and-none xs)

drop-in : (n : ℕ) (xs : List Posted) → history_in (drop n xs) ≡ drop n (history_in xs)
drop-in zero xs = refl
drop-in (suc n) [] = refl
drop-in (suc n) (x ∷ xs) = drop-in n xs

pub all-told : (xs : List Posted) (front place : ℕ) (news : List Told) → length xs ≤ place
    → news ++ told_from place (history_in (drop place xs)) ≡ told_from front (history_in (drop front xs))
    → news ≡ told_from front (drop front (history_in xs))
all-told xs front place news l e =
    sym (and-none news)
    ∙ (ap (λ r. news ++ told_from place (history_in r)) (sym (none-left place xs l))
    ∙ (e ∙ ap (told_from front) (drop-in front xs)))

take-in : (n : ℕ) (xs : List Posted) → history_in (take n xs) ≡ take n (history_in xs)
take-in zero xs = refl
take-in (suc n) [] = refl
take-in (suc n) (x ∷ xs) = ap (λ l. posted_view x ∷ l) (take-in n xs)

all-taken : (n k : ℕ) (xs : List Posted) → k ≡ min (length xs) n → take k xs ≡ take n xs
all-taken zero k xs e = ap (λ i. take i xs) (none (length xs) k e) where
  none : (n k : ℕ) → k ≡ min n 0 → k ≡ 0
  none n k e = omega arith
all-taken (suc n) zero [] e = refl
all-taken (suc n) (suc k) [] e = refl
all-taken (suc n) zero (x ∷ xs) e = absurd (omega arith)
all-taken (suc n) (suc k) (x ∷ xs) e = ap (λ l. x ∷ l) (all-taken n k xs (omega arith))

pub front-in : (xs ys : List Posted) (n k : ℕ) → ys ≡ xs → k ≡ min (length xs) n
    → history_in (take k ys) ≡ take n (history_in xs)
front-in xs ys n k e f =
    ap (λ l. history_in (take k l)) e ∙ (ap history_in (all-taken n k xs f) ∙ take-in n xs)
