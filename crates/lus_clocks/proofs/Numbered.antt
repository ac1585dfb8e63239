-- What is written at a number.
use Rattle.std.proofs.Common.{◌≡◌, ℕ, zero, suc, ◌<◌, ◌==◌, Bool, true, false, List, [], ◌∷◌, length, set, refl, ap, ◌∙◌, sym, subst, arith, Option, Some, None, is_none}
use Rattle.std.proofs.lemmas.Bool.{true≢false, false≢true, eqb-true, eq-eqb}
use Rattle.lus_meaning.specs.Scene.{Clock}
use Rattle.lus_meaning.specs.ClockFaults.{or_else}
use Rattle.lus_clocks.specs.declared.cells.Cell.{Cell}
use Rattle.lus_clocks.specs.Cells.{cell_view, cell_at}
use Rattle.lus_clocks.specs.Sought.{if_there}
use Rattle.lus_clocks.proofs.Elses.{or_else_none}

same_place : (cs : List Cell) (n : ℕ) (c : Cell) → n < length cs → cell_at (set cs n c) n ≡ cell_view c
same_place [] n c l = absurd (omega arith)
same_place (x ∷ cs) zero c l = refl
same_place (x ∷ cs) (suc n) c l = same_place cs n c (omega arith)

other_place : (cs : List Cell) (n k : ℕ) (c : Cell) → (n ≡ k → Prim.⊥) → cell_at (set cs n c) k ≡ cell_at cs k
other_place [] n k c h = refl
other_place (x ∷ cs) zero zero c h = absurd (h refl)
other_place (x ∷ cs) zero (suc k) c h = refl
other_place (x ∷ cs) (suc n) zero c h = refl
other_place (x ∷ cs) (suc n) (suc k) c h = other_place cs n k c (λ e. h (ap suc e))

fresh : (o : Option Clock) (q : Clock) → is_none o ≡ true → or_else o (Some q) ≡ Some q
fresh None q h = refl
fresh (Some r) q h = absurd (false≢true h)

pub written : (cs : List Cell) (n : ℕ) (c : Cell) (q : Clock) → n < length cs → cell_view c ≡ Some q → is_none (cell_at cs n) ≡ true → (k : ℕ)
    → cell_at (set cs n c) k ≡ or_else (cell_at cs k) (if_there (n == k) q)
written cs n c q l e u k = go (n == k) refl
  where
    go : (b : Bool) → (n == k) ≡ b → cell_at (set cs n c) k ≡ or_else (cell_at cs k) (if_there b q)
    go true d =
        subst (λ j. cell_at (set cs n c) j ≡ or_else (cell_at cs j) (Some q)) (eqb-true n k d)
        (same_place cs n c l ∙ e ∙ sym (fresh (cell_at cs n) q u))
    go false d = other_place cs n k c (λ i. true≢false (sym (eq-eqb n k i) ∙ d)) ∙ sym (or_else_none (cell_at cs k))
