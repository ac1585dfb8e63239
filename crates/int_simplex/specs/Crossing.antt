-- Two rows crossed, and what is left without a common factor.
use Prim.Native.Nat.{◌∣◌}
use Rattle.std.specs.Prelude.{ℕ, ◌≡◌, ◌≢◌, ◌⊎◌, List, map, Some, Result, Ok, Err, slice_get, unsigned_abs, false}
use lib.IntN.{ℤ, pos, ◌-ℤ◌, ◌*ℤ◌}
use Rattle.kind_num.specs.Exact.{within}
use Rattle.kind_num.specs.declared.Past.{Past}
use Rattle.kind_num.specs.declared.Op.TheVariants.{Mul, Sub}
use Rattle.proof_steps.specs.Rows.{entry}
use Rattle.int_simplex.specs.Sparse.{IsSparse}
use Rattle.int_simplex.specs.declared.trouble.Trouble.{Trouble}
use Rattle.int_simplex.specs.declared.trouble.Trouble.TheVariants as t

-- g divides the numbers of the row, and each number that divides them all divides g
pub record IsContent (row : List (ℕ × ℤ)) (g : ℕ) : Type 0 where
  pub divides : (k : ℕ) (t : ℕ × ℤ) → slice_get row k ≡ Some t → g ∣ unsigned_abs t.1
  pub greatest : (d : ℕ) → ((k : ℕ) (t : ℕ × ℤ) → slice_get row k ≡ Some t → d ∣ unsigned_abs t.1) → d ∣ g

abbrev pub HasEntry : List (ℕ × ℤ) → Type 0
HasEntry row = (k : ℕ) × (t : ℕ × ℤ) × (slice_get row k ≡ Some t) × (t.1 ≢ pos 0)

abbrev pub scaled : ℕ → ℕ × ℤ → ℕ × ℤ
scaled g t = (t.0, pos g *ℤ t.1)

-- one of the two products is outside 128 bits, or their difference
abbrev pub IsCrossPast : ℤ → ℤ → ℤ → ℤ → Past → Type 0
IsCrossPast p q a b past =
    ((past ≡ record { op = Mul; left = p; right = a }) × (within (p *ℤ a) ≡ false))
    ⊎ (((past ≡ record { op = Mul; left = q; right = b }) × (within (q *ℤ b) ≡ false))
    ⊎ ((past ≡ record { op = Sub; left = p *ℤ a; right = q *ℤ b }) × (within (p *ℤ a -ℤ q *ℤ b) ≡ false)))

abbrev pub IsCross : ℤ → ℤ → ℤ → ℤ → Result ℤ Past → Type 0
IsCross p q a b (Ok z) = z ≡ p *ℤ a -ℤ q *ℤ b
IsCross p q a b (Err past) = IsCrossPast p q a b past

-- p times a row less q times another
abbrev pub crossed : ℤ → ℤ → List (ℕ × ℤ) → List (ℕ × ℤ) → ℕ → ℤ
crossed p q row other c = p *ℤ entry row c -ℤ q *ℤ entry other c

pub record HasEntries (n : ℕ) (f : ℕ → ℤ) (row : List (ℕ × ℤ)) : Type 0 where
  pub sparse : IsSparse n row
  pub same : (c : ℕ) → entry row c ≡ f c

-- the operation is one over the two entries of a column
abbrev pub IsRowPast : ℤ → ℤ → List (ℕ × ℤ) → List (ℕ × ℤ) → Trouble → Type 0
IsRowPast p q row other t.Memory = Unit
IsRowPast p q row other (t.Past past) = (c : ℕ) × IsCrossPast p q (entry row c) (entry other c) past

-- new is the row without its common factor
pub record IsReduced (row new : List (ℕ × ℤ)) : Type 0 where
  pub factor : ℕ
  pub factor_not_zero : factor ≢ 0
  pub multiples : map (scaled factor) new ≡ row
  pub coprime : (d : ℕ) → ((k : ℕ) (t : ℕ × ℤ) → slice_get new k ≡ Some t → d ∣ unsigned_abs t.1) → d ≡ 1

-- what a pivot makes of a row with these entries: a multiple of it less one of the leaving row,
-- without a common factor
pub record IsCrossed (c : ℕ) (l e new : ℕ → ℤ) : Type 0 where
  pub factor : ℤ
  pub factor_not_zero : factor ≢ pos 0
  pub entries : (k : ℕ) → l c *ℤ e k -ℤ e c *ℤ l k ≡ factor *ℤ new k
  pub coprime : (d : ℕ) → ((k : ℕ) → d ∣ unsigned_abs (new k)) → d ≡ 1

-- p times the row less q times the other, without its common factor; zeros alone stay. The column is gone
pub record IsPivoted (n c : ℕ) (row other new : List (ℕ × ℤ)) : Type 0 where
  pub sparse : IsSparse n new
  pub gone : entry new c ≡ pos 0
  pub crossing : (k : ℕ) → crossed (entry other c) (entry row c) row other k ≢ pos 0
      → IsCrossed c (entry other) (entry row) (entry new)
