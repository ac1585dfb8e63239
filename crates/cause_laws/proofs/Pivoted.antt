-- True stops of pivots.
use Rattle.std.specs.Prelude.{ℕ, zero, suc, ◌≡◌, ◌+◌, ◌*◌, ◌<◌, ◌≤◌, ◌^◌, length}
use Rattle.std.proofs.Common.{subst, arith}
use Rattle.proof_steps.specs.Rows.{rows_of, columns_of}
use Rattle.cause_laws.specs.Laws.{PivotsAreFew, BasesBoundPivots}
use Rattle.cause_laws.proofs.Crossed.{checks-end}

pub pivots-few : PivotsAreFew
pivots-few f budgets start pairs h =
    subst (λ n. suc n < 3 ^ columns_of f) h.1
    (checks-end (rows_of f) (columns_of f) start h.2.is_basis (suc start.pivots) h.2.more)

once-or-more : (m n : ℕ) → 0 < m → n ≤ m * n
once-or-more zero n h = absurd (omega arith)
once-or-more (suc m) n h = let e : suc m * n ≡ m * n + n = grind arith in omega arith

pub bases-bound : BasesBoundPivots
bases-bound f budgets bases start pairs all h =
    let few : suc budgets.pivots < 3 ^ columns_of f = pivots-few f budgets start pairs h in
    let there = all start.basis h.2.is_basis in
    let l = there.1.1 in
    let some : 0 < length bases = omega arith in
    let more : 3 ^ columns_of f ≤ length bases * 3 ^ columns_of f = once-or-more (length bases) (3 ^ columns_of f) some in
    omega arith
