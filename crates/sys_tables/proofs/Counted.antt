-- Numbers from one on.
use Rattle.std.proofs.Common.{◌≡◌, ℕ, suc, ◌+◌, ◌-◌, ◌<◌, ◌∷◌, ap, ◌∙◌, arith}
use Rattle.lus_tree.specs.Numbers.{counting}

pub counting_step : (k e : ℕ) → k < e → counting k (e - k) ≡ k ∷ counting (k + 1) (e - (k + 1))
counting_step k e l =
    let many : e - k ≡ suc (e - (k + 1)) = omega arith in
    let next : suc k ≡ k + 1 = omega arith in
    ap (counting k) many ∙ ap (λ j. k ∷ counting j (e - (k + 1))) next
