-- The order of faults.
use Rattle.std.proofs.Common.{◌≡◌, ℕ, ◌==◌, Bool, true, false, ◌&&◌, ◌||◌, arith}
use Rattle.std.specs.Prelude.{nat_lt}
use Rattle.std.proofs.lemmas.Bool.Decides.{nat_tests}
use Rattle.lus_tree.specs.Reason.{Refused}
use Rattle.lus_meaning.specs.Faults.{number_of, comes_before}

-- by line, column and number
abbrev test : ℕ → ℕ → ℕ → ℕ → ℕ → ℕ → Bool
test l c n m d k = (nat_lt l m || ((l == m) && nat_lt c d)) || (((l == m) && (c == d)) && nat_lt n k)

not_itself : (l c n : ℕ) → test l c n l c n ≡ false
not_itself l c n = grind (arith, nat_tests)

pub never_before_itself : (r : Refused) → comes_before r r ≡ false
never_before_itself r = not_itself r.at.line r.at.column (number_of r.reason)

through : (l c n m d k p e j : ℕ) → test m d k p e j ≡ true → test l c n p e j ≡ false → test l c n m d k ≡ false
through l c n m d k p e j a b = grind (arith, nat_tests)

-- what is not before the later of two is not before the earlier one
pub not_before_earlier : (s r q : Refused) → comes_before r q ≡ true → comes_before s q ≡ false → comes_before s r ≡ false
not_before_earlier s r q =
    through s.at.line s.at.column (number_of s.reason) r.at.line r.at.column (number_of r.reason) q.at.line q.at.column (number_of q.reason)
