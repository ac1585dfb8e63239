-- The theory step that is made of what a refutation uses.
use Rattle.std.specs.Prelude.{ℕ, zero, suc, ◌≡◌, ◌+◌, ◌<◌, List, [], ◌∷◌, ◌++◌, length, map, take, get_or, refl}
use Rattle.std.proofs.Common.{◌∙◌, ap, subst, arith}
use lib.IntN.{ℤ, pos}
use Rattle.proof_steps.specs.declared.Source.{Source}
use Rattle.proof_steps.specs.declared.Source.TheVariants as s
use Rattle.proof_steps.specs.View.{theory}
use Rattle.line_laws.specs.Lines.{Part}
use Rattle.line_laws.specs.Steps.{own_lines, line_parts, denied, conflict_step}
use Rattle.smt_solver.specs.declared.numbers.steps.Used.{Used}
use Rattle.smt_solver.specs.Used.{used_of, denied_by, literal_line, own_lines_by, line_parts_by, sum_by}

same : (n : ℕ) → n ≡ n + 0
same n = omega arith

next : (n i : ℕ) → suc n + i ≡ n + suc i
next n i = omega arith

lines-next : (n i : ℕ) (used : List Used) (d : Used) → i < length used
    → own_lines_by n (take (suc i) used)
    ≡ own_lines_by n (take i used) ++ literal_line (n + i) (get_or used i d).divisor ∷ []
lines-next n i [] d h = absurd (omega arith)
lines-next n zero (u ∷ rest) d h = ap (λ m. literal_line m u.divisor ∷ []) (same n)
lines-next n (suc i) (u ∷ rest) d h =
    ap (λ ls. literal_line n u.divisor ∷ ls)
    (lines-next (suc n) i rest d (omega arith)
    ∙ ap (λ m. own_lines_by (suc n) (take i rest) ++ literal_line m (get_or rest i d).divisor ∷ []) (next n i))

parts-next : (n i : ℕ) (used : List Used) (d : Used) → i < length used
    → line_parts_by n (take (suc i) used)
    ≡ line_parts_by n (take i used) ++ ((get_or used i d).multiplier, s.Line (n + i)) ∷ []
parts-next n i [] d h = absurd (omega arith)
parts-next n zero (u ∷ rest) d h =
    ap (λ m. the_part u.multiplier m ∷ []) (same n) where
      the_part : ℤ → ℕ → ℤ × Source
      the_part z m = (z, s.Line m)
parts-next n (suc i) (u ∷ rest) d h =
    ap (λ (ls : List (ℤ × Source)). (u.multiplier, s.Line n) ∷ ls)
    (parts-next (suc n) i rest d (omega arith)
    ∙ ap (λ m. line_parts_by (suc n) (take i rest) ++ ((get_or rest i d).multiplier, s.Line m) ∷ []) (next n i))

up : (i : ℕ) → i + 1 ≡ suc i
up i = omega arith

other-way : (i : ℕ) → 1 + i ≡ i + 1
other-way i = omega arith

-- one more line, and one more part
pub lines-more : (i : ℕ) (used : List Used) (d : Used) → i < length used
    → own_lines_by 1 (take (i + 1) used)
    ≡ own_lines_by 1 (take i used) ++ literal_line (i + 1) (get_or used i d).divisor ∷ []
lines-more i used d h =
    ap (λ k. own_lines_by 1 (take k used)) (up i) ∙ lines-next 1 i used d h
    ∙ ap (λ m. own_lines_by 1 (take i used) ++ literal_line m (get_or used i d).divisor ∷ []) (other-way i)

pub parts-more : (i : ℕ) (used : List Used) (d : Used) → i < length used
    → line_parts_by 1 (take (i + 1) used)
    ≡ line_parts_by 1 (take i used) ++ ((get_or used i d).multiplier, s.Line (i + 1)) ∷ []
parts-more i used d h =
    ap (λ k. line_parts_by 1 (take k used)) (up i) ∙ parts-next 1 i used d h
    ∙ ap (λ m. line_parts_by 1 (take i used) ++ ((get_or used i d).multiplier, s.Line m) ∷ []) (other-way i)

all-denied : (parts : List Part) → map denied_by (map used_of parts) ≡ map denied parts
all-denied [] = refl
all-denied (p ∷ rest) = ap (λ ls. denied p ∷ ls) (all-denied rest)

all-lines : (n : ℕ) (parts : List Part) → own_lines_by n (map used_of parts) ≡ own_lines n parts
all-lines n [] = refl
all-lines n (p ∷ rest) = ap (λ ls. literal_line n (used_of p).divisor ∷ ls) (all-lines (suc n) rest)

all-parts : (n : ℕ) (parts : List Part) → line_parts_by n (map used_of parts) ≡ line_parts n parts
all-parts n [] = refl
all-parts n (p ∷ rest) = ap (λ (ls : List (ℤ × Source)). (p.multiplier, s.Line n) ∷ ls) (all-parts (suc n) rest)

-- it is the step of the parts
pub step-same : (parts : List Part) (used : List Used) → map used_of parts ≡ used
    → theory (map denied_by used) (own_lines_by 1 used ++ sum_by used ∷ []) ≡ conflict_step parts
step-same parts used e =
    subst (λ us. theory (map denied_by us) (own_lines_by 1 us ++ sum_by us ∷ []) ≡ conflict_step parts) e
    (ap (λ c. theory c (own_lines_by 1 (map used_of parts) ++ sum_by (map used_of parts) ∷ [])) (all-denied parts)
    ∙ ap (λ ls. theory (map denied parts) (ls ++ sum_by (map used_of parts) ∷ [])) (all-lines 1 parts)
    ∙ ap (λ ps. theory (map denied parts) (own_lines 1 parts ++ record { parts = ps; divisor = pos 1 } ∷ []))
    (all-parts 1 parts))
