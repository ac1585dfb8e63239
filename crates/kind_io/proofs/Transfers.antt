-- What a reader gave up to a limit, and what a writer took.
use Rattle.std.proofs.Common.{◌≡◌, ◌≤◌, ◌+◌, ℕ, List, [], ◌++◌, Option, Some, None, IfSome, length, take, drop, ◌-◌, take-append-drop, append_assoc, min, sym, ap, ◌∙◌, arith, subst}
use Rattle.std.specs.Option.{option_map}
use Rattle.std.proofs.lemmas.List.{length-take, take_all, take_rest}

-- a reader that gave less than it might gave all that was left
pub gave_all : (left : Option (List ℕ)) (most : ℕ) (old read : List ℕ) → old ≡ []
    → IfSome (option_map (take (most + 1)) left) (λ xs. read ≡ old ++ xs) → length read ≤ most → IfSome left (λ xs. read ≡ xs)
gave_all None most old read e gave few = tt
gave_all (Some xs) most old read e gave few =
    let front : read ≡ take (most + 1) xs = gave ∙ ap (λ (l : List ℕ). l ++ take (most + 1) xs) e in
    let count : min (most + 1) (length xs) ≤ most = subst (λ n. n ≤ most) (ap length front ∙ length-take (most + 1) xs) few in
    front ∙ take_all (most + 1) xs (omega (arith, count))

-- what was taken goes from the front of the rest to the end of what is done
pub front_moves : (all done rest : List ℕ) (n : ℕ) → all ≡ done ++ rest → all ≡ (done ++ take n rest) ++ take (length rest - n) (drop n rest)
front_moves all done rest n e =
    e ∙ ap (λ (l : List ℕ). done ++ l) (sym (take-append-drop n rest)) ∙ sym (append_assoc done (take n rest) (drop n rest))
    ∙ ap (λ (l : List ℕ). (done ++ take n rest) ++ l) (sym (take_rest rest n))
