-- Words that were read one by one.
use Rattle.std.proofs.Common.{◌≡◌, ◌≤◌, ◌<◌, ℕ, List, [], ◌∷◌, length, get_or, map, ap, ◌∙◌, arith}

three : {X : Type 0} (xs : List X) (a b c : X) → 3 ≤ length xs → length xs < 4 → a ≡ get_or xs 0 a → b ≡ get_or xs 1 b → c ≡ get_or xs 2 c → xs ≡ a ∷ b ∷ c ∷ []
three [] a b c low high p q r = absurd (omega arith)
three (x ∷ []) a b c low high p q r = absurd (omega arith)
three (x ∷ y ∷ []) a b c low high p q r = absurd (omega arith)
three (x ∷ y ∷ z ∷ []) a b c low high p q r = cc
three (x ∷ y ∷ z ∷ w ∷ ws) a b c low high p q r = absurd (omega arith)

pub three_words : {Z : Type 0} (bytes : Z → List ℕ) (xs : List Z) (a b c : Z) (word : List ℕ) → 3 ≤ length xs → length xs < 4
    → a ≡ get_or xs 0 a → b ≡ get_or xs 1 b → c ≡ get_or xs 2 c → bytes a ≡ word
    → map bytes xs ≡ word ∷ bytes b ∷ bytes c ∷ []
three_words bytes xs a b c word low high p q r is =
    ap (map bytes) (three xs a b c low high p q r) ∙ ap (λ (w : List ℕ). w ∷ bytes b ∷ bytes c ∷ []) is
