-- The greatest sizes, and lists of terms that are joined.
use Rattle.std.proofs.Common.{◌≡◌, ℕ, ◌≤◌, Bool, true, false, ◌||◌, ◌&&◌, cond, List, [], ◌∷◌, ◌++◌, refl, sym, ap, ◌∙◌, arith}
use Rattle.std.specs.Prelude.{max, nat_lt}
use Rattle.std.specs.List.{list_any, fold}
use Rattle.lus_meaning.specs.Sizes.{Size, two, either, all_of, some_of}
use Rattle.lus_limits.specs.Peaks.{no_size, greater, peak, Joint, by_and, by_or, joined, Chain, put, no_chain, alone, followed, chain}
use Rattle.lus_limits.proofs.Sizes.{same_size}

-- ---- the greatest

pub greater_none : (a : Size) → greater a no_size ≡ a
greater_none a = same_size (greater a no_size) a (omega arith) (omega arith)

pub none_greater : (a : Size) → greater no_size a ≡ a
none_greater a = same_size (greater no_size a) a (omega arith) (omega arith)

pub greater_in_turn : (a b c : Size) → greater (greater a b) c ≡ greater a (greater b c)
greater_in_turn a b c =
    same_size (greater (greater a b) c) (greater a (greater b c)) (omega arith) (omega arith)

pub peak_both : (as_ bs : List Size) → peak (as_ ++ bs) ≡ greater (peak as_) (peak bs)
peak_both [] bs = sym (none_greater (peak bs))
peak_both (a ∷ as_) bs = ap (greater a) (peak_both as_ bs) ∙ sym (greater_in_turn a (peak as_) (peak bs))

greatest_passes : (k a b : ℕ) → nat_lt k (max a b) ≡ (nat_lt k a || nat_lt k b)
greatest_passes k a b = grind arith

pub levels_pass : (k : ℕ) (ss : List Size) → list_any (λ s. nat_lt k s.levels) ss ≡ nat_lt k (peak ss).levels
levels_pass k [] = grind arith
levels_pass k (s ∷ ss) =
    ap (λ b. nat_lt k s.levels || b) (levels_pass k ss) ∙ sym (greatest_passes k s.levels (peak ss).levels)

pub parts_pass : (k : ℕ) (ss : List Size) → list_any (λ s. nat_lt k s.parts) ss ≡ nat_lt k (peak ss).parts
parts_pass k [] = grind arith
parts_pass k (s ∷ ss) =
    ap (λ b. nat_lt k s.parts || b) (parts_pass k ss) ∙ sym (greatest_passes k s.parts (peak ss).parts)

-- ---- joined

same_chain : (c d : Chain) → c.is_none ≡ d.is_none → c.whole ≡ d.whole → c.lift ≡ d.lift → c.behind ≡ d.behind → c ≡ d
same_chain c d e f g h = λ i. record { is_none = e i; whole = f i; lift = g i; behind = h i }

pub put_in_turn : (a : Size) (c d : Chain) → put (put a c) d ≡ put a (followed c d)
put_in_turn a c d = same_size (put (put a c) d) (put a (followed c d)) (omega arith) (omega arith)

and_in_turn : (a b c : Bool) → ((a && b) && c) ≡ (a && (b && c))
and_in_turn true b c = refl
and_in_turn false b c = refl

whole_in_turn : (b : Bool) (v : Size) (c d : Chain) →
    cond (b && c.is_none) d.whole (put (cond b c.whole (put v c)) d) ≡ cond b (cond c.is_none d.whole (put c.whole d)) (put v (followed c d))
whole_in_turn true v c d = refl
whole_in_turn false v c d = put_in_turn v c d

pub in_turn : (b c d : Chain) → followed (followed b c) d ≡ followed b (followed c d)
in_turn b c d =
    same_chain (followed (followed b c) d) (followed b (followed c d)) (and_in_turn b.is_none c.is_none d.is_none)
    (whole_in_turn b.is_none b.whole c d) (omega arith) (put_in_turn b.behind c d)

-- what lengthens a term by levels has these levels
lifted : (j : Joint) (as_ : List Size) → (chain j as_).lift ≤ (chain j as_).behind.levels
lifted j [] = omega arith
lifted j (a ∷ as_) = let h : (chain j as_).lift ≤ (chain j as_).behind.levels = lifted j as_ in omega arith

none_followed : (c : Chain) → c.lift ≤ c.behind.levels → followed no_chain c ≡ c
none_followed c h =
    same_chain (followed no_chain c) c refl refl (omega arith)
    (same_size (put no_size c) c.behind (omega (arith, h)) (omega arith))

pub chain_both : (j : Joint) (as_ bs : List Size) → chain j (as_ ++ bs) ≡ followed (chain j as_) (chain j bs)
chain_both j [] bs = sym (none_followed (chain j bs) (lifted j bs))
chain_both j (a ∷ as_) bs = ap (followed (alone j a)) (chain_both j as_ bs) ∙ sym (in_turn (alone j a) (chain j as_) (chain j bs))

followed_none : (j : Joint) (b : Size) → followed (alone j b) no_chain ≡ alone j b
followed_none j b =
    same_chain (followed (alone j b) no_chain) (alone j b) refl
    (same_size (put b no_chain) b (omega arith) (omega arith)) (omega arith)
    (same_size (put (alone j b).behind no_chain) (alone j b).behind (omega arith) (omega arith))

-- a term behind others
pub chain_one : (j : Joint) (as_ : List Size) (b : Size) → chain j (as_ ++ b ∷ []) ≡ followed (chain j as_) (alone j b)
chain_one j as_ b = chain_both j as_ (b ∷ []) ∙ ap (followed (chain j as_)) (followed_none j b)

-- all of them
folded : (j : Joint) (a : Size) (as_ : List Size) → fold (joined j) a as_ ≡ put a (chain j as_)
folded j a [] = same_size a (put a no_chain) (omega arith) (omega arith)
folded j a (b ∷ as_) =
    folded j (joined j a b) as_
    ∙ same_size (put (joined j a b) (chain j as_)) (put a (chain j (b ∷ as_))) (omega arith) (omega arith)

two_is : (a b : Size) → two a b ≡ joined by_and a b
two_is a b = same_size (two a b) (joined by_and a b) (omega arith) (omega arith)

either_is : (a b : Size) → either a b ≡ joined by_or a b
either_is a b = same_size (either a b) (joined by_or a b) (omega arith) (omega arith)

fold_same : (f g : Size → Size → Size) → ((a b : Size) → f a b ≡ g a b) → (a : Size) (as_ : List Size) → fold f a as_ ≡ fold g a as_
fold_same f g h a [] = refl
fold_same f g h a (b ∷ as_) = ap (λ x. fold f x as_) (h a b) ∙ fold_same f g h (g a b) as_

pub all_chained : (as_ : List Size) → all_of as_ ≡ (chain by_and as_).whole
all_chained [] = refl
all_chained (a ∷ as_) = fold_same two (joined by_and) two_is a as_ ∙ folded by_and a as_

pub some_chained : (as_ : List Size) → some_of as_ ≡ (chain by_or as_).whole
some_chained [] = refl
some_chained (a ∷ as_) = fold_same either (joined by_or) either_is a as_ ∙ folded by_or a as_
