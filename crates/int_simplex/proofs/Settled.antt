-- The fields of a tableau after its bounds changed.
use Rattle.std.specs.Prelude.{ℕ, zero, suc, ◌≡◌, ◌⊎◌, ◌<◌, ◌≤◌, ◌+◌, Bool, true, false, List, [], ◌∷◌, ◌++◌, length, map, take, All, Option, slice_set}
use Rattle.std.proofs.Common.{sym, ◌∙◌, ap, subst, arith, refl, inl, inr, get_or}
use Rattle.std.proofs.lemmas.List.{map-append}
use Rattle.std.proofs.lemmas.List.Elements.{All-nil, All-cons}
use Rattle.std.proofs.lemmas.Option.{slice_get_within, slice_get-get_or}
use lib.IntN.{ℤ}
use Rattle.proof_steps.specs.Meaning.{as_said}
use Rattle.int_simplex.specs.State.{Standing, State}
use Rattle.int_simplex.specs.Bounds.{tightest, tighter}
use Rattle.int_simplex.specs.Sound.{IsSound, IsUncrossed}
use Rattle.int_simplex.specs.Inner.{standing, AreLimits, AreBefore, IsWithinColumns}
use Rattle.int_simplex.specs.declared.table.Asserted.{Asserted}
use Rattle.int_simplex.proofs.Places.{same_some, get-append, get-last}
use Rattle.int_simplex.proofs.Limits.{limits_after, limits_kept}

pub map_take : {X Y : Type 0} (f : X → Y) (n : ℕ) (xs : List X) → map f (take n xs) ≡ take n (map f xs)
map_take f zero xs = refl
map_take f (suc n) [] = refl
map_take f (suc n) (x ∷ xs) = ap (λ z. f x ∷ z) (map_take f n xs)

-- other bounds that do not cross leave it sound
pub sound_bounds : (s : State) (bounds : List Standing) → IsSound s → All (λ (b : Standing). b.column < s.columns) bounds → IsUncrossed bounds
    → IsSound record { given = s.given; columns = s.columns; basis = s.basis; values = s.values; bounds = bounds; usable = s.usable }
sound_bounds s bounds h a u = record {
  given = h.given;
  basis = h.basis;
  count = h.count;
  fractions = h.fractions;
  outside = h.outside;
  inside = λ x v i e. let w = h.inside x v i e in
      record { multipliers = w.multipliers; top = w.top; bottom = w.bottom; value = w.value; same = w.same };
  of_columns = a;
  uncrossed = u;
}

-- what a bound that comes leaves
pub record IsAssertedTo (columns : ℕ) (trail : List Asserted) (lows highs : List (Option (ℤ × ℕ))) : Type 0 where
  pub lowers : AreLimits columns false (map standing trail) lows
  pub uppers : AreLimits columns true (map standing trail) highs
  pub before : AreBefore trail
  pub columns_within : IsWithinColumns columns trail

split : (k i : ℕ) → k < i + 1 → (k < i) ⊎ (k ≡ i)
split k i h = grind arith

length-snoc : {X : Type 0} (xs : List X) (x : X) → length (xs ++ x ∷ []) ≡ length xs + 1
length-snoc [] x = refl
length-snoc (y ∷ xs) x = let e : length (xs ++ x ∷ []) ≡ length xs + 1 = length-snoc xs x in omega arith

take-less : {X : Type 0} (xs ys : List X) (k : ℕ) → k ≤ length xs → take k (xs ++ ys) ≡ take k xs
take-less xs ys zero h = refl
take-less [] ys (suc k) h = absurd (omega arith)
take-less (x ∷ xs) ys (suc k) h = ap (λ z. x ∷ z) (take-less xs ys k (omega arith))

take-own : {X : Type 0} (xs ys : List X) → take (length xs) (xs ++ ys) ≡ xs
take-own [] ys = refl
take-own (x ∷ xs) ys = ap (λ z. x ∷ z) (take-own xs ys)

before-more : (trail : List Asserted) (a : Asserted) → AreBefore trail → a.before ≡ tightest (map standing trail) a.column a.upper → AreBefore (trail ++ a ∷ [])
before-more trail a f e = λ k b eb.
    let l : length (trail ++ a ∷ []) ≡ length trail + 1 = length-snoc trail a in
    let h : k < length (trail ++ a ∷ []) = slice_get_within (trail ++ a ∷ []) k b eb in
    elim (split k (length trail) (omega arith)) [
      | inl i ↦
          f k b (sym (get-append trail (a ∷ []) k i) ∙ eb)
          ∙ ap (λ (xs : List Asserted). tightest (map standing xs) b.column b.upper) (sym (take-less trail (a ∷ []) k (omega arith)))
      | inr q ↦
          let s : a ≡ b = same_some a b (sym (get-last trail a k q) ∙ eb) in
          let P : Asserted → Type 0 = λ z. z.before ≡ tightest (map standing (take k (trail ++ a ∷ []))) z.column z.upper in
          subst P s (e ∙ ap (λ (xs : List Asserted). tightest (map standing xs) a.column a.upper)
          (sym (ap (λ (n : ℕ). take n (trail ++ a ∷ [])) q ∙ take-own trail (a ∷ []))))
    ]

within-more : (columns : ℕ) (trail : List Asserted) (a : Asserted) → IsWithinColumns columns trail → a.column < columns
    → IsWithinColumns columns (trail ++ a ∷ [])
within-more columns [] a w h = All-cons (λ (x : Asserted). x.column < columns) a [] h (All-nil (λ (x : Asserted). x.column < columns))
within-more columns (b ∷ trail) a w h =
    All-cons (λ (x : Asserted). x.column < columns) b (trail ++ a ∷ []) (w 0 b (omega arith))
    (within-more columns trail a (λ j d i. w (suc j) d (omega arith)) h)

-- on the bound's side the limit is written
module _ (columns : ℕ) (trail : List Asserted) (a : Asserted) (lows highs : List (Option (ℤ × ℕ))) (h : IsAssertedTo columns trail lows highs) (i : a.column < columns)
    (e : a.before ≡ tightest (map standing trail) a.column a.upper) (kept : Option (ℤ × ℕ)) (k : kept ≡ tighter a.upper a.before (a.limit, a.literal)) where
  list : map standing (trail ++ a ∷ []) ≡ map standing trail ++ standing a ∷ []
  list = map-append standing trail (a ∷ [])

  written : kept ≡ tighter a.upper (tightest (map standing trail) a.column a.upper) (a.limit, a.literal)
  written = k ∙ ap (λ o. tighter a.upper o (a.limit, a.literal)) e

  pub assert_upper : a.upper ≡ true → IsAssertedTo columns (trail ++ a ∷ []) lows (slice_set highs a.column kept)
  assert_upper u = record {
    lowers = let P : List Standing → Type 0 = λ bs. AreLimits columns false bs lows in
        subst P (sym list) (limits_kept columns false (map standing trail) (standing a) lows h.lowers (ap (as_said false) u));
    uppers =
        let P : List Standing → Type 0 = λ bs. AreLimits columns true bs (slice_set highs a.column kept) in
        let Q : Option (ℤ × ℕ) → Type 0 = λ o. AreLimits columns true (map standing trail ++ standing a ∷ []) (slice_set highs a.column o) in
        subst P (sym list) (subst Q (sym (written ∙ ap (λ b. tighter b (tightest (map standing trail) a.column b) (a.limit, a.literal)) u))
        (limits_after columns true (map standing trail) (standing a) highs h.uppers i u));
    before = before-more trail a h.before e;
    columns_within = within-more columns trail a h.columns_within i;
  }

  pub assert_lower : a.upper ≡ false → IsAssertedTo columns (trail ++ a ∷ []) (slice_set lows a.column kept) highs
  assert_lower u = record {
    lowers =
        let P : List Standing → Type 0 = λ bs. AreLimits columns false bs (slice_set lows a.column kept) in
        let Q : Option (ℤ × ℕ) → Type 0 = λ o. AreLimits columns false (map standing trail ++ standing a ∷ []) (slice_set lows a.column o) in
        subst P (sym list) (subst Q (sym (written ∙ ap (λ b. tighter b (tightest (map standing trail) a.column b) (a.limit, a.literal)) u))
        (limits_after columns false (map standing trail) (standing a) lows h.lowers i (ap (as_said false) u)));
    uppers = let P : List Standing → Type 0 = λ bs. AreLimits columns true bs highs in
        subst P (sym list) (limits_kept columns true (map standing trail) (standing a) highs h.uppers u);
    before = before-more trail a h.before e;
    columns_within = within-more columns trail a h.columns_within i;
  }

-- what a table's element is
pub read_limit : (columns : ℕ) (side : Bool) (bounds : List Standing) (limits : List (Option (ℤ × ℕ))) (c : ℕ) (o : Option (ℤ × ℕ))
    → AreLimits columns side bounds limits → c < columns
    → o ≡ get_or limits c o → o ≡ tightest bounds c side
read_limit columns side bounds limits c o a h e =
    let n = a.count in
    e ∙ same_some (get_or limits c o) (tightest bounds c side) (sym (slice_get-get_or limits c o (omega arith)) ∙ a.each c h)
