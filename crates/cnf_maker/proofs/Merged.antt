-- Two sums joined from their fronts: what is made, and what is left of both, come to what the
-- definition gives, which takes one term of the second after the other.
use Rattle.std.specs.Prelude.{ℕ, suc, ◌≡◌, ◌==◌, ◌<◌, ◌≤◌, ◌+◌, length, slice_index_or, Bool, true, false, cond, List, [], ◌∷◌, ◌++◌, drop, Result, Ok, Err, nat_lt, refl}
use Rattle.std.proofs.Common.{ap, sym, ◌∙◌, subst, arith, append_assoc, drop-cons}
use Rattle.std.proofs.lemmas.List.{drop_all}
use Rattle.std.proofs.lemmas.Bool.Decides.{nat_tests}
use lib.IntN.{ℤ, pos}
use Rattle.kind_num.specs.declared.Op.{Op}
use Rattle.kind_num.specs.declared.Op.TheVariants.{Mul}
use Rattle.kind_num.specs.declared.Past.{Past}
use Rattle.sys_terms.specs.Fits.{is_zero}
use Rattle.sys_terms.specs.Evaluated.{and_then, exact}
use Rattle.sys_terms.proofs.Placed.{both_true}
use Rattle.cnf_maker.specs.Linear.{put, with_term, with_terms, scaled_terms, all_above, is_increasing}
use Rattle.cnf_maker.specs.declared.fault.CnfFault.{CnfFault}
use Rattle.cnf_maker.specs.declared.fault.CnfFault.TheVariants.{Past as PastBits, Memory}
use Rattle.cnf_maker.specs.View.{Fails}
use Rattle.cnf_maker.specs.Joining.{HasAt, pending}

above : (y x : ℕ) → nat_lt y x ≡ true → (x == y) ≡ false
above y x h = grind (arith, nat_tests)

not_before : (y x : ℕ) → nat_lt y x ≡ true → nat_lt x y ≡ false
not_before y x h = grind (arith, nat_tests)

module _ (op : Op) where
  -- a term below all of the others stays in front
  stays_at : (y : ℕ) (a : ℤ) (ts us : List (ℕ × ℤ)) → all_above y us ≡ true
      → with_terms op ((y, a) ∷ ts) us ≡ and_then (with_terms op ts us) (λ vs. Ok ((y, a) ∷ vs))
  stays_at y a ts [] h = refl
  stays_at y a ts ((x, b) ∷ us) h =
      let k = both_true _ _ h in
      ap (λ r. and_then r (λ vs. with_terms op vs us)) (one (x == y) (nat_lt x y) (above y x k.0) (not_before y x k.0))
      ∙ after (with_term op ts x b) (λ vs. stays_at y a vs us k.1) where
        one : (s l : Bool) → s ≡ false → l ≡ false
            → cond s (and_then (exact op a b) (λ z. Ok (put x z ts)))
            (cond l (and_then (exact op (pos 0) b) (λ z. Ok (put x z ((y, a) ∷ ts))))
            (and_then (with_term op ts x b) (λ more. Ok ((y, a) ∷ more))))
            ≡ and_then (with_term op ts x b) (λ more. Ok ((y, a) ∷ more))
        one false false e f = refl
        one false true e f = absurd cc
        one true l e f = absurd cc

        after : (r : Result (List (ℕ × ℤ)) Past)
            → ((vs : List (ℕ × ℤ))
            → with_terms op ((y, a) ∷ vs) us ≡ and_then (with_terms op vs us) (λ ws. Ok ((y, a) ∷ ws)))
            → and_then (and_then r (λ more. Ok ((y, a) ∷ more))) (λ vs. with_terms op vs us)
            ≡ and_then (and_then r (λ vs. with_terms op vs us)) (λ ws. Ok ((y, a) ∷ ws))
        after (Ok vs) ih = ih vs
        after (Err p) ih = refl

  joined_on : (made more : List (ℕ × ℤ)) (r : Result (List (ℕ × ℤ)) Past)
      → and_then r (λ vs. Ok ((made ++ more) ++ vs)) ≡ and_then (and_then r (λ vs. Ok (more ++ vs)))
      (λ vs. Ok (made ++ vs))
  joined_on made more (Ok vs) = ap Ok (append_assoc made more vs)
  joined_on made more (Err p) = refl

  -- one of the first sum before all that is left of the second
  pub passed : (made : List (ℕ × ℤ)) (y : ℕ) (a : ℤ) (ts us : List (ℕ × ℤ)) → all_above y us ≡ true
      → pending op (made ++ (y, a) ∷ []) ts us ≡ pending op made ((y, a) ∷ ts) us
  passed made y a ts us h =
      joined_on made ((y, a) ∷ []) (with_terms op ts us)
      ∙ sym (ap (λ r. and_then r (λ vs. Ok (made ++ vs))) (stays_at y a ts us h))

  nothing_more : (r : Result (List (ℕ × ℤ)) Past) → r ≡ and_then r (λ vs. Ok vs)
  nothing_more (Ok vs) = refl
  nothing_more (Err p) = refl

  put_stays : (x : ℕ) (z : ℤ) (rest us : List (ℕ × ℤ)) (b : Bool) → all_above x us ≡ true
      → with_terms op (cond b rest ((x, z) ∷ rest)) us ≡ and_then (with_terms op rest us)
      (λ vs. Ok (cond b vs ((x, z) ∷ vs)))
  put_stays x z rest us true h = nothing_more (with_terms op rest us)
  put_stays x z rest us false h = stays_at x z rest us h

  put_joins : (made : List (ℕ × ℤ)) (x : ℕ) (z : ℤ) (vs : List (ℕ × ℤ)) (b : Bool)
      → (made ++ cond b [] ((x, z) ∷ [])) ++ vs ≡ made ++ cond b vs ((x, z) ∷ vs)
  put_joins made x z vs true = append_assoc made [] vs
  put_joins made x z vs false = append_assoc made ((x, z) ∷ []) vs

  put_on : (made : List (ℕ × ℤ)) (x : ℕ) (z : ℤ) (r : Result (List (ℕ × ℤ)) Past)
      → and_then r (λ vs. Ok ((made ++ put x z []) ++ vs)) ≡ and_then (and_then r (λ vs. Ok (put x z vs)))
      (λ vs. Ok (made ++ vs))
  put_on made x z (Ok vs) = ap Ok (put_joins made x z vs (is_zero z))
  put_on made x z (Err p) = refl

  pub has-none : (x : ℕ) (b : ℤ) → HasAt op [] x b (pos 0) []
  has-none x b = refl

  pub has-same : (y x : ℕ) (a b : ℤ) (ts : List (ℕ × ℤ)) → y ≡ x → HasAt op ((y, a) ∷ ts) x b a ts
  has-same y x a b ts e = go (x == y) (let f = e in grind (arith, nat_tests)) where
    go : (s : Bool) → s ≡ true
        → cond s (and_then (exact op a b) (λ z. Ok (put x z ts)))
        (cond (nat_lt x y) (and_then (exact op (pos 0) b) (λ z. Ok (put x z ((y, a) ∷ ts))))
        (and_then (with_term op ts x b) (λ more. Ok ((y, a) ∷ more))))
        ≡ and_then (exact op a b) (λ z. Ok (put x z ts))
    go true f = refl
    go false f = absurd cc

  pub has-later : (y x : ℕ) (a b : ℤ) (ts : List (ℕ × ℤ)) → x < y → HasAt op ((y, a) ∷ ts) x b (pos 0) ((y, a) ∷ ts)
  has-later y x a b ts h = go (x == y) (nat_lt x y) (grind (arith, nat_tests)) (grind (arith, nat_tests)) where
    go : (s l : Bool) → s ≡ false → l ≡ true
        → cond s (and_then (exact op a b) (λ z. Ok (put x z ts)))
        (cond l (and_then (exact op (pos 0) b) (λ z. Ok (put x z ((y, a) ∷ ts))))
        (and_then (with_term op ts x b) (λ more. Ok ((y, a) ∷ more))))
        ≡ and_then (exact op (pos 0) b) (λ z. Ok (put x z ((y, a) ∷ ts)))
    go false true e f = refl
    go false false e f = absurd cc
    go true l e f = absurd cc

  -- the next one of the second sum
  pub met : (made ts rest : List (ℕ × ℤ)) (x : ℕ) (b c z : ℤ) (us : List (ℕ × ℤ)) → HasAt op ts x b c rest
      → exact op c b ≡ Ok z
      → all_above x us ≡ true → pending op (made ++ put x z []) rest us ≡ pending op made ts ((x, b) ∷ us)
  met made ts rest x b c z us h e k =
      put_on made x z (with_terms op rest us)
      ∙ sym (ap (λ r. and_then r (λ vs. Ok (made ++ vs))) (put_stays x z rest us (is_zero z) k))
      ∙ ap (λ r. and_then (and_then (and_then r (λ y. Ok (put x y rest))) (λ vs. with_terms op vs us))
      (λ vs. Ok (made ++ vs))) (sym e)
      ∙ sym (ap (λ r. and_then (and_then r (λ vs. with_terms op vs us)) (λ vs. Ok (made ++ vs))) h)

  -- its coefficient is outside
  pub outside : (made ts rest : List (ℕ × ℤ)) (x : ℕ) (b c : ℤ) (p : Past) (us : List (ℕ × ℤ))
      → HasAt op ts x b c rest → Err p ≡ exact op c b
      → pending op made ts ((x, b) ∷ us) ≡ Err p
  outside made ts rest x b c p us h e =
      ap (λ r. and_then (and_then r (λ vs. with_terms op vs us)) (λ vs. Ok (made ++ vs))) h
      ∙ sym (ap
      (λ r. and_then (and_then (and_then r (λ y. Ok (put x y rest))) (λ vs. with_terms op vs us))
      (λ vs. Ok (made ++ vs))) e)

  head_of : (j : ℕ) (us : List (ℕ × ℤ)) → j < length us → drop j us ≡ slice_index_or us j (0, pos 0) ∷ drop (j + 1) us
  head_of j us h =
      let e : suc j ≡ j + 1 = omega arith in
      drop-cons us j (0, pos 0) h ∙ ap (λ n. slice_index_or us j (0, pos 0) ∷ drop n us) e

  above_head : (y x : ℕ) (us : List (ℕ × ℤ)) → y < x → all_above x us ≡ true → all_above y us ≡ true
  above_head y x [] l h = refl
  above_head y x (u ∷ us) l h = let k = both_true _ _ h in
      rw (below_too y x u.0 l k.0, above_head y x us l k.1) refl where
        below_too : (y x z : ℕ) → y < x → nat_lt x z ≡ true → nat_lt y z ≡ true
        below_too y x z l h = grind (arith, nat_tests)

  all_of : (y : ℕ) (u : ℕ × ℤ) (us : List (ℕ × ℤ)) → y < u.0 → is_increasing (u ∷ us) ≡ true
      → all_above y (u ∷ us) ≡ true
  all_of y u us l h = let k = both_true _ _ h in rw (is_below y u.0 l, above_head y u.0 us l k.0) refl where
    is_below : (y x : ℕ) → y < x → nat_lt y x ≡ true
    is_below y x h = grind (arith, nat_tests)

  pub step-passes : (made new left right : List (ℕ × ℤ)) (i j : ℕ) → i < length left → j < length right
      → is_increasing (drop j right) ≡ true
      → (slice_index_or left i (0, pos 0)).0 < (slice_index_or right j (0, pos 0)).0
      → new ≡ made ++ slice_index_or left i (0, pos 0) ∷ []
      → pending op new (drop (i + 1) left) (drop j right) ≡ pending op made (drop i left) (drop j right)
  step-passes made new left right i j h k up l e =
      let t = slice_index_or left i (0, pos 0) in
      let u = slice_index_or right j (0, pos 0) in
      let d = head_of j right k in
      ap (λ z. pending op z (drop (i + 1) left) (drop j right)) e
      ∙ passed made t.0 t.1 (drop (i + 1) left) (drop j right)
      (subst (λ us. all_above t.0 us ≡ true) (sym d)
      (all_of t.0 u (drop (j + 1) right) l (subst (λ us. is_increasing us ≡ true) d up)))
      ∙ ap (λ ts. pending op made ts (drop j right)) (sym (head_of i left h))

  pub step-meets : (made new ts rest right : List (ℕ × ℤ)) (j : ℕ) (x : ℕ) (b c z : ℤ) → j < length right
      → is_increasing (drop j right) ≡ true
      → (x, b) ≡ slice_index_or right j (0, pos 0) → HasAt op ts x b c rest → exact op c b ≡ Ok z
      → new ≡ made ++ put x z []
      → pending op new rest (drop (j + 1) right) ≡ pending op made ts (drop j right)
  step-meets made new ts rest right j x b c z k up u h e n =
      let d : drop j right ≡ (x, b) ∷ drop (j + 1) right = head_of j right k
      ∙ ap (λ w. w ∷ drop (j + 1) right) (sym u) in
      let g = both_true _ _ (subst (λ us. is_increasing us ≡ true) d up) in
      ap (λ w. pending op w rest (drop (j + 1) right)) n
      ∙ met made ts rest x b c z (drop (j + 1) right) h e g.0
      ∙ ap (pending op made ts) (sym d)

  pub step-outside : (made ts rest right : List (ℕ × ℤ)) (j : ℕ) (x : ℕ) (b c : ℤ) (e : CnfFault) → j < length right
      → (x, b) ≡ slice_index_or right j (0, pos 0) → HasAt op ts x b c rest → Fails (exact op c b) e
      → Fails (pending op made ts (drop j right)) e
  step-outside made ts rest right j x b c (PastBits p) k u h e =
      ap (pending op made ts) (head_of j right k ∙ ap (λ w. w ∷ drop (j + 1) right) (sym u))
      ∙ outside made ts rest x b c p (drop (j + 1) right) h (sym e)
  step-outside made ts rest right j x b c Memory k u h e = tt

  pub none-there : (left : List (ℕ × ℤ)) (i x : ℕ) (b : ℤ) → length left ≤ i
      → HasAt op (drop i left) x b (pos 0) (drop i left)
  none-there left i x b h = rw (drop_all i left h) (has-none x b)

  pub same-there : (left : List (ℕ × ℤ)) (i x : ℕ) (b : ℤ) → i < length left → (slice_index_or left i (0, pos 0)).0 ≡ x
      → HasAt op (drop i left) x b (slice_index_or left i (0, pos 0)).1 (drop (i + 1) left)
  same-there left i x b h e = let t = slice_index_or left i (0, pos 0) in
      subst (λ ts. HasAt op ts x b t.1 (drop (i + 1) left)) (sym (head_of i left h))
      (has-same t.0 x t.1 b (drop (i + 1) left) e)

  pub later-there : (left : List (ℕ × ℤ)) (i x : ℕ) (b : ℤ) → i < length left → x < (slice_index_or left i (0, pos 0)).0
      → HasAt op (drop i left) x b (pos 0) (drop i left)
  later-there left i x b h l = let t = slice_index_or left i (0, pos 0) in
      subst (λ ts. HasAt op ts x b (pos 0) ts) (sym (head_of i left h)) (has-later t.0 x t.1 b (drop (i + 1) left) l)

-- the next product
pub scaled-on : (n : ℤ) (x : ℕ) (a z : ℤ) (products new rest : List (ℕ × ℤ)) → exact Mul n a ≡ Ok z
    → new ≡ products ++ put x z []
    → and_then (scaled_terms n rest) (λ us. Ok (new ++ us)) ≡ and_then (scaled_terms n ((x, a) ∷ rest))
    (λ us. Ok (products ++ us))
scaled-on n x a z products new rest e k =
    ap (λ w. and_then (scaled_terms n rest) (λ us. Ok (w ++ us))) k
    ∙ put_on Mul products x z (scaled_terms n rest)
    ∙ sym (ap
    (λ r. and_then (and_then r (λ y. and_then (scaled_terms n rest) (λ us. Ok (put x y us))))
    (λ us. Ok (products ++ us))) e)

pub scaled-next : (n m : ℤ) (terms : List (ℕ × ℤ)) (i : ℕ) (z : ℤ) (products new : List (ℕ × ℤ)) → m ≡ n
    → i < length terms
    → exact Mul n (slice_index_or terms i (0, pos 0)).1 ≡ Ok z
    → new ≡ products ++ put (slice_index_or terms i (0, pos 0)).0 z []
    → and_then (scaled_terms m (drop (i + 1) terms)) (λ us. Ok (new ++ us)) ≡ and_then (scaled_terms m (drop i terms))
    (λ us. Ok (products ++ us))
scaled-next n m terms i z products new c h e k =
    let t = slice_index_or terms i (0, pos 0) in
    let f : exact Mul m t.1 ≡ Ok z = ap (λ y. exact Mul y t.1) c ∙ e in
    scaled-on m t.0 t.1 z products new (drop (i + 1) terms) f k
    ∙ ap (λ ts. and_then (scaled_terms m ts) (λ us. Ok (products ++ us))) (sym (head_of Mul i terms h))

pub scaled-fails : (n m : ℤ) (terms : List (ℕ × ℤ)) (i : ℕ) (products : List (ℕ × ℤ)) (e : CnfFault) → m ≡ n
    → i < length terms
    → Fails (exact Mul n (slice_index_or terms i (0, pos 0)).1) e
    → and_then (scaled_terms m (drop i terms)) (λ us. Ok (products ++ us)) ≡ scaled_terms m terms
    → Fails (scaled_terms n terms) e
scaled-fails n m terms i products (PastBits p) c h e k =
    let t = slice_index_or terms i (0, pos 0) in
    let f : exact Mul m t.1 ≡ Err p = ap (λ y. exact Mul y t.1) c ∙ e in
    ap (λ y. scaled_terms y terms) (sym c)
    ∙ sym k
    ∙ ap (λ ts. and_then (scaled_terms m ts) (λ us. Ok (products ++ us))) (head_of Mul i terms h)
    ∙ ap (λ r. and_then (and_then r (λ y. and_then (scaled_terms m (drop (i + 1) terms)) (λ us. Ok (put t.0 y us))))
    (λ us. Ok (products ++ us))) f
scaled-fails n m terms i products Memory c h e k = tt

-- what comes after the first of increasing terms increases too
pub rest-increasing : (terms : List (ℕ × ℤ)) (j : ℕ) → j < length terms → is_increasing (drop j terms) ≡ true
    → is_increasing (drop (j + 1) terms) ≡ true
rest-increasing terms j h e =
    (both_true _ _ (subst (λ us. is_increasing us ≡ true) (head_of Mul j terms h) e)).1
