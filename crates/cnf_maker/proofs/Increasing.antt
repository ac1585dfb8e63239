-- The terms of linear sums stay in increasing order.
use Rattle.std.specs.Prelude.{ℕ, ◌≡◌, ◌==◌, Bool, true, false, cond, ◌&&◌, List, [], ◌∷◌, Ok, nat_lt, refl}
use Rattle.std.proofs.Common.{sym, subst, arith}
use Rattle.std.proofs.lemmas.Bool.Decides.{nat_tests}
use lib.IntN.{ℤ, pos}
use Rattle.kind_num.specs.declared.Op.{Op}
use Rattle.kind_num.specs.declared.Op.TheVariants.{Mul}
use Rattle.sys_terms.specs.Fits.{is_zero}
use Rattle.sys_terms.specs.Evaluated.{and_then, exact}
use Rattle.sys_terms.proofs.Placed.{both_true}
use Rattle.cnf_maker.specs.Linear.{put, with_term, with_terms, scaled_terms, all_above, is_increasing}
use Rattle.cnf_maker.proofs.Values.{through}

and_true : (a b : Bool) → a ≡ true → b ≡ true → (a && b) ≡ true
and_true a b h k = rw (h, k) refl

same_number : (x y : ℕ) → (x == y) ≡ true → x ≡ y
same_number x y h = grind (arith, nat_tests)

is_below : (x y z : ℕ) → nat_lt x y ≡ true → nat_lt y z ≡ true → nat_lt x z ≡ true
is_below x y z h k = grind (arith, nat_tests)

before : (x y : ℕ) → (x == y) ≡ false → nat_lt x y ≡ false → nat_lt y x ≡ true
before x y h k = grind (arith, nat_tests)

pub above-less : (x y : ℕ) (ts : List (ℕ × ℤ)) → nat_lt x y ≡ true → all_above y ts ≡ true → all_above x ts ≡ true
above-less x y [] l h = refl
above-less x y ((z, a) ∷ ts) l h = let k = both_true _ _ h in
    and_true (nat_lt x z) (all_above x ts) (is_below x y z l k.0) (above-less x y ts l k.1)

put_above : (w x : ℕ) (z : ℤ) (ts : List (ℕ × ℤ)) (b : Bool) → nat_lt w x ≡ true → all_above w ts ≡ true
    → all_above w (cond b ts ((x, z) ∷ ts)) ≡ true
put_above w x z ts true l h = h
put_above w x z ts false l h = and_true (nat_lt w x) (all_above w ts) l h

put_up : (x : ℕ) (z : ℤ) (ts : List (ℕ × ℤ)) (b : Bool) → all_above x ts ≡ true → is_increasing ts ≡ true
    → is_increasing (cond b ts ((x, z) ∷ ts)) ≡ true
put_up x z ts true l h = h
put_up x z ts false l h = and_true (all_above x ts) (is_increasing ts) l h

module _ (op : Op) where
  term-above : (w : ℕ) (ts : List (ℕ × ℤ)) (x : ℕ) (b : ℤ) (us : List (ℕ × ℤ)) → nat_lt w x ≡ true
      → all_above w ts ≡ true
      → with_term op ts x b ≡ Ok us → all_above w us ≡ true
  term-above w [] x b us l h e =
      let t = through (exact op (pos 0) b) (λ z. Ok (put x z [])) us e in
      let r : put x t.first [] ≡ us = let g = t.then in cc in
      subst (λ vs. all_above w vs ≡ true) r (put_above w x t.first [] (is_zero t.first) l h)
  term-above w ((y, a) ∷ ts) x b us l h e = go (x == y) (nat_lt x y) (λ vs. term-above w ts x b vs l k.1) e where
    k : (nat_lt w y ≡ true) × (all_above w ts ≡ true)
    k = both_true _ _ h

    go : (s m : Bool) → ((vs : List (ℕ × ℤ)) → with_term op ts x b ≡ Ok vs → all_above w vs ≡ true)
        → cond s (and_then (exact op a b) (λ z. Ok (put x z ts)))
        (cond m (and_then (exact op (pos 0) b) (λ z. Ok (put x z ((y, a) ∷ ts))))
        (and_then (with_term op ts x b) (λ more. Ok ((y, a) ∷ more)))) ≡ Ok us
        → all_above w us ≡ true
    go true m ih f =
        let t = through (exact op a b) (λ z. Ok (put x z ts)) us f in
        let r : put x t.first ts ≡ us = let g = t.then in cc in
        subst (λ vs. all_above w vs ≡ true) r (put_above w x t.first ts (is_zero t.first) l k.1)
    go false true ih f =
        let t = through (exact op (pos 0) b) (λ z. Ok (put x z ((y, a) ∷ ts))) us f in
        let r : put x t.first ((y, a) ∷ ts) ≡ us = let g = t.then in cc in
        subst (λ vs. all_above w vs ≡ true) r (put_above w x t.first ((y, a) ∷ ts) (is_zero t.first) l h)
    go false false ih f =
        let t = through (with_term op ts x b) (λ more. Ok ((y, a) ∷ more)) us f in
        let r : (y, a) ∷ t.first ≡ us = let g = t.then in cc in
        subst (λ vs. all_above w vs ≡ true) r (and_true (nat_lt w y) (all_above w t.first) k.0 (ih t.first t.is_first))

  term-increasing : (ts : List (ℕ × ℤ)) (x : ℕ) (b : ℤ) (us : List (ℕ × ℤ)) → is_increasing ts ≡ true
      → with_term op ts x b ≡ Ok us → is_increasing us ≡ true
  term-increasing [] x b us h e =
      let t = through (exact op (pos 0) b) (λ z. Ok (put x z [])) us e in
      let r : put x t.first [] ≡ us = let g = t.then in cc in
      subst (λ vs. is_increasing vs ≡ true) r (put_up x t.first [] (is_zero t.first) refl refl)
  term-increasing ((y, a) ∷ ts) x b us h e = go (x == y) (nat_lt x y) refl refl
      (λ vs. term-increasing ts x b vs k.1) e where
        k : (all_above y ts ≡ true) × (is_increasing ts ≡ true)
        k = both_true _ _ h

        go : (s m : Bool) → (x == y) ≡ s → nat_lt x y ≡ m
            → ((vs : List (ℕ × ℤ)) → with_term op ts x b ≡ Ok vs → is_increasing vs ≡ true)
            → cond s (and_then (exact op a b) (λ z. Ok (put x z ts)))
            (cond m (and_then (exact op (pos 0) b) (λ z. Ok (put x z ((y, a) ∷ ts))))
            (and_then (with_term op ts x b) (λ more. Ok ((y, a) ∷ more)))) ≡ Ok us
            → is_increasing us ≡ true
        go true m i j ih f =
            let t = through (exact op a b) (λ z. Ok (put x z ts)) us f in
            let r : put x t.first ts ≡ us = let g = t.then in cc in
            let u : all_above x ts ≡ true = subst (λ z. all_above z ts ≡ true) (sym (same_number x y i)) k.0 in
            subst (λ vs. is_increasing vs ≡ true) r (put_up x t.first ts (is_zero t.first) u k.1)
        go false true i j ih f =
            let t = through (exact op (pos 0) b) (λ z. Ok (put x z ((y, a) ∷ ts))) us f in
            let r : put x t.first ((y, a) ∷ ts) ≡ us = let g = t.then in cc in
            let u : all_above x ((y, a) ∷ ts) ≡ true = and_true (nat_lt x y) (all_above x ts) j (above-less x y ts j k.0) in
            subst (λ vs. is_increasing vs ≡ true) r (put_up x t.first ((y, a) ∷ ts) (is_zero t.first) u h)
        go false false i j ih f =
            let t = through (with_term op ts x b) (λ more. Ok ((y, a) ∷ more)) us f in
            let r : (y, a) ∷ t.first ≡ us = let g = t.then in cc in
            subst (λ vs. is_increasing vs ≡ true) r
            (and_true (all_above y t.first) (is_increasing t.first)
            (term-above y ts x b t.first (before x y i j) k.0 t.is_first) (ih t.first t.is_first))

  pub terms-increasing : (ts more us : List (ℕ × ℤ)) → is_increasing ts ≡ true → with_terms op ts more ≡ Ok us
      → is_increasing us ≡ true
  terms-increasing ts [] us h e = let q : ts ≡ us = cc in subst (λ vs. is_increasing vs ≡ true) q h
  terms-increasing ts ((x, b) ∷ more) us h e =
      let t = through (with_term op ts x b) (λ rs. with_terms op rs more) us e in
      terms-increasing t.first more us (term-increasing ts x b t.first h t.is_first) t.then

scaled-above : (w : ℕ) (n : ℤ) (ts us : List (ℕ × ℤ)) → all_above w ts ≡ true → scaled_terms n ts ≡ Ok us
    → all_above w us ≡ true
scaled-above w n [] us h e = let q : [] ≡ us = cc in subst (λ vs. all_above w vs ≡ true) q refl
scaled-above w n ((x, a) ∷ ts) us h e =
    let k : (nat_lt w x ≡ true) × (all_above w ts ≡ true) = both_true _ _ h in
    let t = through (exact Mul n a) (λ z. and_then (scaled_terms n ts) (λ us. Ok (put x z us))) us e in
    let s = through (scaled_terms n ts) (λ us. Ok (put x t.first us)) us t.then in
    let r : put x t.first s.first ≡ us = let g = s.then in cc in
    subst (λ vs. all_above w vs ≡ true) r
    (put_above w x t.first s.first (is_zero t.first) k.0 (scaled-above w n ts s.first k.1 s.is_first))

pub scaled-increasing : (n : ℤ) (ts us : List (ℕ × ℤ)) → is_increasing ts ≡ true → scaled_terms n ts ≡ Ok us
    → is_increasing us ≡ true
scaled-increasing n [] us h e = let q : [] ≡ us = cc in subst (λ vs. is_increasing vs ≡ true) q refl
scaled-increasing n ((x, a) ∷ ts) us h e =
    let k : (all_above x ts ≡ true) × (is_increasing ts ≡ true) = both_true _ _ h in
    let t = through (exact Mul n a) (λ z. and_then (scaled_terms n ts) (λ us. Ok (put x z us))) us e in
    let s = through (scaled_terms n ts) (λ us. Ok (put x t.first us)) us t.then in
    let r : put x t.first s.first ≡ us = let g = s.then in cc in
    subst (λ vs. is_increasing vs ≡ true) r (put_up x t.first s.first (is_zero t.first)
    (scaled-above x n ts s.first k.0 s.is_first) (scaled-increasing n ts s.first k.1 s.is_first))
