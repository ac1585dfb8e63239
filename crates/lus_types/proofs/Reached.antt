-- From which names a declaration is reached.
use Rattle.std.proofs.Common.{◌≡◌, ℕ, zero, suc, ◌≤◌, Bool, true, false, cond, not, ◌||◌, List, [], ◌∷◌, ◌++◌, length, refl, ap, ◌∙◌, sym, subst, arith}
use Rattle.std.specs.List.{AllByRecursion}
use Rattle.std.specs.Str.{bytes_eq}
use Rattle.std.proofs.Math.Logic.{◌⊎◌, inl, inr}
use Rattle.std.proofs.lemmas.Bool.{false≢true, cases_Bool}
use Rattle.lus_tree.specs.Tree.{Name}
use Rattle.lus_meaning.specs.Depends.{named_in}
use Rattle.lus_meaning.specs.NameFaults.{Graph, new_among, next_in, reached}
use Rattle.lus_meaning.proofs.Unique.{same_bytes}
use Rattle.name_table.proofs.Names.{in_joined, itself}
use Rattle.lus_types.proofs.Grown.{AllOf, all_grown, closed_after, grown, new_follows, starts_grown}

or_left : (a b : Bool) → a ≡ true → (a || b) ≡ true
or_left true b e = refl
or_left false b e = absurd (false≢true e)

or_right : (a b : Bool) → b ≡ true → (a || b) ≡ true
or_right true b e = refl
or_right false b e = e

or_parts : (a b : Bool) → (a || b) ≡ true → (a ≡ true) ⊎ (b ≡ true)
or_parts true b e = inl refl
or_parts false b e = inr e

-- a test that passes with what it is passed by
abbrev pub IsBack : (Name → Bool) → Name × List Name → Type 0
IsBack test r = (y : Name) → named_in y r.1 ≡ true → test y ≡ true → test r.0 ≡ true

-- all that the rows name have rows
abbrev pub AreWithin : List Name → Graph → Type 0
AreWithin us g = AllByRecursion (λ r. (y : Name) → named_in y r.1 ≡ true → named_in y us ≡ true) g

reached_grown : (k : ℕ) (g : Graph) (xs : List Name) → reached k g xs ≡ grown (next_in g) k xs
reached_grown zero g xs = refl
reached_grown (suc k) g xs = reached_grown k g (xs ++ new_among xs (next_in g xs))

-- what follows comes from a row
in_first : (b : Bool) (ys zs : List Name) (y : Name) → named_in y (cond b ys [] ++ zs) ≡ true
    → ((b ≡ true) × (named_in y ys ≡ true)) ⊎ (named_in y zs ≡ true)
in_first true ys zs y e = go (or_parts (named_in y ys) (named_in y zs) (sym (in_joined y ys zs) ∙ e))
  where
    go : (named_in y ys ≡ true) ⊎ (named_in y zs ≡ true) → ((true ≡ true) × (named_in y ys ≡ true)) ⊎ (named_in y zs ≡ true)
    go (inl t) = inl (refl, t)
    go (inr t) = inr t
in_first false ys zs y e = inr e

next_within : (us : List Name) (g : Graph) → AreWithin us g → (xs : List Name) (y : Name) → named_in y (next_in g xs) ≡ true → named_in y us ≡ true
next_within us [] a xs y e = absurd (false≢true e)
next_within us (r ∷ rs) a xs y e = go (in_first (named_in r.0 xs) r.1 (next_in rs xs) y e) (next_within us rs a.1 xs y)
  where
    go : ((named_in r.0 xs ≡ true) × (named_in y r.1 ≡ true)) ⊎ (named_in y (next_in rs xs) ≡ true)
        → (named_in y (next_in rs xs) ≡ true → named_in y us ≡ true) → named_in y us ≡ true
    go (inl t) h = a.0 y t.1
    go (inr t) h = h t

-- what passes no test that goes back
next_none : (test : Name → Bool) (g : Graph) → AllByRecursion (IsBack test) g → (xs : List Name) → AllOf (λ x. not (test x)) xs
    → AllOf (λ x. not (test x)) (next_in g xs)
next_none test [] b xs a y e = absurd (false≢true e)
next_none test (r ∷ rs) b xs a y e = go (in_first (named_in r.0 xs) r.1 (next_in rs xs) y e) (next_none test rs b.1 xs a y)
  where
    not_both : (c d : Bool) → (c ≡ true → d ≡ true) → not d ≡ true → not c ≡ true
    not_both true d h n = absurd (no d (h refl) n)
      where
        no : (d : Bool) → d ≡ true → not d ≡ true → ⊥
        no true e n = false≢true n
        no false e n = false≢true e
    not_both false d h n = refl

    go : ((named_in r.0 xs ≡ true) × (named_in y r.1 ≡ true)) ⊎ (named_in y (next_in rs xs) ≡ true)
        → (named_in y (next_in rs xs) ≡ true → not (test y) ≡ true) → not (test y) ≡ true
    go (inl t) h = not_both (test y) (test r.0) (b.0 y t.1) (a r.0 t.0)
    go (inr t) h = h t

-- what a row names follows from its name
next_has : (g : Graph) (xs : List Name) → AllByRecursion (λ r. (y : Name) → named_in r.0 xs ≡ true → named_in y r.1 ≡ true → named_in y (next_in g xs) ≡ true) g
next_has [] xs = tt
next_has (r ∷ rs) xs = (first, more rs (next_has rs xs))
  where
    first : (y : Name) → named_in r.0 xs ≡ true → named_in y r.1 ≡ true → named_in y (cond (named_in r.0 xs) r.1 [] ++ next_in rs xs) ≡ true
    first y e i = rw e (in_joined y r.1 (next_in rs xs) ∙ or_left (named_in y r.1) (named_in y (next_in rs xs)) i)

    more : (qs : Graph) → AllByRecursion (λ q. (y : Name) → named_in q.0 xs ≡ true → named_in y q.1 ≡ true → named_in y (next_in rs xs) ≡ true) qs
        → AllByRecursion (λ q. (y : Name) → named_in q.0 xs ≡ true → named_in y q.1 ≡ true → named_in y (next_in (r ∷ rs) xs) ≡ true) qs
    more [] a = tt
    more (q ∷ qs) a = (
      λ y e i. in_joined y (cond (named_in r.0 xs) r.1 []) (next_in rs xs)
          ∙ or_right (named_in y (cond (named_in r.0 xs) r.1 [])) (named_in y (next_in rs xs)) (a.0 y e i),
      more qs a.1,
    )

only : (x y : Name) → named_in x (y ∷ []) ≡ true → x ≡ y
only x y h = same_bytes x y (first (bytes_eq x y) h)
  where
    first : (a : Bool) → (a || false) ≡ true → a ≡ true
    first true e = refl
    first false e = e

has_itself : (x : Name) → named_in x (x ∷ []) ≡ true
has_itself x = rw (itself x) refl

module _ (g : Graph) (us : List Name) (k : ℕ) (within : AreWithin us g) (enough : length us ≤ k) (n : Name) where
  abbrev from : Name → List Name
  from x = grown (next_in g) k (x ∷ [])

  closed : (x : Name) (y : Name) → named_in y (next_in g (from x)) ≡ true → named_in y (from x) ≡ true
  closed x = closed_after (next_in g) us (next_within us g within) k (x ∷ []) enough

  -- all that is reached from what is reached
  further : (x y : Name) → named_in y (from x) ≡ true → AllOf (λ z. named_in z (from x)) (from y)
  further x y e = all_grown (next_in g) (λ z. named_in z (from x)) (λ xs a z i. closed x z (grows xs (from x) a g z i)) k (y ∷ [])
      (λ z i. subst (λ w. named_in w (from x) ≡ true) (sym (only z y i)) e)
    where
      grows : (xs ys : List Name) → AllOf (λ z. named_in z ys) xs → (h : Graph) (z : Name) → named_in z (next_in h xs) ≡ true → named_in z (next_in h ys) ≡ true
      grows xs ys a [] z i = i
      grows xs ys a (r ∷ rs) z i = go (in_first (named_in r.0 xs) r.1 (next_in rs xs) z i) (grows xs ys a rs z)
        where
          go : ((named_in r.0 xs ≡ true) × (named_in z r.1 ≡ true)) ⊎ (named_in z (next_in rs xs) ≡ true)
              → (named_in z (next_in rs xs) ≡ true → named_in z (next_in rs ys) ≡ true) → named_in z (cond (named_in r.0 ys) r.1 [] ++ next_in rs ys) ≡ true
          go (inl t) h = rw (a r.0 t.0) (in_joined z r.1 (next_in rs ys) ∙ or_left (named_in z r.1) (named_in z (next_in rs ys)) t.1)
          go (inr t) h = in_joined z (cond (named_in r.0 ys) r.1 []) (next_in rs ys)
              ∙ or_right (named_in z (cond (named_in r.0 ys) r.1 [])) (named_in z (next_in rs ys)) (h t)

  abbrev leads : Name → Bool
  leads x = named_in n (from x)

  leads_back : (rs : Graph)
      → ((x : Name) → AllByRecursion (λ r. (y : Name) → named_in r.0 (from x) ≡ true → named_in y r.1 ≡ true → named_in y (next_in g (from x)) ≡ true) rs)
      → AllByRecursion (IsBack leads) rs
  leads_back [] h = tt
  leads_back (r ∷ rs) h = (
    λ y i e. further r.0 y (closed r.0 y ((h r.0).0 y (starts_grown (next_in g) k (r.0 ∷ []) r.0 (has_itself r.0)) i)) n e,
    leads_back rs (λ x. (h x).1),
  )

  module _ (test : Name → Bool) (seed : test n ≡ true) (back : AllByRecursion (IsBack test) g)
      (least : (other : Name → Bool) → other n ≡ true → AllByRecursion (IsBack other) g → (x : Name) → test x ≡ true → other x ≡ true) where
    -- the least test that n passes, and that goes back, is whether n is reached
    pub reaches : (x : Name) → test x ≡ named_in n (reached k g (x ∷ []))
    reaches x = go (cases_Bool (test x)) ∙ ap (named_in n) (sym (reached_grown k g (x ∷ [])))
      where
        none : test x ≡ false → AllOf (λ y. not (test y)) (from x)
        none f = all_grown (next_in g) (λ y. not (test y)) (next_none test g back) k (x ∷ [])
            (λ z i. subst (λ w. not (test w) ≡ true) (sym (only z x i)) (rw f refl))

        unreached : (b : Bool) → named_in n (from x) ≡ b → test x ≡ false → named_in n (from x) ≡ false
        unreached true e f = absurd (false≢true (rw seed at (none f n e)))
        unreached false e f = e

        go : (test x ≡ true) ⊎ (test x ≡ false) → test x ≡ named_in n (from x)
        go (inl t) = t ∙ sym (least leads (starts_grown (next_in g) k (n ∷ []) n (has_itself n)) (leads_back g (λ y. next_has g (from y))) x t)
        go (inr f) = f ∙ sym (unreached (named_in n (from x)) refl f)

-- ---- ranks

next_below : (rank : Name → ℕ) (b : ℕ) (g : Graph) → AllByRecursion (λ r. (y : Name) → named_in y r.1 ≡ true → rank y ≤ rank r.0) g → (xs : List Name)
    → ((y : Name) → named_in y xs ≡ true → rank y ≤ b) → (y : Name) → named_in y (next_in g xs) ≡ true → rank y ≤ b
next_below rank b [] a xs h y e = absurd (false≢true e)
next_below rank b (r ∷ rs) a xs h y e = go (in_first (named_in r.0 xs) r.1 (next_in rs xs) y e) (next_below rank b rs a.1 xs h y)
  where
    go : ((named_in r.0 xs ≡ true) × (named_in y r.1 ≡ true)) ⊎ (named_in y (next_in rs xs) ≡ true)
        → (named_in y (next_in rs xs) ≡ true → rank y ≤ b) → rank y ≤ b
    go (inl t) k = let p : rank y ≤ rank r.0 = a.0 y t.1 in let q : rank r.0 ≤ b = h r.0 t.0 in omega (arith, p, q)
    go (inr t) k = k t

-- what is reached from something has no greater rank
pub reached_below : (rank : Name → ℕ) (g : Graph) → AllByRecursion (λ r. (y : Name) → named_in y r.1 ≡ true → rank y ≤ rank r.0) g
    → (k : ℕ) (n x : Name) → named_in n (reached k g (x ∷ [])) ≡ true → rank n ≤ rank x
reached_below rank g a k n x e = below k (x ∷ []) start n e
  where
    below : (k : ℕ) (xs : List Name) → ((y : Name) → named_in y xs ≡ true → rank y ≤ rank x) → (y : Name) → named_in y (reached k g xs) ≡ true → rank y ≤ rank x
    below zero xs h = h
    below (suc k) xs h = below k (xs
        ++ new_among xs (next_in g xs))
        (λ y e. part y (or_parts (named_in y xs) (named_in y (new_among xs (next_in g xs))) (sym (in_joined y xs (new_among xs (next_in g xs))) ∙ e)))
      where
        part : (y : Name) → (named_in y xs ≡ true) ⊎ (named_in y (new_among xs (next_in g xs)) ≡ true) → rank y ≤ rank x
        part y (inl t) = h y t
        part y (inr t) = next_below rank (rank x) g a xs h y (new_from y t)
          where
            new_from : (y : Name) → named_in y (new_among xs (next_in g xs)) ≡ true → named_in y (next_in g xs) ≡ true
            new_from y e = new_follows y xs (next_in g xs) e

    start : (y : Name) → named_in y (x ∷ []) ≡ true → rank y ≤ rank x
    start y i = rw (only y x i) (omega arith)
