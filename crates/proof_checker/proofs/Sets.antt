-- The fold over a clause finds exactly what is outside the set.
use Rattle.std.specs.Prelude.{ℕ, zero, suc, ◌≡◌, ◌==◌, Bool, true, false, cond, List, [], ◌∷◌, ◌++◌, Option, Some, None, All, Contains, refl}
use Rattle.std.proofs.Common.{sym, ◌∙◌, ap, subst, arith}
use Rattle.std.proofs.lemmas.Bool.Decides.{nat_tests}
use Rattle.std.proofs.lemmas.List.Elements.{All-contains, All-nil, All-cons}
use Rattle.proof_steps.specs.declared.Literal.{Literal}
use Rattle.proof_steps.specs.declared.Literal.TheVariants.{Flag, Atom}
use Rattle.proof_steps.specs.Meaning.{at, opposite}
use Rattle.proof_checker.specs.declared.outside.Outside.{Outside}
use Rattle.proof_checker.specs.declared.outside.Outside.TheVariants.{Nothing, One, More}
use Rattle.proof_checker.specs.Derived.{same, same_sign, has, one_more, outside_from, outside, outside_of, is_nothing, undecided, meets}
use Rattle.proof_checker.specs.Rules.{IsOnlyOutside, AreMet}
use Rattle.proof_checker.proofs.Sound.{either}

sign-is : (b c : Bool) → same_sign b c ≡ true → b ≡ c
sign-is true c h = sym h
sign-is false true h = absurd cc
sign-is false false h = refl

sign-refl : (b : Bool) → same_sign b b ≡ true
sign-refl true = refl
sign-refl false = refl

both : (a b : Bool) → cond a b false ≡ true → (a ≡ true) × (b ≡ true)
both true b h = (refl, h)
both false b h = absurd cc

number-is : (m n : ℕ) → (m == n) ≡ true → m ≡ n
number-is m n h = grind (arith, nat_tests)

number-refl : (n : ℕ) → (n == n) ≡ true
number-refl n = grind (arith, nat_tests)

pub same-is : (m l : Literal) → same m l ≡ true → m ≡ l
same-is (Flag m b) (Flag n c) h =
    let e = both (m == n) (same_sign b c) h in let p : m ≡ n = number-is m n e.0 in let q : b ≡ c = sign-is b c e.1 in cc
same-is (Flag m b) (Atom n c) h = absurd cc
same-is (Atom m b) (Flag n c) h = absurd cc
same-is (Atom m b) (Atom n c) h =
    let e = both (m == n) (same_sign b c) h in let p : m ≡ n = number-is m n e.0 in let q : b ≡ c = sign-is b c e.1 in cc

pub same-refl : (l : Literal) → same l l ≡ true
same-refl (Flag n b) = subst (λ x. cond x (same_sign b b) false ≡ true) (sym (number-refl n)) (sign-refl b)
same-refl (Atom n b) = subst (λ x. cond x (same_sign b b) false ≡ true) (sym (number-refl n)) (sign-refl b)

pub has-here : (l : Literal) (ls : List Literal) → has (l ∷ ls) l ≡ true
has-here l ls = subst (λ b. cond b true (has ls l) ≡ true) (sym (same-refl l)) refl

has-there : (m l : Literal) (ls : List Literal) → has ls l ≡ true → has (m ∷ ls) l ≡ true
has-there m l ls h = either (same m l)
    (λ y. subst (λ b. cond b true (has ls l) ≡ true) (sym y) refl)
    (λ n. subst (λ b. cond b true (has ls l) ≡ true) (sym n) h)

has-cases : {P : Type 0} (m l : Literal) (ls : List Literal) → has (m ∷ ls) l ≡ true → (m ≡ l → P) → (has ls l ≡ true → P) → P
has-cases m l ls h p q = either (same m l) (λ y. p (same-is m l y))
    (λ n. q (subst (λ b. cond b true (has ls l) ≡ true) n h))

contains-there : (x y : Literal) (ys : List Literal) → Contains ys x → Contains (y ∷ ys) x
contains-there x y ys (k, l, e) = (suc k, omega arith, e)

pub has-contains : (set : List Literal) (l : Literal) → has set l ≡ true → Contains set l
has-contains [] l h = absurd cc
has-contains (m ∷ ms) l h = has-cases m l ms h (λ e. (0, omega arith, e)) (λ r. contains-there l m ms (has-contains ms l r))

pub contains-has : (set : List Literal) (l : Literal) → Contains set l → has set l ≡ true
contains-has [] l (k, h, e) = absurd (omega arith)
contains-has (m ∷ ms) l (zero, h, e) = subst (λ x. has (m ∷ ms) x ≡ true) e (has-here m ms)
contains-has (m ∷ ms) l (suc k, h, e) = has-there m l ms (contains-has ms l (k, omega arith, e))

pub has-not : (set : List Literal) (l : Literal) → has set l ≡ false → ¬ Contains set l
has-not set l h c = let t : has set l ≡ true = contains-has set l c in absurd cc

pub not-has : (set : List Literal) (l : Literal) → (¬ Contains set l) → has set l ≡ false
not-has set l n = either (has set l) (λ y. absurd (n (has-contains set l y))) (λ f. f)

module _ (set : List Literal) where
  inside-step : (o : Outside) (y : Literal) (ls : List Literal) → has set y ≡ true → outside_from o set (y ∷ ls) ≡ outside_from o set ls
  inside-step o y ls h = ap (λ b. outside_from (cond b o (one_more o y)) set ls) h

  outside-step : (o : Outside) (y : Literal) (ls : List Literal) → has set y ≡ false → outside_from o set (y ∷ ls) ≡ outside_from (one_more o y) set ls
  outside-step o y ls h = ap (λ b. outside_from (cond b o (one_more o y)) set ls) h

  same-step : (l y : Literal) (ls : List Literal) → same l y ≡ true → outside_from (one_more (One l) y) set ls ≡ outside_from (One l) set ls
  same-step l y ls h = ap (λ b. outside_from (cond b (One l) More) set ls) h

  other-step : (l y : Literal) (ls : List Literal) → same l y ≡ false → outside_from (one_more (One l) y) set ls ≡ outside_from More set ls
  other-step l y ls h = ap (λ b. outside_from (cond b (One l) More) set ls) h

  from-more : (ls : List Literal) → outside_from More set ls ≡ More
  from-more [] = refl
  from-more (y ∷ ls) = either (has set y)
      (λ h. inside-step More y ls h ∙ from-more ls)
      (λ h. outside-step More y ls h ∙ from-more ls)

  -- what is true where the fold goes on from l and ends with x
  record Goes (l x : Literal) (ls : List Literal) : Type 0 where
    is : l ≡ x
    rest : (m : Literal) → has ls m ≡ true → has set m ≡ false → m ≡ l

  from-one : (l x : Literal) (ls : List Literal) → outside_from (One l) set ls ≡ One x → Goes l x ls
  from-one l x [] e = record { is = cc; rest = λ m h g. absurd cc }
  from-one l x (y ∷ ls) e = either (has set y)
      (λ h. let r = from-one l x ls (sym (inside-step (One l) y ls h) ∙ e) in
      record {
        is = r.is;
        rest = λ m g f. has-cases y m ls g (λ q. let t : has set m ≡ true = subst (λ z. has set z ≡ true) q h
            in absurd cc) (λ g2. r.rest m g2 f);
      })
      (λ h. either (same l y)
      (λ s. let r = from-one l x ls (sym (outside-step (One l) y ls h ∙ same-step l y ls s) ∙ e) in
      record { is = r.is; rest = λ m g f. has-cases y m ls g (λ q. sym (same-is l y s ∙ q)) (λ g2. r.rest m g2 f) })
      (λ s. let q : More ≡ One x = sym (outside-step (One l) y ls h ∙ other-step l y ls s ∙ from-more ls) ∙ e in absurd cc))

  one-stays : (l : Literal) (ls : List Literal) → outside_from (One l) set ls ≡ Nothing → ⊥
  one-stays l [] e = absurd cc
  one-stays l (y ∷ ls) e = either (has set y)
      (λ h. one-stays l ls (sym (inside-step (One l) y ls h) ∙ e))
      (λ h. either (same l y)
      (λ s. one-stays l ls (sym (outside-step (One l) y ls h ∙ same-step l y ls s) ∙ e))
      (λ s. let q : More ≡ Nothing = sym (outside-step (One l) y ls h ∙ other-step l y ls s ∙ from-more ls) ∙ e in absurd cc))

  record OneOut (ls : List Literal) (x : Literal) : Type 0 where
    in_list : has ls x ≡ true
    out : has set x ≡ false
    alone : (m : Literal) → has ls m ≡ true → has set m ≡ false → m ≡ x

  from-nothing : (x : Literal) (ls : List Literal) → outside_from Nothing set ls ≡ One x → OneOut ls x
  from-nothing x [] e = absurd cc
  from-nothing x (y ∷ ls) e = either (has set y)
      (λ h. let r = from-nothing x ls (sym (inside-step Nothing y ls h) ∙ e) in
      record {
        in_list = has-there y x ls r.in_list;
        out = r.out;
        alone = λ m g f. has-cases y m ls g (λ q. let t : has set m ≡ true = subst (λ z. has set z ≡ true) q h in absurd cc) (λ g2. r.alone m g2 f);
      })
      (λ h. let r = from-one y x ls (sym (outside-step Nothing y ls h) ∙ e) in
      record {
        in_list = subst (λ z. has (y ∷ ls) z ≡ true) r.is (has-here y ls);
        out = subst (λ z. has set z ≡ false) r.is h;
        alone = λ m g f. has-cases y m ls g (λ q. sym q ∙ r.is) (λ g2. r.rest m g2 f ∙ r.is);
      })

  from-all : (ls : List Literal) → outside_from Nothing set ls ≡ Nothing → (m : Literal) → has ls m ≡ true → has set m ≡ true
  from-all [] e m g = absurd cc
  from-all (y ∷ ls) e m g = either (has set y)
      (λ h. has-cases y m ls g (λ q. subst (λ z. has set z ≡ true) q h) (λ g2. from-all ls (sym (inside-step Nothing y ls h) ∙ e) m g2))
      (λ h. absurd (one-stays y ls (sym (outside-step Nothing y ls h) ∙ e)))

  to-nothing : (ls : List Literal) → ((m : Literal) → has ls m ≡ true → has set m ≡ true) → outside_from Nothing set ls ≡ Nothing
  to-nothing [] f = refl
  to-nothing (y ∷ ls) f = inside-step Nothing y ls (f y (has-here y ls)) ∙ to-nothing ls (λ m g. f m (has-there y m ls g))

  to-same : (l : Literal) (ls : List Literal) → ((m : Literal) → has ls m ≡ true → has set m ≡ false → m ≡ l) → outside_from (One l) set ls ≡ One l
  to-same l [] f = refl
  to-same l (y ∷ ls) f = let go = to-same l ls (λ m g h. f m (has-there y m ls g) h) in either (has set y)
      (λ h. inside-step (One l) y ls h ∙ go)
      (λ h. let q : y ≡ l = f y (has-here y ls) h in
      outside-step (One l) y ls h ∙ same-step l y ls (subst (λ z. same l z ≡ true) (sym q) (same-refl l)) ∙ go)

  to-one : (x : Literal) (ls : List Literal) → OneOut ls x → outside_from Nothing set ls ≡ One x
  to-one x [] r = let h = r.in_list in absurd cc
  to-one x (y ∷ ls) r = either (has set y)
      (λ h. inside-step Nothing y ls h ∙ to-one x ls record {
        in_list = has-cases y x ls r.in_list
            (λ q. let t : has set x ≡ true = subst (λ z. has set z ≡ true) q h in let o = r.out in absurd cc) (λ g. g);
        out = r.out;
        alone = λ m g f. r.alone m (has-there y m ls g) f;
      })
      (λ h. let q : y ≡ x = r.alone y (has-here y ls) h in
      outside-step Nothing y ls h
      ∙ to-same y ls (λ m g f. r.alone m (has-there y m ls g) f ∙ sym q) ∙ ap One q)

  pub one_outside_only : (clause : List Literal) (l : Literal) → outside set clause ≡ One l → IsOnlyOutside set clause l
  one_outside_only clause l e = let r = from-nothing l clause e in record {
    in_clause = has-contains clause l r.in_list;
    outside = has-not set l r.out;
    others = λ m c n. r.alone m (contains-has clause m c) (not-has set m n);
  }

  pub only_outside_one : (clause : List Literal) (l : Literal) → IsOnlyOutside set clause l → outside set clause ≡ One l
  only_outside_one clause l r = to-one l clause record {
    in_list = contains-has clause l r.in_clause;
    out = not-has set l r.outside;
    alone = λ m g f. r.others m (has-contains clause m g) (has-not set m f);
  }

  all-from : (clause ls : List Literal) → ((m : Literal) → has ls m ≡ true → has set m ≡ true) → All (Contains set) ls
  all-from clause [] f = All-nil (Contains set)
  all-from clause (y ∷ ls) f = All-cons (Contains set) y ls (has-contains set y (f y (has-here y ls))) (all-from clause ls (λ m g. f m (has-there y m ls g)))

  pub nothing_outside_all : (clause : List Literal) → outside set clause ≡ Nothing → All (Contains set) clause
  nothing_outside_all clause e = all-from clause clause (from-all clause e)

  pub all_nothing_outside : (clause : List Literal) → All (Contains set) clause → outside set clause ≡ Nothing
  all_nothing_outside clause a = to-nothing clause (λ m g. contains-has set m (All-contains (Contains set) clause m a (has-contains clause m g)))

is-nothing : (o : Outside) → is_nothing o ≡ true → o ≡ Nothing
is-nothing Nothing h = refl
is-nothing (One l) h = absurd cc
is-nothing More h = absurd cc

module _ (known : List (List Literal)) where
  pub meets_are_met : (set : List Literal) (hints : List ℕ) → meets known set hints ≡ true → AreMet known set hints
  meets_are_met set [] e = absurd cc
  meets_are_met set (h ∷ []) e = go (at known h) refl e where
    go : (o : Option (List Literal)) → at known h ≡ o → is_nothing (outside_of set o) ≡ true → (c : List Literal) × (at known h ≡ Some c) × All (Contains set) c
    go None q e = absurd cc
    go (Some c) q e = (c, q, nothing_outside_all set c (is-nothing (outside set c) e))
  meets_are_met set (h ∷ k ∷ hints) e = clause (λ l m. meets_are_met (set ++ opposite l ∷ []) (k ∷ hints) m) (at known h) refl e where
    signs : ((l : Literal) → meets known (set ++ opposite l ∷ []) (k ∷ hints) ≡ true → AreMet known (set ++ opposite l ∷ []) (k ∷ hints))
        → (c : List Literal) (l : Literal) → at known h ≡ Some c → outside set c ≡ One l → (b : Bool) → has set (opposite l) ≡ b
        → elim (cond b None (Some l)) [ None ↦ false | Some l ↦ meets known (set ++ opposite l ∷ []) (k ∷ hints) ] ≡ true
        → AreMet known set (h ∷ k ∷ hints)
    signs go c l q p true r e = absurd cc
    signs go c l q p false r e = (c, l, q, one_outside_only set c l p, has-not set (opposite l) r, go l e)

    found : ((l : Literal) → meets known (set ++ opposite l ∷ []) (k ∷ hints) ≡ true → AreMet known (set ++ opposite l ∷ []) (k ∷ hints))
        → (c : List Literal) → at known h ≡ Some c → (o : Outside) → outside set c ≡ o
        → elim (undecided set o) [ None ↦ false | Some l ↦ meets known (set ++ opposite l ∷ []) (k ∷ hints) ] ≡ true
        → AreMet known set (h ∷ k ∷ hints)
    found go c q Nothing p e = absurd cc
    found go c q More p e = absurd cc
    found go c q (One l) p e = signs go c l q p (has set (opposite l)) refl e

    clause : ((l : Literal) → meets known (set ++ opposite l ∷ []) (k ∷ hints) ≡ true → AreMet known (set ++ opposite l ∷ []) (k ∷ hints))
        → (o : Option (List Literal)) → at known h ≡ o
        → elim (undecided set (outside_of set o)) [ None ↦ false | Some l ↦ meets known (set ++ opposite l ∷ []) (k ∷ hints) ] ≡ true
        → AreMet known set (h ∷ k ∷ hints)
    clause go None q e = absurd cc
    clause go (Some c) q e = found go c q (outside set c) refl e

  pub are_met_meets : (set : List Literal) (hints : List ℕ) → AreMet known set hints → meets known set hints ≡ true
  are_met_meets set [] m = absurd m
  are_met_meets set (h ∷ []) (c, q, a) =
      subst (λ o. is_nothing (outside_of set o) ≡ true) (sym q)
      (subst (λ o. is_nothing o ≡ true) (sym (all_nothing_outside set c a)) refl)
  are_met_meets set (h ∷ k ∷ hints) (c, l, q, o, n, m) =
      let next : Option Literal → Bool = λ u. elim u [ None ↦ false | Some l ↦ meets known (set ++ opposite l ∷ []) (k ∷ hints) ] in
      subst (λ x. next (undecided set (outside_of set x)) ≡ true) (sym q)
      (subst (λ x. next (undecided set x) ≡ true) (sym (only_outside_one set c l o))
      (subst (λ b. next (cond b None (Some l)) ≡ true) (sym (not-has set (opposite l) n))
      (are_met_meets (set ++ opposite l ∷ []) (k ∷ hints) m)))
