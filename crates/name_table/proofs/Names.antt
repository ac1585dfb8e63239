-- Tables of names: what is added, and that each name is there once.
use Rattle.std.proofs.Common.{◌≡◌, ℕ, suc, ◌<◌, ◌+◌, Bool, true, false, cond, not, ◌||◌, List, [], ◌∷◌, ◌++◌, map, length, get_or, refl, ap, ◌∙◌, sym, subst, arith, Bor, Option, Some, None, is_some, MatchOption, drop, add-one}
use Rattle.std.specs.Bool.{nat_lt}
use Rattle.std.specs.List.{list_any, position, position_or_len}
use Rattle.std.specs.Str.{bytes_eq}
use Rattle.std.proofs.Math.Logic.{◌⊎◌, inl, inr}
use Rattle.std.proofs.Math.Seq.{drop-cons}
use Rattle.std.proofs.lemmas.Bool.{true≢false, false≢true, cases_Bool}
use Rattle.std.proofs.lemmas.Slice.Eq.{bytes_eq-Decides}
use Rattle.std.proofs.lemmas.List.{append_assoc}
use Rattle.std.proofs.lemmas.List.Recursion.{is_position_or_len}
use Rattle.indexmap.specs.IndexSet.{insert_key}
use Rattle.lus_tree.specs.Tree.{Name}
use Rattle.lus_meaning.specs.Depends.{named_in}
use Rattle.lus_meaning.specs.WellMade.{AreDistinct}
use Rattle.lus_meaning.proofs.Unique.{same_bytes}
use Rattle.name_table.specs.Names.{add, number_of}

pub itself : (x : Name) → bytes_eq x x ≡ true
itself x = (bytes_eq-Decides x x).1 refl

pub swapped : (x y : Name) → bytes_eq x y ≡ false → bytes_eq y x ≡ false
swapped x y f = go (cases_Bool (bytes_eq y x))
  where
    go : (bytes_eq y x ≡ true) ⊎ (bytes_eq y x ≡ false) → bytes_eq y x ≡ false
    go (inl t) = absurd (true≢false (sym ((bytes_eq-Decides x y).1 (sym (same_bytes y x t))) ∙ f))
    go (inr g) = g

pub in_joined : (x : Name) (ys zs : List Name) → named_in x (ys ++ zs) ≡ (named_in x ys || named_in x zs)
in_joined x [] zs = refl
in_joined x (y ∷ ys) zs = rw (in_joined x ys zs) (go (bytes_eq x y))
  where
    go : (c : Bool) → (c || (named_in x ys || named_in x zs)) ≡ ((c || named_in x ys) || named_in x zs)
    go true = refl
    go false = refl

-- ---- different names

pub distinct_one_more : (ks : List Name) (x : Name) → AreDistinct ks → named_in x ks ≡ false → AreDistinct (ks ++ x ∷ [])
distinct_one_more [] x d f = (refl, tt)
distinct_one_more (k ∷ ks) x d f = go (cases_Bool (bytes_eq x k)) (distinct_one_more ks x d.1)
  where
    go : (bytes_eq x k ≡ true) ⊎ (bytes_eq x k ≡ false) → (named_in x ks ≡ false → AreDistinct (ks ++ x ∷ [])) → AreDistinct (k ∷ ks ++ x ∷ [])
    go (inl t) r = absurd (true≢false (rw t at f))
    go (inr e) r = (in_joined k ks (x ∷ []) ∙ (rw (d.0, swapped x k e) refl), r (rw e at f))

not_distinct : (ks xs : List Name) (x : Name) → named_in x ks ≡ true → AreDistinct (ks ++ x ∷ xs) → ⊥
not_distinct [] xs x e d = false≢true e
not_distinct (k ∷ ks) xs x e d = go (cases_Bool (bytes_eq x k)) (λ h. not_distinct ks xs x h d.1)
  where
    or_true : (c : Bool) → (c || true) ≡ true
    or_true true = refl
    or_true false = refl

    go : (bytes_eq x k ≡ true) ⊎ (bytes_eq x k ≡ false) → (named_in x ks ≡ true → ⊥) → ⊥
    go (inl t) r = true≢false (sym (in_joined k ks (x ∷ xs) ∙ (rw ((bytes_eq-Decides k x).1 (sym (same_bytes x k t))) (or_true (named_in k ks)))) ∙ d.0)
    go (inr f) r = r (rw f at e)

pub distinct_added : (ks : List Name) (x : Name) → AreDistinct ks → AreDistinct (add ks x)
distinct_added ks x d = go (cases_Bool (named_in x ks))
  where
    go : (named_in x ks ≡ true) ⊎ (named_in x ks ≡ false) → AreDistinct (add ks x)
    go (inl t) = rw t d
    go (inr f) = rw f (distinct_one_more ks x d f)

-- ---- keys of a table, of which each has a text

module _ {K : Type 0} (text : K → List ℕ) where
  module _ (x : Name) where
    pub seen : (ks : List K) → list_any (λ k. bytes_eq x (text k)) ks ≡ named_in x (map text ks)
    seen [] = refl
    seen (k ∷ ks) = rw (seen ks) refl

    pub numbered : (ks : List K) (r : Option ℕ) → r ≡ position (λ k. bytes_eq x (text k)) ks → is_some r ≡ list_any
        (λ k. bytes_eq x (text k)) ks → MatchOption r (named_in x (map text ks) ≡ false)
        (λ i. (named_in x (map text ks) ≡ true) × (i ≡ number_of (map text ks) x))
    numbered ks None e f = sym (f ∙ seen ks)
    numbered ks (Some i) e f = (sym (f ∙ seen ks), go (nat_lt (position_or_len test ks) (length ks)) e ∙ sym same)
      where
        test : K → Bool
        test k = bytes_eq x (text k)

        same : number_of (map text ks) x ≡ position_or_len (λ k. bytes_eq x (text k)) ks
        same = is_position_or_len (λ ks. number_of (map text ks) x) (λ k. bytes_eq x (text k)) refl (λ k ks. ap (cond (bytes_eq x (text k)) 0) (omega arith)) ks

        go : (c : Bool) → Some i ≡ cond c (Some (position_or_len (λ k. bytes_eq x (text k)) ks)) None → i ≡ position_or_len (λ k. bytes_eq x (text k)) ks
        go true q = cc
        go false q = absurd cc

  joined : (ks : List K) (k : K) → map text (ks ++ k ∷ []) ≡ map text ks ++ text k ∷ []
  joined [] k = refl
  joined (j ∷ ks) k = rw (joined ks k) refl

  pub inserted : (ks : List K) (k : K) → map text (insert_key (λ a b. bytes_eq (text a) (text b)) ks k) ≡ add (map text ks) (text k)
  inserted ks k = go (cases_Bool (named_in (text k) (map text ks)))
    where
      go : (named_in (text k) (map text ks) ≡ true) ⊎ (named_in (text k) (map text ks) ≡ false) → map text
          (insert_key (λ a b. bytes_eq (text a) (text b)) ks k) ≡ add (map text ks) (text k)
      go (inl t) = rw (seen (text k) ks, t) refl
      go (inr f) = rw (seen (text k) ks, f) (joined ks k)

-- ---- names that are added one by one

module _ (ks : List Name) (names : List (Bor (List ℕ))) (i : ℕ) (x : Bor (List ℕ)) (l : i < length names) (are : ks ++ map (λ k. k.now) (drop i names) ≡ map (λ k. k.now) names) where
  abbrev this : Name
  this = (get_or names i x).now

  abbrev rest : List Name
  rest = map (λ k. k.now) (drop (suc i) names)

  all_names : ks ++ this ∷ rest ≡ map (λ k. k.now) names
  all_names = sym (ap (λ xs. ks ++ map (λ k. k.now) xs) (drop-cons names i x l)) ∙ are

  new_is : (b c : Bool) → b ≡ not c → (b ≡ true → c ≡ false) × (b ≡ false → c ≡ true)
  new_is b true e = (λ t. absurd (true≢false (sym t ∙ e)), λ f. refl)
  new_is b false e = (λ t. refl, λ f. absurd (true≢false (sym e ∙ f)))

  pub repeated : (b : Bool) → b ≡ not (named_in this ks) → b ≡ false → AreDistinct (map (λ k. k.now) names) → ⊥
  repeated b n f d = not_distinct ks rest this ((new_is b (named_in this ks) n).1 f) (subst AreDistinct (sym all_names) d)

  pub one_more : (b : Bool) → b ≡ not (named_in this ks) → b ≡ true → AreDistinct ks →
      (add ks this ++ map (λ k. k.now) (drop (i + 1) names) ≡ map (λ k. k.now) names) × AreDistinct (add ks this)
  one_more b n t d =
      let f : named_in this ks ≡ false = (new_is b (named_in this ks) n).0 t in
      rw (f, add-one) (append_assoc ks (this ∷ []) rest ∙ all_names, distinct_one_more ks this d f)
