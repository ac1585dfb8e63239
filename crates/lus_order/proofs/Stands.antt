-- Rows of numbers that stand for lists of names.
use Rattle.std.proofs.Common.{◌≡◌, ℕ, ◌<◌, Bool, true, false, ◌||◌, List, [], ◌∷◌, ◌++◌, length, get_or, refl, ap, ◌∙◌, sym, subst}
use Rattle.std.specs.Prelude.{eqb}
use Rattle.std.specs.Str.{bytes_eq}
use Rattle.std.proofs.Math.Logic.{◌⊎◌, inl, inr}
use Rattle.std.proofs.lemmas.Bool.{false≢true, cases_Bool, eqb-true, eq-eqb}
use Rattle.lus_tree.specs.Tree.{Name}
use Rattle.lus_meaning.specs.Depends.{named_in}
use Rattle.lus_meaning.specs.Order.{is_listed}
use Rattle.lus_meaning.specs.WellMade.{AreDistinct}
use Rattle.lus_meaning.proofs.Unique.{same_bytes}
use Rattle.name_table.specs.Names.{number_of}
use Rattle.name_table.proofs.Names.{itself, in_joined}
use Rattle.name_table.proofs.Numbers.{number_below, name_of_number, number_at, in_list}
use Rattle.std.proofs.lemmas.List.Folds.{list_any-append}
use Rattle.number_graphs.proofs.Searches.{or_cases, or_right}
use Rattle.lus_order.specs.Stands.{Stands}
use Rattle.lus_order.specs.Rows.{number_list}
use Rattle.lus_order.specs.OwnRows.{numbers_of}

-- ---- tests

pub or_left : (a b : Bool) → a ≡ true → (a || b) ≡ true
or_left true b e = refl
or_left false b e = absurd (false≢true e)

pub listed_joined : (j : ℕ) (xs ys : List ℕ) → is_listed (xs ++ ys) j ≡ (is_listed xs j || is_listed ys j)
listed_joined j xs ys = list_any-append (eqb j) xs ys

-- ---- joined

pub none_stand : (names : List Name) → Stands names [] []
none_stand names = record { below = λ j e. absurd (false≢true e); listed = λ j e. absurd (false≢true e); whole = λ j l e. absurd (false≢true e) }

pub stand_joined : (names : List Name) (r q : List ℕ) (xs ys : List Name) → Stands names r xs → Stands names q ys → Stands names (r ++ q) (xs ++ ys)
stand_joined names r q xs ys a b = record { below = below; listed = listed; whole = whole }
  where
    below : (j : ℕ) → is_listed (r ++ q) j ≡ true → j < length names
    below j e = go (or_cases (is_listed r j) (is_listed q j) (sym (listed_joined j r q) ∙ e))
      where
        go : (is_listed r j ≡ true) ⊎ (is_listed q j ≡ true) → j < length names
        go (inl t) = a.below j t
        go (inr t) = b.below j t

    listed : (j : ℕ) → is_listed (r ++ q) j ≡ true → named_in (get_or names j []) (xs ++ ys) ≡ true
    listed j e = in_joined (get_or names j []) xs ys ∙ go (or_cases (is_listed r j) (is_listed q j) (sym (listed_joined j r q) ∙ e))
      where
        go : (is_listed r j ≡ true) ⊎ (is_listed q j ≡ true) → (named_in (get_or names j []) xs || named_in (get_or names j []) ys) ≡ true
        go (inl t) = or_left _ _ (a.listed j t)
        go (inr t) = or_right _ _ (b.listed j t)

    whole : (j : ℕ) → j < length names → named_in (get_or names j []) (xs ++ ys) ≡ true → is_listed (r ++ q) j ≡ true
    whole j l e = listed_joined j r q
        ∙ go (or_cases (named_in (get_or names j []) xs) (named_in (get_or names j []) ys) (sym (in_joined (get_or names j []) xs ys) ∙ e))
      where
        go : (named_in (get_or names j []) xs ≡ true) ⊎ (named_in (get_or names j []) ys ≡ true) → (is_listed r j || is_listed q j) ≡ true
        go (inl t) = or_left _ _ (a.whole j l t)
        go (inr t) = or_right _ _ (b.whole j l t)

-- ---- a name, and names

one_or : (b : Bool) → (b || false) ≡ true → b ≡ true
one_or true e = refl
one_or false e = e

pub name_stands : (names : List Name) → AreDistinct names → (x : Name) → Stands names (number_list names x) (x ∷ [])
name_stands names d x = go (cases_Bool (named_in x names))
  where
    go : (named_in x names ≡ true) ⊎ (named_in x names ≡ false) → Stands names (number_list names x) (x ∷ [])
    go (inl t) = rw t (record { below = below; listed = listed; whole = whole })
      where
        is : (j : ℕ) → is_listed (number_of names x ∷ []) j ≡ true → j ≡ number_of names x
        is j e = eqb-true j (number_of names x) (one_or (eqb j (number_of names x)) e)

        below : (j : ℕ) → is_listed (number_of names x ∷ []) j ≡ true → j < length names
        below j e = subst (λ k. k < length names) (sym (is j e)) (number_below names x t)

        listed : (j : ℕ) → is_listed (number_of names x ∷ []) j ≡ true → named_in (get_or names j []) (x ∷ []) ≡ true
        listed j e = subst (λ k. named_in (get_or names k []) (x ∷ []) ≡ true) (sym (is j e))
            (subst (λ y. named_in y (x ∷ []) ≡ true) (sym (name_of_number names x t)) (or_left _ _ (itself x)))

        whole : (j : ℕ) → j < length names → named_in (get_or names j []) (x ∷ []) ≡ true → is_listed (number_of names x ∷ []) j ≡ true
        whole j l e =
            let s : get_or names j [] ≡ x = same_bytes (get_or names j []) x (one_or (bytes_eq (get_or names j []) x) e) in
            let n : number_of names x ≡ j = ap (number_of names) (sym s) ∙ number_at names d j l in
            or_left (eqb j (number_of names x)) false (eq-eqb j (number_of names x) (sym n))
    go (inr f) = rw f (record { below = λ j e. absurd (false≢true e); listed = λ j e. absurd (false≢true e); whole = whole })
      where
        whole : (j : ℕ) → j < length names → named_in (get_or names j []) (x ∷ []) ≡ true → is_listed [] j ≡ true
        whole j l e =
            let s : get_or names j [] ≡ x = same_bytes (get_or names j []) x (one_or (bytes_eq (get_or names j []) x) e) in
            absurd (false≢true (sym f ∙ subst (λ y. named_in y names ≡ true) s (in_list names j l)))

pub names_stand : (names : List Name) → AreDistinct names → (xs : List Name) → Stands names (numbers_of names xs) xs
names_stand names d [] = none_stand names
names_stand names d (x ∷ xs) = stand_joined names (number_list names x) (numbers_of names xs) (x ∷ []) xs (name_stands names d x) (names_stand names d xs)
