-- Names that are marked are added to a table.
use Rattle.std.proofs.Common.{◌≡◌, ℕ, ◌<◌, ◌≤◌, Bool, true, false, cond, ◌&&◌, List, [], ◌∷◌, ◌++◌, length, refl, ◌∙◌, sym, subst, arith}
use Rattle.std.specs.Str.{bytes_eq}
use Rattle.std.proofs.Math.Logic.{◌⊎◌, inl, inr}
use Rattle.std.proofs.lemmas.Bool.{false≢true, cases_Bool}
use Rattle.std.proofs.lemmas.List.{length-append}
use Rattle.lus_tree.specs.Tree.{Name}
use Rattle.lus_meaning.specs.Depends.{named_in}
use Rattle.lus_meaning.proofs.Unique.{same_bytes}
use Rattle.name_table.specs.Names.{add, number_of}
use Rattle.name_table.proofs.Names.{in_joined}
use Rattle.name_table.proofs.Numbers.{number_below}
use Rattle.number_graphs.specs.Graphs.{Rows, AreReached, is_marked}
use Rattle.lus_order.specs.MarkedNames.{RowLeadsTo, is_marked_name, with_marked, AreFound}
use Rattle.lus_order.proofs.Added.{added_is}
use Rattle.number_graphs.proofs.Searches.{or_cases, or_right}
use Rattle.lus_order.proofs.Stands.{or_left}

module _ (marks : List Bool) (names : List Name) where
  kept : (y : Name) (ks xs : List Name) → named_in y ks ≡ true → named_in y (with_marked marks names ks xs) ≡ true
  kept y ks [] e = e
  kept y ks (x ∷ xs) e = kept y (cond (is_marked_name marks names x) (add ks x) ks) xs (go (is_marked_name marks names x))
    where
      go : (b : Bool) → named_in y (cond b (add ks x) ks) ≡ true
      go true = added_is ks x y ∙ (in_joined y ks (x ∷ []) ∙ or_left _ _ e)
      go false = e

  there : (y : Name) (ks xs : List Name) → named_in y xs ≡ true → is_marked_name marks names y ≡ true → named_in y (with_marked marks names ks xs) ≡ true
  there y ks [] e m = absurd (false≢true e)
  there y ks (x ∷ xs) e m = go (cases_Bool (bytes_eq y x)) (there y (cond (is_marked_name marks names x) (add ks x) ks) xs)
    where
      go : (bytes_eq y x ≡ true) ⊎ (bytes_eq y x ≡ false)
          → (named_in y xs ≡ true → is_marked_name marks names y ≡ true → named_in y (with_marked marks names ks (x ∷ xs)) ≡ true)
          → named_in y (with_marked marks names ks (x ∷ xs)) ≡ true
      go (inr f) r = r (rw f at e) m
      go (inl t) r =
          let s : y ≡ x = same_bytes y x t in
          kept y (cond (is_marked_name marks names x) (add ks x) ks) xs
          (subst (λ b. named_in y (cond b (add ks x) ks) ≡ true) (sym (subst (λ z. is_marked_name marks names z ≡ true) s m))
          (added_is ks x y ∙ (in_joined y ks (x ∷ []) ∙ or_right (named_in y ks) (named_in y (x ∷ [])) (or_left _ _ t))))

  only : (y : Name) (ks xs : List Name) → named_in y (with_marked marks names ks xs) ≡ true
      → (named_in y ks ≡ true) ⊎ (is_marked_name marks names y ≡ true)
  only y ks [] e = inl e
  only y ks (x ∷ xs) e = go (only y (cond (is_marked_name marks names x) (add ks x) ks) xs e)
    where
      one : (b : Bool) → is_marked_name marks names x ≡ b → named_in y (cond b (add ks x) ks) ≡ true
          → (named_in y ks ≡ true) ⊎ (is_marked_name marks names y ≡ true)
      one false m h = inl h
      one true m h = either (or_cases (named_in y ks) (named_in y (x ∷ [])) (sym (in_joined y ks (x ∷ [])) ∙ (sym (added_is ks x y) ∙ h)))
        where
          either : (named_in y ks ≡ true) ⊎ (named_in y (x ∷ []) ≡ true) → (named_in y ks ≡ true) ⊎ (is_marked_name marks names y ≡ true)
          either (inl q) = inl q
          either (inr q) = last (or_cases (bytes_eq y x) false q)
            where
              last : (bytes_eq y x ≡ true) ⊎ (false ≡ true) → (named_in y ks ≡ true) ⊎ (is_marked_name marks names y ≡ true)
              last (inl t) = inr (subst (λ z. is_marked_name marks names z ≡ true) (sym (same_bytes y x t)) m)
              last (inr z) = absurd (false≢true z)

      go : (named_in y (cond (is_marked_name marks names x) (add ks x) ks) ≡ true) ⊎ (is_marked_name marks names y ≡ true)
          → (named_in y ks ≡ true) ⊎ (is_marked_name marks names y ≡ true)
      go (inl h) = one (is_marked_name marks names x) refl h
      go (inr h) = inr h

pub marks_found : (rows : Rows) (names : List Name) (row : List ℕ) (marks : List Bool) (a b : List Name) (r s t : List Name)
    → AreReached (rows ++ row ∷ []) (length rows) marks → length names ≤ length rows → r ≡ [] → s ≡ with_marked marks names r a
    → t ≡ with_marked marks names s b → AreFound rows names row (a ++ b) t
marks_found rows names row marks a b r s t reached w e f g y i h = (to, back)
  where
    to : named_in y t ≡ true → RowLeadsTo rows row (number_of names y)
    to q = is_led (first (only marks names y s b (subst (λ z. named_in y z ≡ true) g q)))
      where
        first : (named_in y s ≡ true) ⊎ (is_marked_name marks names y ≡ true) → is_marked_name marks names y ≡ true
        first (inr m) = m
        first (inl m) = second (only marks names y r a (subst (λ z. named_in y z ≡ true) f m))
          where
            second : (named_in y r ≡ true) ⊎ (is_marked_name marks names y ≡ true) → is_marked_name marks names y ≡ true
            second (inr k) = k
            second (inl k) = absurd (false≢true (subst (λ z. named_in y z ≡ true) e k))

        is_led : is_marked_name marks names y ≡ true → RowLeadsTo rows row (number_of names y)
        is_led m = reached.led (number_of names y) (subst (λ b. (b && is_marked marks (number_of names y)) ≡ true) h m)

    back : RowLeadsTo rows row (number_of names y) → named_in y t ≡ true
    back p =
        let below : number_of names y < length names = number_below names y h in
        let m : is_marked_name marks names y ≡ true = subst (λ b. (b && is_marked marks (number_of names y)) ≡ true) (sym h)
        (reached.all (number_of names y) (omega (arith, below, w, length-append rows (row ∷ []))) p) in
        subst (λ z. named_in y z ≡ true) (sym g) (go (or_cases (named_in y a) (named_in y b) (sym (in_joined y a b) ∙ i)) m)
      where
        go : (named_in y a ≡ true) ⊎ (named_in y b ≡ true) → is_marked_name marks names y ≡ true → named_in y (with_marked marks names s b) ≡ true
        go (inl q) m = kept marks names y s b (subst (λ z. named_in y z ≡ true) (sym f) (there marks names y r a q m))
        go (inr q) m = there marks names y s b q m
