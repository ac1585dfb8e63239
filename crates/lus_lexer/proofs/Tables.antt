-- The tables of the code are the table of the definition.
use Rattle.std.proofs.Common.{◌≡◌, ℕ, ◌⊎◌, inl, inr, Bool, true, false, not, nat_le, ◌==◌, ◌&&◌, List, [], ◌∷◌, ◌++◌, Option, Some, None, map, get_or, length, refl, sym, ap, subst, ◌∙◌, cond}
use Rattle.std.specs.List.{list_all}
use Rattle.std.specs.Str.{bytes_eq}
use Rattle.lus_lexer.specs.declared.token.Class.{Class}
use Rattle.lus_lexer.specs.declared.spelling.Lexeme.TheVariants.{Token}
use Rattle.lus_lexer.specs.Table.{Row, table}
use Rattle.lus_lexer.specs.Search.{sign_groups, word_groups, looked_up}
use Rattle.lus_lexer.specs.Tokens.{In, Each, Stands, IsRow, is_letter, is_word}
use Rattle.lus_lexer.proofs.Spans.{stands_each, in_all, and_left, and_right}

pub not_true : (b : Bool) → not b ≡ true → b ≡ false
not_true true h = cc
not_true false h = refl

-- ---- looking a text up

abbrev pub found : List ℕ → List Row → Option Row
found t [] = None
found t (r ∷ rs) = cond (bytes_eq r.text t) (Some r) (found t rs)

some_inj : {A : Type 0} (x y : A) → Some x ≡ Some y → x ≡ y
some_inj x y e = cc

none_some : {A : Type 0} (x : A) → None ≡ Some x → Prim.⊥
none_some x e = cc

found_step : (q r : Row) (rs : List Row) (o : Option Row) (b : Bool) → (o ≡ Some q → In q rs) → cond b (Some r) o ≡ Some q → In q (r ∷ rs)
found_step q r rs o true h e = inl (sym (some_inj r q e))
found_step q r rs o false h e = inr (h e)

pub found_in : (t : List ℕ) (q : Row) (rs : List Row) → found t rs ≡ Some q → In q rs
found_in t q [] e = none_some q e
found_in t q (r ∷ rs) e = found_step q r rs (found t rs) (bytes_eq r.text t) (found_in t q rs) e

cons_head : {A : Type 0} (x y : A) (xs ys : List A) → (x ∷ xs) ≡ (y ∷ ys) → x ≡ y
cons_head x y xs ys e = cc

cons_tail : {A : Type 0} (x y : A) (xs ys : List A) → (x ∷ xs) ≡ (y ∷ ys) → xs ≡ ys
cons_tail x y xs ys e = cc

-- what holds of each row, computed for the whole list
pub at_each : (f g : Row → Option Row) (r : Row) (rs : List Row) → map f rs ≡ map g rs → In r rs → f r ≡ g r
at_each f g r [] e i = Prim.absurd i
at_each f g r (q ∷ rs) e (inl h) = rw h (cons_head (f q) (g q) (map f rs) (map g rs) e)
at_each f g r (q ∷ rs) e (inr i) = at_each f g r rs (cons_tail (f q) (g q) (map f rs) (map g rs) e) i

-- the table has each text once
once : map (λ r. found r.text table) table ≡ map (λ r. Some r) table
unfolding table
once = refl

pub same_text : (r q : Row) → In r table → In q table → r.text ≡ q.text → r ≡ q
same_text r q i k e =
    let a = at_each (λ r. found r.text table) (λ r. Some r) r table once i in
    let b = at_each (λ r. found r.text table) (λ r. Some r) q table once k in
    some_inj r q (sym a ∙ ap (λ t. found t table) e ∙ b)

-- ---- the tables of the code

abbrev pub word_row : List ℕ × Class → Row
word_row w = record { text = w.0; is = Token w.1; alone = false }

abbrev pub all_of : {A : Type 0} → List (ℕ × List A) → List A
all_of [] = []
all_of (g ∷ gs) = g.1 ++ all_of gs

in_front : {A : Type 0} (x : A) (xs ys : List A) → In x xs → In x (xs ++ ys)
in_front x [] ys i = Prim.absurd i
in_front x (y ∷ xs) ys (inl e) = inl e
in_front x (y ∷ xs) ys (inr i) = inr (in_front x xs ys i)

in_back : {A : Type 0} (x : A) (xs ys : List A) → In x ys → In x (xs ++ ys)
in_back x [] ys i = i
in_back x (y ∷ xs) ys i = inr (in_back x xs ys i)

step_all : {A : Type 0} (x : A) (b : Bool) (xs ys zs : List A) → (In x ys → In x zs) → In x (cond b xs ys) → In x (xs ++ zs)
step_all x true xs ys zs h i = in_front x xs zs i
step_all x false xs ys zs h i = in_back x xs zs (h i)

pub in_all_of : {A : Type 0} (b : ℕ) (x : A) (gs : List (ℕ × List A)) → In x (looked_up b gs) → In x (all_of gs)
in_all_of b x [] i = i
in_all_of b x (g ∷ gs) i = step_all x (b == g.0) g.1 (looked_up b gs) (all_of gs) (in_all_of b x gs) i

abbrev pub signs_at : ℕ → List Row
signs_at b = looked_up b sign_groups

abbrev pub rows : List (List ℕ × Class) → List Row
rows ws = map word_row ws

abbrev pub words_at : ℕ → List Row
words_at b = rows (looked_up b word_groups)

in_rows : (r : Row) (ws : List (List ℕ × Class)) → In r (rows ws) → (w : List ℕ × Class) × In w ws × (r ≡ word_row w)
in_rows r [] i = Prim.absurd i
in_rows r (w ∷ ws) (inl e) = (w, inl refl, e)
in_rows r (w ∷ ws) (inr i) = let k = in_rows r ws i in (k.0, inr k.1, k.2)

rows_in : (w : List ℕ × Class) (ws : List (List ℕ × Class)) → In w ws → In (word_row w) (rows ws)
rows_in w [] i = Prim.absurd i
rows_in w (v ∷ ws) (inl e) = inl (ap word_row e)
rows_in w (v ∷ ws) (inr i) = inr (rows_in w ws i)

all_signs : map (λ r. found r.text table) (all_of sign_groups) ≡ map (λ r. Some r) (all_of sign_groups)
unfolding table
all_signs = refl

all_words : map (λ r. found r.text table) (rows (all_of word_groups)) ≡ map (λ r. Some r) (rows (all_of word_groups))
unfolding table
all_words = refl

pub sign_listed : (b : ℕ) (r : Row) → In r (signs_at b) → In r table
sign_listed b r i = found_in r.text r table (at_each (λ r. found r.text table) (λ r. Some r) r (all_of sign_groups) all_signs (in_all_of b r sign_groups i))

pub word_listed : (b : ℕ) (r : Row) → In r (words_at b) → In r table
word_listed b r i =
    let k = in_rows r (looked_up b word_groups) i in
    let l : In (word_row k.0) (rows (all_of word_groups)) = rows_in k.0 (all_of word_groups) (in_all_of b k.0 word_groups k.1) in
    let l' : In r (rows (all_of word_groups)) = subst (λ (x : Row). In x (rows (all_of word_groups))) (sym k.2) l in
    found_in r.text r table (at_each (λ r. found r.text table) (λ r. Some r) r (rows (all_of word_groups)) all_words l')

pub both : (a b : Bool) → a ≡ true → b ≡ true → (a && b) ≡ true
both true b h k = k
both false b h k = h

-- it stands in the code's words, or else in its signs, at its first byte
abbrev looked_at : Row → Option Row
looked_at r = cond (is_letter (get_or r.text 0 0)) (found r.text (words_at (get_or r.text 0 0))) (found r.text (signs_at (get_or r.text 0 0)))

each_looked : map looked_at table ≡ map (λ r. Some r) table
unfolding table
each_looked = refl

split_cond : (b : Bool) (x y : Option Row) (r : Row) → cond b x y ≡ Some r → ((b ≡ true) × (x ≡ Some r)) ⊎ ((b ≡ false) × (y ≡ Some r))
split_cond true x y r h = inl (refl, h)
split_cond false x y r h = inr (refl, h)

abbrev word_ok : Row → Bool
word_ok r = nat_le 1 (length r.text) && (list_all is_word r.text && (is_letter (get_or r.text 0 0) && not r.alone))

abbrev sign_ok : Row → Bool
sign_ok r = nat_le 1 (length r.text) && (list_all (nat_le 1) r.text && (not (is_word (get_or r.text 0 0)) && not (get_or r.text 0 0 == 34)))

rows_ok : list_all (λ r. cond (is_letter (get_or r.text 0 0)) (word_ok r) (sign_ok r)) table ≡ true
unfolding table
rows_ok = refl

ok_row : (r : Row) → In r table → cond (is_letter (get_or r.text 0 0)) (word_ok r) (sign_ok r) ≡ true
ok_row r i = in_all (λ r. cond (is_letter (get_or r.text 0 0)) (word_ok r) (sign_ok r)) r table rows_ok i

pub at_true : (b x y : Bool) → b ≡ true → cond b x y ≡ true → x ≡ true
at_true true x y e h = h
at_true false x y e h = cc

-- what begins with a letter may have anything behind it
pub word_alone : (r : Row) → In r table → is_letter (get_or r.text 0 0) ≡ true → r.alone ≡ true → Prim.⊥
word_alone r i e a =
    let k : word_ok r ≡ true = at_true (is_letter (get_or r.text 0 0)) _ _ e (ok_row r i) in
    let b = and_right (list_all is_word r.text) _ (and_right (nat_le 1 (length r.text)) _ k) in
    let n : r.alone ≡ false = not_true r.alone (and_right (is_letter (get_or r.text 0 0)) _ b) in
    let f : true ≡ false = sym a ∙ n in cc

at_false : (b x y : Bool) → b ≡ false → cond b x y ≡ true → y ≡ true
at_false true x y e h = cc
at_false false x y e h = h

first_stands : (s : ℕ → ℕ) (i j : ℕ) (w : List ℕ) → nat_le 1 (length w) ≡ true → Stands s i w j → s i ≡ get_or w 0 0
first_stands s i j [] h k = cc
first_stands s i j (c ∷ w) h k = k.0

pub record WordHead (s : ℕ → ℕ) (i j : ℕ) (r : Row) : Type 0 where
  pub letter : is_letter (s i) ≡ true
  pub listed : In r (words_at (s i))
  pub word : Each s is_word i j

pub record SignHead (s : ℕ → ℕ) (i : ℕ) (r : Row) : Type 0 where
  pub other : is_word (s i) ≡ false
  pub no_quote : (s i == 34) ≡ false
  pub listed : In r (signs_at (s i))

word_head : (s : ℕ → ℕ) (i j : ℕ) (r : Row) → IsRow s i j r → is_letter (get_or r.text 0 0) ≡ true → found r.text
    (words_at (get_or r.text 0 0)) ≡ Some r → WordHead s i j r
word_head s i j r h e l =
    let a : word_ok r ≡ true = at_true (is_letter (get_or r.text 0 0)) _ _ e (ok_row r h.listed) in
    let n = and_left (nat_le 1 (length r.text)) _ a in
    let b = and_right (nat_le 1 (length r.text)) _ a in
    let f = first_stands s i j r.text n h.stands in
    record {
      letter = rw f e;
      listed = rw f (found_in r.text r _ l);
      word = stands_each s is_word i r.text j (and_left (list_all is_word r.text) _ b) h.stands;
    }

sign_head : (s : ℕ → ℕ) (i j : ℕ) (r : Row) → IsRow s i j r → is_letter (get_or r.text 0 0) ≡ false → found r.text
    (signs_at (get_or r.text 0 0)) ≡ Some r → SignHead s i r
sign_head s i j r h e l =
    let a : sign_ok r ≡ true = at_false (is_letter (get_or r.text 0 0)) _ _ e (ok_row r h.listed) in
    let n = and_left (nat_le 1 (length r.text)) _ a in
    let b = and_right (list_all (nat_le 1) r.text) _ (and_right (nat_le 1 (length r.text)) _ a) in
    let f = first_stands s i j r.text n h.stands in
    record {
      other = rw f (not_true (is_word (get_or r.text 0 0)) (and_left (not (is_word (get_or r.text 0 0))) _ b));
      no_quote = rw f (not_true (get_or r.text 0 0 == 34) (and_right (not (is_word (get_or r.text 0 0))) _ b));
      listed = rw f (found_in r.text r _ l);
    }

-- What stands in the table begins with a letter, and is one of the code's words at that letter;
-- or with none, and is one of its signs at that byte.
pub head : (s : ℕ → ℕ) (i j : ℕ) (r : Row) → IsRow s i j r → WordHead s i j r ⊎ SignHead s i r
head s i j r h = elim (split_cond (is_letter (get_or r.text 0 0)) _ _ r (at_each looked_at (λ r. Some r) r table each_looked h.listed)) [
  | inl a ↦ inl (word_head s i j r h a.0 a.1)
  | inr b ↦ inr (sign_head s i j r h b.0 b.1)
]
