-- What a name is, as a test and by the table.
use Rattle.std.proofs.Common.{◌≡◌, ℕ, ◌+◌, ◌-◌, ◌<◌, ◌≤◌, ◌⊎◌, inl, inr, Bool, true, false, not, ◌||◌, ◌↔◌, List, [], ◌∷◌, ◌++◌, Some, map, length, take, drop, get_or, refl, sym, subst, ◌∙◌, arith, cond}
use Rattle.std.proofs.Math.Seq.{take-length}
use Rattle.std.proofs.Math.ListN.{get_or-eq_default}
use Rattle.std.specs.List.{list_all, list_any}
use Rattle.std.specs.Str.{bytes_eq}
use Rattle.std.proofs.lemmas.Slice.Eq.{bytes_eq-Decides}
use Rattle.lus_lexer.specs.declared.token.Class.TheVariants as C
use Rattle.lus_lexer.specs.declared.token.Class.{Class}
use Rattle.lus_lexer.specs.declared.spelling.Lexeme.TheVariants.{Token}
use Rattle.lus_lexer.specs.Table.{Row, table, keywords, left_out_words}
use Rattle.lus_lexer.specs.Search.{word_in, looked_up, word_groups}
use Rattle.lus_lexer.specs.Names.{reserved, is_name}
use Rattle.lus_lexer.specs.Tokens.{byte, Each, Stands, In, IsRow, IsName, is_word, is_letter}
use Rattle.lus_lexer.proofs.Spans.{and_left, and_right, in_all, stands_length, stands_each}
use Rattle.lus_lexer.proofs.Tables.{found, found_in, at_each, at_true, both, not_true, head, word_listed, words_at}
use Rattle.lus_lexer.proofs.Longest.{both_ways, letter_word}
use Rattle.lus_lexer.proofs.Rules.{is_fixed, all_fixed}
use Rattle.lus_lexer.proofs.Looking.{slice_stands, same_slice, word_found}

-- ---- a text that is the whole

whole : (w : List ℕ) → take (length w) w ≡ w
whole w = take-length w

whole_slice : (w : List ℕ) → take (length w - 0) (drop 0 w) ≡ w
whole_slice w = let e : length w - 0 ≡ length w = omega arith in subst (λ (n : ℕ). take n w ≡ w) (sym e) (whole w)

pub whole_stands : (w : List ℕ) → Stands (byte w) 0 w (length w)
whole_stands w = subst (λ (x : List ℕ). Stands (byte w) 0 x (length w)) (whole w) (slice_stands w 0 (length w) (length w) (omega arith) (omega arith))

each_all : (s : ℕ → ℕ) (f : ℕ → Bool) (i : ℕ) (w : List ℕ) (j : ℕ) → Stands s i w j → Each s f i j → list_all f w ≡ true
each_all s f i [] j h e = refl
each_all s f i (c ∷ w) j h e =
    let n = stands_length s (i + 1) w j h.1 in
    both (f c) (list_all f w) (subst (λ (x : ℕ). f x ≡ true) h.0 (e i (omega arith) (omega (arith, n))))
    (each_all s f (i + 1) w j h.1 (λ k a b. e k (omega (arith, a)) b))

past_end : (w : List ℕ) → is_word (byte w (length w)) ≡ false
past_end w = let e : byte w (length w) ≡ 0 = get_or-eq_default w 0 (omega arith) in rw e refl

some_letter : (w : List ℕ) → is_letter (byte w 0) ≡ true → 0 < length w
some_letter [] h = cc
some_letter (c ∷ w) h = omega arith

-- ---- the reserved words are the table's words that begin with a letter

words_reserved : list_all (λ r. cond (is_letter (get_or r.text 0 0)) (list_any (bytes_eq r.text) reserved) true) table ≡ true
unfolding table
words_reserved = refl

row_reserved : (r : Row) → In r table → is_letter (get_or r.text 0 0) ≡ true → list_any (bytes_eq r.text) reserved ≡ true
row_reserved r i h = at_true (is_letter (get_or r.text 0 0)) _ _ h
    (in_all (λ r. cond (is_letter (get_or r.text 0 0)) (list_any (bytes_eq r.text) reserved) true) r table words_reserved i)

reserved_found : map (λ r. found r.text table) (keywords ++ left_out_words) ≡ map (λ r. Some r) (keywords ++ left_out_words)
unfolding table
reserved_found = refl

not_alone : list_all (λ r. not r.alone) (keywords ++ left_out_words) ≡ true
not_alone = refl

abbrev OneOf : List ℕ → List Row → Type 0
OneOf w rs = (r : Row) × In r rs × (w ≡ r.text)

one_of_step : (w : List ℕ) (r : Row) (rs : List Row) (b : Bool) → bytes_eq w r.text ≡ b →
    (list_any (bytes_eq w) (map (λ r. r.text) rs) ≡ true → OneOf w rs) → (b || list_any (bytes_eq w) (map (λ r. r.text) rs)) ≡ true
    → OneOf w (r ∷ rs)
one_of_step w r rs true e f h = (r, inl refl, (bytes_eq-Decides w r.text).0 e)
one_of_step w r rs false e f h = let o = f h in (o.0, inr o.1, o.2)

one_of : (w : List ℕ) (rs : List Row) → list_any (bytes_eq w) (map (λ r. r.text) rs) ≡ true → OneOf w rs
one_of w [] h = cc
one_of w (r ∷ rs) h = one_of_step w r rs (bytes_eq w r.text) refl (one_of w rs) h

reserved_row : (w : List ℕ) → list_any (bytes_eq w) reserved ≡ true → (r : Row) × IsRow (byte w) 0 (length w) r
reserved_row w h =
    let o = one_of w (keywords ++ left_out_words) h in
    let a : o.0.alone ≡ false = not_true o.0.alone (in_all (λ r. not r.alone) o.0 (keywords ++ left_out_words) not_alone o.1) in (
      o.0,
      record {
        listed = found_in o.0.text o.0 table (at_each (λ r. found r.text table) (λ r. Some r) o.0 (keywords ++ left_out_words) reserved_found o.1);
        stands = subst (λ (x : List ℕ). Stands (byte w) 0 x (length w)) o.2 (whole_stands w);
        alone = λ k. Prim.absurd (both_ways o.0.alone k a);
      },
    )

-- ---- the test says what the table does

row_text : (w : List ℕ) (r : Row) → IsRow (byte w) 0 (length w) r → r.text ≡ w
row_text w r h = same_slice w 0 (length w) r.text (omega arith) h.stands ∙ whole_slice w

name_no_row : (w : List ℕ) → is_letter (byte w 0) ≡ true → not (list_any (bytes_eq w) reserved) ≡ true → (r : Row) → IsRow (byte w) 0 (length w) r → Prim.⊥
name_no_row w l n r h =
    let e = row_text w r h in
    let f : is_letter (get_or r.text 0 0) ≡ true = subst (λ (x : List ℕ). is_letter (get_or x 0 0) ≡ true) (sym e) l in
    let k : list_any (bytes_eq w) reserved ≡ true = subst (λ (x : List ℕ). list_any (bytes_eq x) reserved ≡ true) e (row_reserved r h.listed f) in
    both_ways (list_any (bytes_eq w) reserved) k (not_true (list_any (bytes_eq w) reserved) n)

pub name_of_test : (w : List ℕ) → is_name w ≡ true → IsName (byte w) 0 (length w)
unfolding is_name
name_of_test w h =
    let l : is_letter (byte w 0) ≡ true = and_left (is_letter (byte w 0)) _ h in
    let k = and_right (is_letter (byte w 0)) _ h in
    record {
      some = some_letter w l;
      letter = l;
      word = stands_each (byte w) is_word 0 w (length w) (and_left (list_all is_word w) _ k) (whole_stands w);
      no_row = name_no_row w l (and_right (list_all is_word w) _ k);
    }

none_reserved : (w : List ℕ) → ((r : Row) → IsRow (byte w) 0 (length w) r → Prim.⊥) → not (list_any (bytes_eq w) reserved) ≡ true
none_reserved w h = go (list_any (bytes_eq w) reserved) refl
  where
    go : (b : Bool) → list_any (bytes_eq w) reserved ≡ b → not b ≡ true
    go true e = let k = reserved_row w e in Prim.absurd (h k.0 k.1)
    go false e = refl

pub test_of_name : (w : List ℕ) → IsName (byte w) 0 (length w) → is_name w ≡ true
unfolding is_name
test_of_name w h = both (is_letter (byte w 0)) _ h.letter (both (list_all is_word w) _
    (each_all (byte w) is_word 0 w (length w) (whole_stands w) h.word) (none_reserved w h.no_row))

-- ---- what the code finds

not_fixed : (w : List ℕ) (c : Class) → c ≡ C.Ident → In (record { text = w; is = Token c; alone = false }) table → Prim.⊥
not_fixed w c e i =
    let a : is_fixed (Token c) ≡ true = in_all (λ r. is_fixed r.is) _ table all_fixed i in
    let b : is_fixed (Token c) ≡ false = subst (λ (x : Class). is_fixed (Token x) ≡ false) (sym e) refl in
    both_ways (is_fixed (Token c)) a b

abbrev Found : List ℕ → Class → Type 0
Found w c = In (record { text = w; is = Token c; alone = false }) (words_at (byte w 0)) ⊎
    ((c ≡ C.Ident) × ((r : Row) → In r (words_at (byte w 0)) → r.text ≡ w → Prim.⊥))

named : (w : List ℕ) (c : Class) → is_letter (byte w 0) ≡ true → Each (byte w) is_word 0 (length w) → Found w c → c ≡ C.Ident → IsName (byte w) 0 (length w)
named w c l e (inl k) i = Prim.absurd (not_fixed w c i (word_listed (byte w 0) _ k))
named w c l e (inr k) i = record {
  some = some_letter w l;
  letter = l;
  word = e;
  no_row = λ r h. elim (head (byte w) 0 (length w) r h) [
    | inl q ↦ k.1 r q.listed (row_text w r h)
    | inr q ↦ both_ways (is_word (byte w 0)) (letter_word (byte w 0) l) q.other
  ];
}

ident : (w : List ℕ) (c : Class) → Found w c → IsName (byte w) 0 (length w) → c ≡ C.Ident
ident w c (inl k) h = Prim.absurd (h.no_row _ (record { listed = word_listed (byte w 0) _ k; stands = whole_stands w; alone = λ q. cc }))
ident w c (inr k) h = k.0

-- its class by the code's words is that of a name exactly where no row has this text
pub word_name : (w : List ℕ) (c : Class) → is_letter (byte w 0) ≡ true → Each (byte w) is_word 0 (length w) → c ≡ word_in
    (looked_up (byte w 0) word_groups) w → (c ≡ C.Ident) ↔ IsName (byte w) 0 (length w)
word_name w c l e h = (λ i. named w c l e (word_found (byte w 0) w c h) i, λ n. ident w c (word_found (byte w 0) w c h) n)

-- ---- the answers

abbrev pub Is : List ℕ → Type 0
Is w = IsName (byte w) 0 (length w)

pub yes : (w : List ℕ) → Is w → true ≡ is_name w
yes w h = sym (test_of_name w h)

pub no : (w : List ℕ) → (Is w → Prim.⊥) → false ≡ is_name w
no w h = go (is_name w) refl
  where
    go : (b : Bool) → is_name w ≡ b → false ≡ b
    go true e = Prim.absurd (h (name_of_test w e))
    go false e = refl

pub no_letter : (w : List ℕ) → is_letter (byte w 0) ≡ false → Is w → Prim.⊥
no_letter w e h = both_ways (is_letter (byte w 0)) h.letter e

pub no_word : (w : List ℕ) (j : ℕ) → j ≤ length w → (j ≡ length w → Prim.⊥) → is_word (byte w j) ≡ false → Is w → Prim.⊥
no_word w j l n e h = both_ways (is_word (byte w j)) (h.word j (omega arith) (before j (length w) l n)) e
  where
    before : (a b : ℕ) → a ≤ b → (a ≡ b → Prim.⊥) → a < b
    before a b l n = grind (arith, l, n)
