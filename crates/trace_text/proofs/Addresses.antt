-- A place is read piece by piece.
use Rattle.std.proofs.Common.{◌≡◌, ℕ, ◌+◌, ◌-◌, ◌<◌, ◌≤◌, Bool, true, false, not, ◌&&◌, cond, decimal, option_map, append_assoc, List, [], ◌∷◌, ◌++◌, length, get_or, take, drop, Option, Some, None, refl, sym, ap, ◌∙◌, subst, arith, add-one}
use Rattle.std.specs.Prelude.{◌==◌}
use Rattle.std.proofs.Math.Seq.{drop-cons}
use Rattle.std.proofs.lemmas.List.{take_more, get_or-drop, length-drop, drop_all, take_all}
use Rattle.std.proofs.lemmas.List.{append-nil}
use Rattle.std.specs.List.{list_all, AllByRecursion}
use Rattle.std.specs.Char.{is_ascii_digit}
use Rattle.std.specs.Str.{all_ascii_digits}
use Rattle.lus_lexer.specs.Tokens.{is_letter, is_word}
use Rattle.lus_meaning.specs.Trace.{Subject, of_name, of_first}
use Rattle.lus_lexer.specs.Names.{is_name}
use Rattle.trace_text.specs.Words.{IsAddress, FitsSubject, subject_text, step_text, address_text}
use Rattle.trace_text.specs.Reading.{address_from, address_of, small_of, name_of, subject_of, longer, joined}
use Rattle.trace_text.proofs.AsciiNames.{name_word, name_letter}
use Rattle.trace_text.proofs.Numbers.{and_left, and_right, both_true, some_is, none_some, equal_is, map_some, small_sound, small_complete, digits_of_decimal}

pub nothing : (p w : List ℕ) → address_from None p w ≡ None
unfolding address_from
nothing p w = refl

abbrev pub piece : List ℕ → ℕ → ℕ → List ℕ
piece w from i = take (i - from) (drop from w)

front : (w : List ℕ) (i : ℕ) → i < length w → drop i w ≡ get_or w i 0 ∷ drop (i + 1) w
front w i h = rw (add-one, drop-cons w i 0) refl

piece_more : (w : List ℕ) (from i : ℕ) → from ≤ i → i < length w → piece w from (i + 1) ≡ piece w from i ++ get_or w i 0 ∷ []
piece_more w from i o h =
    let k : i + 1 - from ≡ (i - from) + 1 = omega arith in
    let l : i - from < length (drop from w) = omega (arith, length-drop from w) in
    let e : from + (i - from) ≡ i = omega arith in
    ap (λ (n : ℕ). take n (drop from w)) k ∙ take_more (drop from w) (i - from) 0 l ∙ ap (λ (b : ℕ). piece w from i ++ b ∷ [])
    (get_or-drop from w (i - from) 0 ∙ ap (λ (n : ℕ). get_or w n 0) e)

dot_is : (b : ℕ) → b ≡ 46 → (b == 46) ≡ true
dot_is b e = ap (λ (x : ℕ). x == 46) e

pub at_dot : (path : List ℕ) (w : List ℕ) (from i : ℕ) → i < length w → get_or w i 0 ≡ 46
    → address_from (Some path) (piece w from i) (drop i w) ≡ address_from (longer path (small_of (piece w from i))) [] (drop (i + 1) w)
unfolding address_from
at_dot path w from i h e = rw (front w i h, dot_is (get_or w i 0) e) refl

pub at_other : (path : List ℕ) (w : List ℕ) (from i : ℕ) → from ≤ i → i < length w → (get_or w i 0 == 46) ≡ false
    → address_from (Some path) (piece w from i) (drop i w) ≡ address_from (Some path) (piece w from (i + 1)) (drop (i + 1) w)
unfolding address_from
at_other path w from i o h e = rw (front w i h, e, piece_more w from i o h) refl

pub at_end : (path : List ℕ) (w : List ℕ) (from i : ℕ) → from ≤ i → length w ≤ i → address_from (Some path) (piece w from i)
    (drop i w) ≡ joined path (subject_of (drop from w))
unfolding address_from
at_end path w from i o h = rw (drop_all i w h, take_all (i - from) (drop from w) (omega (arith, length-drop from w))) refl

not_dot : (b : ℕ) → (b ≡ 46 → ⊥) → (b == 46) ≡ false
not_dot b h = grind (arith, h)

-- behind a dot
pub after_dot : (path path' : List ℕ) (w : List ℕ) (from from' i n : ℕ) (total : Option (List ℕ × Subject)) → path' ≡ path ++ n ∷ []
    → from' ≡ i + 1 → i < length w → get_or w i 0 ≡ 46 → Some n ≡ small_of (piece w from i)
    → address_from (Some path) (piece w from i) (drop i w) ≡ total → address_from (Some path') (piece w from' (i + 1)) (drop (i + 1) w) ≡ total
after_dot path path' w from from' i n total p f h e s so_far =
    let zero : i + 1 - (i + 1) ≡ 0 = omega arith in
    let none : piece w (i + 1) (i + 1) ≡ [] = ap (λ (k : ℕ). take k (drop (i + 1) w)) zero in
    ap (λ (k : ℕ). address_from (Some path') (piece w k (i + 1)) (drop (i + 1) w)) f ∙ ap (λ (x : List ℕ). address_from (Some path') x (drop (i + 1) w)) none
    ∙ ap (λ (x : List ℕ). address_from (Some x) [] (drop (i + 1) w)) p ∙ ap
    (λ (o : Option ℕ). address_from (longer path o) [] (drop (i + 1) w)) s ∙ sym (at_dot path w from i h e) ∙ so_far

-- behind another byte
pub after_other : (path path' : List ℕ) (w : List ℕ) (from from' i : ℕ) (total : Option (List ℕ × Subject)) → path' ≡ path → from' ≡ from
    → from ≤ i → i < length w → (get_or w i 0 ≡ 46 → ⊥)
    → address_from (Some path) (piece w from i) (drop i w) ≡ total → address_from (Some path') (piece w from' (i + 1)) (drop (i + 1) w) ≡ total
after_other path path' w from from' i total p f o h e so_far =
    ap (λ (k : ℕ). address_from (Some path') (piece w k (i + 1)) (drop (i + 1) w)) f ∙ ap
    (λ (x : List ℕ). address_from (Some x) (piece w from (i + 1)) (drop (i + 1) w)) p
    ∙ sym (at_other path w from i o h (not_dot (get_or w i 0) e)) ∙ so_far

-- a piece before a dot that is no number
pub no_number : (path : List ℕ) (w : List ℕ) (from i : ℕ) (total : Option (List ℕ × Subject)) → i < length w → get_or w i 0 ≡ 46
    → None ≡ small_of (piece w from i)
    → address_from (Some path) (piece w from i) (drop i w) ≡ total → None ≡ total
no_number path w from i total h e s so_far =
    sym (nothing [] (drop (i + 1) w)) ∙ ap (λ (o : Option ℕ). address_from (longer path o) [] (drop (i + 1) w)) s ∙ sym (at_dot path w from i h e) ∙ so_far

-- the end of the word
pub is_address : (path : List ℕ) (w : List ℕ) (from i : ℕ) (total : Option (List ℕ × Subject)) (s : Option Subject) → from ≤ i
    → length w ≤ i → s ≡ subject_of (take (length w - from) (drop from w))
    → address_from (Some path) (piece w from i) (drop i w) ≡ total → joined path s ≡ total
is_address path w from i total s o h e so_far = ap (joined path)
    (e ∙ ap subject_of (take_all (length w - from) (drop from w) (omega (arith, length-drop from w)))) ∙ sym (at_end path w from i o h)
    ∙ so_far

-- ---- what a place is

-- no dot stands in it
abbrev pub no_dots : List ℕ → Bool
no_dots bs = list_all (λ b. not (b == 46)) bs

digit_no_dot : (b : ℕ) → is_ascii_digit b ≡ true → (b == 46) ≡ false
digit_no_dot b h = grind (arith, h)

word_no_dot : (b : ℕ) → is_word b ≡ true → (b == 46) ≡ false
word_no_dot b h = grind (arith, h)

all_no_dots : (t : ℕ → Bool) → ((b : ℕ) → t b ≡ true → (b == 46) ≡ false) → (bs : List ℕ) → list_all t bs ≡ true → no_dots bs ≡ true
all_no_dots t f [] h = refl
all_no_dots t f (b ∷ bs) h = both_true (not (b == 46)) (no_dots bs) (ap not (f b (and_left (t b) (list_all t bs) h)))
    (all_no_dots t f bs (and_right (t b) (list_all t bs) h))

digits_all : (bs : List ℕ) → all_ascii_digits bs ≡ true → list_all is_ascii_digit bs ≡ true
digits_all [] h = refl
digits_all (b ∷ bs) h = both_true (is_ascii_digit b) (list_all is_ascii_digit bs) (and_left (is_ascii_digit b) (all_ascii_digits bs) h)
    (digits_all bs (and_right (is_ascii_digit b) (all_ascii_digits bs) h))

decimal_no_dots : (n : ℕ) → n < 4294967296 → no_dots (decimal n) ≡ true
decimal_no_dots n l = all_no_dots is_ascii_digit digit_no_dot (decimal n) (digits_all (decimal n) (digits_of_decimal n (omega arith)))

subject_no_dots : (s : Subject) → FitsSubject s → no_dots (subject_text s) ≡ true
subject_no_dots (of_name x) h = all_no_dots is_word word_no_dot x (name_word x h)
subject_no_dots (of_first k) h = decimal_no_dots k h

empty_name : is_name [] ≡ true → ⊥
empty_name h = let k = name_letter [] h in absurd cc

letter_no_hash : (b : ℕ) → is_letter b ≡ true → (b == 35) ≡ false
letter_no_hash b h = grind (arith, h)

cons_is : (a b : ℕ) (v w : List ℕ) → a ≡ b → v ≡ w → (a ∷ v) ≡ (b ∷ w)
cons_is a b v w e f = cc

dot_read : (path piece r : List ℕ) → address_from (Some path) piece (46 ∷ r) ≡ address_from (longer path (small_of piece)) [] r
unfolding address_from
dot_read path piece r = refl

piece_end : (path piece : List ℕ) → address_from (Some path) piece [] ≡ joined path (subject_of piece)
unfolding address_from
piece_end path piece = refl

-- bytes without a dot go to the piece
to_piece : (path piece q r : List ℕ) → no_dots q ≡ true → address_from (Some path) piece (q ++ r) ≡ address_from (Some path) (piece ++ q) r
unfolding address_from
to_piece path piece [] r h = ap (λ (x : List ℕ). address_from (Some path) x r) (sym (append-nil piece))
to_piece path piece (b ∷ q) r h = go (b == 46) h (to_piece path (piece ++ b ∷ []) q r)
  where
    go : (x : Bool) → (not x && no_dots q) ≡ true → (no_dots q ≡ true → address_from (Some path) (piece ++ b ∷ []) (q ++ r) ≡ address_from
        (Some path) ((piece ++ b ∷ []) ++ q) r)
        → cond x (address_from (longer path (small_of piece)) [] (q ++ r))
        (address_from (Some path) (piece ++ b ∷ []) (q ++ r)) ≡ address_from (Some path) (piece ++ b ∷ q) r
    go true k f = absurd cc
    go false k f = f k ∙ ap (λ (x : List ℕ). address_from (Some path) x r) (append_assoc piece (b ∷ []) q)

subject_complete : (s : Subject) → FitsSubject s → subject_of (subject_text s) ≡ Some s
unfolding subject_of name_of
subject_complete (of_first k) h = ap (option_map of_first) (small_complete (decimal k) k (record { spelled = refl; small = h }))
subject_complete (of_name []) h = absurd (empty_name h)
subject_complete (of_name (b ∷ bs)) h = rw (letter_no_hash b (name_letter (b ∷ bs) h), h) refl

subject_sound : (w : List ℕ) (s : Subject) → subject_of w ≡ Some s → (w ≡ subject_text s) × FitsSubject s
unfolding subject_of name_of
subject_sound [] s h = none_some s h
subject_sound (b ∷ bs) s h = go (b == 35) refl (is_name (b ∷ bs)) refl h
  where
    go : (x : Bool) → (b == 35) ≡ x → (y : Bool) → is_name (b ∷ bs) ≡ y → cond x (option_map of_first (small_of bs))
        (option_map of_name (cond y (Some (b ∷ bs)) None)) ≡ Some s → ((b ∷ bs) ≡ subject_text s) × FitsSubject s
    go true e y f k =
        let m = map_some of_first (small_of bs) s k in
        let n = small_sound bs m.0 m.1 in
        subst (λ (t : Subject). ((b ∷ bs) ≡ subject_text t) × FitsSubject t) (sym m.2) (cons_is b 35 bs (decimal m.0) (equal_is b 35 e) n.spelled, n.small)
    go false e true f k = subst (λ (t : Subject). ((b ∷ bs) ≡ subject_text t) × FitsSubject t) (some_is (of_name (b ∷ bs)) s k) (refl, f)
    go false e false f k = none_some s k

-- a number and a dot
step_read : (path : List ℕ) (k : ℕ) (r : List ℕ) → k < 4294967296 → address_from (Some path) [] (step_text k ++ r) ≡ address_from (Some (path ++ k ∷ [])) [] r
step_read path k r l =
    ap (address_from (Some path) []) (append_assoc (decimal k) (46 ∷ []) r) ∙ to_piece path [] (decimal k) (46 ∷ r) (decimal_no_dots k l)
    ∙ dot_read path (decimal k) r
    ∙ ap (λ (o : Option ℕ). address_from (longer path o) [] r) (small_complete (decimal k) k (record { spelled = refl; small = l }))

read_address : (path ks : List ℕ) (s : Subject) → AllByRecursion (λ k. k < 4294967296) ks → FitsSubject s → address_from (Some path) []
    (address_text ks s) ≡ Some (path ++ ks, s)
read_address path [] s a f =
    ap (address_from (Some path) []) (sym (append-nil (subject_text s))) ∙ to_piece path [] (subject_text s) [] (subject_no_dots s f)
    ∙ piece_end path (subject_text s)
    ∙ ap (joined path) (subject_complete s f) ∙ ap (λ (x : List ℕ). Some (x, s)) (sym (append-nil path))
read_address path (k ∷ ks) s a f =
    step_read path k (address_text ks s) a.0 ∙ read_address (path ++ k ∷ []) ks s a.1 f ∙ ap (λ (x : List ℕ). Some (x, s)) (append_assoc path (k ∷ []) ks)

pub address_complete : (w path : List ℕ) (s : Subject) → IsAddress w path s → address_of w ≡ Some (path, s)
address_complete w path s p = ap address_of p.spelled ∙ read_address [] path s p.path_fits p.subject_fits

pub record Spells (path piece bs : List ℕ) (x : List ℕ × Subject) : Type 0 where
  pub more : List ℕ
  pub path_is : x.0 ≡ path ++ more
  pub spelled : piece ++ bs ≡ address_text more x.1
  pub path_fits : AllByRecursion (λ k. k < 4294967296) more
  pub subject_fits : FitsSubject x.1

spells : (bs path piece : List ℕ) (x : List ℕ × Subject) → address_from (Some path) piece bs ≡ Some x → Spells path piece bs x
unfolding address_from
spells [] path piece x h =
    let m = map_some (λ s. (path, s)) (subject_of piece) x h in
    let s = subject_sound piece m.0 m.1 in
    subst (λ y. Spells path piece [] y) (sym m.2) (record {
      more = [];
      path_is = sym (append-nil path);
      spelled = append-nil piece
          ∙ s.0;
      path_fits = tt;
      subject_fits = s.1;
    })
spells (b ∷ bs) path piece x h = go (b == 46) refl (small_of piece) refl h (λ k. spells bs (path ++ k ∷ []) [] x) (spells bs path (piece ++ b ∷ []) x)
  where
    go : (d : Bool) → (b == 46) ≡ d → (o : Option ℕ) → small_of piece ≡ o → cond d (address_from (longer path o) [] bs)
        (address_from (Some path) (piece ++ b ∷ []) bs) ≡ Some x
        → ((k : ℕ) → address_from (Some (path ++ k ∷ [])) [] bs ≡ Some x → Spells (path ++ k ∷ []) [] bs x) →
        (address_from (Some path) (piece ++ b ∷ []) bs ≡ Some x → Spells path (piece ++ b ∷ []) bs x) → Spells path piece (b ∷ bs) x
    go true e None f k dot other = none_some x (sym (nothing [] bs) ∙ k)
    go true e (Some n) f k dot other =
        let s = dot n k in
        let i = small_sound piece n f in
        record {
          more = n ∷ s.more;
          path_is = s.path_is ∙ append_assoc path (n ∷ []) s.more;
          spelled = ap (λ (c : ℕ). piece ++ c ∷ bs) (equal_is b 46 e) ∙ ap (λ (y : List ℕ). y ++ 46 ∷ bs) i.spelled ∙ ap
              (λ (y : List ℕ). decimal n ++ 46 ∷ y) s.spelled ∙ sym (append_assoc (decimal n) (46 ∷ []) (address_text s.more x.1));
          path_fits = (i.small, s.path_fits);
          subject_fits = s.subject_fits;
        }
    go false e o f k dot other =
        let s = other k in
        record {
          more = s.more;
          path_is = s.path_is;
          spelled = sym (append_assoc piece (b ∷ []) bs)
              ∙ s.spelled;
          path_fits = s.path_fits;
          subject_fits = s.subject_fits;
        }

pub address_sound : (w path : List ℕ) (s : Subject) → address_of w ≡ Some (path, s) → IsAddress w path s
address_sound w path s h =
    let x = spells w [] [] (path, s) h in
    let e : x.more ≡ path = sym x.path_is in
    record {
      spelled = x.spelled ∙ ap (λ (y : List ℕ). address_text y s) e;
      path_fits = subst
          (AllByRecursion (λ k. k < 4294967296)) e x.path_fits;
      subject_fits = x.subject_fits;
    }
