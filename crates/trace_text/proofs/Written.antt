-- What is written of a trace is cut into its words.
use Rattle.std.proofs.Common.{◌≡◌, ℕ, suc, ◌<◌, Bool, true, false, not, ◌&&◌, ◌||◌, List, [], ◌∷◌, ◌++◌, length, take, drop, map, codes, decimal, Some, refl, sym, ap, ◌∙◌, subst, arith, append_assoc}
use Rattle.std.specs.Prelude.{◌==◌, pos, negsuc}
use Rattle.std.specs.List.{list_all, flat_map, AllByRecursion}
use Rattle.std.specs.Char.{is_ascii_digit}
use Rattle.std.specs.Str.{all_ascii_digits}
use Rattle.std.proofs.lemmas.List.{take_at, drop_at, length-append}
use Rattle.std.proofs.lemmas.List.Concat.{flat_map-cons}
use Rattle.std.proofs.lemmas.Fmt.{decimal_nonempty}
use Rattle.lus_lexer.specs.Tokens.{is_word}
use Rattle.lus_tree.specs.declared.place.Pos.{Pos}
use Rattle.lus_meaning.specs.Value.{Value, absent, flag, whole}
use Rattle.lus_meaning.specs.Trace.{Subject, of_name, of_first, BareLine}
use Rattle.lus_meaning.specs.TraceView.{PlacedValue, PlacedLine, Listing, bare_values, bare_line}
use Rattle.trace_text.specs.Cutting.{TraceWord, TextLine, cut, right, below, first_place, is_blank, begins_with_feed, text_lines, filled}
use Rattle.lus_lexer.specs.Names.{is_name}
use Rattle.trace_text.specs.Words.{spelled, FitsSubject, FitsValue, subject_text, step_text, address_text, value_text}
use Rattle.trace_text.specs.Traces.{texts, places_of, IsOpening, AreValues, IsLine, AreLines, AreTrace, item_text, line_text, trace_text, HasValues, FitsLine}
use Rattle.trace_text.specs.Laws.{ReadBack}
use Rattle.trace_text.specs.Reading.{Left, ends_word, word_length, word_of, lines_ahead, shift}
use Rattle.trace_text.proofs.Numbers.{and_left, and_right, both_true, some_is, digits_of_decimal}
use Rattle.trace_text.proofs.AsciiNames.{name_word, name_letter}
use Rattle.trace_text.proofs.Cuts.{left_at, left_blank, left_word, rest_of}

-- ---- words that no blank and no line end stands in

abbrev pub is_solid : ℕ → Bool
is_solid b = not (b == 10) && (not (b == 13) && not (is_blank b))

abbrev pub are_solid : List ℕ → Bool
are_solid w = list_all is_solid w

pub record IsSolid (w : List ℕ) : Type 0 where
  pub some : 0 < length w
  pub each : are_solid w ≡ true

solid_goes_on : (b : ℕ) (bs : List ℕ) → is_solid b ≡ true → ends_word b bs ≡ false
solid_goes_on b bs h = go (b == 10) (b == 13) (is_blank b) h
  where
    go : (x y z : Bool) → (not x && (not y && not z)) ≡ true → (x || (z || (y && begins_with_feed bs))) ≡ false
    go true y z k = absurd cc
    go false true z k = absurd cc
    go false false true k = absurd cc
    go false false false k = refl

solid_length : (w : List ℕ) (b : ℕ) (bs : List ℕ) → are_solid w ≡ true → ends_word b bs ≡ true → word_length (w ++ b ∷ bs) ≡ length w
unfolding word_length
solid_length [] b bs h e = rw e refl
solid_length (c ∷ w) b bs h e = rw (solid_goes_on c (w ++ b ∷ bs) (and_left (is_solid c) (are_solid w) h))
    (ap suc (solid_length w b bs (and_right (is_solid c) (are_solid w) h) e))

pub record Shows (l : Left) (ws : List (List ℕ)) (more : List TextLine) : Type 0 where
  pub words : texts l.words ≡ ws
  pub later : l.later ≡ more

word_is : (l : Left) (x : TraceWord × Left) → word_of l ≡ Some x → (l.words ≡ x.0 ∷ x.1.words) × (l.later ≡ x.1.later)
word_is l x h = go l.words h
  where
    go : (ws : List TraceWord) → word_of (record { words = ws; end = l.end; later = l.later; last = l.last }) ≡ Some x →
        (ws ≡ x.0 ∷ x.1.words) × (l.later ≡ x.1.later)
    go [] k = absurd cc
    go (w ∷ ws) k = let e = some_is (w, record { words = ws; end = l.end; later = l.later; last = l.last }) x k in
        (ap (λ y. y.0 ∷ y.1.words) e, ap (λ y. y.1.later) e)

-- a word before what ends it
shows_word : (w : List ℕ) (b : ℕ) (bs : List ℕ) (p : Pos) (ws : List (List ℕ)) (more : List TextLine) → IsSolid w → ends_word b bs ≡ true
    → Shows (left_at (shift (length w) p) (b ∷ bs)) ws more → Shows (left_at p (w ++ b ∷ bs)) (w ∷ ws) more
shows_word w b bs p ws more s e h =
    let n : word_length (w ++ b ∷ bs) ≡ length w = solid_length w b bs s.each e in
    let some : 0 < length w = s.some in
    let k = left_word p (w ++ b ∷ bs) (omega (arith, n, some)) (omega (arith, n, length-append w (b ∷ bs))) in
    let r = word_is (left_at p (w ++ b ∷ bs)) _ k in
    let t : take (word_length (w ++ b ∷ bs)) (w ++ b ∷ bs) ≡ w = ap (λ (m : ℕ). take m (w ++ b ∷ bs)) n ∙ take_at w (b ∷ bs) (length w) refl in
    let d : rest_of (w ++ b ∷ bs) ≡ b ∷ bs = ap (λ (m : ℕ). drop m (w ++ b ∷ bs)) n ∙ drop_at w (b ∷ bs) (length w) refl in
    let m : left_at (shift (word_length (w ++ b ∷ bs)) p) (rest_of (w ++ b ∷ bs)) ≡ left_at (shift (length w) p) (b ∷ bs) = ap
    (λ (i : ℕ). left_at (shift i p) (rest_of (w ++ b ∷ bs))) n ∙ ap (left_at (shift (length w) p)) d in
    record {
      words = ap texts r.0 ∙ ap (λ (x : List ℕ). x ∷ texts (left_at (shift (word_length (w ++ b ∷ bs)) p) (rest_of (w ++ b ∷ bs))).words) t
          ∙ ap (λ (x : Left). w ∷ texts x.words) m ∙ ap (λ (x : List (List ℕ)). w ∷ x) h.words;
      later = r.1 ∙ ap (λ (x : Left). x.later) m ∙ h.later;
    }

-- ---- lines

abbrev pub spaced : List ℕ → List ℕ
spaced w = 32 ∷ w

abbrev pub AreSolid : List (List ℕ) → Type 0
AreSolid ws = AllByRecursion IsSolid ws

-- further words, each after a space, and a line feed
abbrev pub tail_text : List (List ℕ) → List ℕ → List ℕ
tail_text [] rest = 10 ∷ rest
tail_text (w ∷ ws) rest = 32 ∷ (w ++ tail_text ws rest)

tail_ends : (ws : List (List ℕ)) (rest : List ℕ) → (b : ℕ) × (bs : List ℕ) × (tail_text ws rest ≡ b ∷ bs) × (ends_word b bs ≡ true)
tail_ends [] rest = (10, rest, refl, refl)
tail_ends (w ∷ ws) rest = (32, w ++ tail_text ws rest, refl, refl)

-- the place where the next line begins
abbrev pub next_place : Pos → List (List ℕ) → Pos
next_place p [] = below p
next_place p (w ∷ ws) = next_place (shift (length w) (right p)) ws

feed_shows : (p : Pos) (rest : List ℕ) → Shows (left_at p (10 ∷ rest)) [] (lines_ahead (left_at (below p) rest))
unfolding cut
feed_shows p rest = record { words = refl; later = refl }

tail_shows : (ws : List (List ℕ)) (p : Pos) (rest : List ℕ) → AreSolid ws → Shows (left_at p (tail_text ws rest)) ws
    (lines_ahead (left_at (next_place p ws) rest))
tail_shows [] p rest s = feed_shows p rest
tail_shows (w ∷ ws) p rest s =
    let t = tail_ends ws rest in
    let more : List TextLine = lines_ahead (left_at (next_place (shift (length w) (right p)) ws) rest) in
    let h : Shows (left_at (shift (length w) (right p)) (t.0 ∷ t.1)) ws more = subst
    (λ (x : List ℕ). Shows (left_at (shift (length w) (right p)) x) ws more) t.2
    (tail_shows ws (shift (length w) (right p)) rest s.1) in
    let k : Shows (left_at (right p) (w ++ t.0 ∷ t.1)) (w ∷ ws) more = shows_word w t.0 t.1 (right p) ws more s.0 t.3 h in
    let e : left_at (right p) (w ++ t.0 ∷ t.1) ≡ left_at p (32 ∷ (w ++ tail_text ws rest)) = ap (λ (x : List ℕ). left_at (right p) (w ++ x))
    (sym t.2) ∙ sym (left_blank p 32 (w ++ tail_text ws rest) refl) in
    subst (λ (l : Left). Shows l (w ∷ ws) more) e k

-- a line of words, and the rows below
pub record Begins (rows : List TextLine) (ws : List (List ℕ)) (rest : List ℕ) : Type 0 where
  pub row : TextLine
  pub place : Pos
  pub shape : rows ≡ row ∷ lines_ahead (left_at place rest)
  pub words : texts row.words ≡ ws

line_begins : (w : List ℕ) (ws : List (List ℕ)) (p : Pos) (rest : List ℕ) → IsSolid w → AreSolid ws → Begins
    (lines_ahead (left_at p (w ++ tail_text ws rest))) (w ∷ ws) rest
line_begins w ws p rest s r =
    let t = tail_ends ws rest in
    let q : Pos = next_place (shift (length w) p) ws in
    let more : List TextLine = lines_ahead (left_at q rest) in
    let h : Shows (left_at (shift (length w) p) (t.0 ∷ t.1)) ws more = subst
    (λ (x : List ℕ). Shows (left_at (shift (length w) p) x) ws more) t.2 (tail_shows ws (shift (length w) p) rest r) in
    let k : Shows (left_at p (w ++ t.0 ∷ t.1)) (w ∷ ws) more = shows_word w t.0 t.1 p ws more s t.3 h in
    let l : Shows (left_at p (w ++ tail_text ws rest)) (w ∷ ws) more = subst (λ (x : List ℕ). Shows (left_at p (w ++ x)) (w ∷ ws) more) (sym t.2) k in
    go (left_at p (w ++ tail_text ws rest)) q l
  where
    go : (l : Left) (q : Pos) → Shows l (w ∷ ws) (lines_ahead (left_at q rest)) → Begins (lines_ahead l) (w ∷ ws) rest
    go l q h = some_words l.words h.words
      where
        some_words : (us : List TraceWord) → texts us ≡ w ∷ ws → Begins
            (lines_ahead (record { words = us; end = l.end; later = l.later; last = l.last })) (w ∷ ws) rest
        some_words [] e = absurd cc
        some_words (u ∷ us) e = record {
          row = record { words = u ∷ us; end = l.end };
          place = q;
          shape = ap
              (λ (x : List TextLine). record { words = u ∷ us; end = l.end } ∷ x) h.later;
          words = e;
        }

-- ---- the words of traces are solid

word_solid : (b : ℕ) → is_word b ≡ true → is_solid b ≡ true
word_solid b h = grind (arith, h)

digit_solid : (b : ℕ) → is_ascii_digit b ≡ true → is_solid b ≡ true
digit_solid b h = grind (arith, h)

all_solid : (t : ℕ → Bool) → ((b : ℕ) → t b ≡ true → is_solid b ≡ true) → (w : List ℕ) → list_all t w ≡ true → are_solid w ≡ true
all_solid t f [] h = refl
all_solid t f (b ∷ w) h = both_true (is_solid b) (are_solid w) (f b (and_left (t b) (list_all t w) h)) (all_solid t f w (and_right (t b) (list_all t w) h))

digits_solid : (w : List ℕ) → all_ascii_digits w ≡ true → are_solid w ≡ true
digits_solid [] h = refl
digits_solid (b ∷ w) h = both_true (is_solid b) (are_solid w) (digit_solid b (and_left (is_ascii_digit b) (all_ascii_digits w) h))
    (digits_solid w (and_right (is_ascii_digit b) (all_ascii_digits w) h))

join_solid : (v w : List ℕ) → are_solid v ≡ true → are_solid w ≡ true → are_solid (v ++ w) ≡ true
join_solid [] w h k = k
join_solid (b ∷ v) w h k = both_true (is_solid b) (are_solid (v ++ w)) (and_left (is_solid b) (are_solid v) h)
    (join_solid v w (and_right (is_solid b) (are_solid v) h) k)

decimal_solid : (n : ℕ) → n < 9223372036854775808 → IsSolid (decimal n)
decimal_solid n l = record { some = decimal_nonempty n (omega arith); each = digits_solid (decimal n) (digits_of_decimal n l) }

name_solid : (w : List ℕ) → is_name w ≡ true → IsSolid w
name_solid [] h = absurd (let k = name_letter [] h in cc)
name_solid (b ∷ w) h = record { some = omega arith; each = all_solid is_word word_solid (b ∷ w) (name_word (b ∷ w) h) }

subject_solid : (s : Subject) → FitsSubject s → IsSolid (subject_text s)
subject_solid (of_name x) h = name_solid x h
subject_solid (of_first k) h = record { some = omega arith; each = (decimal_solid k (omega arith)).each }

address_solid : (ks : List ℕ) (s : Subject) → AllByRecursion (λ k. k < 4294967296) ks → FitsSubject s → IsSolid (address_text ks s)
address_solid [] s a f = subject_solid s f
address_solid (k ∷ ks) s a f =
    let low : k < 4294967296 = a.0 in
    let d = decimal_solid k (omega arith) in
    let r = address_solid ks s a.1 f in
    let dl : 0 < length (decimal k) = d.some in
    record {
      some = omega (arith, length-append (step_text k) (address_text ks s), length-append (decimal k) (46 ∷ []), dl);
      each = join_solid (step_text k) (address_text ks s) (join_solid (decimal k) (46 ∷ []) d.each refl) r.each;
    }

value_solid : (v : Value) → FitsValue v → IsSolid (value_text v)
value_solid absent h = record { some = omega arith; each = refl }
value_solid (flag true) h = record { some = omega arith; each = refl }
value_solid (flag false) h = record { some = omega arith; each = refl }
value_solid (whole (pos n)) h = decimal_solid n h
value_solid (whole (negsuc n)) h = record { some = omega arith; each = (decimal_solid (suc n) h).each }

values_solid : (vs : List Value) → AllByRecursion FitsValue vs → AreSolid (map value_text vs)
values_solid [] h = tt
values_solid (v ∷ vs) h = (value_solid v h.0, values_solid vs h.1)

-- ---- the texts of traces are lines of words

values_tail : (vs : List Value) (rest : List ℕ) → flat_map item_text vs ++ 10 ∷ rest ≡ tail_text (map value_text vs) rest
values_tail [] rest = refl
values_tail (v ∷ vs) rest =
    ap (λ (x : List ℕ). x ++ 10 ∷ rest) (flat_map-cons item_text v vs) ∙ append_assoc (item_text v) (flat_map item_text vs) (10 ∷ rest) ∙ ap
    (λ (x : List ℕ). 32 ∷ (value_text v ++ x)) (values_tail vs rest)

line_tail : (l : BareLine) (rest : List ℕ) → line_text l ++ rest ≡ address_text l.path l.subject ++ tail_text (map value_text l.values) rest
line_tail l rest =
    append_assoc (address_text l.path l.subject) (flat_map item_text l.values ++ 10 ∷ []) rest
    ∙ ap (λ (x : List ℕ). address_text l.path l.subject ++ x) (append_assoc (flat_map item_text l.values) (10 ∷ []) rest ∙ values_tail l.values rest)

abbrev pub below_text : List PlacedLine → List ℕ
below_text ls = flat_map (λ l. line_text (bare_line l)) ls ++ codes "end\n"

below_more : (l : PlacedLine) (ls : List PlacedLine) → below_text (l ∷ ls) ≡ address_text l.path l.subject ++ tail_text
    (map value_text (bare_values l.values)) (below_text ls)
below_more l ls =
    ap (λ (x : List ℕ). x ++ codes "end\n") (flat_map-cons (λ k. line_text (bare_line k)) l ls)
    ∙ append_assoc (line_text (bare_line l)) (flat_map (λ k. line_text (bare_line k)) ls) (codes "end\n")
    ∙ line_tail (bare_line l) (below_text ls)

opening_tail : (t : Listing) → trace_text t ≡ codes "trace" ++ tail_text (t.node ∷ decimal t.length ∷ []) (below_text t.lines)
opening_tail t = refl

-- ---- rows of such words

-- values at the places of their words
abbrev PlacedAs : List TraceWord → List Value → Type 0
PlacedAs ws vs = (us : List PlacedValue) × AreValues ws us × (bare_values us ≡ vs)

are_values : (ws : List TraceWord) (vs : List Value) → texts ws ≡ map value_text vs → AllByRecursion FitsValue vs → PlacedAs ws vs
are_values [] [] e h = ([], tt, refl)
are_values [] (v ∷ vs) e h = absurd cc
are_values (w ∷ ws) [] e h = absurd cc
are_values (w ∷ ws) (v ∷ vs) e h =
    let a : w.text ≡ value_text v = cc in
    let b : texts ws ≡ map value_text vs = cc in
    let r = are_values ws vs b h.1 in
    (record { value = v; at = w.at } ∷ r.0, (spelled v a h.0, refl, r.1), ap (λ us. v ∷ us) r.2)

is_listed : (r : TextLine) (l : BareLine) → texts r.words ≡ address_text l.path l.subject ∷ map value_text l.values → FitsLine l →
    (u : PlacedLine) × IsLine r u × (bare_line u ≡ l)
is_listed r l e f = go r.words refl l.values refl e f.values
  where
    go : (ws : List TraceWord) → r.words ≡ ws → (vs : List Value) → l.values ≡ vs
        → texts ws ≡ address_text l.path l.subject ∷ map value_text vs → HasValues vs → (u : PlacedLine) × IsLine r u × (bare_line u ≡ l)
    go [] s vs t k h = absurd cc
    go (w ∷ ws) s [] t k h = absurd h
    go (w ∷ []) s (v ∷ vs) t k h = absurd cc
    go (w ∷ x ∷ xs) s (v ∷ vs) t k h =
        let a : w.text ≡ address_text l.path l.subject = cc in
        let b : texts (x ∷ xs) ≡ map value_text (v ∷ vs) = cc in
        let i = are_values (x ∷ xs) (v ∷ vs) b h in (
          record { at = w.at; path = l.path; subject = l.subject; values = i.0 },
          record {
            place = w;
            first = x;
            others = xs;
            shape = s;
            at = refl;
            is_address = record
                { spelled = a; path_fits = f.path; subject_fits = f.subject };
            values = i.1;
          },
          ap (λ us. record { path = l.path; subject = l.subject; values = us }) (i.2 ∙ sym t),
        )

has_values : (vs : List Value) → HasValues vs → AllByRecursion FitsValue vs
has_values [] h = absurd h
has_values (v ∷ vs) h = h

no_rows : (p : Pos) → lines_ahead (left_at p []) ≡ []
unfolding cut
no_rows p = refl

abbrev lines_only : List PlacedLine → List BareLine
lines_only ls = map bare_line ls

-- the places of the words of a line
one_word : (ws : List TraceWord) (x : List ℕ) → texts ws ≡ x ∷ [] → (p : Pos) × (places_of ws ≡ p ∷ [])
one_word [] x h = absurd cc
one_word (w ∷ []) x h = (w.at, refl)
one_word (w ∷ v ∷ vs) x h = absurd cc

three_words : (ws : List TraceWord) (x y z : List ℕ) → texts ws ≡ x ∷ y ∷ z ∷ [] → (p q r : Pos) × (places_of ws ≡ p ∷ q ∷ r ∷ [])
three_words [] x y z h = absurd cc
three_words (w ∷ []) x y z h = absurd cc
three_words (w ∷ v ∷ []) x y z h = absurd cc
three_words (w ∷ v ∷ u ∷ []) x y z h = (w.at, v.at, u.at, refl)
three_words (w ∷ v ∷ u ∷ t ∷ ts) x y z h = absurd cc

written_below : (ls : List PlacedLine) (p : Pos) → AllByRecursion FitsLine (lines_only ls) → (us : List PlacedLine) × (e : Pos) × AreLines
    (lines_ahead (left_at p (below_text ls))) us e × (lines_only us ≡ lines_only ls)
written_below [] p h =
    let b = line_begins (codes "end") [] p [] (record { some = omega arith; each = refl }) tt in
    let w = one_word b.row.words (codes "end") b.words in (
      [],
      w.0,
      subst (λ (rs : List TextLine). AreLines rs [] w.0) (sym (b.shape ∙ ap (λ (x : List TextLine). b.row ∷ x) (no_rows b.place)))
          (b.words, w.1, refl),
      refl,
    )
written_below (l ∷ ls) p h =
    let f = h.0 in
    let b = line_begins (address_text l.path l.subject) (map value_text (bare_values l.values)) p (below_text ls)
    (address_solid l.path l.subject f.path f.subject) (values_solid (bare_values l.values) (has_values (bare_values l.values) f.values))
    in
    let i = is_listed b.row (bare_line l) b.words f in
    let r = written_below ls b.place h.1 in
    let e : lines_ahead (left_at p (below_text (l ∷ ls))) ≡ b.row ∷ lines_ahead (left_at b.place (below_text ls)) = ap
    (λ (x : List ℕ). lines_ahead (left_at p x)) (below_more l ls) ∙ b.shape in (
      i.0 ∷ r.0,
      r.1,
      subst (λ (rs : List TextLine). AreLines rs (i.0 ∷ r.0) r.1) (sym e) (i.1, r.2),
      ap
          (λ (x : BareLine). x ∷ lines_only r.0) i.2 ∙ ap (λ (x : List BareLine). bare_line l ∷ x) r.3,
    )

pub read_back : ReadBack
read_back t f =
    let n : t.length < 4294967296 = f.length in
    let b = line_begins (codes "trace") (t.node ∷ decimal t.length ∷ []) first_place (below_text t.lines)
    (record { some = omega arith; each = refl }) (name_solid t.node f.node, (decimal_solid t.length (omega arith), tt)) in
    let r = written_below t.lines b.place f.lines in
    let e : filled (text_lines (trace_text t)) ≡ b.row ∷ lines_ahead (left_at b.place (below_text t.lines)) = ap
    (λ (x : List ℕ). filled (text_lines x)) (opening_tail t) ∙ b.shape in
    let w = three_words b.row.words (codes "trace") t.node (decimal t.length) b.words in
    let u : Listing = record { node = t.node; node_at = w.1; length = t.length; length_at = w.2; lines = r.0; end_at = r.1 } in
    let o : IsOpening b.row t.node w.1 t.length w.2 = record {
      count = decimal t.length;
      shape = b.words;
      first = w.0;
      places = w.3;
      name =
          f.node;
      number = record { spelled = refl; small = n };
    } in
    (u, subst (λ (rs : List TextLine). AreTrace rs u) (sym e) (o, r.2), record { node = refl; length = refl; lines = r.3 })
