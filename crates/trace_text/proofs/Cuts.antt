-- What a text is cut into, from its front on.
use Rattle.std.proofs.Common.{◌≡◌, ℕ, zero, suc, ◌<◌, ◌≤◌, Bool, true, false, ◌||◌, ◌&&◌, cond, List, [], ◌∷◌, length, take, drop, Option, Some, None, Err, refl, sym, ap, ◌∙◌, arith}
use Rattle.std.specs.Prelude.{◌==◌}
use Rattle.lus_tree.specs.declared.place.Pos.{Pos}
use Rattle.trace_text.specs.Cutting.{TraceWord, Cut, cut, right, below, is_blank, is_return, begins_with_feed, with_front, before_feed, before_blank, before_return, before_byte, filled}
use Rattle.trace_text.specs.Reading.{Left, left, word_length, blank_length, end_length, shift, ends_word, word_of, first_of, begins_with_blank}

abbrev pub left_at : Pos → List ℕ → Left
left_at p bs = left p (cut p bs)

blank_no_feed : (b : ℕ) → is_blank b ≡ true → (b == 10) ≡ false
blank_no_feed b e = grind (arith, e)

pub left_blank : (p : Pos) (b : ℕ) (bs : List ℕ) → is_blank b ≡ true → left_at p (b ∷ bs) ≡ left_at (right p) bs
unfolding cut
left_blank p b bs e = rw (blank_no_feed b e, e) refl

shift_none : (p : Pos) → shift 0 p ≡ p
shift_none p = ap (λ (k : ℕ). record { line = p.line; column = k }) (omega arith)

shift_more : (p : Pos) (n : ℕ) → shift n (right p) ≡ shift (suc n) p
shift_more p n = ap (λ (k : ℕ). record { line = p.line; column = k }) (omega arith)

-- ---- blanks

pub blanks : (p : Pos) (bs : List ℕ) → left_at p bs ≡ left_at (shift (blank_length bs) p) (drop (blank_length bs) bs)
unfolding blank_length
blanks p [] = ap (λ q. left_at q []) (sym (shift_none p))
blanks p (b ∷ bs) = go (blanks (right p) bs) (is_blank b) refl
  where
    go : left_at (right p) bs ≡ left_at (shift (blank_length bs) (right p)) (drop (blank_length bs) bs) → (x : Bool) → is_blank b ≡ x
        → left_at p (b ∷ bs) ≡ left_at (shift (cond x (suc (blank_length bs)) 0) p) (drop (cond x (suc (blank_length bs)) 0) (b ∷ bs))
    go h true e = left_blank p b bs e ∙ h ∙ ap (λ q. left_at q (drop (blank_length bs) bs)) (shift_more p (blank_length bs))
    go h false e = ap (λ q. left_at q (b ∷ bs)) (sym (shift_none p))

pub no_blank : (bs : List ℕ) → begins_with_blank (drop (blank_length bs) bs) ≡ false
unfolding blank_length
no_blank [] = refl
no_blank (b ∷ bs) = go (no_blank bs) (is_blank b) refl
  where
    go : begins_with_blank (drop (blank_length bs) bs) ≡ false → (x : Bool) → is_blank b ≡ x → begins_with_blank
        (drop (cond x (suc (blank_length bs)) 0) (b ∷ bs)) ≡ false
    go h true e = h
    go h false e = e

-- ---- words

-- bytes of a word before what is cut
abbrev pub onto : List ℕ → Cut → Cut
onto w c = record { front = w; words = c.words; end = c.end; later = c.later; last = c.last }

abbrev pub rest_of : List ℕ → List ℕ
rest_of bs = drop (word_length bs) bs

-- what no byte of a word begins
abbrev pub Stops : List ℕ → Type 0
Stops bs = (p : Pos) → (cut p bs).front ≡ []

stops_at : (b : ℕ) (bs : List ℕ) → ends_word b bs ≡ true → Stops (b ∷ bs)
unfolding cut
stops_at b bs e p = go (b == 10) (is_blank b) (is_return b bs) e
  where
    go : (x y z : Bool) → (x || (y || z)) ≡ true → (cond x (before_feed p (below p) (cut (below p) bs))
        (cond y (before_blank (right p) (cut (right p) bs)) (cond z (before_return p (cut (right p) bs))
        (before_byte b (cut (right p) bs))))).front ≡ []
    go true y z h = refl
    go false true z h = refl
    go false false true h = refl
    go false false false h = absurd cc

goes_on : (b : ℕ) (bs : List ℕ) (p : Pos) → ends_word b bs ≡ false → cut p (b ∷ bs) ≡ before_byte b (cut (right p) bs)
unfolding cut
goes_on b bs p e = go (b == 10) (is_blank b) (is_return b bs) e
  where
    go : (x y z : Bool) → (x || (y || z)) ≡ false → cond x (before_feed p (below p) (cut (below p) bs))
        (cond y (before_blank (right p) (cut (right p) bs)) (cond z (before_return p (cut (right p) bs))
        (before_byte b (cut (right p) bs)))) ≡ before_byte b (cut (right p) bs)
    go true y z h = absurd cc
    go false true z h = absurd cc
    go false false true h = absurd cc
    go false false false h = refl

stops_nil : Stops []
unfolding cut
stops_nil p = refl

pub stops : (bs : List ℕ) → Stops (rest_of bs)
unfolding word_length
stops [] p = stops_nil p
stops (b ∷ bs) p = go (stops bs p) (ends_word b bs) refl
  where
    go : (cut p (rest_of bs)).front ≡ [] → (x : Bool) → ends_word b bs ≡ x → (cut p (drop (cond x 0 (suc (word_length bs))) (b ∷ bs))).front ≡ []
    go h true e = stops_at b bs e p
    go h false e = h

onto_same : (c : Cut) → c.front ≡ [] → c ≡ onto [] c
onto_same c e = ap (λ w. onto w c) e

pub cut_word : (p : Pos) (bs : List ℕ) → cut p bs ≡ onto (take (word_length bs) bs) (cut (shift (word_length bs) p) (rest_of bs))
unfolding word_length
cut_word p [] = onto_same (cut p []) (stops [] p) ∙ ap (λ q. onto [] (cut q [])) (sym (shift_none p))
cut_word p (b ∷ bs) = go (cut_word (right p) bs) (ends_word b bs) refl
  where
    n : ℕ
    n = word_length bs

    go : cut (right p) bs ≡ onto (take n bs) (cut (shift n (right p)) (drop n bs)) → (x : Bool) → ends_word b bs ≡ x → cut p (b ∷ bs) ≡ onto
        (take (cond x 0 (suc n)) (b ∷ bs)) (cut (shift (cond x 0 (suc n)) p) (drop (cond x 0 (suc n)) (b ∷ bs)))
    go h true e = onto_same (cut p (b ∷ bs)) (stops_at b bs e p) ∙ ap (λ q. onto [] (cut q (b ∷ bs))) (sym (shift_none p))
    go h false e = goes_on b bs p e ∙ ap (before_byte b) h ∙ ap (λ q. onto (b ∷ take n bs) (cut q (drop n bs))) (shift_more p n)

with_front_some : (w : List ℕ) (p : Pos) (ws : List TraceWord) → 0 < length w → with_front w p ws ≡ record { text = w; at = p } ∷ ws
with_front_some [] p ws h = absurd (omega arith)
with_front_some (b ∷ w) p ws h = refl

some_word : (n : ℕ) (bs : List ℕ) → n ≡ word_length bs → n ≤ length bs → 0 < n → 0 < length (take n bs)
some_word zero bs e h l = absurd (omega arith)
some_word (suc n) [] e h l = absurd (omega arith)
some_word (suc n) (b ∷ bs) e h l = omega arith

pub left_word : (p : Pos) (bs : List ℕ) → 0 < word_length bs → word_length bs ≤ length bs
    → word_of (left_at p bs) ≡ Some (record { text = take (word_length bs) bs; at = p }, left_at (shift (word_length bs) p) (rest_of bs))
left_word p bs l h =
    let d : Cut = cut (shift (word_length bs) p) (rest_of bs) in
    let w : List ℕ = take (word_length bs) bs in
    let a : word_of (left p (cut p bs)) ≡ word_of (left p (onto w d)) = ap (λ c. word_of (left p c)) (cut_word p bs) in
    let o : d.front ≡ [] = stops bs (shift (word_length bs) p) in
    let q : with_front w p d.words ≡ record { text = w; at = p } ∷ d.words = with_front_some w p d.words (some_word (word_length bs) bs refl h l) in
    let r : left_at (shift (word_length bs) p) (rest_of bs) ≡ record
    { words = d.words; end = d.end; later = filled d.later; last = d.last } = ap
    (λ f. record { words = with_front f (shift (word_length bs) p) d.words; end = d.end; later = filled d.later; last = d.last }) o in
    a ∙ ap (λ ws. word_of record { words = ws; end = d.end; later = filled d.later; last = d.last }) q ∙ ap (λ x. Some (record { text = w; at = p }, x)) (sym r)

-- ---- the end of a line

pub record Ends (p : Pos) (bs : List ℕ) : Type 0 where
  pub words : (left_at p bs).words ≡ []
  pub end : (left_at p bs).end ≡ p

pub line_ends : (p : Pos) (bs : List ℕ) → begins_with_blank bs ≡ false → word_length bs ≡ 0 → Ends p bs
unfolding cut word_length
line_ends p [] k e = record { words = refl; end = refl }
line_ends p (b ∷ bs) k e = let r = go (b == 10) (is_blank b) (is_return b bs) k e in record { words = r.0; end = r.1 }
  where
    go : (x y z : Bool) → y ≡ false → cond (x || (y || z)) 0 (suc (word_length bs)) ≡ 0 →
        ((left p (cond x (before_feed p (below p) (cut (below p) bs))
        (cond y (before_blank (right p) (cut (right p) bs)) (cond z (before_return p (cut (right p) bs))
        (before_byte b (cut (right p) bs)))))).words ≡ [])
        × ((left p (cond x (before_feed p (below p) (cut (below p) bs))
        (cond y (before_blank (right p) (cut (right p) bs)) (cond z (before_return p (cut (right p) bs))
        (before_byte b (cut (right p) bs)))))).end ≡ p)
    go true y z m n = (refl, refl)
    go false true z m n = absurd cc
    go false false true m n = (refl, refl)
    go false false false m n = absurd (omega arith)

none_some : {A : Type 0} (o : Option A) (x : A) → o ≡ None → o ≡ Some x → ⊥
none_some o x e f = cc

pub word_none : (p : Pos) (bs : List ℕ) → begins_with_blank bs ≡ false → word_length bs ≡ 0 → word_of (left_at p bs) ≡ None
word_none p bs k e = let r = line_ends p bs k e in ap (λ ws. word_of record
    { words = ws; end = (left_at p bs).end; later = (left_at p bs).later; last = (left_at p bs).last }) r.words

pub end_here : (p : Pos) (bs : List ℕ) → begins_with_blank bs ≡ false → word_length bs ≤ length bs → word_of (left_at p bs) ≡ None → (left_at p bs).end ≡ p
end_here p bs k h e = go (word_length bs) refl
  where
    go : (n : ℕ) → word_length bs ≡ n → (left_at p bs).end ≡ p
    go zero f = (line_ends p bs k f).end
    go (suc n) f = absurd (none_some (word_of (left_at p bs)) _ e (left_word p bs (omega arith) h))

-- on to the line below
pub goes_below : (p : Pos) (bs : List ℕ) → begins_with_blank bs ≡ false → (left_at p bs).words ≡ [] → 0 < end_length bs → first_of
    (left_at p bs) ≡ first_of (left_at (below p) (drop (end_length bs) bs))
unfolding cut end_length
goes_below p [] k e l = absurd (omega arith)
goes_below p (b ∷ bs) k e l = go (b == 10) refl (is_blank b) k (is_return b bs) refl l
  where
    returned : (cs : List ℕ) → begins_with_feed cs ≡ true → first_of (left p (before_return p (cut (right p) cs))) ≡ first_of (left_at (below p) (drop 1 cs))
    returned [] f = absurd cc
    returned (c ∷ cs) f = rw f refl

    and_right : (x y : Bool) → (x && y) ≡ true → y ≡ true
    and_right true y f = f
    and_right false y f = absurd cc

    go : (x : Bool) → (b == 10) ≡ x → (y : Bool) → y ≡ false → (z : Bool) → is_return b bs ≡ z → 0 < cond x 1 (cond z 2 0) →
        first_of (left p (cond x (before_feed p (below p) (cut (below p) bs))
        (cond y (before_blank (right p) (cut (right p) bs)) (cond z (before_return p (cut (right p) bs))
        (before_byte b (cut (right p) bs))))))
        ≡ first_of (left_at (below p) (drop (cond x 1 (cond z 2 0)) (b ∷ bs)))
    go true f y g z h l = refl
    go false f true g z h l = absurd cc
    go false f false g true h l = returned bs (and_right (b == 13) (begins_with_feed bs) h)
    go false f false g false h l = absurd (omega arith)

pub no_line_below : (p : Pos) (bs : List ℕ) → begins_with_blank bs ≡ false → (left_at p bs).words ≡ [] → end_length bs ≡ 0 → first_of (left_at p bs) ≡ Err p
unfolding cut end_length
no_line_below p [] k e l = refl
no_line_below p (b ∷ bs) k e l = go (b == 10) (is_blank b) k (is_return b bs) e l
  where
    go : (x y : Bool) → y ≡ false → (z : Bool)
        → (left p (cond x (before_feed p (below p) (cut (below p) bs))
        (cond y (before_blank (right p) (cut (right p) bs)) (cond z (before_return p (cut (right p) bs))
        (before_byte b (cut (right p) bs)))))).words ≡ []
        → ◌≡◌ {A = ℕ} (cond x 1 (cond z 2 0)) 0
        → first_of (left p (cond x (before_feed p (below p) (cut (below p) bs))
        (cond y (before_blank (right p) (cut (right p) bs)) (cond z (before_return p (cut (right p) bs))
        (before_byte b (cut (right p) bs)))))) ≡ Err p
    go true y g z e l = absurd (omega arith)
    go false true g z e l = absurd cc
    go false false g true e l = absurd (omega arith)
    go false false g false e l = absurd cc

pub word_short : (bs : List ℕ) → word_length bs ≤ length bs
unfolding word_length
word_short [] = omega arith
word_short (b ∷ bs) = go (word_short bs) (ends_word b bs)
  where
    go : word_length bs ≤ length bs → (x : Bool) → cond x 0 (suc (word_length bs)) ≤ suc (length bs)
    go h true = omega arith
    go h false = omega arith
