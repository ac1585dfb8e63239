-- What is read of the lines of a text is the trace that it is, or its first misfit.
use Rattle.std.proofs.Common.{◌≡◌, ℕ, ◌<◌, inl, inr, Bool, true, false, ◌&&◌, cond, List, [], ◌∷◌, length, map, codes, Option, Some, None, Result, Ok, Err, refl, sym, ap, ◌∙◌, subst, arith}
use Rattle.std.specs.Str.{bytes_eq}
use Rattle.std.proofs.lemmas.Slice.Eq.{bytes_eq-Decides}
use Rattle.lus_tree.specs.declared.place.Pos.{Pos}
use Rattle.lus_meaning.specs.Value.{Value}
use Rattle.lus_meaning.specs.Trace.{Subject}
use Rattle.lus_meaning.specs.TraceView.{PlacedValue, PlacedLine, Listing}
use Rattle.trace_text.specs.Cutting.{TraceWord, TextLine, keep, filled, text_lines, end_of}
use Rattle.lus_lexer.specs.Names.{is_name}
use Rattle.trace_text.specs.Traces.{texts, IsOpening, AreValues, IsLine, IsClosing, AreLines, AreTrace, IsTraceText, Wanted, a_number, an_address, a_value, Fits, MisfitIn, AreFit, opening, line_wanted, MisfitBelow, MisfitAt, FirstMisfit}
use Rattle.trace_text.specs.Reading.{◌>>=◌, Left, or_misfit, name_of, small_of, value_of, address_of, opening_of, values_in, values_of, line_read, is_empty, nothing_of, first_in, a_line, an_end, line_from, lines_in, without_words, trace_of, lines_ahead, reading, onto}
use Rattle.trace_text.proofs.Numbers.{and_left, and_right, both_true, some_is, none_some, small_sound, small_complete, value_sound, value_complete}
use Rattle.trace_text.proofs.Addresses.{address_sound, address_complete}

-- what a result says
abbrev pub Tells : {A : Type 0} → Result A Pos → (A → Type 0) → (Pos → Type 0) → Type 0
Tells (Ok x) good bad = good x
Tells (Err p) good bad = bad p

abbrev row : List TraceWord → Pos → TextLine
row ws e = record { words = ws; end = e }

abbrev behind : List TraceWord → Pos → List TextLine → Pos → Left
behind ws e rs z = record { words = ws; end = e; later = rs; last = z }

-- ---- words

name_some : (w x : List ℕ) → name_of w ≡ Some x → (is_name w ≡ true) × (x ≡ w)
unfolding name_of
name_some w x h = go (is_name w) refl h
  where
    go : (b : Bool) → is_name w ≡ b → cond b (Some w) None ≡ Some x → (is_name w ≡ true) × (x ≡ w)
    go true e k = (e, sym (some_is w x k))
    go false e k = none_some x k

name_none : (w : List ℕ) → name_of w ≡ None → is_name w ≡ true → ⊥
unfolding name_of
name_none w h e = none_some w (sym h ∙ rw e refl)

no_word : {A : Type 0} (o : Option A) (x : A) → o ≡ None → o ≡ Some x → ⊥
no_word o x e f = none_some x (sym e ∙ f)

no_number : (w : List ℕ) → small_of w ≡ None → Fits a_number w → ⊥
no_number w h f = no_word (small_of w) f.0 h (small_complete w f.0 f.1)

no_value : (w : List ℕ) → value_of w ≡ None → Fits a_value w → ⊥
no_value w h f = no_word (value_of w) f.0 h (value_complete w f.0 f.1)

no_address : (w : List ℕ) → address_of w ≡ None → Fits an_address w → ⊥
no_address w h f = no_word (address_of w) (f.0, f.1) h (address_complete w f.0 f.1 f.2)

is_text : (w v : List ℕ) → bytes_eq w v ≡ true → w ≡ v
is_text w v h = (bytes_eq-Decides w v).0 h

no_text : (w v : List ℕ) → bytes_eq w v ≡ false → w ≡ v → ⊥
no_text w v h e = let k = (bytes_eq-Decides w v).1 e in absurd cc

-- ---- the first line

abbrev pub Opening : Type 0
Opening = (List ℕ × Pos) × (ℕ × Pos) × Left

pub record Opened (w : TraceWord) (l : Left) (x : Opening) : Type 0 where
  pub is : IsOpening (row (w ∷ l.words) l.end) x.0.0 x.0.1 x.1.0 x.1.1
  pub fit : AreFit opening (w ∷ l.words)
  pub left : x.2 ≡ without_words l

opening_tells : (w : TraceWord) (e : Pos) (rs : List TextLine) (z : Pos) (ws : List TraceWord) → Tells (opening_of w (behind ws e rs z))
    (Opened w (behind ws e rs z)) (MisfitIn opening (w ∷ ws) e)
unfolding opening_of
opening_tells w e rs z ws = go (bytes_eq w.text (codes "trace")) refl ws
  where
    last : (v c : TraceWord) (n : ℕ) (x : List ℕ) → bytes_eq w.text (codes "trace") ≡ true → name_of v.text ≡ Some x
        → small_of c.text ≡ Some n → (cs : List TraceWord)
        → Tells (opening_of w (behind (v ∷ c ∷ cs) e rs z)) (Opened w (behind (v ∷ c ∷ cs) e rs z)) (MisfitIn opening (w ∷ v ∷ c ∷ cs) e)
    last v c n x f g h [] =
        let t = is_text w.text (codes "trace") f in
        let s = name_some v.text x g in
        let k = small_sound c.text n h in
        rw (f, g, h) (record {
          is = record {
            count = c.text;
            first = w.at;
            places = refl;
            shape = ap (λ (a : List ℕ). a ∷ v.text ∷ c.text ∷ []) t ∙ ap
                (λ (a : List ℕ). codes "trace" ∷ a ∷ c.text ∷ []) (sym s.1);
            name = subst (λ (a : List ℕ). is_name a ≡ true)
                (sym s.1) s.0;
            number = k;
          };
          fit = (t, (s.0, ((n, k), tt)));
          left = refl;
        })
    last v c n x f g h (d ∷ ds) =
        rw (f, g, h) (inr (is_text w.text (codes "trace") f, inr ((name_some v.text x g).0, inr ((n, small_sound c.text n h), refl))))

    count : (v c : TraceWord) (cs : List TraceWord) (x : List ℕ) → bytes_eq w.text (codes "trace") ≡ true → name_of v.text ≡ Some x →
        (o : Option ℕ) → small_of c.text ≡ o
        → Tells (opening_of w (behind (v ∷ c ∷ cs) e rs z)) (Opened w (behind (v ∷ c ∷ cs) e rs z)) (MisfitIn opening (w ∷ v ∷ c ∷ cs) e)
    count v c cs x f g None h = rw (f, g, h) (inr (is_text w.text (codes "trace") f, inr ((name_some v.text x g).0, inl (no_number c.text h, refl))))
    count v c cs x f g (Some n) h = last v c n x f g h cs

    third : (v : TraceWord) (x : List ℕ) → bytes_eq w.text (codes "trace") ≡ true → name_of v.text ≡ Some x → (vs : List TraceWord)
        → Tells (opening_of w (behind (v ∷ vs) e rs z)) (Opened w (behind (v ∷ vs) e rs z)) (MisfitIn opening (w ∷ v ∷ vs) e)
    third v x f g [] = rw (f, g) (inr (is_text w.text (codes "trace") f, inr ((name_some v.text x g).0, refl)))
    third v x f g (c ∷ cs) = count v c cs x f g (small_of c.text) refl

    name : (v : TraceWord) (vs : List TraceWord) → bytes_eq w.text (codes "trace") ≡ true → (o : Option (List ℕ)) → name_of v.text ≡ o
        → Tells (opening_of w (behind (v ∷ vs) e rs z)) (Opened w (behind (v ∷ vs) e rs z)) (MisfitIn opening (w ∷ v ∷ vs) e)
    name v vs f None g = rw (f, g) (inr (is_text w.text (codes "trace") f, inl (name_none v.text g, refl)))
    name v vs f (Some x) g = third v x f g vs

    go : (b : Bool) → bytes_eq w.text (codes "trace") ≡ b → (us : List TraceWord) → Tells (opening_of w (behind us e rs z))
        (Opened w (behind us e rs z)) (MisfitIn opening (w ∷ us) e)
    go false f us = rw f (inl (no_text w.text (codes "trace") f, refl))
    go true f [] = rw f (inr (is_text w.text (codes "trace") f, refl))
    go true f (v ∷ vs) = name v vs f (name_of v.text) refl

-- ---- a line

abbrev values_wanted : List TraceWord → List Wanted
values_wanted ws = map (λ _. a_value) ws

values_tell : (e : Pos) (ws : List TraceWord) → Tells (values_in ws) (λ vs. AreValues ws vs × AreFit (values_wanted ws) ws) (MisfitIn (values_wanted ws) ws e)
values_tell e [] = (tt, tt)
values_tell e (w ∷ ws) = go (value_of w.text) refl (values_in ws) (values_tell e ws)
  where
    go : (o : Option Value) → value_of w.text ≡ o → (r : Result (List PlacedValue) Pos) → Tells r
        (λ vs. AreValues ws vs × AreFit (values_wanted ws) ws) (MisfitIn (values_wanted ws) ws e)
        → Tells (or_misfit w.at o >>= λ v. r >>= λ vs. Ok (record { value = v; at = w.at } ∷ vs))
        (λ vs. AreValues (w ∷ ws) vs × AreFit (values_wanted (w ∷ ws)) (w ∷ ws)) (MisfitIn (values_wanted (w ∷ ws)) (w ∷ ws) e)
    go None f r h = inl (no_value w.text f, refl)
    go (Some v) f (Ok vs) h = let i = value_sound w.text v f in ((i, refl, h.0), ((v, i), h.1))
    go (Some v) f (Err p) h = inr ((v, value_sound w.text v f), h)

abbrev Listed : TraceWord → Left → PlacedLine × Left → Type 0
Listed w l x = IsLine (row (w ∷ l.words) l.end) x.0 × AreFit (line_wanted (w ∷ l.words)) (w ∷ l.words)

abbrev with_rest : Left → List PlacedValue → Result (List PlacedValue × Left) Pos
with_rest l us = Ok (us, l)

abbrev to_line : TraceWord → List ℕ → Subject → List PlacedValue × Left → Result (PlacedLine × Left) Pos
to_line w path s x = Ok (record { at = w.at; path = path; subject = s; values = x.0 }, x.1)

line_tells : (w : TraceWord) (e : Pos) (rs : List TextLine) (z : Pos) (ws : List TraceWord) → Tells (line_read w (behind ws e rs z))
    (Listed w (behind ws e rs z)) (MisfitIn (line_wanted (w ∷ ws)) (w ∷ ws) e)
unfolding line_read values_of
line_tells w e rs z ws = go (address_of w.text) refl ws
  where
    read : (path : List ℕ) (s : Subject) → address_of w.text ≡ Some (path, s) → (v : TraceWord) (vs : List TraceWord) (r : Result (List PlacedValue) Pos)
        → Tells r (λ us. AreValues (v ∷ vs) us × AreFit (values_wanted (v ∷ vs)) (v ∷ vs)) (MisfitIn (values_wanted (v ∷ vs)) (v ∷ vs) e)
        → Tells ((r >>= with_rest (behind [] e rs z)) >>= to_line w path s) (Listed w (behind (v ∷ vs) e rs z))
        (MisfitIn (line_wanted (w ∷ v ∷ vs)) (w ∷ v ∷ vs) e)
    read path s f v vs (Ok us) h =
        let i = address_sound w.text path s f in
        (record { place = w; first = v; others = vs; shape = refl; at = refl; is_address = i; values = h.0 }, ((path, s, i), h.1))
    read path s f v vs (Err p) h = inr ((path, s, address_sound w.text path s f), h)

    some_values : (path : List ℕ) (s : Subject) → address_of w.text ≡ Some (path, s) → (v : TraceWord) (vs : List TraceWord) → Tells
        (line_read w (behind (v ∷ vs) e rs z)) (Listed w (behind (v ∷ vs) e rs z)) (MisfitIn (line_wanted (w ∷ v ∷ vs)) (w ∷ v ∷ vs) e)
    some_values path s f v vs = rw f (read path s f v vs (values_in (v ∷ vs)) (values_tell e (v ∷ vs)))

    go : (o : Option (List ℕ × Subject)) → address_of w.text ≡ o → (us : List TraceWord) → Tells (line_read w (behind us e rs z))
        (Listed w (behind us e rs z)) (MisfitIn (line_wanted (w ∷ us)) (w ∷ us) e)
    go None f [] = rw f (inl (no_address w.text f, refl))
    go None f (v ∷ vs) = rw f (inl (no_address w.text f, refl))
    go (Some x) f [] = rw f (inr ((x.0, x.1, address_sound w.text x.0 x.1 f), refl))
    go (Some x) f (v ∷ vs) = some_values x.0 x.1 f v vs

-- ---- the lines

abbrev pub AreFull : List TextLine → Type 0
AreFull [] = Unit {0}
AreFull (r ∷ rs) = (0 < length r.words) × AreFull rs

pub full : (rs : List TextLine) → AreFull (filled rs)
full [] = tt
full (r ∷ rs) = go r.words refl (full rs)
  where
    go : (ws : List TraceWord) → r.words ≡ ws → AreFull (filled rs) → AreFull (keep ws r (filled rs))
    go [] e h = h
    go (w ∷ ws) e h = (omega (arith, ap length e), h)

empty_is : {A : Type 0} (xs : List A) → is_empty xs ≡ true → xs ≡ []
empty_is [] h = refl
empty_is (x ∷ xs) h = absurd cc

closing_is : (w : TraceWord) (ws : List TraceWord) (e : Pos) → (bytes_eq w.text (codes "end") && is_empty ws) ≡ true → IsClosing (row (w ∷ ws) e)
closing_is w ws e h =
    let t = is_text w.text (codes "end") (and_left (bytes_eq w.text (codes "end")) (is_empty ws) h) in
    let n = empty_is ws (and_right (bytes_eq w.text (codes "end")) (is_empty ws) h) in
    ap (λ (x : List ℕ). x ∷ texts ws) t ∙ ap (λ us. codes "end" ∷ texts us) n

is_closed : (w : TraceWord) (ws : List TraceWord) (e : Pos) → IsClosing (row (w ∷ ws) e) → (bytes_eq w.text (codes "end") && is_empty ws) ≡ true
is_closed w [] e h = both_true (bytes_eq w.text (codes "end")) true ((bytes_eq-Decides w.text (codes "end")).1 cc) refl
is_closed w (v ∷ vs) e h = absurd cc

lines_tell : (z : Pos) (rs : List TextLine) → AreFull rs → Tells (lines_in z rs) (λ o. AreLines rs o.0 o.1) (MisfitBelow rs z)
unfolding lines_in line_from
lines_tell z [] h = refl
lines_tell z (r ∷ rs) h = go r.words r.end h.0 (lines_tell z rs h.1)
  where
    behind_end : (w : TraceWord) (e : Pos) → IsClosing (row (w ∷ []) e) → (qs : List TextLine) → AreFull qs → Tells
        ((nothing_of (behind [] e qs z) >>= (λ done. Ok (an_end w.at))) >>= λ x. onto x (lines_in z qs))
        (λ o. AreLines (row (w ∷ []) e ∷ qs) o.0 o.1) (MisfitBelow (row (w ∷ []) e ∷ qs) z)
    behind_end w e c [] f = (c, refl, refl)
    behind_end w e c (q ∷ qs) f = first q.words q.end f.0
      where
        first : (ws : List TraceWord) (u : Pos) → 0 < length ws → Tells
            ((nothing_of (behind [] e (row ws u ∷ qs) z) >>= (λ done. Ok (an_end w.at))) >>= λ x. onto x (lines_in z (row ws u ∷ qs)))
            (λ o. AreLines (row (w ∷ []) e ∷ row ws u ∷ qs) o.0 o.1) (MisfitBelow (row (w ∷ []) e ∷ row ws u ∷ qs) z)
        first [] u l = absurd (omega arith)
        first (v ∷ vs) u l = inl (c, refl)

    closed : (w : TraceWord) (ws : List TraceWord) (e : Pos) → IsClosing (row (w ∷ ws) e) → ws ≡ [] → Tells
        ((nothing_of (behind ws e rs z) >>= (λ done. Ok (an_end w.at))) >>= λ x. onto x (lines_in z rs))
        (λ o. AreLines (row (w ∷ ws) e ∷ rs) o.0 o.1) (MisfitBelow (row (w ∷ ws) e ∷ rs) z)
    closed w [] e c n = behind_end w e c rs h.1
    closed w (v ∷ vs) e c n = absurd cc

    below : (w : TraceWord) (ws : List TraceWord) (e : Pos) → (IsClosing (row (w ∷ ws) e) → ⊥) → (l : Result (PlacedLine × Left) Pos)
        → Tells l (Listed w (behind ws e rs z)) (MisfitIn (line_wanted (w ∷ ws)) (w ∷ ws) e)
        → (m : Result (List PlacedLine × Pos) Pos) → Tells m (λ o. AreLines rs o.0 o.1) (MisfitBelow rs z) → Tells
        ((l >>= (λ x. Ok (a_line x.0 x.1))) >>= λ x. onto x m) (λ o. AreLines (row (w ∷ ws) e ∷ rs) o.0 o.1)
        (MisfitBelow (row (w ∷ ws) e ∷ rs) z)
    below w ws e c (Err p) i m j = inr (c, inl i)
    below w ws e c (Ok x) i (Err p) j = inr (c, inr (i.1, j))
    below w ws e c (Ok x) i (Ok ls) j = (i.0, j)

    branch : (w : TraceWord) (ws : List TraceWord) (e : Pos) (b : Bool) → (bytes_eq w.text (codes "end") && is_empty ws) ≡ b → Tells
        (lines_in z rs) (λ o. AreLines rs o.0 o.1) (MisfitBelow rs z)
        → Tells (cond b (nothing_of (behind ws e rs z) >>= (λ done. Ok (an_end w.at)))
        (line_read w (behind ws e rs z) >>= (λ x. Ok (a_line x.0 x.1))) >>= λ x. onto x (lines_in z rs))
        (λ o. AreLines (row (w ∷ ws) e ∷ rs) o.0 o.1) (MisfitBelow (row (w ∷ ws) e ∷ rs) z)
    branch w ws e true f k = closed w ws e (closing_is w ws e f) (empty_is ws (and_right (bytes_eq w.text (codes "end")) (is_empty ws) f))
    branch w ws e false f k = below w ws e (λ c. let t = is_closed w ws e c in absurd cc) (line_read w (behind ws e rs z))
        (line_tells w e rs z ws) (lines_in z rs) k

    go : (ws : List TraceWord) (e : Pos) → 0 < length ws → Tells (lines_in z rs) (λ o. AreLines rs o.0 o.1) (MisfitBelow rs z) → Tells
        (lines_in z (row ws e ∷ rs)) (λ o. AreLines (row ws e ∷ rs) o.0 o.1) (MisfitBelow (row ws e ∷ rs) z)
    go [] e l k = absurd (omega arith)
    go (w ∷ ws) e l k = branch w ws e (bytes_eq w.text (codes "end") && is_empty ws) refl k

-- ---- the text

abbrev listing : Opening → List PlacedLine × Pos → Listing
listing o ls = record { node = o.0.0; node_at = o.0.1; length = o.1.0; length_at = o.1.1; lines = ls.0; end_at = ls.1 }

abbrev trace_in : Pos → List TextLine → Result Listing Pos
trace_in z rs = or_misfit z (first_in z rs) >>= λ first. opening_of first.0 first.1 >>= λ o. lines_in o.2.last (lines_ahead o.2) >>= λ ls. Ok (listing o ls)

trace_tells : (z : Pos) (rs : List TextLine) → AreFull rs → Tells (trace_in z rs) (AreTrace rs) (MisfitAt rs z)
trace_tells z [] h = refl
trace_tells z (r ∷ rs) h = go r.words r.end h.0
  where
    lines : (w : TraceWord) (ws : List TraceWord) (e : Pos) (x : Opening) → Opened w (behind ws e rs z) x →
        (m : Result (List PlacedLine × Pos) Pos) → Tells m (λ o. AreLines rs o.0 o.1) (MisfitBelow rs z)
        → Tells (m >>= λ ls. Ok (listing x ls)) (AreTrace (row (w ∷ ws) e ∷ rs)) (MisfitAt (row (w ∷ ws) e ∷ rs) z)
    lines w ws e x o (Ok ls) j = (o.is, j)
    lines w ws e x o (Err p) j = inr (o.fit, j)

    opened : (w : TraceWord) (ws : List TraceWord) (e : Pos) (o : Result Opening Pos) → Tells o (Opened w (behind ws e rs z)) (MisfitIn opening (w ∷ ws) e)
        → Tells (o >>= λ x. lines_in x.2.last (lines_ahead x.2) >>= λ ls. Ok (listing x ls)) (AreTrace (row (w ∷ ws) e ∷ rs)) (MisfitAt (row (w ∷ ws) e ∷ rs) z)
    opened w ws e (Err p) j = inl j
    opened w ws e (Ok x) j = lines w ws e x j (lines_in x.2.last (lines_ahead x.2))
        (subst (λ (m : Left). Tells (lines_in m.last (lines_ahead m)) (λ o. AreLines rs o.0 o.1) (MisfitBelow rs z)) (sym j.left)
        (lines_tell z rs h.1))

    go : (ws : List TraceWord) (e : Pos) → 0 < length ws → Tells (trace_in z (row ws e ∷ rs)) (AreTrace (row ws e ∷ rs)) (MisfitAt (row ws e ∷ rs) z)
    go [] e l = absurd (omega arith)
    go (w ∷ ws) e l = opened w ws e (opening_of w (behind ws e rs z)) (opening_tells w e rs z ws)

pub reading_tells : (bytes : List ℕ) → Tells (reading bytes) (IsTraceText bytes) (FirstMisfit bytes)
unfolding trace_of
reading_tells bytes = trace_tells (end_of bytes) (filled (text_lines bytes)) (full (text_lines bytes))
