-- Values and lines are read one after the other.
use Rattle.std.proofs.Common.{◌≡◌, ◌<◌, Bool, true, false, cond, List, [], ◌∷◌, ◌++◌, length, Result, Ok, Err, refl, sym, ap, ◌∙◌, arith, append_assoc}
use Rattle.std.proofs.lemmas.List.{append-nil}
use Rattle.lus_tree.specs.declared.place.Pos.{Pos}
use Rattle.lus_meaning.specs.TraceView.{PlacedValue, PlacedLine}
use Rattle.trace_text.specs.declared.fault.TraceFault.{TraceFault}
use Rattle.trace_text.specs.declared.fault.TraceFault.TheVariants as faults
use Rattle.trace_text.specs.Cutting.{TraceWord, TextLine}
use Rattle.trace_text.specs.Reading.{◌>>=◌, Fails, Left, word_in, values_in, values_left, without_words, or_misfit, Next, a_line, an_end, line_of, line_from, lines_left, lines_in, lines_ahead, line_read, values_of, address_of, next_of, nothing_of, is_closing, onto}

abbrev pub values_onto : List PlacedValue → Result (List PlacedValue × Left) Pos → Result (List PlacedValue × Left) Pos
values_onto front read = read >>= λ x. Ok (front ++ x.0, x.1)

abbrev pub lines_onto : List PlacedLine → Result (List PlacedLine × Pos) Pos → Result (List PlacedLine × Pos) Pos
lines_onto front read = read >>= λ x. Ok (front ++ x.0, x.1)

-- the value of a step that did not fail
pub bind_ok : {A B : Type 0} (r : Result A Pos) (f : A → Result B Pos) (y : B) → (r >>= f) ≡ Ok y → (x : A) × (r ≡ Ok x) × (f x ≡ Ok y)
bind_ok (Ok x) f y e = (x, refl, e)
bind_ok (Err p) f y e = absurd cc

abbrev done : {A : Type 0} → A → Result A Pos
done x = Ok x

pub ok_is : {A : Type 0} (x y : A) → done x ≡ done y → x ≡ y
ok_is x y e = cc

abbrev failed : {A : Type 0} → Pos → Result A Pos
failed p = Err p

pub err_is : {A : Type 0} (p q : Pos) → failed {A = A} p ≡ Err q → p ≡ q
err_is p q e = cc

-- a line takes all its words
pub line_left : (w : TraceWord) (l : Left) (x : PlacedLine × Left) → line_read w l ≡ Ok x → x.1 ≡ without_words l
unfolding line_read values_of
line_left w l x e =
    let a = bind_ok (or_misfit w.at (address_of w.text)) _ x e in
    let b = bind_ok (next_of l >>= λ first. values_left l) _ x a.2 in
    let c = bind_ok (next_of l) (λ first. values_left l) b.0 b.1 in
    let d = bind_ok (values_in l.words) (λ vs. Ok (vs, without_words l)) b.0 c.2 in
    sym (ap (λ y. y.1) (ok_is _ x b.2)) ∙ sym (ap (λ y. y.1) (ok_is (d.0, without_words l) b.0 d.2))

pub record Steps (l m : Left) : Type 0 where
  pub row : TextLine
  pub rows : lines_ahead l ≡ row ∷ lines_ahead m
  pub last : m.last ≡ l.last

end_or_line : (p : Pos) (x : PlacedLine) (m : Left) → done (an_end p) ≡ Ok (a_line x m) → ⊥
end_or_line p x m e = cc

same_line : (x y : PlacedLine) (l m : Left) → done (a_line x l) ≡ Ok (a_line y m) → l ≡ m
same_line x y l m e = cc

steps_in : (e : Pos) (rows : List TextLine) (x : PlacedLine) (m : Left) → line_from e rows ≡ Ok (a_line x m) → (r : TextLine) ×
    (rows ≡ r ∷ lines_ahead m) × (m.last ≡ e)
unfolding line_from
steps_in e [] x m h = absurd cc
steps_in e (r ∷ rs) x m h = go r.words h
  where
    whole : Left
    whole = record { words = r.words; end = r.end; later = rs; last = e }

    behind : List TraceWord → Left
    behind ws = record { words = ws; end = r.end; later = rs; last = e }

    line_wanted : (w : TraceWord) (ws : List TraceWord) → (line_read w (behind ws) >>= (λ y. Ok (a_line y.0 y.1))) ≡ Ok (a_line x m)
        → m ≡ without_words (behind ws)
    line_wanted w ws k =
        let b = bind_ok (line_read w (behind ws)) (λ y. Ok (a_line y.0 y.1)) (a_line x m) k in
        sym (same_line b.0.0 x b.0.1 m b.2) ∙ line_left w (behind ws) b.0 b.1

    branch : (b : Bool) (w : TraceWord) (ws : List TraceWord) → cond b (nothing_of (behind ws) >>= (λ done. Ok (an_end w.at)))
        (line_read w (behind ws) >>= (λ y. Ok (a_line y.0 y.1))) ≡ Ok (a_line x m) → m ≡ without_words (behind ws)
    branch true w ws k = let b = bind_ok (nothing_of (behind ws)) (λ done. Ok (an_end w.at)) (a_line x m) k in absurd (end_or_line w.at x m b.2)
    branch false w ws k = line_wanted w ws k

    go : (words : List TraceWord) → (or_misfit e (word_in whole words) >>= λ first. cond (is_closing first.0 first.1)
        (nothing_of first.1 >>= (λ done. Ok (an_end first.0.at))) (line_read first.0 first.1 >>= (λ y. Ok (a_line y.0 y.1)))) ≡ Ok
        (a_line x m)
        → (q : TextLine) × ((r ∷ rs) ≡ q ∷ lines_ahead m) × (m.last ≡ e)
    go [] k = absurd cc
    go (w ∷ ws) k = let s = branch (is_closing w (behind ws)) w ws k in (r, ap (λ n. r ∷ lines_ahead n) (sym s), ap (λ n. n.last) s)

pub line_steps : (l : Left) (x : PlacedLine) (m : Left) → line_of l ≡ Ok (a_line x m) → Steps l m
line_steps l x m h = let s = steps_in l.last (lines_ahead l) x m h in record { row = s.0; rows = s.1; last = s.2 }

pub fewer : (l : Left) (x : PlacedLine) (m : Left) → line_of l ≡ Ok (a_line x m) → length (lines_ahead m) < length (lines_ahead l)
fewer l x m h = let s = line_steps l x m h in omega (arith, ap length s.rows)

fail_in : (e p : Pos) (rows : List TextLine) → line_from e rows ≡ Err p → lines_in e rows ≡ Err p
unfolding lines_in line_from
fail_in e p [] k = ap (failed {A = List PlacedLine × Pos}) (err_is {A = Next} e p k)
fail_in e p (r ∷ rs) k = ap (λ x. x >>= λ y. onto y (lines_in e rs)) k

pub lines_fail : (l : Left) (p : Pos) → line_of l ≡ Err p → lines_left l ≡ Err p
lines_fail l p h = fail_in l.last p (lines_ahead l) h

nothing_ends : (e p : Pos) (rows : List TextLine) → line_from e rows ≡ Ok (an_end p) → lines_in e rows ≡ Ok ([], p)
unfolding lines_in line_from
nothing_ends e p [] k = absurd cc
nothing_ends e p (r ∷ rs) k = ap (λ x. x >>= λ y. onto y (lines_in e rs)) k

pub lines_end : (l : Left) (p : Pos) → line_of l ≡ Ok (an_end p) → lines_left l ≡ Ok ([], p)
lines_end l p h = nothing_ends l.last p (lines_ahead l) h

more_in : (e : Pos) (rows rs : List TextLine) (r : TextLine) (x : PlacedLine) (m : Left) → line_from e rows ≡ Ok (a_line x m)
    → rows ≡ r ∷ rs → lines_in e rows ≡ (lines_in e rs >>= λ o. Ok (x ∷ o.0, o.1))
unfolding lines_in
more_in e rows rs r x m k s =
    let q : line_from e (r ∷ rs) ≡ Ok (a_line x m) = ap (line_from e) (sym s) ∙ k in
    ap (lines_in e) s ∙ ap (λ y. y >>= λ z. onto z (lines_in e rs)) q

pub lines_more : (l : Left) (x : PlacedLine) (m : Left) → line_of l ≡ Ok (a_line x m) → lines_left l ≡ (lines_left m >>= λ o. Ok (x ∷ o.0, o.1))
lines_more l x m h =
    let s = line_steps l x m h in
    more_in l.last (lines_ahead l) (lines_ahead m) s.row x m h s.rows ∙ ap (λ e. lines_in e (lines_ahead m) >>= λ o. Ok (x ∷ o.0, o.1)) (sym s.last)

-- ---- the loop over the lines

pub lines_end_with : (e : TraceFault) (front : List PlacedLine) (l : Left) (total : Result (List PlacedLine × Pos) Pos) → Fails e
    (line_of l) → lines_onto front (lines_left l) ≡ total → Fails e total
lines_end_with faults.Memory front l total h so_far = tt
lines_end_with (faults.Form p) front l total h so_far = sym so_far ∙ ap (lines_onto front) (lines_fail l p h)

onto_more : (front : List PlacedLine) (x : PlacedLine) (r : Result (List PlacedLine × Pos) Pos) → lines_onto front
    (r >>= λ o. Ok (x ∷ o.0, o.1)) ≡ lines_onto (front ++ x ∷ []) r
onto_more front x (Ok o) = ap (λ (ys : List PlacedLine). Ok (ys, o.1)) (sym (append_assoc front (x ∷ []) o.0))
onto_more front x (Err p) = refl

pub lines_go_on : (front front' : List PlacedLine) (l : Left) (x : PlacedLine) (m : Left) (total : Result (List PlacedLine × Pos) Pos)
    → front' ≡ front ++ x ∷ [] → line_of l ≡ Ok (a_line x m) → lines_onto front (lines_left l) ≡ total → lines_onto front'
    (lines_left m) ≡ total
lines_go_on front front' l x m total f h so_far = ap (λ ys. lines_onto ys (lines_left m)) f ∙ sym (onto_more front x (lines_left m)) ∙ ap
    (lines_onto front) (sym (lines_more l x m h)) ∙ so_far

pub lines_done : (front : List PlacedLine) (l : Left) (p : Pos) (total : Result (List PlacedLine × Pos) Pos) → line_of l ≡ Ok (an_end p)
    → lines_onto front (lines_left l) ≡ total → total ≡ Ok (front, p)
lines_done front l p total h so_far = sym so_far ∙ ap (lines_onto front) (lines_end l p h) ∙ ap (λ (ys : List PlacedLine). Ok (ys, p)) (append-nil front)
