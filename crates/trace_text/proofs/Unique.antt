-- A text is one trace, or has one first misfit.
use Rattle.std.proofs.Common.{◌≡◌, ℕ, ◌⊎◌, inl, inr, true, List, [], ◌∷◌, map, codes, Result, Ok, Err, refl, sym, ap, ◌∙◌, subst}
use Rattle.lus_tree.specs.declared.place.Pos.{Pos}
use Rattle.lus_meaning.specs.Value.{Value}
use Rattle.lus_meaning.specs.Trace.{Subject}
use Rattle.std.specs.Prelude.{IfOk, IfErr}
use Rattle.lus_meaning.specs.declared.trace.Trace.{Trace}
use Rattle.lus_meaning.specs.TraceView.{PlacedValue, PlacedLine, Listing, trace_view}
use Rattle.trace_text.specs.declared.fault.TraceFault.{TraceFault}
use Rattle.trace_text.specs.declared.fault.TraceFault.TheVariants as faults
use Rattle.trace_text.specs.Cutting.{TraceWord, TextLine, filled, text_lines, end_of}
use Rattle.lus_lexer.specs.Names.{is_name}
use Rattle.trace_text.specs.Words.{IsNumber, IsAddress, IsValue}
use Rattle.trace_text.specs.Traces.{texts, IsOpening, AreValues, IsLine, IsClosing, AreLines, AreTrace, IsTraceText, Wanted, a_value, MisfitIn, AreFit, opening, line_wanted, MisfitBehind, MisfitBelow, MisfitAt, FirstMisfit, Refuses}
use Rattle.trace_text.specs.Laws.{OneTrace, TraceOrMisfit, NeverBoth, OneMisfit}
use Rattle.trace_text.specs.Reading.{Gives, reading}
use Rattle.trace_text.proofs.Numbers.{some_is, small_complete, value_complete}
use Rattle.trace_text.proofs.Addresses.{address_complete}
use Rattle.trace_text.proofs.Told.{Tells, reading_tells}

fit_or_misfit : (ks : List Wanted) (ws : List TraceWord) (e p : Pos) → AreFit ks ws → MisfitIn ks ws e p → ⊥
fit_or_misfit [] [] e p f m = m
fit_or_misfit [] (w ∷ ws) e p f m = f
fit_or_misfit (k ∷ ks) [] e p f m = f
fit_or_misfit (k ∷ ks) (w ∷ ws) e p f (inl m) = m.0 f.0
fit_or_misfit (k ∷ ks) (w ∷ ws) e p f (inr m) = fit_or_misfit ks ws e p f.1 m.1

same_in : (ks : List Wanted) (ws : List TraceWord) (e p q : Pos) → MisfitIn ks ws e p → MisfitIn ks ws e q → p ≡ q
same_in [] [] e p q m n = absurd m
same_in [] (w ∷ ws) e p q m n = m ∙ sym n
same_in (k ∷ ks) [] e p q m n = m ∙ sym n
same_in (k ∷ ks) (w ∷ ws) e p q (inl m) (inl n) = m.1 ∙ sym n.1
same_in (k ∷ ks) (w ∷ ws) e p q (inl m) (inr n) = absurd (m.0 n.0)
same_in (k ∷ ks) (w ∷ ws) e p q (inr m) (inl n) = absurd (n.0 m.0)
same_in (k ∷ ks) (w ∷ ws) e p q (inr m) (inr n) = same_in ks ws e p q m.1 n.1

-- ---- lines fit

opening_fit : (r : TextLine) (node : List ℕ) (p : Pos) (n : ℕ) (q : Pos) → IsOpening r node p n q → AreFit opening r.words
opening_fit r node p n q i = go r.words i.shape
  where
    go : (ws : List TraceWord) → texts ws ≡ codes "trace" ∷ node ∷ i.count ∷ [] → AreFit opening ws
    go [] h = absurd cc
    go (w ∷ []) h = absurd cc
    go (w ∷ v ∷ []) h = absurd cc
    go (w ∷ v ∷ c ∷ []) h =
        let a : w.text ≡ codes "trace" = cc in
        let b : v.text ≡ node = cc in
        let d : c.text ≡ i.count = cc in
        (a, (subst (λ (x : List ℕ). is_name x ≡ true) (sym b) i.name, ((n, subst (λ (x : List ℕ). IsNumber x n) (sym d) i.number), tt)))
    go (w ∷ v ∷ c ∷ x ∷ xs) h = absurd cc

values_fit : (ws : List TraceWord) (vs : List PlacedValue) → AreValues ws vs → AreFit (map (λ _. a_value) ws) ws
values_fit [] [] h = tt
values_fit [] (v ∷ vs) h = absurd h
values_fit (w ∷ ws) [] h = absurd h
values_fit (w ∷ ws) (v ∷ vs) h = ((v.value, h.0), values_fit ws vs h.2)

line_fit : (r : TextLine) (l : PlacedLine) → IsLine r l → AreFit (line_wanted r.words) r.words
line_fit r l i = subst (λ ws. AreFit (line_wanted ws) ws) (sym i.shape) ((l.path, l.subject, i.is_address), values_fit (i.first ∷ i.others) l.values i.values)

not_closing : (r : TextLine) (l : PlacedLine) → IsLine r l → IsClosing r → ⊥
not_closing r l i c =
    let e : texts (i.place ∷ i.first ∷ i.others) ≡ codes "end" ∷ [] = ap texts (sym i.shape) ∙ c in
    absurd cc

-- ---- never both

nothing_behind : (rs : List TextLine) (p : Pos) → rs ≡ [] → MisfitBehind rs p → ⊥
nothing_behind [] p e m = m
nothing_behind (r ∷ rs) p e m = absurd cc

below_never : (rs : List TextLine) (ls : List PlacedLine) (e f p : Pos) → AreLines rs ls f → MisfitBelow rs e p → ⊥
below_never [] ls e f p a m = a
below_never (r ∷ rs) [] e f p a (inl m) = nothing_behind rs p a.2 m.1
below_never (r ∷ rs) [] e f p a (inr m) = m.0 a.0
below_never (r ∷ rs) (l ∷ ls) e f p a (inl m) = not_closing r l a.0 m.0
below_never (r ∷ rs) (l ∷ ls) e f p a (inr m) = go m.1 (below_never rs ls e f p a.1)
  where
    go : (MisfitIn (line_wanted r.words) r.words r.end p ⊎ (AreFit (line_wanted r.words) r.words × MisfitBelow rs e p)) → (MisfitBelow rs e p → ⊥) → ⊥
    go (inl n) g = fit_or_misfit (line_wanted r.words) r.words r.end p (line_fit r l a.0) n
    go (inr n) g = g n.1

never : (rs : List TextLine) (t : Listing) (e p : Pos) → AreTrace rs t → MisfitAt rs e p → ⊥
never [] t e p a m = a
never (r ∷ rs) t e p a (inl m) = fit_or_misfit opening r.words r.end p (opening_fit r t.node t.node_at t.length t.length_at a.0) m
never (r ∷ rs) t e p a (inr m) = below_never rs t.lines e t.end_at p a.1 m.1

pub never_both : NeverBoth
never_both bytes t p a m = never (filled (text_lines bytes)) t (end_of bytes) p a m

-- ---- one misfit

behind_same : (rs : List TextLine) (p q : Pos) → MisfitBehind rs p → MisfitBehind rs q → p ≡ q
behind_same [] p q m n = absurd m
behind_same (r ∷ rs) p q m n = same_in [] r.words r.end p q m n

below_same : (rs : List TextLine) (e p q : Pos) → MisfitBelow rs e p → MisfitBelow rs e q → p ≡ q
below_same [] e p q m n = m ∙ sym n
below_same (r ∷ rs) e p q (inl m) (inl n) = behind_same rs p q m.1 n.1
below_same (r ∷ rs) e p q (inl m) (inr n) = absurd (n.0 m.0)
below_same (r ∷ rs) e p q (inr m) (inl n) = absurd (m.0 n.0)
below_same (r ∷ rs) e p q (inr m) (inr n) = go m.1 n.1 (below_same rs e p q)
  where
    go : (MisfitIn (line_wanted r.words) r.words r.end p ⊎ (AreFit (line_wanted r.words) r.words × MisfitBelow rs e p)) →
        (MisfitIn (line_wanted r.words) r.words r.end q ⊎ (AreFit (line_wanted r.words) r.words × MisfitBelow rs e q))
        → (MisfitBelow rs e p → MisfitBelow rs e q → p ≡ q) → p ≡ q
    go (inl a) (inl b) f = same_in (line_wanted r.words) r.words r.end p q a b
    go (inl a) (inr b) f = absurd (fit_or_misfit (line_wanted r.words) r.words r.end p b.0 a)
    go (inr a) (inl b) f = absurd (fit_or_misfit (line_wanted r.words) r.words r.end q a.0 b)
    go (inr a) (inr b) f = f a.1 b.1

same_at : (rs : List TextLine) (e p q : Pos) → MisfitAt rs e p → MisfitAt rs e q → p ≡ q
same_at [] e p q m n = m ∙ sym n
same_at (r ∷ rs) e p q (inl m) (inl n) = same_in opening r.words r.end p q m n
same_at (r ∷ rs) e p q (inl m) (inr n) = absurd (fit_or_misfit opening r.words r.end p n.0 m)
same_at (r ∷ rs) e p q (inr m) (inl n) = absurd (fit_or_misfit opening r.words r.end q m.0 n)
same_at (r ∷ rs) e p q (inr m) (inr n) = below_same rs e p q m.1 n.1

pub one_misfit : OneMisfit
one_misfit bytes p q m n = same_at (filled (text_lines bytes)) (end_of bytes) p q m n

-- ---- one trace

number_same : (w : List ℕ) (m n : ℕ) → IsNumber w m → IsNumber w n → m ≡ n
number_same w m n a b = some_is m n (sym (small_complete w m a) ∙ small_complete w n b)

value_same : (w : List ℕ) (u v : Value) → IsValue w u → IsValue w v → u ≡ v
value_same w u v a b = some_is u v (sym (value_complete w u a) ∙ value_complete w v b)

address_same : (w : List ℕ) (x y : List ℕ) (s t : Subject) → IsAddress w x s → IsAddress w y t → (x ≡ y) × (s ≡ t)
address_same w x y s t a b =
    let e = some_is (x, s) (y, t) (sym (address_complete w x s a) ∙ address_complete w y t b) in
    (ap (λ z. z.0) e, ap (λ z. z.1) e)

placed_is : (u v : Value) (p q : Pos) → u ≡ v → p ≡ q → ◌≡◌ {A = PlacedValue} (record { value = u; at = p }) (record { value = v; at = q })
placed_is u v p q e f = cc

values_same : (ws : List TraceWord) (us vs : List PlacedValue) → AreValues ws us → AreValues ws vs → us ≡ vs
values_same [] [] [] a b = refl
values_same [] (u ∷ us) vs a b = absurd a
values_same [] [] (v ∷ vs) a b = absurd b
values_same (w ∷ ws) [] vs a b = absurd a
values_same (w ∷ ws) (u ∷ us) [] a b = absurd b
values_same (w ∷ ws) (u ∷ us) (v ∷ vs) a b = let e : u ≡ v = placed_is u.value v.value u.at v.at (value_same w.text u.value v.value a.0 b.0)
    (a.1 ∙ sym b.1) in let f : us ≡ vs = values_same ws us vs a.2 b.2 in cc

opening_same : (r : TextLine) (x y : List ℕ) (p q : Pos) (m n : ℕ) (u v : Pos) → IsOpening r x p m u → IsOpening r y q n v → (x ≡ y) ×
    (p ≡ q) × (m ≡ n) × (u ≡ v)
opening_same r x y p q m n u v a b =
    let s : codes "trace" ∷ x ∷ a.count ∷ [] ≡ codes "trace" ∷ y ∷ b.count ∷ [] = sym a.shape ∙ b.shape in
    let e : x ≡ y = cc in
    let f : a.count ≡ b.count = cc in
    let t : a.first ∷ p ∷ u ∷ [] ≡ b.first ∷ q ∷ v ∷ [] = sym a.places ∙ b.places in
    let g : p ≡ q = cc in
    let h : u ≡ v = cc in
    (e, g, number_same b.count m n (subst (λ (w : List ℕ). IsNumber w m) f a.number) b.number, h)

line_is : (p q : Pos) (x y : List ℕ) (s t : Subject) (us vs : List PlacedValue) → p ≡ q → x ≡ y → s ≡ t → us ≡ vs
    → ◌≡◌ {A = PlacedLine} (record { at = p; path = x; subject = s; values = us }) (record { at = q; path = y; subject = t; values = vs })
line_is p q x y s t us vs a b c d = cc

line_same : (r : TextLine) (k l : PlacedLine) → IsLine r k → IsLine r l → k ≡ l
line_same r k l a b =
    let s : a.place ∷ a.first ∷ a.others ≡ b.place ∷ b.first ∷ b.others = sym a.shape ∙ b.shape in
    let e : a.place ≡ b.place = cc in
    let f : a.first ∷ a.others ≡ b.first ∷ b.others = cc in
    let p = address_same b.place.text k.path l.path k.subject l.subject
    (subst (λ (w : TraceWord). IsAddress w.text k.path k.subject) e a.is_address) b.is_address in
    let v = values_same (b.first ∷ b.others) k.values l.values (subst (λ (ws : List TraceWord). AreValues ws k.values) f a.values) b.values in
    line_is k.at l.at k.path l.path k.subject l.subject k.values l.values (a.at ∙ ap (λ (w : TraceWord). w.at) e ∙ sym b.at) p.0 p.1 v

lines_same : (rs : List TextLine) (ks ls : List PlacedLine) (p q : Pos) → AreLines rs ks p → AreLines rs ls q → (ks ≡ ls) × (p ≡ q)
lines_same [] ks ls p q a b = absurd a
lines_same (r ∷ rs) [] [] p q a b = let e : p ∷ [] ≡ q ∷ [] = sym a.1 ∙ b.1 in (refl, cc)
lines_same (r ∷ rs) [] (l ∷ ls) p q a b = absurd (not_closing r l b.0 a.0)
lines_same (r ∷ rs) (k ∷ ks) [] p q a b = absurd (not_closing r k a.0 b.0)
lines_same (r ∷ rs) (k ∷ ks) (l ∷ ls) p q a b = let e = line_same r k l a.0 b.0 in let f = lines_same rs ks ls p q a.1 b.1 in let g : ks ≡ ls = f.0 in (cc, f.1)

trace_is : (x y : List ℕ) (p q : Pos) (m n : ℕ) (u v : Pos) (ks ls : List PlacedLine) (e f : Pos) → x ≡ y → p ≡ q → m ≡ n → u ≡ v → ks ≡ ls → e ≡ f
    → ◌≡◌ {A = Listing} (record { node = x; node_at = p; length = m; length_at = u; lines = ks; end_at = e })
    (record { node = y; node_at = q; length = n; length_at = v; lines = ls; end_at = f })
trace_is x y p q m n u v ks ls e f a b c d g h = cc

trace_same : (rs : List TextLine) (s t : Listing) → AreTrace rs s → AreTrace rs t → s ≡ t
trace_same [] s t a b = absurd a
trace_same (r ∷ rs) s t a b =
    let o = opening_same r s.node t.node s.node_at t.node_at s.length t.length s.length_at t.length_at a.0 b.0 in
    let l = lines_same rs s.lines t.lines s.end_at t.end_at a.1 b.1 in
    trace_is s.node t.node s.node_at t.node_at s.length t.length s.length_at t.length_at s.lines t.lines s.end_at t.end_at o.0 o.1 o.2 o.3 l.0 l.1

pub one_trace : OneTrace
one_trace bytes s t a b = trace_same (filled (text_lines bytes)) s t a b

-- ---- a trace or a misfit

tells_either : (bytes : List ℕ) (r : Result Listing Pos) → Tells r (IsTraceText bytes) (FirstMisfit bytes) →
    ((t : Listing) × IsTraceText bytes t) ⊎ ((p : Pos) × FirstMisfit bytes p)
tells_either bytes (Ok t) h = inl (t, h)
tells_either bytes (Err p) h = inr (p, h)

pub trace_or_misfit : TraceOrMisfit
trace_or_misfit bytes = tells_either bytes (reading bytes) (reading_tells bytes)

-- ---- reading gives them

trace_given : (bytes : List ℕ) (t : Listing) (r : Result Listing Pos) → Tells r (IsTraceText bytes) (FirstMisfit bytes) → IsTraceText bytes t → r ≡ Ok t
trace_given bytes t (Ok s) h a = ap (λ x. Ok x) (one_trace bytes s t h a)
trace_given bytes t (Err p) h a = absurd (never_both bytes t p a h)

pub trace_read : (bytes : List ℕ) (t : Listing) → IsTraceText bytes t → reading bytes ≡ Ok t
trace_read bytes t a = trace_given bytes t (reading bytes) (reading_tells bytes) a

misfit_given : (bytes : List ℕ) (p : Pos) (r : Result Listing Pos) → Tells r (IsTraceText bytes) (FirstMisfit bytes) → FirstMisfit bytes p → r ≡ Err p
misfit_given bytes p (Ok s) h m = absurd (never_both bytes s p h m)
misfit_given bytes p (Err q) h m = ap (λ x. Err x) (one_misfit bytes q p h m)

pub misfit_read : (bytes : List ℕ) (p : Pos) → FirstMisfit bytes p → reading bytes ≡ Err p
misfit_read bytes p m = misfit_given bytes p (reading bytes) (reading_tells bytes) m

tells_as : (bytes : List ℕ) (r : Result Listing Pos) → reading bytes ≡ r → Tells r (IsTraceText bytes) (FirstMisfit bytes)
tells_as bytes r e = subst (λ (x : Result Listing Pos). Tells x (IsTraceText bytes) (FirstMisfit bytes)) e (reading_tells bytes)

pub is_found : (bytes : List ℕ) (r : Result Trace TraceFault) → Gives trace_view r (reading bytes) → IfOk r (λ t. IsTraceText bytes (trace_view t))
is_found bytes (Ok t) g = tells_as bytes (Ok (trace_view t)) g
is_found bytes (Err e) g = tt

pub is_refused : (bytes : List ℕ) (r : Result Trace TraceFault) → Gives trace_view r (reading bytes) → IfErr r (Refuses bytes)
is_refused bytes (Ok t) g = tt
is_refused bytes (Err faults.Memory) g = tt
is_refused bytes (Err (faults.Form p)) g = tells_as bytes (Err p) g
