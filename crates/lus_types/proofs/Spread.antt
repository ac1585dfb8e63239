-- What is marked when rows are passed.
use Rattle.std.proofs.Common.{◌≡◌, ℕ, zero, suc, ◌<◌, ◌≤◌, Bool, true, false, cond, not, ◌&&◌, ◌||◌, eqb, List, [], ◌∷◌, length, map, get_or, set, refl, ◌∙◌, sym, subst, arith}
use Rattle.std.specs.List.{list_all}
use Rattle.std.proofs.Math.Logic.{◌⊎◌, inl, inr}
use Rattle.std.proofs.lemmas.Bool.{true≢false, false≢true, eqb-true, eqb-false, cases_Bool}
use Rattle.std.proofs.lemmas.List.{get_or-set_other, length-set}
use Rattle.lus_types.specs.declared.marks.Row.{Row as CodeRow}
use Rattle.lus_types.specs.Marks.{Link, Row, row_view, Spreads, free_count, has_open, is_backed, is_free, is_marked, is_open, leads_on, passed_down, passed_up, stepped}

pub both_true : (c b : Bool) → (c && b) ≡ true → (c ≡ true) × (b ≡ true)
both_true true true e = (refl, refl)
both_true true false e = absurd (false≢true e)
both_true false b e = absurd (false≢true e)

not_true : (c : Bool) → not c ≡ true → c ≡ false
not_true true e = absurd (false≢true e)
not_true false e = refl

-- ---- one mark more

fewer_by_one : (bs : List Bool) (i : ℕ) → get_or bs i true ≡ false → suc (free_count (set bs i true)) ≡ free_count bs
fewer_by_one [] i e = absurd (true≢false e)
fewer_by_one (true ∷ bs) zero e = absurd (true≢false e)
fewer_by_one (false ∷ bs) zero e = omega arith
fewer_by_one (true ∷ bs) (suc i) e = omega (arith, fewer_by_one bs i e)
fewer_by_one (false ∷ bs) (suc i) e = omega (arith, fewer_by_one bs i e)

pub still_marked : (bs : List Bool) (i j : ℕ) → is_marked bs j ≡ true → is_marked (set bs i true) j ≡ true
still_marked [] i j e = absurd (false≢true e)
still_marked (b ∷ bs) zero zero e = refl
still_marked (b ∷ bs) zero (suc j) e = e
still_marked (b ∷ bs) (suc i) zero e = e
still_marked (b ∷ bs) (suc i) (suc j) e = still_marked bs i j e

pub newly_marked : (bs : List Bool) (i j : ℕ) → is_marked (set bs i true) j ≡ true → (j ≡ i) ⊎ (is_marked bs j ≡ true)
newly_marked bs i j e = go (cases_Bool (eqb j i))
  where
    go : (eqb j i ≡ true) ⊎ (eqb j i ≡ false) → (j ≡ i) ⊎ (is_marked bs j ≡ true)
    go (inl t) = inl (eqb-true j i t)
    go (inr f) = inr (sym (get_or-set_other bs i j true false (eqb-false j i f)) ∙ e)

leads_by : (p q : ℕ → Bool) (ls : List Link) → ((j : ℕ) → p j ≡ true → q j ≡ true) → leads_on p ls ≡ true → leads_on q ls ≡ true
leads_by p q [] h e = e
leads_by p q (l ∷ ls) h e = go (cases_Bool (p l.0)) (leads_by p q ls h)
  where
    or_true : (c : Bool) → (c || true) ≡ true
    or_true true = refl
    or_true false = refl

    go : (p l.0 ≡ true) ⊎ (p l.0 ≡ false) → (leads_on p ls ≡ true → leads_on q ls ≡ true) → leads_on q (l ∷ ls) ≡ true
    go (inl t) r = rw (h l.0 t) refl
    go (inr f) r = rw (r (rw f at e)) (or_true (q l.0))

-- ---- one row

module _ (ms : List Bool) (r : Row) where
  step_length : length (stepped ms r) ≡ length ms
  step_length = go (is_open ms r)
    where
      go : (b : Bool) → length (cond b (set ms r.0 true) ms) ≡ length ms
      go true = length-set ms r.0 true
      go false = refl

  step_kept : (j : ℕ) → is_marked ms j ≡ true → is_marked (stepped ms r) j ≡ true
  step_kept j e = go (is_open ms r)
    where
      go : (b : Bool) → is_marked (cond b (set ms r.0 true) ms) j ≡ true
      go true = still_marked ms r.0 j e
      go false = e

  step_less : is_open ms r ≡ true → suc (free_count (stepped ms r)) ≡ free_count ms
  step_less o = rw o (fewer_by_one ms r.0 (not_true (get_or ms r.0 true) (both_true (is_free ms r.0) (leads_on (is_marked ms) r.1) o).0))

  step_same : is_open ms r ≡ false → stepped ms r ≡ ms
  step_same f = rw f refl

  step_fewer : free_count (stepped ms r) ≤ free_count ms
  step_fewer = go (cases_Bool (is_open ms r))
    where
      go : (is_open ms r ≡ true) ⊎ (is_open ms r ≡ false) → free_count (stepped ms r) ≤ free_count ms
      go (inl t) = let h : suc (free_count (stepped ms r)) ≡ free_count ms = step_less t in omega (arith, h)
      go (inr f) = rw (step_same f) (omega arith)

  step_sound : (test : ℕ → Bool) → is_backed test r ≡ true → ((j : ℕ) → is_marked ms j ≡ true → test j ≡ true) → (j : ℕ) →
      is_marked (stepped ms r) j ≡ true → test j ≡ true
  step_sound test b h j e = go (cases_Bool (is_open ms r))
    where
      backed : (c d : Bool) → (c || not d) ≡ true → d ≡ true → c ≡ true
      backed true d i t = refl
      backed false true i t = absurd (false≢true i)
      backed false false i t = absurd (false≢true t)

      from_is : is_open ms r ≡ true → test r.0 ≡ true
      from_is o = backed (test r.0) (leads_on test r.1) b
          (leads_by (is_marked ms) test r.1 h (both_true (is_free ms r.0) (leads_on (is_marked ms) r.1) o).1)

      new_is : is_open ms r ≡ true → (j ≡ r.0) ⊎ (is_marked ms j ≡ true) → test j ≡ true
      new_is o (inl i) = subst (λ k. test k ≡ true) (sym i) (from_is o)
      new_is o (inr m) = h j m

      go : (is_open ms r ≡ true) ⊎ (is_open ms r ≡ false) → test j ≡ true
      go (inl t) = new_is t (newly_marked ms r.0 j (subst (λ c. is_marked (cond c (set ms r.0 true) ms) j ≡ true) t e))
      go (inr f) = h j (subst (λ c. is_marked (cond c (set ms r.0 true) ms) j ≡ true) f e)

-- ---- several rows

pub nothing_spreads : (rs : List Row) (ms : List Bool) → Spreads rs ms ms
nothing_spreads rs ms = record { length = refl; kept = λ j e. e; fewer = omega arith; sound = λ test b h. h }

pub spreads_on : (rs : List Row) (a b c : List Bool) → Spreads rs a b → Spreads rs b c → Spreads rs a c
spreads_on rs a b c s t = record {
  length = t.length ∙ s.length;
  kept = λ j e. t.kept j (s.kept j e);
  fewer = omega (arith, s.fewer, t.fewer);
  sound = λ test p h. t.sound test p (s.sound test p h);
}

step_spreads : (r : Row) (rs : List Row) (ms : List Bool) → Spreads (r ∷ rs) ms (stepped ms r)
step_spreads r rs ms = record {
  length = step_length ms r;
  kept = step_kept ms r;
  fewer = step_fewer ms r;
  sound = λ test p h. step_sound ms r test (both_true (is_backed test r) (list_all (is_backed test) rs) p).0 h;
}

more_rows : (r : Row) (rs : List Row) (a b : List Bool) → Spreads rs a b → Spreads (r ∷ rs) a b
more_rows r rs a b s = record {
  length = s.length;
  kept = s.kept;
  fewer = s.fewer;
  sound = λ test p h. s.sound test (both_true (is_backed test r) (list_all (is_backed test) rs) p).1 h;
}

pub down_spreads : (rs : List Row) (ms : List Bool) → Spreads rs ms (passed_down ms rs)
down_spreads [] ms = nothing_spreads [] ms
down_spreads (r ∷ rs) ms = spreads_on (r ∷ rs) ms (stepped ms r) (passed_down (stepped ms r) rs) (step_spreads r rs ms)
    (more_rows r rs (stepped ms r) (passed_down (stepped ms r) rs) (down_spreads rs (stepped ms r)))

pub up_spreads : (rs : List Row) (ms : List Bool) → Spreads rs ms (passed_up ms rs)
up_spreads [] ms = nothing_spreads [] ms
up_spreads (r ∷ rs) ms = spreads_on (r ∷ rs) ms (passed_up ms rs) (stepped (passed_up ms rs) r)
    (more_rows r rs ms (passed_up ms rs) (up_spreads rs ms)) (step_spreads r rs (passed_up ms rs))

pub both_spread : (rs : List Row) (a b c d : List Bool) → b ≡ passed_down a rs → c ≡ passed_up b rs → Spreads rs d a → Spreads rs d c
both_spread rs a b c d e f s = spreads_on rs d a c s (spreads_on rs a b c (rw e (down_spreads rs a)) (rw f (up_spreads rs b)))

-- where there is an open row, there are fewer afterwards
down_less : (rs : List Row) (ms : List Bool) → has_open ms rs ≡ true → free_count (passed_down ms rs) < free_count ms
down_less [] ms o = absurd (false≢true o)
down_less (r ∷ rs) ms o = go (cases_Bool (is_open ms r)) (down_less rs ms)
  where
    go : (is_open ms r ≡ true) ⊎ (is_open ms r ≡ false) → (has_open ms rs ≡ true → free_count (passed_down ms rs) < free_count ms)
        → free_count (passed_down (stepped ms r) rs) < free_count ms
    go (inl t) h =
        let s : suc (free_count (stepped ms r)) ≡ free_count ms = step_less ms r t in
        let l : free_count (passed_down (stepped ms r) rs) ≤ free_count (stepped ms r) = (down_spreads rs (stepped ms r)).fewer in
        omega (arith, s, l)
    go (inr f) h = rw (step_same ms r f) (h (rw f at o))

pub both_less : (rs : List Row) (a b c : List Bool) → has_open a rs ≡ true → b ≡ passed_down a rs → c ≡ passed_up b rs → free_count c < free_count a
both_less rs a b c o e f =
    let h : free_count b < free_count a = rw e (down_less rs a o) in
    let l : free_count c ≤ free_count b = rw f ((up_spreads rs b).fewer) in
    omega (arith, h, l)

-- ---- the row at a place

pub read_spreads : (rows : List CodeRow) (i : ℕ) (r : CodeRow) (ms ns : List Bool) → i < length rows → r ≡ get_or rows i r → ns ≡ stepped ms (row_view r)
    → Spreads (map row_view rows) ms ns
read_spreads [] i r ms ns l e n = absurd (omega (arith, l))
read_spreads (q ∷ rows) zero r ms ns l e n = rw (n, e) (step_spreads (row_view q) (map row_view rows) ms)
read_spreads (q ∷ rows) (suc i) r ms ns l e n =
    more_rows (row_view q) (map row_view rows) ms ns (read_spreads rows i r ms ns (omega (arith, l)) e n)
