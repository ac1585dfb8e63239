-- When the search is at its end all slots are listed, and where it stops earlier there is no order.
use Rattle.std.proofs.Common.{◌≡◌, ℕ, suc, ◌<◌, ◌≤◌, ◌+◌, true, false, eqb, List, [], ◌∷◌, Some, length, slice_get, refl, ap, ◌∙◌, sym, subst, arith}
use Rattle.std.specs.List.{AllByRecursion}
use Rattle.std.proofs.Math.Logic.{◌⊎◌, inl, inr}
use Rattle.std.proofs.lemmas.Bool.{false≢true, cases_Bool, cases_order, eqb-true}
use Rattle.lus_meaning.specs.Order.{AreReady, Passes, is_listed}
use Rattle.lus_meaning.proofs.Orders.{place_in, place_lowers}
use Rattle.slot_sources.specs.Source.{Source}
use Rattle.slot_sources.specs.Rows.{reads_now}
use Rattle.slot_sources.specs.Sources.{HasRanks}
use Rattle.slot_rows.specs.Order.{HasNoOrder, IsSlotOrder, IsUnranked, Reads, needs, reads_each}
use Rattle.slot_rows.specs.Searching.{IsSettled, Searching, State, is_done, is_met}
use Rattle.slot_rows.proofs.Filled.{read_at, source_at}

reads_whole : (es : List Source) → length (reads_each es) ≡ length es
reads_whole [] = refl
reads_whole (e ∷ es) = ap suc (reads_whole es)

one_listed : (P : ℕ → Type 0) (js : List ℕ) (j : ℕ) → AllByRecursion P js → is_listed js j ≡ true → P j
one_listed P [] j a e = absurd (false≢true e)
one_listed P (i ∷ js) j a e = go (cases_Bool (eqb j i)) (one_listed P js j a.1)
  where
    go : (eqb j i ≡ true) ⊎ (eqb j i ≡ false) → (is_listed js j ≡ true → P j) → P j
    go (inl q) r = subst P (sym (eqb-true j i q)) a.0
    go (inr q) r = r (rw q at e)

pub no_order : (es : List Source) (rows : Reads) → rows ≡ reads_each es → IsUnranked rows → HasNoOrder es
no_order es rows e u = record { order = by_order; ranks = by_ranks }
  where
    at : IsUnranked (reads_each es)
    at = subst IsUnranked e u

    by_order : (ks : List ℕ) → IsSlotOrder es ks → ⊥
    by_order ks o = at (place_in ks) (record {
      above = λ k j lk lj n. place_lowers (length es) (needs (reads_each es)) ks o k j (subst (λ m. k < m) (reads_whole es) lk)
          (subst (λ m. j < m) (reads_whole es) lj) n;
    })

    by_ranks : HasRanks es → ⊥
    by_ranks r = at r.rank (record { above = above })
      where
        above : (k j : ℕ) → k < length (reads_each es) → j < length (reads_each es) → needs (reads_each es) k j ≡ true → r.rank j < r.rank k
        above k j lk lj n =
            let f : (e : Source) × (slice_get es k ≡ Some e) = source_at es k (subst (λ m. k < m) (reads_whole es) lk) in
            one_listed (λ j. r.rank j < r.rank k) (reads_now f.0) j (r.above k f.0 f.1) (subst (λ js. is_listed js j ≡ true) (read_at es k f.0 f.1) n)

-- the first so many slots were met, and none is visited
pub record AreMet (rows : Reads) (s : State) (n : ℕ) : Type 0 where
  pub searching : Searching rows s
  pub nothing : s.visited ≡ []
  pub all : (j : ℕ) → j < n → is_met s j ≡ true

pub none_met : (rows : Reads) (s : State) → Searching rows s → s.visited ≡ [] → AreMet rows s 0
none_met rows s h e = record { searching = h; nothing = e; all = λ j l. absurd (omega (arith, l)) }

pub one_more : (rows : Reads) (s u : State) (n : ℕ) → AreMet rows s n → n < length rows → IsSettled rows s u n → AreMet rows u (n + 1)
one_more rows s u n a l h = record { searching = h.searching; nothing = h.nothing; all = λ j i. each j i (cases_order j n) }
  where
    each : (j : ℕ) → j < n + 1 → (j ≡ n) ⊎ ((j < n) ⊎ (n < j)) → is_met u j ≡ true
    each j i (inl q) = subst (λ j. is_met u j ≡ true) (sym q) h.root_met
    each j i (inr (inl q)) = h.stays j (omega (arith, q, l)) (a.all j q)
    each j i (inr (inr q)) = absurd (omega (arith, i, q))

pub whole_order : (es : List Source) (rows : Reads) (s : State) (n : ℕ) → rows ≡ reads_each es → AreMet rows s n → length rows ≤ n → IsSlotOrder es s.order
whole_order es rows s n e a l = subst (λ rows. AreMet rows s n → length rows ≤ n → IsSlotOrder es s.order) (sym e) at a l
  where
    at : AreMet (reads_each es) s n → length (reads_each es) ≤ n → IsSlotOrder es s.order
    at a l = record {
      below = subst (λ m. AllByRecursion (λ k. k < m) s.order) (reads_whole es) h.below;
      all = λ k i. listed k (subst (λ m. k < m) (sym (reads_whole es)) i);
      once = h.once;
      ready = subst (λ m. AreReady m (Passes (needs (reads_each es))) [] s.order) (reads_whole es) h.ready;
    }
      where
        h : Searching (reads_each es) s
        h = a.searching

        done : (k : ℕ) → k < length (reads_each es) → (is_done s.done k ≡ true) ⊎ (is_done s.done k ≡ false) → is_done s.done k ≡ true
        done k i (inl t) = t
        done k i (inr f) = absurd (false≢true (subst (λ js. is_listed js k ≡ true) a.nothing (h.waits k i (a.all k (omega (arith, i, l))) f)))

        listed : (k : ℕ) → k < length (reads_each es) → is_listed s.order k ≡ true
        listed k i = sym (h.listed k i) ∙ done k i (cases_Bool (is_done s.done k))
