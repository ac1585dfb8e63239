-- Which numbers lead to themselves.
use Rattle.std.proofs.Common.{◌≡◌, ℕ, zero, suc, ◌<◌, ◌≤◌, ◌+◌, Bool, true, false, List, [], ◌∷◌, ◌++◌, length, replicate, refl, ap, ◌∙◌, sym, subst, arith, length-append}
use Rattle.std.proofs.Math.Logic.{◌⊎◌, inl, inr}
use Rattle.std.proofs.lemmas.Bool.{true≢false, cases_order}
use Rattle.std.proofs.lemmas.List.{length-replicate, get_or_push, get_or_append_left}
use Rattle.lus_meaning.specs.Order.{Passes, IsOrder, IsLeastOrder}
use Rattle.lus_meaning.proofs.Orders.{place_in, place_lowers}
use Rattle.number_graphs.specs.Graphs.{Rows, leads, is_marked, IsPath, end_of, LeadsTo, AreOnCircles, HasOrder}
use Rattle.number_graphs.proofs.Paths.{all_same, starts_within}

module _ (rows : Rows) (ks : List ℕ) (o : IsOrder (length rows) (Passes (leads rows)) ks) where
  -- along a path places fall
  path_falls : (k : ℕ) (js : List ℕ) → k < length rows → IsPath rows k js → end_of k js < length rows → place_in ks (end_of k js) ≤ place_in ks k
  path_falls k [] l w e = omega arith
  path_falls k (j ∷ js) l w e =
      let h : j < length rows = starts_within rows j js w.1 e in
      let a : place_in ks j < place_in ks k = place_lowers (length rows) (leads rows) ks o k j l h w.0 in
      let b : place_in ks (end_of j js) ≤ place_in ks j = path_falls j js h w.1 e in
      omega (arith, a, b)

  pub none_on_circles : (k : ℕ) → k < length rows → LeadsTo rows k k → ⊥
  none_on_circles k l p =
      let e : end_of p.first p.rest < length rows = subst (λ z. z < length rows) (sym p.last) l in
      let h : p.first < length rows = starts_within rows p.first p.rest p.path.1 e in
      let a : place_in ks p.first < place_in ks k = place_lowers (length rows) (leads rows) ks o k p.first l h p.path.0 in
      let b : place_in ks (end_of p.first p.rest) ≤ place_in ks p.first = path_falls p.first p.rest h p.path.1 e in
      let c : place_in ks k ≤ place_in ks p.first = subst (λ z. place_in ks z ≤ place_in ks p.first) p.last b in
      absurd (omega (arith, a, c))

pub none_marked : (rows : Rows) (ks : List ℕ) → IsLeastOrder (length rows) (Passes (leads rows)) ks → AreOnCircles rows (replicate (length rows) false)
none_marked rows ks o = record {
  whole = length-replicate (length rows) false;
  led = λ k m. absurd (true≢false (sym m ∙ all_same (length rows) false k));
  all = λ k l p. absurd (none_on_circles rows ks o.order k l p);
}

-- those of the first so many numbers are marked that lead to themselves
pub record AreMarked (rows : Rows) (count : ℕ) (marks : List Bool) : Type 0 where
  pub whole : length marks ≡ count
  pub led : (k : ℕ) → is_marked marks k ≡ true → LeadsTo rows k k
  pub all : (k : ℕ) → k < count → LeadsTo rows k k → is_marked marks k ≡ true

pub nothing_marked : (rows : Rows) → AreMarked rows 0 []
nothing_marked rows = record { whole = refl; led = λ k e. absurd (true≢false (sym e)); all = λ k l p. absurd (omega (arith, l)) }

pub one_marked : (rows : Rows) (marks : List Bool) (k : ℕ) (b : Bool) → AreMarked rows k marks → (b ≡ true → LeadsTo rows k k)
    → (LeadsTo rows k k → b ≡ true) → AreMarked rows (k + 1) (marks ++ b ∷ [])
one_marked rows marks k b a there back = record {
  whole = omega (arith, length-append marks (b ∷ []), a.whole);
  led = λ j e. led j e (cases_order j k);
  all = λ j l p. all j l p (cases_order j k);
}
  where
    here : is_marked (marks ++ b ∷ []) k ≡ b
    here = get_or_push marks b false k a.whole

    before : (j : ℕ) → j < k → is_marked (marks ++ b ∷ []) j ≡ is_marked marks j
    before j h = get_or_append_left marks (b ∷ []) false j (subst (λ z. j < z) (sym a.whole) h)

    behind : (j : ℕ) → k < j → is_marked (marks ++ b ∷ []) j ≡ false
    behind j h = let e : length (marks ++ b ∷ []) ≤ j = omega (arith, length-append marks (b ∷ []), a.whole, h) in past (marks ++ b ∷ []) j e
      where
        past : (ms : List Bool) (j : ℕ) → length ms ≤ j → is_marked ms j ≡ false
        past [] j l = refl
        past (m ∷ ms) zero l = absurd (omega arith)
        past (m ∷ ms) (suc j) l = past ms j (omega arith)

    led : (j : ℕ) → is_marked (marks ++ b ∷ []) j ≡ true → (j ≡ k) ⊎ ((j < k) ⊎ (k < j)) → LeadsTo rows j j
    led j e (inl q) = subst (λ z. LeadsTo rows z z) (sym q) (there (sym here ∙ subst (λ z. is_marked (marks ++ b ∷ []) z ≡ true) q e))
    led j e (inr (inl h)) = a.led j (sym (before j h) ∙ e)
    led j e (inr (inr h)) = absurd (true≢false (sym e ∙ behind j h))

    all : (j : ℕ) → j < k + 1 → LeadsTo rows j j → (j ≡ k) ⊎ ((j < k) ⊎ (k < j)) → is_marked (marks ++ b ∷ []) j ≡ true
    all j l p (inl q) = subst (λ z. is_marked (marks ++ b ∷ []) z ≡ true) (sym q) (here ∙ back (subst (λ z. LeadsTo rows z z) q p))
    all j l p (inr (inl h)) = before j h ∙ a.all j h p
    all j l p (inr (inr h)) = absurd (omega (arith, h, l))

pub all_marked : (rows : Rows) (marks : List Bool) (k : ℕ) → k ≡ length rows → AreMarked rows k marks → AreOnCircles rows marks
all_marked rows marks k e a = record { whole = a.whole ∙ e; led = a.led; all = λ j l p. a.all j (subst (λ z. j < z) (sym e) l) p }

pub none_of_ordered : (rows : Rows) (n : ℕ) (marks : List Bool) → HasOrder rows → marks ≡ replicate n false → n ≡ length rows → AreOnCircles rows marks
none_of_ordered rows n marks h e f = subst (AreOnCircles rows) (sym (e ∙ ap (λ k. replicate k false) f)) (none_marked rows h.0 h.1)
