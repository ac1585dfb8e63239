-- Paths of graphs.
use Rattle.std.proofs.Common.{◌≡◌, ◌∙◌, ℕ, zero, suc, ◌<◌, ◌≤◌, true, List, [], ◌∷◌, ◌++◌, length, get_or, replicate, refl, sym, subst, arith}
use Rattle.std.proofs.Math.Logic.{◌⊎◌, inl, inr}
use Rattle.std.proofs.lemmas.Bool.{false≢true, cases_lt}
use Rattle.number_graphs.specs.Graphs.{Rows, row_at, leads, IsPath, end_of, LeadsTo}

-- of equal elements each is that one, and so is what stands past the end
pub all_same : {X : Type 0} (n : ℕ) (x : X) (i : ℕ) → get_or (replicate n x) i x ≡ x
all_same zero x i = refl
all_same (suc n) x zero = refl
all_same (suc n) x (suc i) = all_same n x i

no_row : (rows : Rows) (k : ℕ) → length rows ≤ k → row_at rows k ≡ []
no_row [] k l = refl
no_row (r ∷ rows) zero l = absurd (omega arith)
no_row (r ∷ rows) (suc k) l = no_row rows k (omega arith)

-- only numbers of the graph lead to others
pub leads_within : (rows : Rows) (k j : ℕ) → leads rows k j ≡ true → k < length rows
leads_within rows k j e = go (cases_lt k (length rows))
  where
    go : (k < length rows) ⊎ (length rows ≤ k) → k < length rows
    go (inl l) = l
    go (inr l) = absurd (false≢true (rw (no_row rows k l) at e))

-- a path that ends in the graph starts in it
pub starts_within : (rows : Rows) (k : ℕ) (js : List ℕ) → IsPath rows k js → end_of k js < length rows → k < length rows
starts_within rows k [] w l = l
starts_within rows k (j ∷ js) w l = leads_within rows k j w.0

-- what edges hand on is handed on by paths that end in the graph
pub path_keeps : (rows : Rows) (P : ℕ → Type 0) → ((k j : ℕ) → P k → j < length rows → leads rows k j ≡ true → P j)
    → (k : ℕ) (js : List ℕ) → P k → IsPath rows k js → end_of k js < length rows → P (end_of k js)
path_keeps rows P h k [] p w l = p
path_keeps rows P h k (j ∷ js) p w l = path_keeps rows P h j js (h k j p (starts_within rows j js w.1 l) w.0) w.1 l

joined : (rows : Rows) (k : ℕ) (js : List ℕ) (j : ℕ) → IsPath rows k js → leads rows (end_of k js) j ≡ true → IsPath rows k (js ++ j ∷ [])
joined rows k [] j w e = (e, tt)
joined rows k (i ∷ js) j w e = (w.0, joined rows i js j w.1 e)

end_joined : (k : ℕ) (js : List ℕ) (j : ℕ) → end_of k (js ++ j ∷ []) ≡ j
end_joined k [] j = refl
end_joined k (i ∷ js) j = end_joined i js j

pub one_step : (rows : Rows) (k j : ℕ) → leads rows k j ≡ true → LeadsTo rows k j
one_step rows k j e = record { first = j; rest = []; path = (e, tt); last = refl }

pub one_step_more : (rows : Rows) (k i j : ℕ) → LeadsTo rows k i → leads rows i j ≡ true → LeadsTo rows k j
one_step_more rows k i j p e = record {
  first = p.first;
  rest = p.rest ++ j ∷ [];
  path = (p.path.0, joined rows p.first p.rest j p.path.1 (subst (λ z. leads rows z j ≡ true) (sym p.last) e));
  last = end_joined p.first p.rest j;
}

path_behind : (rows : Rows) (k : ℕ) (js is : List ℕ) → IsPath rows k js → IsPath rows (end_of k js) is → IsPath rows k (js ++ is)
path_behind rows k [] is v w = w
path_behind rows k (j ∷ js) is v w = (v.0, path_behind rows j js is v.1 w)

end_behind : (k : ℕ) (js is : List ℕ) → end_of k (js ++ is) ≡ end_of (end_of k js) is
end_behind k [] is = refl
end_behind k (j ∷ js) is = end_behind j js is

pub both_steps : (rows : Rows) (k i j : ℕ) → LeadsTo rows k i → LeadsTo rows i j → LeadsTo rows k j
both_steps rows k i j p q = record {
  first = p.first;
  rest = p.rest ++ q.first ∷ q.rest;
  path = (p.path.0, path_behind rows p.first p.rest (q.first ∷ q.rest) p.path.1 (subst (λ z. IsPath rows z (q.first ∷ q.rest)) (sym p.last) q.path));
  last = end_behind p.first p.rest (q.first ∷ q.rest) ∙ q.last;
}
