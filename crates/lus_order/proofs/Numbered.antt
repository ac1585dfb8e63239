-- Ways along edges between names are paths of their numbers.
use Rattle.std.proofs.Common.{◌≡◌, ℕ, ◌<◌, ◌≤◌, true, false, List, [], ◌∷◌, length, ap, ◌∙◌, sym, subst, arith}
use Rattle.std.proofs.Math.Logic.{◌⊎◌, inl, inr}
use Rattle.std.proofs.lemmas.Bool.{false≢true, cases_Bool, cases_lt}
use Rattle.lus_tree.specs.Tree.{Name}
use Rattle.lus_meaning.specs.Depends.{named_in}
use Rattle.lus_meaning.specs.EquationFaults.{last_name}
use Rattle.name_table.specs.Names.{number_of}
use Rattle.name_table.proofs.Numbers.{name_of_number, number_below}
use Rattle.way_laws.specs.OwnGraph.{Edges, IsOwnWay, Finds}
use Rattle.number_graphs.specs.Graphs.{Rows, leads, IsPath, end_of, LeadsTo}
use Rattle.lus_order.specs.Numbered.{name_at, IsNumbered, WaysAreNumbered}
use Rattle.number_graphs.proofs.Paths.{leads_within, both_steps}

module _ (edges : Edges) (names : List Name) (list : ℕ → List Name) (rows : Rows) (is : IsNumbered edges names list rows) where
  abbrev found_from : ℕ → ℕ → Type 0
  found_from v j = Finds edges (list v) (name_at names j)

  by_name : (v w j : ℕ) → v < length rows → w < length names → leads rows v w ≡ true → found_from w j → found_from v j
  by_name v w j l h e r = record {
    start = name_at names w;
    starts = is.to_name v w l h e;
    rest = r.start ∷ r.rest;
    way = (sym (is.own w h r.start) ∙ r.starts, r.way);
    last = r.last;
  }

  by_other : (v w j : ℕ) → v < length rows → length names ≤ w → w < length rows → leads rows v w ≡ true → found_from w j → found_from v j
  by_other v w j l h b e r = record { start = r.start; starts = is.to_other v w l h b e r.start r.starts; rest = r.rest; way = r.way; last = r.last }

  ways_of_path : (v w : ℕ) (ws : List ℕ) (j : ℕ) → v < length rows → j < length names → leads rows v w ≡ true → IsPath rows w ws → end_of w ws ≡ j
      → found_from v j
  ways_of_path v w [] j l b e p q = record {
    start = name_at names w;
    starts = is.to_name v w l (subst (λ z. z < length names) (sym q) b) e;
    rest = [];
    way = tt;
    last = ap (name_at names) q;
  }
  ways_of_path v w (u ∷ us) j l b e p q = go (cases_lt w (length names)) (ways_of_path w u us j (leads_within rows w u p.0) b p.0 p.1 q)
    where
      go : (w < length names) ⊎ (length names ≤ w) → found_from w j → found_from v j
      go (inl h) r = by_name v w j l h e r
      go (inr h) r = by_other v w j l h (leads_within rows w u p.0) e r

  path_of_way : (v : ℕ) (y : Name) (ys : List Name) (j : ℕ) → v < length rows → j < length names → named_in y (list v) ≡ true → IsOwnWay edges y ys
      → last_name y ys ≡ name_at names j → LeadsTo rows v j
  path_of_way v y [] j l b e w q = is.found v j l b (subst (λ z. named_in z (list v) ≡ true) q e)
  path_of_way v y (z ∷ zs) j l b e w q = go (cases_Bool (named_in y names)) (λ i c f. path_of_way i z zs j c b f w.1 q)
    where
      go : (named_in y names ≡ true) ⊎ (named_in y names ≡ false)
          → ((i : ℕ) → i < length rows → named_in z (list i) ≡ true → LeadsTo rows i j) → LeadsTo rows v j
      go (inr f) k = absurd (false≢true (sym (is.outside y f z) ∙ w.0))
      go (inl t) k =
          let i : ℕ = number_of names y in
          let below : i < length names = number_below names y t in
          let here : name_at names i ≡ y = name_of_number names y t in
          let inside : i < length rows = lower i (length names) (length rows) below is.within in
          both_steps rows v i j (is.found v i l below (subst (λ x. named_in x (list v) ≡ true) (sym here) e))
          (k i inside (is.own i below z ∙ subst (λ x. named_in z (edges x) ≡ true) (sym here) w.0))
        where
          lower : (a b c : ℕ) → a < b → b ≤ c → a < c
          lower a b c s r = omega arith

pub ways_numbered : WaysAreNumbered
ways_numbered edges names list rows is v j l b = (
  λ p. ways_of_path edges names list rows is v p.first p.rest j l b p.path.0 p.path.1 p.last,
  λ f. path_of_way edges names list rows is v f.start f.rest j l b f.starts f.way f.last,
)
