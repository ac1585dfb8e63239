-- Rows with one more behind them.
use Rattle.std.proofs.Common.{◌≡◌, ℕ, ◌<◌, true, List, [], ◌∷◌, ◌++◌, length, refl, ap, ◌∙◌, sym}
use Rattle.std.proofs.lemmas.List.{get_or_append_left}
use Rattle.lus_meaning.specs.Order.{is_listed}
use Rattle.number_graphs.specs.Graphs.{Rows, row_at, leads, IsPath}
use Rattle.lus_order.specs.Backs.{IsClosed}

pub last_row : (rows : Rows) (row : List ℕ) → row_at (rows ++ row ∷ []) (length rows) ≡ row
last_row [] row = refl
last_row (r ∷ rows) row = last_row rows row

module _ (rows : Rows) (row : List ℕ) (closed : IsClosed rows) where
  same_row : (v : ℕ) → v < length rows → row_at (rows ++ row ∷ []) v ≡ row_at rows v
  same_row v l = get_or_append_left rows (row ∷ []) [] v l

  pub inner_path : (v : ℕ) (ws : List ℕ) → v < length rows → IsPath (rows ++ row ∷ []) v ws → IsPath rows v ws
  inner_path v [] l p = tt
  inner_path v (w ∷ ws) l p =
      let e : leads rows v w ≡ true = ap (λ r. is_listed r w) (sym (same_row v l)) ∙ p.0 in
      (e, inner_path w ws (closed v w e) p.1)

  pub outer_path : (v : ℕ) (ws : List ℕ) → v < length rows → IsPath rows v ws → IsPath (rows ++ row ∷ []) v ws
  outer_path v [] l p = tt
  outer_path v (w ∷ ws) l p = (ap (λ r. is_listed r w) (same_row v l) ∙ p.0, outer_path w ws (closed v w p.0) p.1)
