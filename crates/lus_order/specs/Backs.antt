-- Left names that lead back to left names of the same equation.
use Rattle.std.specs.Prelude.{◌≡◌, ◌↔◌, ℕ, ◌<◌, Bool, true, cond, List, [], ◌∷◌, ◌++◌, map, flat_map, length, Contains}
use Rattle.std.specs.List.{list_any}
use Rattle.lus_tree.specs.Tree.{Name, Component, Spelled, text_of}
use Rattle.lus_tree.specs.Reason.{Refused, cycle}
use Rattle.lus_meaning.specs.Depends.{named_in}
use Rattle.lus_meaning.specs.Faults.{fault}
use Rattle.lus_meaning.specs.WellMade.{AreDistinct}
use Rattle.name_table.specs.Names.{number_of}
use Rattle.way_laws.specs.OwnGraph.{Summaries, LeadsTo as NamesLead, own_edges}
use Rattle.number_graphs.specs.Graphs.{Rows, row_at, leads, LeadsTo}
use Rattle.lus_order.specs.MarkedNames.{is_marked_name}
use Rattle.lus_order.specs.OwnNodes.{AreNodes}

-- no row has a number past the end
abbrev pub IsClosed : Rows → Type 0
IsClosed rows = (v w : ℕ) → leads rows v w ≡ true → w < length rows

-- all to which the numbers of these names lead by one step
abbrev pub rows_of : Rows → List Name → List Name → List ℕ
rows_of rows names xs = flat_map (λ x. cond (named_in x names) (row_at rows (number_of names x)) []) xs

abbrev pub any_marked : List Bool → List Name → List Name → Bool
any_marked marks names xs = list_any (is_marked_name marks names) xs

-- one of these names leads to one of them
pub record LeadsBack (rows : Rows) (names xs : List Name) : Type 0 where
  pub from : Name
  pub to : Name
  pub starts : named_in from xs ≡ true
  pub ends : named_in to xs ≡ true
  pub from_number : named_in from names ≡ true
  pub to_number : named_in to names ≡ true
  pub led : LeadsTo rows (number_of names from) (number_of names to)

-- each flag says of the left names of its equation whether they lead back
abbrev pub AreFlagged : Rows → List Name → List (List Spelled) → List Bool → Type 0
AreFlagged rows names [] [] = Unit {0}
AreFlagged rows names (ws ∷ wss) (b ∷ bs) = ((b ≡ true) ↔ LeadsBack rows names (map text_of ws)) × AreFlagged rows names wss bs
AreFlagged rows names _ _ = Prim.⊥

-- the faults of those that are flagged, each at its first word
abbrev pub fault_at_first : List Spelled → List Refused
fault_at_first [] = []
fault_at_first (w ∷ ws) = fault cycle w.at ∷ []

abbrev pub flagged_faults : List (List Spelled) → List Bool → List Refused
flagged_faults (ws ∷ wss) (b ∷ bs) = cond b (fault_at_first ws) [] ++ flagged_faults wss bs
flagged_faults _ _ = []

-- in the rows of an own graph names lead back exactly where they do along its edges
abbrev pub BacksAreOwn : Type 0
BacksAreOwn =
    (n : Component) (g : Summaries) (names : List Name) (rows : Rows) → AreDistinct names → AreNodes n g names rows
    → (xs : List Name) → ((x : Name) → named_in x xs ≡ true → named_in x names ≡ true) → LeadsBack rows names xs ↔ NamesLead (own_edges n g) xs xs

-- all these left names have numbers
abbrev pub AreNumbered : List Name → List (List Spelled) → Type 0
AreNumbered names wss = (ws : List Spelled) → Contains wss ws → (x : Name) → named_in x (map text_of ws) ≡ true → named_in x names ≡ true

-- the fault of an equation with such left names that lead to themselves, at the first of them
pub record IsOnCircle (n : Component) (g : Summaries) (wss : List (List Spelled)) (r : Refused) : Type 0 where
  pub word : Spelled
  pub words : List Spelled
  pub stands : Contains wss (word ∷ words)
  pub circle : NamesLead (own_edges n g) (map text_of (word ∷ words)) (map text_of (word ∷ words))
  pub is : r ≡ fault cycle word.at

-- in the rows of an own graph the faults that are flagged are those
abbrev pub FlaggedAreCircles : Type 0
FlaggedAreCircles =
    (n : Component) (g : Summaries) (names : List Name) (rows : Rows) → AreDistinct names → AreNodes n g names rows
    → (wss : List (List Spelled)) (bs : List Bool) → AreNumbered names wss → AreFlagged rows names wss bs
    → (r : Refused) → Contains (flagged_faults wss bs) r ↔ IsOnCircle n g wss r
