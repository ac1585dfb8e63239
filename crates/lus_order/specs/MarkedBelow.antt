-- The numbers below a count to which outputs lead, by marks.
use Rattle.std.specs.Prelude.{◌≡◌, ℕ, zero, suc, Bool, true, cond, List, [], ◌∷◌, ◌++◌}
use Rattle.lus_tree.specs.Tree.{Name, Variable}
use Rattle.lus_meaning.specs.Depends.{named_in}
use Rattle.name_table.specs.Names.{number_of}
use Rattle.number_graphs.specs.Graphs.{Rows, AreReached, is_marked}

abbrev pub marked_below : List Bool → ℕ → List ℕ
marked_below marks zero = []
marked_below marks (suc k) = marked_below marks k ++ cond (is_marked marks k) (k ∷ []) []

-- those below a count that a number leads to
pub record AreLedBelow (rows : Rows) (start count : ℕ) (ks : List ℕ) : Type 0 where
  pub marks : List Bool
  pub reached : AreReached rows start marks
  pub listed : ks ≡ marked_below marks count

-- for a name that has a number those that this leads to
abbrev pub IsLedBelow : Rows → List Name → ℕ → Name → List ℕ → Type 0
IsLedBelow rows names count x ks = named_in x names ≡ true → AreLedBelow rows (number_of names x) count ks

-- output by output
abbrev pub AreLed : Rows → List Name → ℕ → List Variable → List (List ℕ) → Type 0
AreLed rows names count [] [] = Unit {0}
AreLed rows names count (o ∷ os) (ks ∷ kss) = IsLedBelow rows names count o.name.text ks × AreLed rows names count os kss
AreLed rows names count _ _ = Prim.⊥
