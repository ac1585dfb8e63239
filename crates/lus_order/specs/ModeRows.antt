-- Rows of modes that stand for what the modes of a contract read.
use Rattle.std.specs.Prelude.{◌≡◌, List, [], ◌∷◌}
use Rattle.lus_tree.specs.Tree.{Name}
use Rattle.way_laws.specs.OwnGraph.{ModeReads}
use Rattle.lus_order.specs.Rows.{ModeRows}
use Rattle.lus_order.specs.Stands.{Stands}

-- mode by mode
abbrev pub AreModes : List Name → ModeRows → ModeReads → Type 0
AreModes names [] [] = Unit {0}
AreModes names (r ∷ rs) (m ∷ ms) = (r.0 ≡ m.0) × Stands names r.1 m.1 × AreModes names rs ms
AreModes names _ _ = Prim.⊥
