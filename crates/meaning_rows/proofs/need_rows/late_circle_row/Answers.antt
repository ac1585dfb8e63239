use Rattle.std.proofs.Common.{[], ◌∷◌, Some, codes, refl}
use Rattle.meaning_rows.specs.Loops.{late}
use Rattle.meaning_rows.proofs.Ways.{at_name, no_way}
use Rattle.meaning_rows.proofs.need_rows.late_circle_row.Goals as goal

pub returns-clause-reaches : goal.returns-clause-reaches
returns-clause-reaches c h = h (codes "x") (3, (0 ∷ [], Some (codes "o")))
    ((2, (0 ∷ [], Some (codes "i"))) ∷ (1, at_name (codes "x")) ∷ []) (refl, (refl, (refl, tt))) refl

pub returns-clause-late : goal.returns-clause-late
returns-clause-late c r = no_way late 9 (codes "x") (codes "x") refl refl r
