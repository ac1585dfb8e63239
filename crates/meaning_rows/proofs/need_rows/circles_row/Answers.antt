use Rattle.std.proofs.Common.{[], ◌∷◌, Some, codes, refl}
use Rattle.meaning_rows.specs.NeedRows.{late_mode, clocked}
use Rattle.meaning_rows.proofs.Ways.{at_name, by_way, no_way}
use Rattle.meaning_rows.proofs.need_rows.circles_row.Goals as goal

pub returns-clause-import_mode : goal.returns-clause-import_mode
returns-clause-import_mode c h = h (codes "y") (4, (0 ∷ [], Some (codes "o"))) ((0, at_name (codes "y")) ∷ []) (refl, (refl, tt)) refl

pub returns-clause-late_mode : goal.returns-clause-late_mode
returns-clause-late_mode c r = no_way late_mode 9 (codes "y") (codes "y") refl refl r

pub returns-clause-own_mode : goal.returns-clause-own_mode
returns-clause-own_mode c h = h (codes "y") (4, at_name (codes "y")) [] (refl, tt) refl

pub returns-clause-condition : goal.returns-clause-condition
returns-clause-condition c h = h (codes "y") (3, at_name (codes "y")) [] (refl, tt) refl

pub returns-clause-argument : goal.returns-clause-argument
returns-clause-argument c h = h (codes "y") (5, (0 ∷ [], Some (codes "o")))
    ((2, (0 ∷ [], Some (codes "b"))) ∷ (3, at_name (codes "y")) ∷ []) (refl, (refl, (refl, tt))) refl

pub returns-clause-merge : goal.returns-clause-merge
returns-clause-merge c h = h (codes "y") (2, at_name (codes "y")) [] (refl, tt) refl

pub returns-clause-clock : goal.returns-clause-clock
returns-clause-clock c = by_way clocked (codes "s") (codes "y") refl refl (0, at_name (codes "y")) [] (refl, tt) refl

pub returns-clause-no_clock : goal.returns-clause-no_clock
returns-clause-no_clock c r = no_way clocked 9 (codes "y") (codes "s") refl refl r
