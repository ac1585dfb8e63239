use Rattle.std.proofs.Common.{[], ◌∷◌, Some, codes, refl}
use Rattle.meaning_rows.specs.NeedRows.{needing}
use Rattle.meaning_rows.proofs.Ways.{at_name, by_way, no_way}
use Rattle.meaning_rows.proofs.need_rows.needs_row.Goals as goal

pub returns-clause-minus : goal.returns-clause-minus
returns-clause-minus c = by_way needing (codes "a") (codes "r") refl refl (3, at_name (codes "r")) [] (refl, tt) refl

pub returns-clause-plain_call : goal.returns-clause-plain_call
returns-clause-plain_call c = by_way needing (codes "p") (codes "r") refl refl (2, (0 ∷ [], Some (codes "o")))
    ((3, (0 ∷ [], Some (codes "a"))) ∷ (1, at_name (codes "r")) ∷ []) (refl, (refl, (refl, tt))) refl

pub returns-clause-condition : goal.returns-clause-condition
returns-clause-condition c = by_way needing (codes "g") (codes "k") refl refl (3, at_name (codes "k")) [] (refl, tt) refl

pub returns-clause-condact : goal.returns-clause-condact
returns-clause-condact c = by_way needing (codes "h") (codes "r") refl refl (5, (2 ∷ [], Some (codes "o")))
    ((3, (2 ∷ [], Some (codes "a"))) ∷ (3, at_name (codes "r")) ∷ []) (refl, (refl, (refl, tt))) refl

pub returns-clause-sampled : goal.returns-clause-sampled
returns-clause-sampled c = by_way needing (codes "b") (codes "r") refl refl (3, at_name (codes "r")) [] (refl, tt) refl

pub returns-clause-clock : goal.returns-clause-clock
returns-clause-clock c = by_way needing (codes "b") (codes "d") refl refl (0, at_name (codes "d")) [] (refl, tt) refl

pub returns-clause-free_clock : goal.returns-clause-free_clock
returns-clause-free_clock c = by_way needing (codes "l") (codes "d") refl refl (0, at_name (codes "d")) [] (refl, tt) refl

pub returns-clause-merged : goal.returns-clause-merged
returns-clause-merged c = by_way needing (codes "m") (codes "r") refl refl (6, at_name (codes "r")) [] (refl, tt) refl

pub returns-clause-merge_clock : goal.returns-clause-merge_clock
returns-clause-merge_clock c = by_way needing (codes "m") (codes "d") refl refl (2, at_name (codes "d")) [] (refl, tt) refl

pub returns-clause-mode : goal.returns-clause-mode
returns-clause-mode c = by_way needing (codes "z") (codes "r") refl refl (4, at_name (codes "r")) [] (refl, tt) refl

pub returns-clause-late : goal.returns-clause-late
returns-clause-late c r = no_way needing 9 (codes "q") (codes "r") refl refl r

pub returns-clause-late_call : goal.returns-clause-late_call
returns-clause-late_call c r = no_way needing 9 (codes "w") (codes "r") refl refl r

pub returns-clause-late_condact : goal.returns-clause-late_condact
returns-clause-late_condact c r = no_way needing 9 (codes "v") (codes "r") refl refl r

pub returns-clause-other : goal.returns-clause-other
returns-clause-other c r = no_way needing 9 (codes "g") (codes "r") refl refl r

pub returns-clause-turned : goal.returns-clause-turned
returns-clause-turned c r = no_way needing 9 (codes "r") (codes "a") refl refl r

pub returns-clause-input : goal.returns-clause-input
returns-clause-input c r = no_way needing 9 (codes "r") (codes "c") refl refl r
