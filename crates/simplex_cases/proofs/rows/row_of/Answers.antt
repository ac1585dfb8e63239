use Rattle.std.specs.Int.{w128}
use Rattle.std.proofs.Common.{rules}
use mir.Val.{SFits}
use Rattle.std.proofs.lemmas.Int.{to_z-of_z}
use Rattle.simplex_cases.proofs.Build.{grown}
use Rattle.simplex_cases.proofs.rows.row_of.Goals as goal

pub loop-column-preserved : goal.loop-column-preserved
loop-column-preserved c =
    let f : SFits w128 c.number_at-a.result = search rules in
    let g = simp to_z-of_z at c.in_ok-push_entry.ensures in
    grown c.loop-column.column c.number_at-a.result c.loop-column.row.items c.push_entry.new.row.items c.loop-column.invariant g
