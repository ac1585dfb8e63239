use Rattle.std.proofs.Common.{refl, rules}
use Rattle.std.proofs.lemmas.Option.{slice_get_read}
use Rattle.lus_scopes.specs.Least.{least_view}
use Rattle.lus_types.proofs.RowFaults.{row_noted}
use Rattle.lus_types.proofs.recursion.recursion.Goals as goal

pub returns : goal.returns
returns c = λ p n g e fs i. row_noted p c.args.graph.now g c.args.number n e (least_view c.args.least.now) fs i
    c.index-row.result.now
    (slice_get_read c.args.graph.now.rows.items _ c.args.number c.index-row.result.now refl c.requires c.index-row.ensures) c.in_ok-marks.marks.items c.in_ok-marks.ensures (least_view c.note_marked.new.least) (search rules)
