use Rattle.std.specs.Int.{w128}
use Rattle.std.proofs.Common.{rules, sym}
use mir.Val.{SFits}
use Rattle.std.proofs.lemmas.Int.{to_z-of_z}
use Rattle.int_simplex.proofs.Sparse.{sparse_differ}
use Rattle.int_simplex.proofs.Crossings.{reduced_pivoted, empty_pivoted, made_has, past_of, made_of, empty_list, full_list}
use Rattle.int_simplex.proofs.crossing.pivoted.Goals as goal

pub entry_in-p-requires : goal.entry_in-p-requires
entry_in-p-requires c = sparse_differ 0 c.args.columns c.args.other.now c.requires.other

pub entry_in-q-requires : goal.entry_in-q-requires
entry_in-q-requires c = sparse_differ 0 c.args.columns c.args.row.now c.requires.row

pub returns-in_err-made-clause-past : goal.returns-in_err-made-clause-past
returns-in_err-made-clause-past c =
    let fp : SFits w128 c.entry_in-p.result = search rules in
    let fq : SFits w128 c.entry_in-q.result = search rules in
    let p = c.entry_in-p.ensures in
    let q = c.entry_in-q.ensures in
    let e = simp to_z-of_z at c.in_err-made.ensures.past in
    past_of _ _ c.entry_in-p.result c.entry_in-q.result c.args.row.now c.args.other.now c.in_err-made.field-0.0 c.from_residual.result p q e
    c.from_residual.ensures.1

pub returns-then-is_empty-clause-made : goal.returns-then-is_empty-clause-made
returns-then-is_empty-clause-made c =
    let fp : SFits w128 c.entry_in-p.result = search rules in
    let fq : SFits w128 c.entry_in-q.result = search rules in
    let p = c.entry_in-p.ensures in
    let q = c.entry_in-q.ensures in
    let m = made_of c.args.columns c.args.entering c.entry_in-p.result c.entry_in-q.result c.args.row.now c.args.other.now
    c.in_ok-made.made.items p q (simp to_z-of_z at c.in_ok-made.ensures.made) in
    empty_pivoted c.args.columns c.args.entering c.args.row.now c.args.other.now c.in_ok-made.made.items
    (empty_list c.in_ok-made.made.items _ (sym c.in_ok-made.made.ok.0) c.if-is_empty.ensures) m

pub returns-clause-made : goal.returns-clause-made
returns-clause-made c =
    let fp : SFits w128 c.entry_in-p.result = search rules in
    let fq : SFits w128 c.entry_in-q.result = search rules in
    let p = c.entry_in-p.ensures in
    let q = c.entry_in-q.ensures in
    let m = made_of c.args.columns c.args.entering c.entry_in-p.result c.entry_in-q.result c.args.row.now c.args.other.now
    c.in_ok-made.made.items p q (simp to_z-of_z at c.in_ok-made.ensures.made) in
    reduced_pivoted c.args.columns c.args.entering c.args.row.now c.args.other.now c.in_ok-made.made.items c.in_ok-new.new.items m
    (c.in_ok-new.ensures (made_has c.args.columns _ c.in_ok-made.made.items (full_list c.in_ok-made.made.items _
    (sym c.in_ok-made.made.ok.0) c.if-is_empty.ensures) m))
