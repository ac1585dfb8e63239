use Rattle.std.specs.Int.{w128}
use Rattle.std.specs.Prelude.{List, length, ◌≡◌, unsigned_abs}
use Rattle.std.proofs.Common.{rules, subst, sym}
use mir.Val.{SFits}
use lib.IntN.{pos}
use Rattle.std.proofs.lemmas.Int.{to_z-of_z}
use Rattle.proof_steps.specs.View.{line_view, atom_view}
use Rattle.int_cuts.specs.Parts.{AreDefined, IsMadeOf, AreTermsPast}
use Rattle.int_cuts.specs.declared.parts.Part.{Part}
use Rattle.int_cuts.proofs.Answered.{size_past_is, cut_from, past_from}
use Rattle.int_cuts.proofs.Listed.{order_differs, defined_by, defined_in}
use Rattle.int_cuts.proofs.gomory.cut_in.Goals as goal

pub entry_in-own-requires : goal.entry_in-own-requires
entry_in-own-requires c = order_differs c.args.row.now c.requires.row.in_order

pub returns-in-Err : goal.returns-in-Err
returns-in-Err c =
    let fo : SFits w128 c.entry_in-own.result = search rules in
    let h = simp to_z-of_z at c.in-Err.ensures.past in
    size_past_is c.args.tableau.now c.args.x c.args.row.now c.entry_in-own.result c.requires.row c.requires.stands c.entry_in-own.ensures c.in-Err.past h

pub cut_by-requires-clause-defined : goal.cut_by-requires-clause-defined
cut_by-requires-clause-defined c =
    let P : List Part → Type 0 = λ ps. AreDefined (length c.args.tableau.now.given) ps in
    subst P (sym c.deref.ensures.value)
    (defined_in c.args.tableau.now.given c.in_ok-parts.parts.items (defined_by c.args.tableau.now c.args.x _ _ c.in_ok-parts.parts.items c.in_ok-parts.ensures))

pub returns-in-Ok-cut_by : goal.returns-in-Ok-cut_by
returns-in-Ok-cut_by c =
    let fo : SFits w128 c.entry_in-own.result = search rules in
    let fd : SFits w128 c.in-Ok.d = search rules in
    let e : c.in-Ok.d ≡ pos (unsigned_abs c.entry_in-own.result) = simp to_z-of_z at c.in-Ok.ensures.size in
    let a = simp to_z-of_z at c.in_ok-parts.ensures in
    let m = simp to_z-of_z at c.in-Ok-cut_by.ensures.cut in
    cut_from c.args.tableau.now c.args.x c.args.row.now c.entry_in-own.result c.requires.row c.requires.stands c.entry_in-own.ensures c.in-Ok.d e
    c.requires.sound c.requires.on_rows c.requires.broken c.in_ok-parts.parts.items a (line_view c.in-Ok-cut_by.cut.line) (atom_view c.in-Ok-cut_by.cut.atom)
    (let P : List Part → Type 0 = λ ps. IsMadeOf c.args.tableau.now ps c.in-Ok.d (line_view c.in-Ok-cut_by.cut.line)
    (atom_view c.in-Ok-cut_by.cut.atom) in subst P c.deref.ensures.value m)

pub returns-in-Err-Past : goal.returns-in-Err-Past
returns-in-Err-Past c =
    let fo : SFits w128 c.entry_in-own.result = search rules in
    let fd : SFits w128 c.in-Ok.d = search rules in
    let e : c.in-Ok.d ≡ pos (unsigned_abs c.entry_in-own.result) = simp to_z-of_z at c.in-Ok.ensures.size in
    let a = simp to_z-of_z at c.in_ok-parts.ensures in
    let P : List Part → Type 0 = λ ps. AreTermsPast c.args.tableau.now.given ps c.in-Err-Past.field-0 in
    past_from c.args.tableau.now c.args.x c.args.row.now c.entry_in-own.result c.requires.row c.requires.stands c.entry_in-own.ensures c.in-Ok.d e
    c.in_ok-parts.parts.items a c.in-Err-Past.field-0 c.in-Err-Past.past c.in-Err-Past.field-0-is (subst P c.deref.ensures.value c.in-Err-Past.ensures.past)
