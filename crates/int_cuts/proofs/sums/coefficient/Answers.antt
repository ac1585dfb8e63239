use Rattle.std.specs.Int.{w128}
use Rattle.std.specs.Prelude.{ℕ, Option, ◌<◌, length, map}
use Rattle.std.proofs.Common.{subst, rules}
use mir.Val.{SFits}
use Rattle.std.proofs.lemmas.Int.{to_z-of_z}
use Rattle.proof_steps.specs.View.{row_view}
use Rattle.int_cuts.specs.Parts.{IsPlaceIn}
use Rattle.int_cuts.proofs.Steps.{row_read, given_differ, coefficient_is}
use Rattle.int_cuts.proofs.sums.coefficient.Goals as goal

pub entry_in-requires : goal.entry_in-requires
entry_in-requires c =
    let h : c.in-Some.k < length c.args.given.now = subst (λ (o : Option ℕ). IsPlaceIn (length c.args.given.now) o) c.in-Some.is c.requires.defined in
    given_differ (map row_view c.args.given.now) c.in-Some.k c.deref.result.now c.requires.distinct
    (row_read c.args.given.now c.in-Some.k c.index-given-k.result c.deref.result.now c.index-given-k.is h c.deref.ensures.value)

pub returns-else-part-variable-2 : goal.returns-else-part-variable-2
returns-else-part-variable-2 c =
    let h : c.in-Some.k < length c.args.given.now = subst (λ (o : Option ℕ). IsPlaceIn (length c.args.given.now) o) c.in-Some.is c.requires.defined in
    let f : SFits w128 c.entry_in.result = search rules in
    simp to_z-of_z (coefficient_is (map row_view c.args.given.now) c.args.part.now.column c.args.variable c.in-Some.k c.args.part.now.row
    c.deref.result.now c.entry_in.result c.in-Some.is
    c.if-part-variable-2.false (row_read c.args.given.now c.in-Some.k c.index-given-k.result c.deref.result.now c.index-given-k.is h
    c.deref.ensures.value) c.entry_in.ensures)
