use Rattle.std.proofs.Common.{arith}
use Rattle.std.specs.Prelude.{map}
use Rattle.std.proofs.lemmas.List.{length-map}
use Rattle.std.proofs.lemmas.Option.{slice_get_within}
use Rattle.proof_steps.specs.View.{row_view}
use Rattle.int_cuts.proofs.Steps.{undefined_more}
use Rattle.int_cuts.proofs.parts.definition_of.Goals as goal

pub loop-k-preserved : goal.loop-k-preserved
loop-k-preserved c =
    undefined_more c.args.given.now c.loop-k.k c.args.column c.greatest_column.result c.index-given-k.result c.deref.result.now
    c.index-given-k.is c.loop-k-test.true
    c.deref.ensures.value c.greatest_column.ensures c.if-greatest_column-column.false c.loop-k.invariant

pub returns : goal.returns
returns c = λ k g e.
    let w = slice_get_within (map row_view c.args.given.now) k g e in
    let l = length-map c.args.given.now row_view in
    let t = c.loop-k-test.false in
    c.loop-k.invariant k g (omega arith) e
