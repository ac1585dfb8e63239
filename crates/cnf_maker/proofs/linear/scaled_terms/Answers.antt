use Rattle.std.proofs.Common.{rules, ◌≡◌, ◌∙◌, ◌++◌, [], Ok, slice_index_or, to_z, of_z}
use Rattle.std.specs.Int.{w128}
use lib.IntN.{pos}
use Rattle.kind_num.specs.declared.Op.TheVariants.{Mul}
use Rattle.sys_terms.specs.Evaluated.{exact}
use Rattle.cnf_maker.specs.Linear.{put}
use Rattle.cnf_maker.specs.View.{Fails}
use Rattle.cnf_maker.proofs.Merged.{scaled-next, scaled-fails}
use Rattle.cnf_maker.proofs.linear.scaled_terms.Goals as goal

pub loop-x-preserved : goal.loop-x-preserved
loop-x-preserved c =
    let t = slice_index_or c.args.terms.now c.loop-x.x-index (0, pos 0) in
    let z = c.in_ok-product.field-0 in
    let e : exact Mul c.args.n t.1 ≡ Ok z = search rules in
    let n : c.put.new.sum.items ≡ c.loop-x.products.items ++ put t.0 z [] = search rules in
    scaled-next c.args.n (to_z w128 (of_z w128 c.args.n)) c.args.terms.now c.loop-x.x-index z c.loop-x.products.items
    c.put.new.sum.items (search rules) c.loop-x-test.true e n
    ∙ c.loop-x.invariant

pub returns-in_err-product : goal.returns-in_err-product
returns-in_err-product c =
    let t = slice_index_or c.args.terms.now c.loop-x.x-index (0, pos 0) in
    let e : Fails (exact Mul c.args.n t.1) c.in_err-product.field-0.0 = search rules in
    let f = scaled-fails c.args.n (to_z w128 (of_z w128 c.args.n)) c.args.terms.now c.loop-x.x-index c.loop-x.products.items
    c.in_err-product.field-0.0 (search rules) c.loop-x-test.true e c.loop-x.invariant in
    search rules
