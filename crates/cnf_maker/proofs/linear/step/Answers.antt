use Rattle.std.proofs.Common.{rules, ◌≡◌, ◌++◌, [], drop, slice_index_or, Ok, refl}
use lib.IntN.{pos}
use Rattle.sys_terms.specs.Evaluated.{exact}
use Rattle.cnf_maker.specs.Linear.{put}
use Rattle.cnf_maker.specs.View.{op_of, Fails}
use Rattle.cnf_maker.proofs.Merged.{step-passes, step-meets, step-outside, rest-increasing}
use Rattle.cnf_maker.proofs.linear.step.Goals as goal

pub returns-then-left-i-clause-exact : goal.returns-then-left-i-clause-exact
returns-then-left-i-clause-exact c =
    step-passes (op_of c.args.sign) c.args.sum.now.items c.push.new.self.items c.args.left.now c.args.right.now
    c.args.i c.args.j
    c.if-i-left.true c.requires.more c.requires.increasing c.if-left-i.true (search rules)

pub returns-in_err-joined-clause-exact : goal.returns-in_err-joined-clause-exact
returns-in_err-joined-clause-exact c =
    let u = slice_index_or c.args.right.now c.args.j (0, pos 0) in
    let a = c.coefficient-a.result in
    let e : Fails (exact (op_of c.args.sign) a.0 u.1) c.in_err-joined.field-0.0 = search rules in
    let g = step-outside (op_of c.args.sign) c.args.sum.now.items (drop c.args.i c.args.left.now)
    (drop a.1 c.args.left.now) c.args.right.now c.args.j u.0 u.1 a.0
    c.in_err-joined.field-0.0 c.requires.more refl (c.coefficient-a.ensures.found (op_of c.args.sign) u.1) e in
    search rules

pub returns-clause-exact : goal.returns-clause-exact
returns-clause-exact c =
    let u = slice_index_or c.args.right.now c.args.j (0, pos 0) in
    let a = c.coefficient-a.result in
    let z = c.in_ok-joined.field-0 in
    let e : exact (op_of c.args.sign) a.0 u.1 ≡ Ok z = search rules in
    let n : c.put.new.sum.items ≡ c.args.sum.now.items ++ put u.0 z [] = search rules in
    step-meets (op_of c.args.sign) c.args.sum.now.items c.put.new.sum.items (drop c.args.i c.args.left.now)
    (drop a.1 c.args.left.now) c.args.right.now c.args.j u.0 u.1 a.0
    z c.requires.more c.requires.increasing refl (c.coefficient-a.ensures.found (op_of c.args.sign) u.1) e n

pub returns-clause-increasing : goal.returns-clause-increasing
returns-clause-increasing c = rest-increasing c.args.right.now c.args.j c.requires.more c.requires.increasing
