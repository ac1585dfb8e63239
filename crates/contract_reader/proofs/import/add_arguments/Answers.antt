use Rattle.std.proofs.Common.{◌∙◌, sym, refl, [], ◌∷◌, ◌++◌, append-nil, arith}
use Rattle.lus_tree.specs.View.{expr_view}
use Rattle.contract_reader.proofs.Leads.{at_err, stops}
use Rattle.contract_reader.proofs.Loops.{begun, one_more, ended, stuck}
use Rattle.contract_reader.proofs.Firsts.{told}
use Rattle.contract_reader.proofs.Imports.{argument, into_argument, adds_argument, more_behind, all_behind}
use Rattle.contract_reader.proofs.import.add_arguments.Goals as goal

pub loop-alloc-init : goal.loop-alloc-init
loop-alloc-init c = record { added = []; loops = begun; are = sym (append-nil _); since = omega arith; within = c.requires.inside }

pub returns-in_err-argument-clause-stop : goal.returns-in_err-argument-clause-stop
returns-in_err-argument-clause-stop c =
    let e = told argument (c.class_at.ensures.class c.args.bytes.now) c.is_comma.ensures.listed c.loop-alloc-test.true in
    let k = c.class_at.ensures.class c.args.bytes.now ∙ c.is_comma.ensures.class c.loop-alloc-test.true in
    at_err _ _ _ c.from_residual.ensures.1 (stuck c.loop-alloc.invariant.loops e (stops (into_argument _ _ _ k) c.in_err-argument.ensures.stop))

pub loop-alloc-preserved : goal.loop-alloc-preserved
loop-alloc-preserved c =
    let e = told argument (c.class_at.ensures.class c.args.bytes.now) c.is_comma.ensures.listed c.loop-alloc-test.true in
    let k = c.class_at.ensures.class c.args.bytes.now ∙ c.is_comma.ensures.class c.loop-alloc-test.true in
    record {
      added = c.loop-alloc.invariant.added ++ expr_view c.in_ok-argument.argument ∷ [];
      loops = one_more c.loop-alloc.invariant.loops e (adds_argument k c.in_ok-argument.ensures.run);
      are = more_behind _ _ _ _ _ c.in_ok-push.ensures.items c.loop-alloc.invariant.are;
      since = omega (arith, c.in_ok-argument.ensures.inside.0);
      within = c.in_ok-argument.ensures.inside.1;
    }

pub returns-clause-run : goal.returns-clause-run
returns-clause-run c =
    let e = told argument (c.class_at.ensures.class c.args.bytes.now) c.is_comma.ensures.listed c.loop-alloc-test.false in
    all_behind _ c.loop-alloc.invariant.are (ended c.loop-alloc.invariant.loops e refl)
