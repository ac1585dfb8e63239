use Rattle.std.proofs.Common.{arith}
use Rattle.lus_grammar.specs.Phrase.{repeated}
use Rattle.contract_reader.proofs.Leads.{at_err, stops, stops_next}
use Rattle.contract_reader.proofs.Firsts.{told}
use Rattle.contract_reader.proofs.Variables.{group, into_variables, first_group, next_group, all_groups}
use Rattle.contract_reader.proofs.locals.add_variables.Goals as goal

pub returns-in_err-next-clause-stop : goal.returns-in_err-next-clause-stop
returns-in_err-next-clause-stop c = at_err _ _ _ c.from_residual.ensures.1
    (λ n. stops (into_variables _ _ n c.requires.word) (c.in_err-next.ensures.stop_before n (repeated group)))

pub loop-alloc-init : goal.loop-alloc-init
loop-alloc-init c = record {
  so_far = λ n. first_group c.requires.word (c.in_ok-next.ensures.run n);
  since = omega (arith, c.in_ok-next.ensures.inside.0);
  within = c.in_ok-next.ensures.inside.1;
}

pub returns-in_err-next-2-clause-stop : goal.returns-in_err-next-2-clause-stop
returns-in_err-next-2-clause-stop c =
    let e = told group (c.class_at.ensures.class c.args.bytes.now) c.is_name.ensures c.loop-alloc-test.true in
    at_err _ _ _ c.from_residual-in_err-next-2.ensures.1 (λ n. stops_next (c.loop-alloc.invariant.so_far n).leads e (c.in_err-next-2.ensures.stop n))

pub loop-alloc-preserved : goal.loop-alloc-preserved
loop-alloc-preserved c =
    let e = told group (c.class_at.ensures.class c.args.bytes.now) c.is_name.ensures c.loop-alloc-test.true in
    record {
      so_far = λ n. next_group (c.loop-alloc.invariant.so_far n) e (c.in_ok-next-2.ensures.run n);
      since = omega (arith, c.in_ok-next-2.ensures.inside.0);
      within = c.in_ok-next-2.ensures.inside.1;
    }

pub returns-clause-run : goal.returns-clause-run
returns-clause-run c =
    let e = told group (c.class_at.ensures.class c.args.bytes.now) c.is_name.ensures c.loop-alloc-test.false in
    λ n cs. all_groups (c.loop-alloc.invariant.so_far n) e cs
