use Rattle.lus_grammar.specs.Stream.{stream}
use Rattle.lus_grammar.specs.Run.{both, first_stop, second_stop}
use Rattle.lus_reader.specs.View.{counts_view}
use Rattle.lus_reader.proofs.Stops.{at_err, refuses_by}
use Rattle.lus_reader.proofs.ends.read_ended.Goals as goal

pub returns-in_err-value-clause-stop : goal.returns-in_err-value-clause-stop
returns-in_err-value-clause-stop c = at_err _ _ _ c.from_residual.ensures.1 (refuses_by (λ d k u. first_stop u) c.in_err-value.ensures.stop)

pub returns-in_err-next-clause-stop : goal.returns-in_err-next-clause-stop
returns-in_err-next-clause-stop c = at_err _ _ _ c.from_residual-in_err-next.ensures.1
    (refuses_by (λ d k u. second_stop c.in_ok-value.ensures.run.run u) (c.in_err-next.ensures.stop (counts_view c.read_expr.new.counts)))

pub returns-clause-run : goal.returns-clause-run
returns-clause-run c =
    let r = c.in_ok-value.ensures.run in
    record {
      syntax = r.syntax;
      last = stream c.args.bytes.now c.args.tokens.now c.in_ok-value.next;
      run = both r.run (c.in_ok-next.ensures.run (counts_view c.read_expr.new.counts));
      is = r.is;
    }
