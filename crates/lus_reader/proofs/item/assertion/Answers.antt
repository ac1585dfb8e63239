use Rattle.std.proofs.Common.{ap}
use Rattle.lus_tree.specs.Tree.{assertion}
use Rattle.lus_grammar.specs.Stream.{stream}
use Rattle.lus_grammar.specs.Syntax.{leaf, ◌·◌}
use Rattle.lus_grammar.specs.Run.{both, first_stop, second_stop}
use Rattle.lus_reader.specs.View.{counts_view}
use Rattle.lus_reader.specs.Values.{before}
use Rattle.lus_reader.proofs.Stops.{at_err, refuses_by}
use Rattle.lus_reader.proofs.item.assertion.Goals as goal

pub returns-in_err-next-clause-stop : goal.returns-in_err-next-clause-stop
returns-in_err-next-clause-stop c = at_err _ _ _ c.from_residual.ensures.1
    (refuses_by (λ d k u. first_stop u) (c.in_err-next.ensures.stop (counts_view c.args.counts.now)))

pub returns-in_err-condition-clause-stop : goal.returns-in_err-condition-clause-stop
returns-in_err-condition-clause-stop c = at_err _ _ _ c.from_residual-in_err-condition.ensures.1
    (refuses_by (λ d k u. second_stop (c.in_ok-next.ensures.run (counts_view c.args.counts.now)) u) c.in_err-condition.ensures.stop)

pub returns-clause-run : goal.returns-clause-run
returns-clause-run c =
    let e = c.in_ok-condition.ensures.run in
    record {
      syntax = leaf (stream c.args.bytes.now c.args.tokens.now c.args.at) · e.syntax · leaf e.last;
      run = both (c.in_ok-next.ensures.run (counts_view c.args.counts.now)) e.run;
      is = ap (λ x. before (assertion x)) e.is;
    }
