use Rattle.std.proofs.Common.{◌∙◌, ap}
use Rattle.lus_tree.specs.Tree.{equation}
use Rattle.lus_tree.specs.View.{expr_view}
use Rattle.lus_grammar.specs.Stream.{stream}
use Rattle.lus_grammar.specs.Syntax.{leaf, ◌·◌}
use Rattle.lus_grammar.specs.Run.{both, first_stop, second_stop}
use Rattle.lus_grammar.specs.Programs.{left_of}
use Rattle.lus_reader.specs.View.{counts_view}
use Rattle.lus_reader.specs.Values.{before}
use Rattle.lus_reader.proofs.Stops.{at_err, refuses_by}
use Rattle.lus_reader.proofs.item.equation.Goals as goal

pub returns-in_err-left-clause-stop : goal.returns-in_err-left-clause-stop
returns-in_err-left-clause-stop c = at_err _ _ _ c.from_residual.ensures.1
    (refuses_by (λ d k u. first_stop u) (c.in_err-left.ensures.stop (counts_view c.args.counts.now)))

pub returns-in_err-next-clause-stop : goal.returns-in_err-next-clause-stop
returns-in_err-next-clause-stop c =
    let n = counts_view c.args.counts.now in
    let r = c.in_ok-left.ensures.run n in
    at_err _ _ _ c.from_residual-in_err-next.ensures.1 (refuses_by (λ d k u. second_stop r.run (first_stop u)) (c.in_err-next.ensures.stop n))

pub returns-in_err-right-clause-stop : goal.returns-in_err-right-clause-stop
returns-in_err-right-clause-stop c =
    let n = counts_view c.args.counts.now in
    let r = c.in_ok-left.ensures.run n in
    at_err _ _ _ c.from_residual-in_err-right.ensures.1 (refuses_by
    (λ d k u. second_stop r.run (second_stop (c.in_ok-next.ensures.run n) u)) c.in_err-right.ensures.stop)

pub returns-clause-run : goal.returns-clause-run
returns-clause-run c =
    let n = counts_view c.args.counts.now in
    let r = c.in_ok-left.ensures.run n in
    let e = c.in_ok-right.ensures.run in
    record {
      syntax = r.syntax · leaf (stream c.args.bytes.now c.args.tokens.now c.in_ok-left.next) · e.syntax · leaf e.last;
      run = both r.run (both (c.in_ok-next.ensures.run n) e.run);
      is = ap (λ xs. before (equation xs (expr_view c.in_ok-right.right))) r.is ∙ ap (λ x. before (equation (left_of r.syntax) x)) e.is;
    }
