use Rattle.std.proofs.Common.{refl}
use Rattle.lus_grammar.specs.Stream.{stream}
use Rattle.lus_grammar.specs.Phrase as P
use Rattle.lus_grammar.specs.Syntax.{leaf, node, ◌·◌}
use Rattle.lus_grammar.specs.Run.{line, line_stop, both, first_stop, second_stop}
use Rattle.lus_reader.specs.View.{counts_view}
use Rattle.lus_reader.proofs.Stops.{at_err, refuses_by}
use Rattle.lus_reader.proofs.ends.read_constant.Goals as goal

pub returns-in_err-next-clause-stop : goal.returns-in_err-next-clause-stop
returns-in_err-next-clause-stop c = at_err _ _ _ c.from_residual.ensures.1
    (refuses_by (λ d k u. line_stop (first_stop u)) (c.in_err-next.ensures.stop (counts_view c.args.counts.now)))

pub returns-in_err-name-clause-stop : goal.returns-in_err-name-clause-stop
returns-in_err-name-clause-stop c =
    let n = counts_view c.args.counts.now in
    at_err _ _ _ c.from_residual-in_err-name.ensures.1 (refuses_by
    (λ d k u. line_stop (second_stop (c.in_ok-next.ensures.run n) (first_stop u))) (c.in_err-name.ensures.stop n))

pub returns-in_err-sort-clause-stop : goal.returns-in_err-sort-clause-stop
returns-in_err-sort-clause-stop c =
    let n = counts_view c.args.counts.now in
    at_err _ _ _ c.from_residual-in_err-sort.ensures.1 (refuses_by
    (λ d k u. line_stop (second_stop (c.in_ok-next.ensures.run n) (second_stop (c.in_ok-name.ensures.run n) (first_stop u))))
    (c.in_err-sort.ensures.stop n))

pub returns-in_err-next-2-clause-stop : goal.returns-in_err-next-2-clause-stop
returns-in_err-next-2-clause-stop c =
    let n = counts_view c.args.counts.now in
    let q = c.in_ok-sort.ensures.run n in
    at_err _ _ _ c.from_residual-in_err-next-2.ensures.1 (refuses_by
    (λ d k u. line_stop (second_stop (c.in_ok-next.ensures.run n)
    (second_stop (c.in_ok-name.ensures.run n) (second_stop q.run (first_stop u))))) (c.in_err-next-2.ensures.stop n))

pub returns-in_err-value-clause-stop : goal.returns-in_err-value-clause-stop
returns-in_err-value-clause-stop c =
    let n = counts_view c.args.counts.now in
    let q = c.in_ok-sort.ensures.run n in
    at_err _ _ _ c.from_residual-in_err-value.ensures.1 (refuses_by
    (λ d k u. line_stop (second_stop (c.in_ok-next.ensures.run n)
    (second_stop (c.in_ok-name.ensures.run n) (second_stop q.run (second_stop (c.in_ok-next-2.ensures.run n) u)))))
    c.in_err-value.ensures.stop)

pub returns-clause-run : goal.returns-clause-run
returns-clause-run c =
    let s = stream c.args.bytes.now c.args.tokens.now in
    let n = counts_view c.args.counts.now in
    let q = c.in_ok-sort.ensures.run n in
    let e = c.in_ok-value.ensures.run in
    record {
      syntax = node P.Constant (leaf (s c.args.at) · leaf (s c.in_ok-next.next) · q.syntax · leaf (s c.in_ok-sort.next) · e.syntax · leaf e.last);
      run = line (both (c.in_ok-next.ensures.run n) (both (c.in_ok-name.ensures.run n) (both q.run (both (c.in_ok-next-2.ensures.run n) e.run))));
      is = rw (c.in_ok-name.ensures.word, q.is, e.is) refl;
    }
