use Rattle.std.proofs.Common.{refl}
use Rattle.lus_grammar.specs.Stream.{stream}
use Rattle.lus_grammar.specs.Phrase as P
use Rattle.lus_grammar.specs.Syntax.{leaf, node, ◌·◌}
use Rattle.lus_grammar.specs.Run.{line, line_stop, both, first_stop, second_stop}
use Rattle.lus_reader.proofs.Stops.{at_err, refuses_by}
use Rattle.lus_reader.proofs.params.typed_names.Goals as goal

pub returns-in_err-words-clause-stop : goal.returns-in_err-words-clause-stop
returns-in_err-words-clause-stop c = at_err _ _ _ c.from_residual.ensures.1
    (λ n. refuses_by (λ d k u. line_stop (first_stop u)) (c.in_err-words.ensures.stop n))

pub returns-in_err-next-clause-stop : goal.returns-in_err-next-clause-stop
returns-in_err-next-clause-stop c = at_err _ _ _ c.from_residual-in_err-next.ensures.1 (λ n.
    let r = c.in_ok-words.ensures.run n in
    refuses_by (λ d k u. line_stop (second_stop r.run (first_stop u))) (c.in_err-next.ensures.stop n))

pub returns-in_err-of-clause-stop : goal.returns-in_err-of-clause-stop
returns-in_err-of-clause-stop c = at_err _ _ _ c.from_residual-in_err-of.ensures.1 (λ n.
    let r = c.in_ok-words.ensures.run n in
    refuses_by (λ d k u. line_stop (second_stop r.run (second_stop (c.in_ok-next.ensures.run n) u))) (c.in_err-of.ensures.stop n))

pub returns-clause-run : goal.returns-clause-run
returns-clause-run c = λ n.
    let r = c.in_ok-words.ensures.run n in
    let q = c.in_ok-of.ensures.run n in
    record {
      syntax = node P.Group (r.syntax · leaf (stream c.args.bytes.now c.args.tokens.now c.in_ok-words.next) · q.syntax);
      run = line (both r.run (both (c.in_ok-next.ensures.run n) q.run));
      is = rw (r.is, q.is) refl;
    }
