use Rattle.std.proofs.Common.{refl}
use Rattle.lus_grammar.specs.Syntax.{leaf, ◌·◌}
use Rattle.lus_grammar.specs.Run.{both, first_stop, second_stop}
use Rattle.lus_reader.specs.View.{counts_view}
use Rattle.lus_reader.proofs.Cuts.{next_fits}
use Rattle.lus_reader.proofs.Stops.{at_err, refuses_by}
use Rattle.lus_reader.proofs.ends.read_labelled.Goals as goal

pub overflow_add-first : goal.overflow_add-first
overflow_add-first c = next_fits c.args.bytes.now c.args.tokens.now c.args.first c.requires.cut c.requires.small c.requires.inside

pub returns-in_err-label-clause-stop : goal.returns-in_err-label-clause-stop
returns-in_err-label-clause-stop c = at_err _ _ _ c.from_residual.ensures.1
    (refuses_by (λ d k u. first_stop u) (c.in_err-label.ensures.stop (counts_view c.args.counts.now)))

pub returns-in_err-value-clause-stop : goal.returns-in_err-value-clause-stop
returns-in_err-value-clause-stop c =
    let l = c.in_ok-label.ensures.run (counts_view c.args.counts.now) in
    at_err _ _ _ c.from_residual-in_err-value.ensures.1 (refuses_by (λ d k u. second_stop l.run u) c.in_err-value.ensures.stop)

pub returns-clause-run : goal.returns-clause-run
returns-clause-run c =
    let l = c.in_ok-label.ensures.run (counts_view c.args.counts.now) in
    let e = c.in_ok-value.ensures.run in
    record {
      syntax = l.syntax · e.syntax · leaf e.last;
      run = both l.run e.run;
      is = rw (l.is, c.place_at.ensures, e.is) refl;
    }
