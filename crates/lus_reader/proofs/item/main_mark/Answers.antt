use Rattle.std.proofs.Common.{ap}
use Rattle.lus_tree.specs.Tree.{main_mark}
use Rattle.lus_grammar.specs.Stream.{stream}
use Rattle.lus_grammar.specs.Syntax.{leaf, ◌·◌}
use Rattle.lus_grammar.specs.Run.{both, first_stop}
use Rattle.lus_reader.specs.Values.{before}
use Rattle.lus_reader.proofs.Stops.{at_err, refuses_by}
use Rattle.lus_reader.proofs.item.main_mark.Goals as goal

pub returns-in_err-next-clause-stop : goal.returns-in_err-next-clause-stop
returns-in_err-next-clause-stop c = at_err _ _ _ c.from_residual.ensures.1 (λ n. refuses_by (λ d k u. first_stop u) (c.in_err-next.ensures.stop n))

pub returns-clause-run : goal.returns-clause-run
returns-clause-run c = λ n.
    let r = c.optional_token-behind.ensures.run n in
    record {
      syntax = leaf (stream c.args.bytes.now c.args.tokens.now c.args.at) · r.syntax;
      run = both (c.in_ok-next.ensures.run n) r.run;
      is = ap (λ p. before (main_mark p)) c.place_at.ensures;
    }
