use Rattle.std.proofs.Common.{ap}
use Rattle.lus_tree.specs.Tree.{property}
use Rattle.lus_grammar.specs.Stream.{stream}
use Rattle.lus_grammar.specs.Syntax.{leaf, ◌·◌}
use Rattle.lus_grammar.specs.Run.{both, second_stop, token}
use Rattle.lus_reader.specs.Values.{before}
use Rattle.lus_reader.proofs.Stops.{at_err, refuses_by}
use Rattle.lus_reader.proofs.item.property.Goals as goal

pub returns-in_err-named-clause-stop : goal.returns-in_err-named-clause-stop
returns-in_err-named-clause-stop c = at_err _ _ _ c.from_residual.ensures.1
    (refuses_by (λ d k u. second_stop (token c.requires.first) u) c.in_err-named.ensures.stop)

pub returns-clause-run : goal.returns-clause-run
returns-clause-run c =
    let r = c.in_ok-named.ensures.run in
    record {
      syntax = leaf (stream c.args.bytes.now c.args.tokens.now c.args.at) · r.syntax;
      run = both (token c.requires.first) r.run;
      is = ap (λ x. before (property x)) r.is;
    }
