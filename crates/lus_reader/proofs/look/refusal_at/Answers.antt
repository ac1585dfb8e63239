use Rattle.lus_tree.specs.Reason.{refusal_view}
use Rattle.lus_grammar.specs.Stream.{stream}
use Rattle.lus_reader.proofs.Stops.{refuses_mark}
use Rattle.lus_reader.proofs.look.refusal_at.Goals as goal

pub returns : goal.returns
returns c = refuses_mark (stream c.args.bytes.now c.args.tokens.now) c.args.at
    (refusal_view c.unexpected.result) c.unexpected.ensures.at c.unexpected.ensures.reason
