use Rattle.std.proofs.Common.{inl, refl}
use Rattle.lus_grammar.specs.Stream.{stream}
use Rattle.lus_grammar.specs.Run.{token, no_token}
use Rattle.lus_reader.proofs.Cuts.{next_fits}
use Rattle.lus_reader.proofs.Classes.{not_one, not_true}
use Rattle.lus_reader.proofs.Stops.{refused}
use Rattle.lus_reader.proofs.look.expect.Goals as goal

pub returns-then-not-is_at-clause-stop : goal.returns-then-not-is_at-clause-stop
returns-then-not-is_at-clause-stop c =
    λ n. refused c.refusal_at.ensures (no_token (not_one (stream c.args.bytes.now c.args.tokens.now) c.args.at c.args.class
    (not_true ((c.if-not-is_at.ensures.when c.args.bytes.now).1))))

pub overflow_add-result : goal.overflow_add-result
overflow_add-result c = next_fits c.args.bytes.now c.args.tokens.now c.args.at c.requires.cut c.requires.small (c.if-not-is_at.ensures.inside refl)

pub returns-clause-run : goal.returns-clause-run
returns-clause-run c = λ n. token (inl ((c.if-not-is_at.ensures.when c.args.bytes.now).0 refl))
