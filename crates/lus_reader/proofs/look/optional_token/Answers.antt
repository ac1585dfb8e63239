use Rattle.std.proofs.Common.{inl, refl, [], ◌∷◌}
use Rattle.lus_grammar.specs.Stream.{stream}
use Rattle.lus_grammar.specs.Starts.{class_code}
use Rattle.lus_grammar.specs.Run.{token, once, not_once}
use Rattle.lus_reader.proofs.Cuts.{next_fits}
use Rattle.lus_reader.proofs.Classes.{not_true, enters_by, first_code, passes_one}
use Rattle.lus_reader.proofs.look.optional_token.Goals as goal

pub overflow_add-result : goal.overflow_add-result
overflow_add-result c = next_fits c.args.bytes.now c.args.tokens.now c.args.at c.requires.cut c.requires.small (c.if-is_at.ensures.inside refl)

pub returns-then-is_at-clause-run : goal.returns-then-is_at-clause-run
returns-then-is_at-clause-run c = λ n.
    let e = (c.if-is_at.ensures.when c.args.bytes.now).0 refl in
    record {
      syntax = _;
      run = once (enters_by (stream c.args.bytes.now c.args.tokens.now) c.args.at c.args.class
          (class_code c.args.class ∷ []) (first_code c.args.class []) e) (token (inl e));
      is = refl;
    }

pub returns-else-is_at-clause-run : goal.returns-else-is_at-clause-run
returns-else-is_at-clause-run c = λ n.
    record {
      syntax = _;
      run = not_once (passes_one (stream c.args.bytes.now c.args.tokens.now) c.args.at c.args.class c.requires.kept
          (not_true ((c.if-is_at.ensures.when c.args.bytes.now).1)));
      is = refl;
    }
