use Rattle.std.proofs.Common.{Some, refl, ap, inl, [], ◌∷◌}
use Rattle.lus_lexer.specs.declared.token.Class.TheVariants.{Text}
use Rattle.lus_grammar.specs.Stream.{stream}
use Rattle.lus_grammar.specs.Starts.{class_code}
use Rattle.lus_grammar.specs.Run.{token, once, not_once}
use Rattle.lus_reader.proofs.Cuts.{next_fits}
use Rattle.lus_reader.proofs.Classes.{not_true, enters_by, passes_one}
use Rattle.lus_reader.proofs.words.label.Goals as goal

pub returns-then-not-is_at-clause-run : goal.returns-then-not-is_at-clause-run
returns-then-not-is_at-clause-run c = λ n.
    record {
      syntax = _;
      run = not_once (passes_one (stream c.args.bytes.now c.args.tokens.now) c.args.at Text refl
          (not_true ((c.if-not-is_at.ensures.when c.args.bytes.now).1)));
      is = refl;
    }

pub overflow_add-result : goal.overflow_add-result
overflow_add-result c = next_fits c.args.bytes.now c.args.tokens.now c.args.at c.requires.cut c.requires.small (c.if-not-is_at.ensures.inside refl)

pub returns-clause-run : goal.returns-clause-run
returns-clause-run c = λ n.
    let e = (c.if-not-is_at.ensures.when c.args.bytes.now).0 refl in
    record {
      syntax = _;
      run = once (enters_by (stream c.args.bytes.now c.args.tokens.now) c.args.at Text (class_code Text ∷ []) refl e)
          (token (inl e));
      is = ap Some c.in_ok-text.ensures.text;
    }
