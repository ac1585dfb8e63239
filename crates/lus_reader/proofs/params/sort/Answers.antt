use Rattle.std.proofs.Common.{inl, inr, refl, sym, ap, subst, ℕ}
use Rattle.lus_lexer.specs.declared.token.Class.TheVariants as C
use Rattle.lus_lexer.specs.declared.token.Keyword.TheVariants as K
use Rattle.lus_grammar.specs.Stream.{stream}
use Rattle.lus_grammar.specs.Phrase.{part}
use Rattle.lus_grammar.specs.Phrase as P
use Rattle.lus_grammar.specs.Syntax.{leaf, node}
use Rattle.lus_grammar.specs.Run.{Run, read, token, line, line_stop}
use Rattle.lus_grammar.specs.Source.{limit}
use Rattle.lus_grammar.specs.Programs.{sort_of_class}
use Rattle.lus_reader.proofs.Cuts.{next_fits}
use Rattle.lus_reader.proofs.Classes.{not_true}
use Rattle.lus_reader.proofs.Stops.{at_err, refuses_by}
use Rattle.lus_reader.proofs.Declared.{no_token_too}
use Rattle.lus_reader.proofs.params.sort.Goals as goal

pub overflow_add-result : goal.overflow_add-result
overflow_add-result c = next_fits c.args.bytes.now c.args.tokens.now c.args.at c.requires.cut c.requires.small (c.if-is_at.ensures.inside refl)

pub returns-then-is_at-clause-run : goal.returns-then-is_at-clause-run
returns-then-is_at-clause-run c = λ n.
    let s = stream c.args.bytes.now c.args.tokens.now in
    let e = (c.if-is_at.ensures.when c.args.bytes.now).0 refl in
    record { syntax = node P.Sort (leaf (s c.args.at)); run = line (token (inl e)); is = sym (ap sort_of_class e) }

pub returns-in_err-next-clause-stop : goal.returns-in_err-next-clause-stop
returns-in_err-next-clause-stop c = at_err _ _ _ c.from_residual.ensures.1 (λ n.
    let s = stream c.args.bytes.now c.args.tokens.now in
    refuses_by (λ d k u. line_stop (no_token_too s c.args.at k n d (C.Keyword K.Bool) (C.Keyword K.Int)
    (not_true ((c.if-is_at.ensures.when c.args.bytes.now).1)) u)) (c.in_err-next.ensures.stop n))

pub returns-clause-run : goal.returns-clause-run
returns-clause-run c = λ n.
    let s = stream c.args.bytes.now c.args.tokens.now in
    let e = c.in_ok-next.ensures.token in
    record {
      syntax = node P.Sort (leaf (s c.args.at));
      run = subst (λ (j : ℕ). Run limit s (part P.Sort) c.args.at n (read j n (node P.Sort (leaf (s c.args.at)))))
          (sym c.in_ok-next.ensures.next) (line (token (inr (inl e))));
      is = sym (ap sort_of_class e);
    }
