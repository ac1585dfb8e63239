use Rattle.std.proofs.Common.{◌∙◌, ◌++◌, ◌∷◌, ap, map, [], refl, arith}
use Rattle.lus_lexer.specs.declared.token.Class.TheVariants as C
use Rattle.lus_lexer.specs.declared.token.Sign.TheVariants as S
use Rattle.lus_tree.specs.View.{word_view}
use Rattle.lus_grammar.specs.Stream.{stream}
use Rattle.lus_grammar.specs.Phrase.{part, Names}
use Rattle.lus_grammar.specs.Run.{line_stop, first_stop}
use Rattle.lus_grammar.specs.Trees.{spelled}
use Rattle.lus_grammar.specs.Programs.{names_of, more_names_of}
use Rattle.lus_reader.proofs.Cuts.{next_fits}
use Rattle.lus_reader.proofs.Classes.{not_true, passes_one}
use Rattle.lus_reader.proofs.Stops.{at_err, refuses_by}
use Rattle.lus_reader.proofs.Leading.{leads_end, comma_name, names_first, names_next, names_stuck}
use Rattle.lus_reader.proofs.words.names.Goals as goal

pub returns-in_err-next-clause-stop : goal.returns-in_err-next-clause-stop
returns-in_err-next-clause-stop c = at_err _ _ _ c.from_residual.ensures.1 (λ n. refuses_by (λ d k u. line_stop (first_stop u)) (c.in_err-next.ensures.stop n))

pub loop-alloc-init : goal.loop-alloc-init
loop-alloc-init c = record {
  leads = λ n. names_first (stream c.args.bytes.now c.args.tokens.now) c.args.at c.in_ok-next.next n _ (c.in_ok-next.ensures.run n)
      (c.in_ok-next.ensures.word ∙ ap (λ x. map word_view x ++ spelled (stream c.args.bytes.now c.args.tokens.now c.args.at) ∷ [])
      c.new-words.ensures.items);
  past = omega (arith, c.in_ok-next.ensures.next);
  inside = c.in_ok-next.ensures.inside;
}

pub overflow_add-next : goal.overflow_add-next
overflow_add-next c = next_fits c.args.bytes.now c.args.tokens.now c.loop-alloc.next c.requires.cut c.requires.small (c.loop-alloc-test.ensures.inside refl)

pub returns-in_err-next-2-clause-stop : goal.returns-in_err-next-2-clause-stop
returns-in_err-next-2-clause-stop c = at_err _ _ _ c.from_residual-in_err-next-2.ensures.1
    (λ n. names_stuck (stream c.args.bytes.now c.args.tokens.now) c.args.at c.loop-alloc.next n _ _ (c.loop-alloc.invariant.leads n)
    ((c.loop-alloc-test.ensures.when c.args.bytes.now).0 refl) (c.in_err-next-2.ensures.stop n))

pub loop-alloc-preserved : goal.loop-alloc-preserved
loop-alloc-preserved c = record {
  leads = λ n. names_next (stream c.args.bytes.now c.args.tokens.now) c.args.at c.loop-alloc.next c.in_ok-next-2.next n _ _
      (c.loop-alloc.invariant.leads n) ((c.loop-alloc-test.ensures.when c.args.bytes.now).0 refl)
      (c.in_ok-next-2.ensures.run n) c.in_ok-next-2.ensures.word;
  past = omega (arith, c.loop-alloc.invariant.past, c.in_ok-next-2.ensures.next);
  inside = c.in_ok-next-2.ensures.inside;
}

pub returns-clause-run : goal.returns-clause-run
returns-clause-run c = λ n. leads_end names_of more_names_of (stream c.args.bytes.now c.args.tokens.now)
    (part Names) comma_name c.args.at n _ c.loop-alloc.next n (c.loop-alloc.invariant.leads n) refl
    (passes_one (stream c.args.bytes.now c.args.tokens.now) c.loop-alloc.next (C.Sign S.Comma) refl
    (not_true ((c.loop-alloc-test.ensures.when c.args.bytes.now).1)))
