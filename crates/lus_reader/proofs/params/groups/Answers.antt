use Rattle.std.proofs.Common.{◌+◌, ap, map, refl, [], ◌∷◌, arith}
use Rattle.lus_lexer.specs.declared.token.Class.TheVariants as C
use Rattle.lus_lexer.specs.declared.token.Sign.TheVariants as S
use Rattle.lus_tree.specs.View.{param_view}
use Rattle.lus_grammar.specs.Stream.{stream}
use Rattle.lus_grammar.specs.Starts.{class_code}
use Rattle.lus_reader.proofs.Cuts.{next_fits}
use Rattle.lus_reader.proofs.Classes.{not_true, enters_by, passes_one}
use Rattle.lus_reader.proofs.Stops.{at_err}
use Rattle.lus_reader.proofs.Declared.{groups_none, groups_stuck, groups_last, groups_ended, groups_next}
use Rattle.lus_reader.proofs.params.groups.Goals as goal

pub loop-params-init : goal.loop-params-init
loop-params-init c = record {
  leads = λ n. groups_none (stream c.args.bytes.now c.args.tokens.now) c.args.at n _ (ap (λ x. map param_view x) c.new-params.ensures.items);
  past = omega arith;
}

pub returns-in_err-next-clause-stop : goal.returns-in_err-next-clause-stop
returns-in_err-next-clause-stop c = at_err _ _ _ c.from_residual.ensures.1 (λ n.
    groups_stuck (stream c.args.bytes.now c.args.tokens.now) c.args.at c.loop-params.next n _ _ (c.loop-params.invariant.leads n)
    (c.in_err-next.ensures.stop n))

pub returns-then-not-is_at-clause-run : goal.returns-then-not-is_at-clause-run
returns-then-not-is_at-clause-run c = λ n.
    let s = stream c.args.bytes.now c.args.tokens.now in
    groups_last s c.args.at c.loop-params.next c.in_ok-next.next n _ _ (c.loop-params.invariant.leads n) (c.in_ok-next.ensures.run n)
    (passes_one s c.in_ok-next.next (C.Sign S.Semicolon) refl (not_true ((c.if-not-is_at.ensures.when c.args.bytes.now).1)))

pub overflow_add-next : goal.overflow_add-next
overflow_add-next c = next_fits c.args.bytes.now c.args.tokens.now c.in_ok-next.next c.requires.cut c.requires.small (c.if-not-is_at.ensures.inside refl)

pub returns-then-not-is_at-2-clause-run : goal.returns-then-not-is_at-2-clause-run
returns-then-not-is_at-2-clause-run c = λ n.
    let s = stream c.args.bytes.now c.args.tokens.now in
    groups_ended s c.args.at c.loop-params.next c.in_ok-next.next n _ _ (c.loop-params.invariant.leads n) (c.in_ok-next.ensures.run n)
    ((c.if-not-is_at.ensures.when c.args.bytes.now).0 refl)
    (passes_one s (c.in_ok-next.next + 1) C.Ident refl (not_true ((c.if-not-is_at-2.ensures.when c.args.bytes.now).1)))

pub loop-params-preserved : goal.loop-params-preserved
loop-params-preserved c = record {
  leads = λ n.
      let s = stream c.args.bytes.now c.args.tokens.now in
      groups_next s c.args.at c.loop-params.next c.in_ok-next.next n _ _ (c.loop-params.invariant.leads n) (c.in_ok-next.ensures.run n)
      ((c.if-not-is_at.ensures.when c.args.bytes.now).0 refl)
      (enters_by s (c.in_ok-next.next + 1) C.Ident (class_code C.Ident ∷ []) refl ((c.if-not-is_at-2.ensures.when c.args.bytes.now).0 refl));
  past = omega (arith, c.in_ok-next.ensures.inside.0, c.loop-params.invariant.past);
}
