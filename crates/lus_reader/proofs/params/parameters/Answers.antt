use Rattle.std.proofs.Common.{ap, map, refl, [], ◌∷◌}
use Rattle.lus_lexer.specs.declared.token.Class.TheVariants as C
use Rattle.lus_tree.specs.View.{param_view}
use Rattle.lus_grammar.specs.Stream.{stream}
use Rattle.lus_grammar.specs.Phrase as P
use Rattle.lus_grammar.specs.Starts.{class_code}
use Rattle.lus_grammar.specs.Syntax.{leaf, node, ◌·◌, absent, present}
use Rattle.lus_grammar.specs.Run.{line, line_stop, both, first_stop, second_stop, once, not_once, once_stop}
use Rattle.lus_reader.proofs.Classes.{not_true, enters_by, passes_one}
use Rattle.lus_reader.proofs.Stops.{at_err, refuses_by}
use Rattle.lus_reader.proofs.params.parameters.Goals as goal

pub returns-in_err-first-clause-stop : goal.returns-in_err-first-clause-stop
returns-in_err-first-clause-stop c = at_err _ _ _ c.from_residual.ensures.1
    (λ n. refuses_by (λ d k u. line_stop (first_stop u)) (c.in_err-first.ensures.stop n))

pub returns-in_err-next-clause-stop : goal.returns-in_err-next-clause-stop
returns-in_err-next-clause-stop c = at_err _ _ _ c.from_residual-in_err-next.ensures.1 (λ n.
    let p = passes_one (stream c.args.bytes.now c.args.tokens.now) c.in_ok-first.first C.Ident refl
    (not_true ((c.if-not-is_at.ensures.when c.args.bytes.now).1)) in
    refuses_by (λ d k u. line_stop (second_stop (c.in_ok-first.ensures.run n) (second_stop (not_once p) u))) (c.in_err-next.ensures.stop n))

pub returns-then-not-is_at-clause-run : goal.returns-then-not-is_at-clause-run
returns-then-not-is_at-clause-run c = λ n.
    let s = stream c.args.bytes.now c.args.tokens.now in
    let p = passes_one s c.in_ok-first.first C.Ident refl (not_true ((c.if-not-is_at.ensures.when c.args.bytes.now).1)) in
    record {
      syntax = node P.Parameters (leaf (s c.args.at) · absent · leaf (s c.in_ok-first.first));
      run = line (both (c.in_ok-first.ensures.run n) (both (not_once p) (c.in_ok-next.ensures.run n)));
      is = ap (λ x. map param_view x) c.new.ensures.items;
    }

pub returns-in_err-params-clause-stop : goal.returns-in_err-params-clause-stop
returns-in_err-params-clause-stop c = at_err _ _ _ c.from_residual-in_err-params.ensures.1 (λ n.
    let p = enters_by (stream c.args.bytes.now c.args.tokens.now) c.in_ok-first.first C.Ident (class_code C.Ident ∷ []) refl
    ((c.if-not-is_at.ensures.when c.args.bytes.now).0 refl) in
    refuses_by (λ d k u. line_stop (second_stop (c.in_ok-first.ensures.run n) (first_stop (once_stop p u)))) (c.in_err-params.ensures.stop n))

pub returns-in_err-next-2-clause-stop : goal.returns-in_err-next-2-clause-stop
returns-in_err-next-2-clause-stop c = at_err _ _ _ c.from_residual-in_err-next-2.ensures.1 (λ n.
    let p = enters_by (stream c.args.bytes.now c.args.tokens.now) c.in_ok-first.first C.Ident (class_code C.Ident ∷ []) refl
    ((c.if-not-is_at.ensures.when c.args.bytes.now).0 refl) in
    let g = c.in_ok-params.ensures.run n in
    refuses_by (λ d k u. line_stop (second_stop (c.in_ok-first.ensures.run n) (second_stop (once p g.run) u))) (c.in_err-next-2.ensures.stop n))

pub returns-clause-run : goal.returns-clause-run
returns-clause-run c = λ n.
    let s = stream c.args.bytes.now c.args.tokens.now in
    let p = enters_by s c.in_ok-first.first C.Ident (class_code C.Ident ∷ []) refl ((c.if-not-is_at.ensures.when c.args.bytes.now).0 refl) in
    let g = c.in_ok-params.ensures.run n in
    record {
      syntax = node P.Parameters (leaf (s c.args.at) · present g.syntax · leaf (s c.in_ok-params.close));
      run = line (both (c.in_ok-first.ensures.run n) (both (once p g.run) (c.in_ok-next-2.ensures.run n)));
      is = g.is;
    }
