use Rattle.std.proofs.Common.{refl, [], ◌∷◌}
use Rattle.lus_lexer.specs.declared.token.Class.TheVariants as C
use Rattle.lus_grammar.specs.Stream.{stream}
use Rattle.lus_grammar.specs.Phrase as P
use Rattle.lus_grammar.specs.Starts.{class_code}
use Rattle.lus_grammar.specs.Syntax.{leaf, node, ◌·◌, this, that}
use Rattle.lus_grammar.specs.Run.{line, line_stop, both, first_stop, second_stop, this_one, this_stop, that_one, that_stop}
use Rattle.lus_reader.proofs.Classes.{not_true, enters_by, passes_one}
use Rattle.lus_reader.proofs.Stops.{at_err, refuses_by}
use Rattle.lus_reader.proofs.item.read_left.Goals as goal

pub returns-in_err-names-clause-stop : goal.returns-in_err-names-clause-stop
returns-in_err-names-clause-stop c = at_err _ _ _ c.from_residual.ensures.1 (λ n.
    let e = enters_by (stream c.args.bytes.now c.args.tokens.now) c.args.at C.Ident (class_code C.Ident ∷ []) refl
    ((c.if-is_at.ensures.when c.args.bytes.now).0 refl) in
    refuses_by (λ d k u. line_stop (this_stop e u)) (c.in_err-names.ensures.stop n))

pub returns-then-is_at-clause-run : goal.returns-then-is_at-clause-run
returns-then-is_at-clause-run c = λ n.
    let e = enters_by (stream c.args.bytes.now c.args.tokens.now) c.args.at C.Ident (class_code C.Ident ∷ []) refl
    ((c.if-is_at.ensures.when c.args.bytes.now).0 refl) in
    let r = c.in_ok-names.ensures.run n in
    record { syntax = node P.Left (this r.syntax); run = line (this_one e r.run); is = r.is }

pub returns-in_err-next-clause-stop : goal.returns-in_err-next-clause-stop
returns-in_err-next-clause-stop c = at_err _ _ _ c.from_residual-in_err-next.ensures.1 (λ n.
    let p = passes_one (stream c.args.bytes.now c.args.tokens.now) c.args.at C.Ident refl (not_true ((c.if-is_at.ensures.when c.args.bytes.now).1)) in
    refuses_by (λ d k u. line_stop (that_stop p (first_stop u))) (c.in_err-next.ensures.stop n))

pub returns-in_err-names-2-clause-stop : goal.returns-in_err-names-2-clause-stop
returns-in_err-names-2-clause-stop c = at_err _ _ _ c.from_residual-in_err-names-2.ensures.1 (λ n.
    let p = passes_one (stream c.args.bytes.now c.args.tokens.now) c.args.at C.Ident refl (not_true ((c.if-is_at.ensures.when c.args.bytes.now).1)) in
    refuses_by (λ d k u. line_stop (that_stop p (second_stop (c.in_ok-next.ensures.run n) (first_stop u)))) (c.in_err-names-2.ensures.stop n))

pub returns-in_err-next-2-clause-stop : goal.returns-in_err-next-2-clause-stop
returns-in_err-next-2-clause-stop c = at_err _ _ _ c.from_residual-in_err-next-2.ensures.1 (λ n.
    let p = passes_one (stream c.args.bytes.now c.args.tokens.now) c.args.at C.Ident refl (not_true ((c.if-is_at.ensures.when c.args.bytes.now).1)) in
    let r = c.in_ok-names-2.ensures.run n in
    refuses_by (λ d k u. line_stop (that_stop p (second_stop (c.in_ok-next.ensures.run n) (second_stop r.run u)))) (c.in_err-next-2.ensures.stop n))

pub returns-clause-run : goal.returns-clause-run
returns-clause-run c = λ n.
    let s = stream c.args.bytes.now c.args.tokens.now in
    let p = passes_one s c.args.at C.Ident refl (not_true ((c.if-is_at.ensures.when c.args.bytes.now).1)) in
    let r = c.in_ok-names-2.ensures.run n in
    record {
      syntax = node P.Left (that (leaf (s c.args.at) · r.syntax · leaf (s c.in_ok-names-2.next)));
      run = line (that_one p (both (c.in_ok-next.ensures.run n) (both r.run (c.in_ok-next-2.ensures.run n))));
      is = r.is;
    }
