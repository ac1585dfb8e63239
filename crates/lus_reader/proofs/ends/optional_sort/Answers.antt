use Rattle.std.proofs.Common.{ap, inl, refl, [], ◌∷◌, Some}
use Rattle.lus_lexer.specs.declared.token.Class.TheVariants as C
use Rattle.lus_lexer.specs.declared.token.Sign.TheVariants as S
use Rattle.lus_tree.specs.declared.place.Sort.{Sort}
use Rattle.lus_grammar.specs.Stream.{stream}
use Rattle.lus_grammar.specs.Starts.{class_code}
use Rattle.lus_grammar.specs.Syntax.{leaf, ◌·◌, absent, present}
use Rattle.lus_grammar.specs.Run.{token, both, second_stop, once, not_once, once_stop}
use Rattle.lus_reader.proofs.Cuts.{next_fits}
use Rattle.lus_reader.proofs.Classes.{not_true, enters_by, passes_one}
use Rattle.lus_reader.proofs.Stops.{at_err, refuses_by}
use Rattle.lus_reader.proofs.ends.optional_sort.Goals as goal

pub returns-then-not-is_at-clause-run : goal.returns-then-not-is_at-clause-run
returns-then-not-is_at-clause-run c = λ n.
    record {
      syntax = absent;
      run = not_once (passes_one (stream c.args.bytes.now c.args.tokens.now) c.args.at (C.Sign S.Colon) refl
          (not_true ((c.if-not-is_at.ensures.when c.args.bytes.now).1)));
      is = refl;
    }

pub overflow_add-at : goal.overflow_add-at
overflow_add-at c = next_fits c.args.bytes.now c.args.tokens.now c.args.at c.requires.cut c.requires.small (c.if-not-is_at.ensures.inside refl)

pub returns-in_err-sort-clause-stop : goal.returns-in_err-sort-clause-stop
returns-in_err-sort-clause-stop c = at_err _ _ _ c.from_residual.ensures.1 (λ n.
    let e = (c.if-not-is_at.ensures.when c.args.bytes.now).0 refl in
    let p = enters_by (stream c.args.bytes.now c.args.tokens.now) c.args.at (C.Sign S.Colon) (class_code (C.Sign S.Colon) ∷ []) refl e in
    refuses_by (λ d k u. once_stop p (second_stop (token (inl e)) u)) (c.in_err-sort.ensures.stop n))

pub returns-clause-run : goal.returns-clause-run
returns-clause-run c = λ n.
    let s = stream c.args.bytes.now c.args.tokens.now in
    let e = (c.if-not-is_at.ensures.when c.args.bytes.now).0 refl in
    let p = enters_by s c.args.at (C.Sign S.Colon) (class_code (C.Sign S.Colon) ∷ []) refl e in
    let q = c.in_ok-sort.ensures.run n in
    record { syntax = present (leaf (s c.args.at) · q.syntax); run = once p (both (token (inl e)) q.run); is = ap (λ (x : Sort). Some x) q.is }
