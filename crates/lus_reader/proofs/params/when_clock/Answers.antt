use Rattle.std.proofs.Common.{inl, refl, ap, Some, true, false, [], ◌∷◌, ◌+◌}
use Rattle.lus_lexer.specs.declared.token.Class.TheVariants as C
use Rattle.lus_lexer.specs.declared.token.Keyword.TheVariants as K
use Rattle.lus_tree.specs.Tree.{Spelled}
use Rattle.lus_grammar.specs.Stream.{stream}
use Rattle.lus_grammar.specs.Starts.{class_code}
use Rattle.lus_grammar.specs.Syntax.{leaf, present, absent, ◌·◌}
use Rattle.lus_grammar.specs.Run.{token, both, second_stop, once, not_once, once_stop}
use Rattle.lus_reader.proofs.Cuts.{next_fits}
use Rattle.lus_reader.proofs.Classes.{not_true, enters_by, passes_one}
use Rattle.lus_reader.proofs.Stops.{at_err, refuses_by}
use Rattle.lus_reader.proofs.params.when_clock.Goals as goal

pub returns-then-not-is_at-clause-run : goal.returns-then-not-is_at-clause-run
returns-then-not-is_at-clause-run c = λ n.
    record {
      syntax = absent;
      run = not_once (passes_one (stream c.args.bytes.now c.args.tokens.now) c.args.at (C.Keyword K.When) refl
          (not_true ((c.if-not-is_at.ensures.when c.args.bytes.now).1)));
      is = refl;
    }

pub overflow_add-first : goal.overflow_add-first
overflow_add-first c = next_fits c.args.bytes.now c.args.tokens.now c.args.at c.requires.cut c.requires.small (c.if-not-is_at.ensures.inside refl)

pub overflow_add-first-then-is_at : goal.overflow_add-first-then-is_at
overflow_add-first-then-is_at c = next_fits c.args.bytes.now c.args.tokens.now (c.args.at + 1) c.requires.cut c.requires.small (c.if-is_at.ensures.inside refl)

pub returns-in_err-name-clause-stop : goal.returns-in_err-name-clause-stop
returns-in_err-name-clause-stop c = at_err _ _ _ c.from_residual.ensures.1 (λ n.
    let s = stream c.args.bytes.now c.args.tokens.now in
    let e = (c.if-not-is_at.ensures.when c.args.bytes.now).0 refl in
    let f = (c.if-is_at.ensures.when c.args.bytes.now).0 refl in
    refuses_by (λ d k u. once_stop (enters_by s c.args.at (C.Keyword K.When) (class_code (C.Keyword K.When) ∷ []) refl e)
    (second_stop (token (inl e)) (second_stop (once (enters_by s (c.args.at + 1) (C.Keyword K.Not)
    (class_code (C.Keyword K.Not) ∷ []) refl f) (token (inl f))) u))) (c.in_err-name.ensures.stop n))

pub returns-then-is_at-clause-run : goal.returns-then-is_at-clause-run
returns-then-is_at-clause-run c = λ n.
    let s = stream c.args.bytes.now c.args.tokens.now in
    let e = (c.if-not-is_at.ensures.when c.args.bytes.now).0 refl in
    let f = (c.if-is_at.ensures.when c.args.bytes.now).0 refl in
    record {
      syntax = present (leaf (s c.args.at) · present (leaf (s (c.args.at + 1))) · leaf (s (c.args.at + 1 + 1)));
      run = once (enters_by s c.args.at (C.Keyword K.When) (class_code (C.Keyword K.When) ∷ []) refl e)
          (both (token (inl e)) (both (once (enters_by s (c.args.at + 1) (C.Keyword K.Not) (class_code (C.Keyword K.Not) ∷ []) refl f)
          (token (inl f))) (c.in_ok-name.ensures.run n)));
      is = ap (λ (x : Spelled). Some (false, x)) c.in_ok-name.ensures.word;
    }

pub returns-in_err-name-2-clause-stop : goal.returns-in_err-name-2-clause-stop
returns-in_err-name-2-clause-stop c = at_err _ _ _ c.from_residual-in_err-name-2.ensures.1 (λ n.
    let s = stream c.args.bytes.now c.args.tokens.now in
    let e = (c.if-not-is_at.ensures.when c.args.bytes.now).0 refl in
    refuses_by (λ d k u. once_stop (enters_by s c.args.at (C.Keyword K.When) (class_code (C.Keyword K.When) ∷ []) refl e)
    (second_stop (token (inl e)) (second_stop (not_once (passes_one s (c.args.at + 1) (C.Keyword K.Not) refl
    (not_true ((c.if-is_at.ensures.when c.args.bytes.now).1)))) u))) (c.in_err-name-2.ensures.stop n))

pub returns-clause-run : goal.returns-clause-run
returns-clause-run c = λ n.
    let s = stream c.args.bytes.now c.args.tokens.now in
    let e = (c.if-not-is_at.ensures.when c.args.bytes.now).0 refl in
    record {
      syntax = present (leaf (s c.args.at) · absent · leaf (s (c.args.at + 1)));
      run = once (enters_by s c.args.at (C.Keyword K.When) (class_code (C.Keyword K.When) ∷ []) refl e)
          (both (token (inl e)) (both (not_once (passes_one s (c.args.at + 1) (C.Keyword K.Not) refl
          (not_true ((c.if-is_at.ensures.when c.args.bytes.now).1)))) (c.in_ok-name-2.ensures.run n)));
      is = ap (λ (x : Spelled). Some (true, x)) c.in_ok-name-2.ensures.word;
    }
