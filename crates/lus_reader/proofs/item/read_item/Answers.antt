use Rattle.std.proofs.Common.{refl, [], ◌∷◌}
use Rattle.lus_lexer.specs.declared.token.Class.TheVariants as C
use Rattle.lus_lexer.specs.declared.token.Keyword.TheVariants as K
use Rattle.lus_tree.specs.Reason.{refusal_view}
use Rattle.lus_tree.specs.View.{item_view}
use Rattle.lus_grammar.specs.Stream.{stream}
use Rattle.lus_grammar.specs.Starts.{class_code}
use Rattle.lus_reader.specs.View.{counts_view}
use Rattle.lus_reader.proofs.Classes.{not_true, enters_by, passes_one}
use Rattle.lus_reader.proofs.Stops.{if_ok_by, if_err_by}
use Rattle.lus_reader.proofs.Items.{an_equation, no_equation, an_assertion, no_assertion, a_property, no_property, a_main, no_main}
use Rattle.lus_reader.proofs.item.read_item.Goals as goal

pub returns-then-begins_equation-clause-run : goal.returns-then-begins_equation-clause-run
returns-then-begins_equation-clause-run c =
    let s = stream c.args.bytes.now c.args.tokens.now in
    let n = counts_view c.args.counts.now in
    if_ok_by c.equation.result (λ r h. an_equation s c.args.at r.1 n (counts_view c.equation.new.counts) (item_view r.0)
    (c.if-begins_equation.ensures.begins c.args.bytes.now) h) c.equation.ensures.run

pub returns-then-begins_equation-clause-stop : goal.returns-then-begins_equation-clause-stop
returns-then-begins_equation-clause-stop c =
    let s = stream c.args.bytes.now c.args.tokens.now in
    let n = counts_view c.args.counts.now in
    if_err_by c.equation.result (λ e h. no_equation s c.args.at n (refusal_view e) (c.if-begins_equation.ensures.begins c.args.bytes.now) h)
    c.equation.ensures.stop

pub returns-then-is_at-clause-run : goal.returns-then-is_at-clause-run
returns-then-is_at-clause-run c =
    let s = stream c.args.bytes.now c.args.tokens.now in
    let n = counts_view c.args.counts.now in
    let e = enters_by s c.args.at (C.Keyword K.Assert) (class_code (C.Keyword K.Assert) ∷ []) refl ((c.if-is_at.ensures.when c.args.bytes.now).0 refl) in
    if_ok_by c.assertion.result (λ r h. an_assertion s c.args.at r.1 n (counts_view c.assertion.new.counts) (item_view r.0)
    (c.if-begins_equation.ensures.begins c.args.bytes.now) e h) c.assertion.ensures.run

pub returns-then-is_at-clause-stop : goal.returns-then-is_at-clause-stop
returns-then-is_at-clause-stop c =
    let s = stream c.args.bytes.now c.args.tokens.now in
    let n = counts_view c.args.counts.now in
    let e = enters_by s c.args.at (C.Keyword K.Assert) (class_code (C.Keyword K.Assert) ∷ []) refl ((c.if-is_at.ensures.when c.args.bytes.now).0 refl) in
    if_err_by c.assertion.result (λ x h. no_assertion s c.args.at n (refusal_view x)
    (c.if-begins_equation.ensures.begins c.args.bytes.now) e h) c.assertion.ensures.stop

pub returns-then-begins_property-clause-run : goal.returns-then-begins_property-clause-run
returns-then-begins_property-clause-run c =
    let s = stream c.args.bytes.now c.args.tokens.now in
    let n = counts_view c.args.counts.now in
    let p = passes_one s c.args.at (C.Keyword K.Assert) refl (not_true ((c.if-is_at.ensures.when c.args.bytes.now).1)) in
    if_ok_by c.property.result (λ r h. a_property s c.args.at r.1 n (counts_view c.property.new.counts) (item_view r.0)
    (c.if-begins_equation.ensures.begins c.args.bytes.now) p (c.if-begins_property.ensures.begins c.args.bytes.now) h)
    c.property.ensures.run

pub returns-then-begins_property-clause-stop : goal.returns-then-begins_property-clause-stop
returns-then-begins_property-clause-stop c =
    let s = stream c.args.bytes.now c.args.tokens.now in
    let n = counts_view c.args.counts.now in
    let p = passes_one s c.args.at (C.Keyword K.Assert) refl (not_true ((c.if-is_at.ensures.when c.args.bytes.now).1)) in
    if_err_by c.property.result (λ x h. no_property s c.args.at n (refusal_view x) (c.if-begins_equation.ensures.begins c.args.bytes.now) p
    (c.if-begins_property.ensures.begins c.args.bytes.now) h) c.property.ensures.stop

pub returns-clause-run : goal.returns-clause-run
returns-clause-run c =
    let s = stream c.args.bytes.now c.args.tokens.now in
    let n = counts_view c.args.counts.now in
    let p = passes_one s c.args.at (C.Keyword K.Assert) refl (not_true ((c.if-is_at.ensures.when c.args.bytes.now).1)) in
    if_ok_by c.main_mark.result (λ r h. a_main s c.args.at r.1 n n (item_view r.0) (c.if-begins_equation.ensures.begins c.args.bytes.now) p
    (c.if-begins_property.ensures.begins c.args.bytes.now) (h n)) c.main_mark.ensures.run

pub returns-clause-stop : goal.returns-clause-stop
returns-clause-stop c =
    let s = stream c.args.bytes.now c.args.tokens.now in
    let n = counts_view c.args.counts.now in
    let p = passes_one s c.args.at (C.Keyword K.Assert) refl (not_true ((c.if-is_at.ensures.when c.args.bytes.now).1)) in
    if_err_by c.main_mark.result (λ x h. no_main s c.args.at n (refusal_view x) (c.if-begins_equation.ensures.begins c.args.bytes.now) p
    (c.if-begins_property.ensures.begins c.args.bytes.now) (h n)) c.main_mark.ensures.stop
