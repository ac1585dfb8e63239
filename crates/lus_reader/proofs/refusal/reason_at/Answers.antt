use Rattle.std.proofs.Common.{inr, sym, ◌∙◌}
use Rattle.lus_grammar.specs.Source.{word_left_out, other}
use Rattle.lus_reader.proofs.Operands.{left_out_word, not_left_out}
use Rattle.lus_reader.proofs.refusal.reason_at.Goals as goal

pub returns-then-not-is_left_out : goal.returns-then-not-is_left_out
returns-then-not-is_left_out c = inr (other (λ w e. not_left_out c.class_at.result (sym c.if-not-is_left_out.ensures) w
    (sym (c.class_at.ensures.class c.args.bytes.now) ∙ e)))

pub returns-in-Ok : goal.returns-in-Ok
returns-in-Ok c =
    let w = left_out_word c.class_at.result (sym c.if-not-is_left_out.ensures) in
    inr (rw c.in-Ok.ensures (word_left_out w.0 (c.class_at.ensures.class c.args.bytes.now ∙ w.1)))
