use Rattle.std.proofs.Common.{refl, ◌∙◌}
use Rattle.lus_tree.proofs.Views.{view-ModeName}
use Rattle.lus_grammar.specs.Phrase.{Primary}
use Rattle.lus_grammar.specs.Stream.{stream}
use Rattle.lus_reader.specs.View.{counts_view}
use Rattle.lus_reader.proofs.Exits.{as_found, failed, here}
use Rattle.lus_reader.proofs.Primaries.{mode_0, mode_1, mode_read, modes_read}
use Rattle.lus_reader.proofs.primary.read_mode_name.Goals as goal

pub returns-in_err-expect_name-clause-reads : goal.returns-in_err-expect_name-clause-reads
returns-in_err-expect_name-clause-reads c =
    failed (stream c.args.bytes.now c.args.tokens.now) Primary c.args.at
    (counts_view c.args.counts) c.from_residual.result c.in_err-expect_name.field-0.0 c.from_residual.ensures.1
    (here (mode_0 c.requires.here)) (c.in_err-expect_name.ensures.expects c.args.bytes.now (counts_view c.args.counts))

pub returns-then-not-is_sign-clause-reads : goal.returns-then-not-is_sign-clause-reads
returns-then-not-is_sign-clause-reads c = as_found c.in_ok-found.field-0 c.args.counts
    (mode_read c.requires.here (c.in_ok-expect_name.ensures.expects c.args.bytes.now) (c.if-not-is_sign.ensures.stands c.args.bytes.now)
    (c.pos_at-pos.ensures c.args.bytes.now) c.in_ok-first.ensures refl) c.in_ok-found.ensures.rest
    (c.in_ok-found.ensures.tree ∙ view-ModeName _ _ _)

pub returns-in_err-expect_name-2-clause-reads : goal.returns-in_err-expect_name-2-clause-reads
returns-in_err-expect_name-2-clause-reads c =
    failed (stream c.args.bytes.now c.args.tokens.now) Primary c.args.at
    (counts_view c.args.counts) c.from_residual-in_err-expect_name-2.result c.in_err-expect_name-2.field-0.0
    c.from_residual-in_err-expect_name-2.ensures.1 (mode_1 c.requires.here (c.in_ok-expect_name.ensures.expects c.args.bytes.now)
    (c.if-not-is_sign.ensures.stands c.args.bytes.now)) (c.in_err-expect_name-2.ensures.expects c.args.bytes.now
    (counts_view c.args.counts))

pub returns-clause-reads : goal.returns-clause-reads
returns-clause-reads c = as_found c.in_ok-found-2.field-0 c.args.counts
    (modes_read c.requires.here (c.in_ok-expect_name.ensures.expects c.args.bytes.now) (c.if-not-is_sign.ensures.stands c.args.bytes.now)
    (c.in_ok-expect_name-2.ensures.expects c.args.bytes.now) (c.pos_at-pos.ensures c.args.bytes.now) c.in_ok-first.ensures
    c.in_ok-mode.ensures refl) c.in_ok-found-2.ensures.rest (c.in_ok-found-2.ensures.tree ∙ view-ModeName _ _ _)
