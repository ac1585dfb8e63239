use Rattle.std.proofs.Common.{ap, ◌∙◌}
use Rattle.lus_meaning.specs.Scene.{ghosts}
use Rattle.lus_limits.specs.Measured.{size_view}
use Rattle.lus_limits.specs.OwnTerms.{free_terms}
use Rattle.lus_limits.specs.Peaks.{greater}
use Rattle.lus_limits.specs.SizeCuts.{cut_term}
use Rattle.lus_streams.specs.Names.{names_view}
use Rattle.lus_limits.proofs.Frames.{free_by_kind}
use Rattle.lus_limits.proofs.frame_size.all_free.Goals as goal

pub returns : goal.returns
returns c =
    c.greater-3.ensures
    ∙ ap (greater (size_view c.free_terms-inputs.result)) (c.greater-2.ensures
    ∙ ap (greater (size_view c.free_terms-outputs.result)) c.greater.ensures)
    ∙ free_by_kind c.args.known.now (names_view c.args.names) _ _ _ _
    (c.free_terms-inputs.ensures ∙ ap (λ vs. cut_term (free_terms c.args.known.now (names_view c.args.names) vs)) c.inputs.ensures)
    (c.free_terms-outputs.ensures ∙ ap (λ vs. cut_term (free_terms c.args.known.now (names_view c.args.names) vs)) c.outputs.ensures)
    (c.free_terms-locals.ensures ∙ ap (λ vs. cut_term (free_terms c.args.known.now (names_view c.args.names) vs)) c.locals.ensures)
    (c.free_ghosts-ghosts.ensures ∙ ap (λ cs. cut_term (free_terms c.args.known.now (names_view c.args.names) (ghosts cs))) c.contract.ensures)
