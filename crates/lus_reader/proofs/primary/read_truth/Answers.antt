use Rattle.std.proofs.Common.{refl, ◌∙◌}
use Rattle.lus_tree.proofs.Views.{view-Truth}
use Rattle.lus_reader.proofs.Exits.{as_found}
use Rattle.lus_reader.proofs.Unaries.{truth_read}
use Rattle.lus_reader.proofs.primary.read_truth.Goals as goal

pub returns-clause-reads : goal.returns-clause-reads
returns-clause-reads c = λ bytes. as_found c.in_ok-found.field-0 c.args.counts
    (truth_read c.args.value (c.requires.here bytes) (c.pos_at-pos.ensures bytes) refl) c.in_ok-found.ensures.rest
    (c.in_ok-found.ensures.tree ∙ view-Truth _ _)
