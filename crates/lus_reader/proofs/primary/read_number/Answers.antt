use Rattle.std.proofs.Common.{refl, ◌∙◌}
use Rattle.lus_tree.proofs.Views.{view-Number}
use Rattle.lus_reader.proofs.Exits.{as_found}
use Rattle.lus_reader.proofs.Unaries.{number_read}
use Rattle.lus_reader.proofs.primary.read_number.Goals as goal

pub returns-clause-reads : goal.returns-clause-reads
returns-clause-reads c = as_found c.in_ok-found.field-0 c.args.counts
    (number_read c.requires.here (c.pos_at-pos.ensures c.args.bytes.now) c.number_at.ensures refl) c.in_ok-found.ensures.rest
    (c.in_ok-found.ensures.tree ∙ view-Number _ _)
