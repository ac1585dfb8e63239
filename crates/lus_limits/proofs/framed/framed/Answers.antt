use Rattle.std.proofs.Common.{◌≡◌, get_or, is_none, not, ap, ◌∙◌}
use Rattle.lus_tree.specs.View.{program_view}
use Rattle.lus_meaning.specs.ClockFaults.{components}
use Rattle.lus_meaning.specs.Scene.{no_component}
use Rattle.lus_streams.specs.Owner.{owner_view}
use Rattle.lus_limits.specs.Summaries.{cut, own_count}
use Rattle.lus_limits.proofs.LinkedFrames.{frame_is, owner_at}
use Rattle.lus_limits.proofs.Needed.{among}
use Rattle.lus_limits.proofs.framed.framed.Goals as goal

pub returns : goal.returns
returns c =
    let o : owner_view c.index-part.result.now ≡ get_or (components (program_view c.args.program.now)) c.args.number no_component =
    owner_at (program_view c.args.program.now) c.args.table.now c.requires.known c.args.number c.index-part.result.now c.requires.below
    c.index-part.ensures in
    frame_is (program_view c.args.program.now) c.requires.checked (get_or (components (program_view c.args.program.now)) c.args.number no_component)
    (among (components (program_view c.args.program.now)) c.args.number c.requires.below)
    (record { own = c.in_ok-own_cells.field-0; contract = c.has_contract.result; links = c.in_ok-links.links })
    (c.in_ok-own_cells.ensures ∙ ap (λ z. cut (own_count z)) o)
    (c.has_contract.ensures ∙ ap (λ z. not (is_none z.contract)) o)
    c.in_ok-links.ensures
