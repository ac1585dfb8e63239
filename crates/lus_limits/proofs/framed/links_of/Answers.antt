use Rattle.std.proofs.Common.{length, map, ap, ◌∙◌}
use Rattle.lus_tree.specs.View.{program_view}
use Rattle.lus_meaning.specs.Program.{all_sites}
use Rattle.lus_streams.specs.Owner.{owner_view}
use Rattle.lus_limits.specs.Calls.{call_view, called_of}
use Rattle.lus_limits.proofs.LinkedFrames.{links_right, links_there, many_known, many_parts, owner_at}
use Rattle.lus_limits.proofs.framed.links_of.Goals as goal

pub links-requires : goal.links-requires
links-requires c = record {
  known = ap length c.deref-2.ensures.value ∙ many_known (program_view c.args.program.now) c.args.table.now c.requires.known;
  parts = ap length c.deref.ensures.value ∙ many_parts (program_view c.args.program.now) c.args.table.now c.requires.known;
}

pub unwrap-requires : goal.unwrap-requires
unwrap-requires c =
    links_there (program_view c.args.program.now) c.requires.checked c.args.table.now.known.items c.requires.known.known c.args.number c.requires.below _
    c.args.table.now.names (map call_view c.deref-3.result.now) c.in_ok-links.links c.requires.known.names
    (ap (map call_view) c.deref-3.ensures.value ∙ c.in_ok-calls.ensures
    ∙ ap (λ z. map called_of (all_sites z))
    (owner_at (program_view c.args.program.now) c.args.table.now c.requires.known c.args.number c.index.result.now c.requires.below c.index.ensures))
    (rw c.deref-2.ensures.value at c.in_ok-links.ensures)

pub returns : goal.returns
returns c =
    let h = rw c.unwrap.ensures at c.in_ok-links.ensures in
    let r = rw c.deref-2.ensures.value at h in
    r.1 ∙ links_right (program_view c.args.program.now) c.requires.checked c.args.table.now.known.items c.requires.known.known c.args.number
    c.requires.below c.args.table.now.names (map owner_view c.deref.result.now) (map call_view c.deref-3.result.now) c.requires.known.names
    (ap (map owner_view) c.deref.ensures.value ∙ c.requires.known.parts)
    (ap (map call_view) c.deref-3.ensures.value ∙ c.in_ok-calls.ensures
    ∙ ap (λ z. map called_of (all_sites z))
    (owner_at (program_view c.args.program.now) c.args.table.now c.requires.known c.args.number c.index.result.now c.requires.below c.index.ensures))
