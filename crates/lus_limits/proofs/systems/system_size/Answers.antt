use Rattle.std.proofs.Common.{arith, ◌≡◌, ◌<◌, length, map, get_or, None, Some, sym, ap, ◌∙◌}
use Rattle.lus_tree.specs.View.{program_view}
use Rattle.lus_meaning.specs.ClockFaults.{components}
use Rattle.lus_meaning.specs.Program.{all_sites}
use Rattle.lus_meaning.specs.Scene.{no_component}
use Rattle.lus_limits.specs.Calls.{called_of}
use Rattle.lus_limits.specs.Contracted.{summary_seen}
use Rattle.lus_limits.specs.Measured.{size_view}
use Rattle.lus_limits.specs.Needed.{names_of}
use Rattle.lus_limits.specs.Nodes.{node_terms}
use Rattle.lus_limits.specs.SizeCuts.{cut_term}
use Rattle.lus_streams.specs.Owner.{owner_view}
use Rattle.lus_limits.proofs.Needed.{many_mapped, many_named, same_length}
use Rattle.lus_limits.proofs.SystemSizes.{owner_is, size_is}
use Rattle.lus_limits.proofs.systems.system_size.Goals as goal

pub terms-requires : goal.terms-requires
terms-requires c =
    same_length (program_view c.args.program.now) (components (program_view c.args.program.now)) c.args.table.now.known.items c.requires.known.known.right
    ∙ sym (many_named (components (program_view c.args.program.now))) ∙ ap length (sym c.requires.known.names)

pub returns : goal.returns
returns c =
    let e : get_or c.args.table.now.known.items c.args.number None ≡ Some c.unwrap-needs.result.now =
    (let r = rw c.unwrap-needs.ensures at c.needs_at.ensures in rw c.deref.ensures.value at r.1) in
    let m : length (map owner_view c.args.table.now.parts.items) ≡ length c.args.table.now.parts.items =
    many_mapped owner_view c.args.table.now.parts.items in
    let l : c.args.number < length c.args.table.now.parts.items = omega (arith, c.requires.below, m, ap length c.requires.known.parts) in
    let o : owner_view c.index.result.now ≡ get_or (components (program_view c.args.program.now)) c.args.number no_component =
    owner_is (program_view c.args.program.now) c.args.table.now.parts.items c.args.number c.index.result.now c.requires.known.parts l c.index.ensures in
    size_is (program_view c.args.program.now) c.requires.checked c.args.table.now.known.items c.requires.known.known c.args.number c.requires.below
    c.unwrap-needs.result.now e c.variables.result c.variables.ensures (size_view c.in_ok-terms.terms)
    (c.in_ok-terms.ensures
    ∙ ap (λ z. cut_term (node_terms z c.args.table.now.known.items (map called_of (all_sites (owner_view c.index.result.now)))
    (owner_view c.index.result.now) (summary_seen c.unwrap-needs.result.now.sizes))) c.requires.known.names
    ∙ ap (λ z. cut_term (node_terms (names_of (program_view c.args.program.now)) c.args.table.now.known.items (map called_of (all_sites z)) z
    (summary_seen c.unwrap-needs.result.now.sizes))) o)
