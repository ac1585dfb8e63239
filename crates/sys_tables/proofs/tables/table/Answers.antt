use Rattle.std.proofs.Common.{ap, ◌∙◌, map}
use Rattle.lus_tree.specs.Tree.{Component}
use Rattle.lus_meaning.specs.Occurrences.{memories, starts}
use Rattle.lus_meaning.specs.Program.{all_sites, in_order}
use Rattle.lus_streams.specs.Owner.{owner_view}
use Rattle.lus_layouts.specs.Layouts.{layout_view}
use Rattle.sys_conditions.specs.Views.{memory_view, start_view}
use Rattle.sys_occurrences.specs.Views.{site_view}
use Rattle.sys_tables.specs.Known.{values_seen}
use Rattle.sys_tables.specs.Made.{all_linked_by, table_by}
use Rattle.sys_tables.specs.Tabled.{Tabled}
use Rattle.sys_tables.specs.Views.{fixed_view, linked_view, named_view}
use Rattle.sys_tables.proofs.Joined.{tables_same}
use Rattle.sys_tables.proofs.tables.table.Goals as goal

pub returns : goal.returns
returns c =
    let n : Component = owner_view c.args.owner in
    let ps = map owner_view c.args.parts.now in
    let t : Tabled = table_by c.args.names.now ps (map fixed_view c.args.outer.now) n (layout_view c.args.layout.now) in
    tables_same n (values_seen c.in_ok-known.known) t.constants (map named_view c.in_ok-streams_of.field-0.items) t.streams
    (map memory_view c.in_ok-memories_of.field-0.items) t.memories (map start_view c.in_ok-starts_of.field-0.items) t.starts
    (map linked_view c.in_ok-calls.calls.items) t.calls (layout_view c.in_ok-copied.field-0) t.layout c.has_contract.result t.contract
    c.in_ok-known.ensures.values c.in_ok-streams_of.ensures
    (c.in_ok-memories_of.ensures ∙ ap (λ (z : Component). in_order (λ m. m.number) (memories z)) c.with_streams-own.ensures)
    (c.in_ok-starts_of.ensures ∙ ap (λ (z : Component). in_order (λ a. a.number) (starts z)) c.with_streams-own.ensures)
    (c.in_ok-calls.ensures
    ∙ ap (λ z. all_linked_by c.args.names.now ps (values_seen c.in_ok-known.known) (map site_view z) c.deref-2.result.now) c.deref.ensures.value
    ∙ ap (λ z. all_linked_by c.args.names.now ps (values_seen c.in_ok-known.known) z c.deref-2.result.now)
    (c.in_ok-sites.ensures ∙ ap all_sites c.with_streams-own.ensures)
    ∙ ap (λ z. all_linked_by c.args.names.now ps (values_seen c.in_ok-known.known) (all_sites n) z) c.deref-2.ensures.value
    ∙ ap (λ z. all_linked_by c.args.names.now ps z (all_sites n) c.args.layout.now.calls.items) c.in_ok-known.ensures.values)
    c.in_ok-copied.ensures c.has_contract.ensures
