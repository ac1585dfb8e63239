use Rattle.std.proofs.Common.{ℕ, List, length, map, sym, ap, ◌∙◌}
use Rattle.lus_tree.specs.Tree.{Program}
use Rattle.lus_tree.specs.View.{decl_view, program_view}
use Rattle.lus_meaning.proofs.Exists.{length_mapped}
use Rattle.lus_checked.specs.Program.{tree_of}
use Rattle.evaluation_parts.specs.Framed.{orders_view}
use Rattle.evaluation_parts.specs.PartViews.{parts_view}
use Rattle.evaluation_parts.specs.Unfolded.{Declared}
use Rattle.evaluation_parts.specs.Views.{all_view}
use Rattle.sys_tables.specs.Views.{tables_view}
use Rattle.evaluation_turns.specs.Seen.{declared_seen}
use Rattle.evaluation_turns.specs.Sources.{sources_view}
use Rattle.evaluation_turns.specs.Turned.{turn_at}
use Rattle.evaluation_turns.proofs.Whole.{by_all, by_some, made}
use Rattle.evaluation_turns.proofs.turns.in_turn.Goals as goal

pub returns-clause-turn : goal.returns-clause-turn
returns-clause-turn c =
    let q : Program = program_view c.program-program.result.now in
    let all : List Declared = all_view c.deref-3.result.now in
    let d : ℕ = length c.program-program.result.now.decls.items in
    by_some (tree_of c.args.checked.now) c.program-program.ensures.rules (orders_view c.in_ok-orders.orders.items) c.in_ok-orders.ensures c.args.number
    (parts_view c.in_ok-parts.parts.items)
    (made (tree_of c.args.checked.now) q (orders_view c.in_ok-orders.orders.items) (tables_view c.in_ok-known.known.items) all d c.args.number
    (parts_view c.in_ok-parts.parts.items) c.program-program.ensures.same c.in_ok-known.ensures
    (ap all_view c.deref-3.ensures.value ∙ c.in_ok-all.ensures ∙ ap (λ z. map declared_seen (sources_view z)) c.deref-2.ensures.value
    ∙ ap (map declared_seen) (c.in_ok-sources.ensures ∙ ap tables_view c.deref.ensures.value))
    (sym (length_mapped decl_view c.program-program.result.now.decls.items))
    (c.in_ok-parts.ensures ∙ ap (λ z. turn_at q all (orders_view z) d c.args.number) c.deref-4.ensures.value))

pub returns-clause-all : goal.returns-clause-all
returns-clause-all c =
    let q : Program = program_view c.program-program.result.now in
    let all : List Declared = all_view c.deref-3.result.now in
    let d : ℕ = length c.program-program.result.now.decls.items in
    by_all (tree_of c.args.checked.now) c.program-program.ensures.rules (orders_view c.in_ok-orders.orders.items) c.in_ok-orders.ensures c.args.number
    (parts_view c.in_ok-parts.parts.items)
    (made (tree_of c.args.checked.now) q (orders_view c.in_ok-orders.orders.items) (tables_view c.in_ok-known.known.items) all d c.args.number
    (parts_view c.in_ok-parts.parts.items) c.program-program.ensures.same c.in_ok-known.ensures
    (ap all_view c.deref-3.ensures.value ∙ c.in_ok-all.ensures ∙ ap (λ z. map declared_seen (sources_view z)) c.deref-2.ensures.value
    ∙ ap (map declared_seen) (c.in_ok-sources.ensures ∙ ap tables_view c.deref.ensures.value))
    (sym (length_mapped decl_view c.program-program.result.now.decls.items))
    (c.in_ok-parts.ensures ∙ ap (λ z. turn_at q all (orders_view z) d c.args.number) c.deref-4.ensures.value))
