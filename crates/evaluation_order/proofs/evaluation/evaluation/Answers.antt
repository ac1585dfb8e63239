use Rattle.std.proofs.Common.{◌≡◌, ◌∙◌, List, ap, length, map, sym}
use Rattle.lus_tree.specs.Tree.{Program}
use Rattle.lus_tree.specs.View.{decl_view, program_view}
use Rattle.lus_meaning.proofs.Exists.{length_mapped}
use Rattle.lus_checked.specs.Program.{tree_of}
use Rattle.lus_evaluation.specs.Part.{Part}
use Rattle.evaluation_parts.specs.PartViews.{parts_view}
use Rattle.evaluation_parts.specs.Unfolded.{Declared}
use Rattle.evaluation_parts.specs.Views.{all_view}
use Rattle.sys_tables.specs.Views.{tables_view}
use Rattle.evaluation_turns.specs.Seen.{declared_seen}
use Rattle.evaluation_turns.specs.Sources.{sources_view}
use Rattle.evaluation_order.specs.Ordered.{AreStuck, IsOrdered}
use Rattle.evaluation_order.proofs.Evaluated.{found, never, of_made}
use Rattle.evaluation_order.proofs.evaluation.evaluation.Goals as goal

pub returns : goal.returns
returns c =
    let p : Program = tree_of c.args.checked.now in
    let q : Program = program_view c.program-program.result.now in
    let all : List Declared = all_view c.deref-3.result.now in
    let qs : List Part = parts_view c.in_ok-turn.turn.items in
    let rs : List Part = parts_view c.in-Some.parts.items in
    let same : parts_view c.deref-4.result.now ≡ qs = ap parts_view c.deref-4.ensures.value in
    found p c.args.number qs rs c.in_ok-turn.ensures.turn
    (of_made p c.args.number (λ i. IsOrdered i qs rs) q (tables_view c.in_ok-known.known.items) all (length c.program-program.result.now.decls.items)
    c.program-program.ensures.same c.in_ok-known.ensures
    (ap all_view c.deref-3.ensures.value ∙ c.in_ok-all.ensures ∙ ap (λ z. map declared_seen (sources_view z)) c.deref-2.ensures.value
    ∙ ap (map declared_seen) (c.in_ok-sources.ensures ∙ ap tables_view c.deref.ensures.value))
    (sym (length_mapped decl_view c.program-program.result.now.decls.items))
    (rw (c.in-Some.is, same) at c.in_ok-ordered.ensures))

pub unreachable-requires : goal.unreachable-requires
unreachable-requires c =
    let p : Program = tree_of c.args.checked.now in
    let q : Program = program_view c.program-program.result.now in
    let all : List Declared = all_view c.deref-3.result.now in
    let qs : List Part = parts_view c.in_ok-turn.turn.items in
    let same : parts_view c.deref-4.result.now ≡ qs = ap parts_view c.deref-4.ensures.value in
    never p c.args.number qs c.program-program.ensures.rules c.requires c.in_ok-turn.ensures.all
    (of_made p c.args.number (λ i. AreStuck i qs) q (tables_view c.in_ok-known.known.items) all (length c.program-program.result.now.decls.items)
    c.program-program.ensures.same c.in_ok-known.ensures
    (ap all_view c.deref-3.ensures.value ∙ c.in_ok-all.ensures ∙ ap (λ z. map declared_seen (sources_view z)) c.deref-2.ensures.value
    ∙ ap (map declared_seen) (c.in_ok-sources.ensures ∙ ap tables_view c.deref.ensures.value))
    (sym (length_mapped decl_view c.program-program.result.now.decls.items))
    (rw (c.in-None.is, same) at c.in_ok-ordered.ensures))
