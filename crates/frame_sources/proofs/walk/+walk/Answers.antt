use Rattle.std.proofs.Common.{rules, ◌≡◌, ◌+◌, ◌<◌, ◌∷◌, ◌++◌, OnOk, length, map, drop, ap, ◌∙◌, subst}
use Rattle.sys_frames.specs.Walked.{HasRoomWithin, OfCall}
use Rattle.sys_frames.proofs.Steps.{all_later, dropped}
use Rattle.slot_sources.specs.Source.{source_view}
use Rattle.sys_tables.specs.Numbers.{CallHasRoom, behind_own}
use Rattle.sys_tables.specs.Views.{linked_view, table_view, tables_view}
use Rattle.sys_texts.specs.Views.{sight_view}
use Rattle.frame_sources.specs.Views.{all_asked_view, sources_view}
use Rattle.frame_sources.specs.Walked.{modes_seen, sources_seen, sources_within}
use Rattle.frame_sources.proofs.Steps.{calls_step}
use Rattle.frame_sources.proofs.walk.+walk.Goals as goal

pub visit_calls-loop-place-preserved : goal.visit_calls-loop-place-preserved
visit_calls-loop-place-preserved t c =
    let l : c.loop-place.place < length c.args.calls.now = search rules in
    let rest : map linked_view (drop c.loop-place.place c.args.calls.now)
    ≡ linked_view c.index-calls-place.result ∷ map linked_view (drop (c.loop-place.place + 1) c.args.calls.now) =
    ap (map linked_view) (dropped c.args.calls.now c.loop-place.place c.index-calls-place.result l c.index-calls-place.is) in
    record {
      made = calls_step (sources_within c.args.depth (tables_view c.args.tables.all.now) c.args.tables.missing) (tables_view c.args.tables.all.now)
          (sight_view c.args.sight.now) (all_asked_view c.args.modes.now) c.args.from c.loop-place.place (linked_view c.index-calls-place.result) _ _
          (sources_view c.loop-place.sources.items) (sources_view c.visit_placed.new.sources.items) _ rest c.in_ok-visit_placed.ensures c.loop-place.invariant.made;
      room = all_later (CallHasRoom c.args.from) _ (linked_view c.index-calls-place.result) _ rest c.loop-place.invariant.room;
      below = all_later (OfCall (HasRoomWithin c.args.depth (tables_view c.args.tables.all.now)) (tables_view c.args.tables.all.now) c.args.from) _
          (linked_view c.index-calls-place.result) _ rest c.loop-place.invariant.below;
    }

pub visit_frame-returns : goal.visit_frame-returns
visit_frame-returns t c =
    let modes : all_asked_view c.deref.result.now ≡ modes_seen c.args.depth (tables_view c.args.tables.all.now) c.args.tables.missing (table_view c.args.table.now)
    (sight_view c.in_ok-sight.sight) (behind_own c.args.way (table_view c.args.table.now) c.args.base) =
    ap all_asked_view c.deref.ensures.value
    ∙ (c.in_ok-modes.ensures ∙ ap (modes_seen c.args.depth (tables_view c.args.tables.all.now) c.args.tables.missing (table_view c.args.table.now)
    (sight_view c.in_ok-sight.sight)) c.behind_own.ensures) in
    subst (λ y. OnOk c.visit_seen.result (sources_view c.visit_seen.new.sources.items ≡ sources_view c.args.sources.now.items ++ y))
    (ap (λ k. sources_seen c.args.depth (tables_view c.args.tables.all.now) c.args.tables.missing (table_view c.args.table.now)
    (sight_view c.in_ok-sight.sight) k c.args.way c.args.base (source_view c.args.active) (sources_view c.args.from_caller.items)) modes
    ∙ ap (λ s. sources_seen c.args.depth (tables_view c.args.tables.all.now) c.args.tables.missing (table_view c.args.table.now) s
    (modes_seen c.args.depth (tables_view c.args.tables.all.now) c.args.tables.missing (table_view c.args.table.now) s
    (behind_own c.args.way (table_view c.args.table.now) c.args.base)) c.args.way c.args.base (source_view c.args.active) (sources_view c.args.from_caller.items))
    c.in_ok-sight.ensures)
    c.visit_seen.ensures
