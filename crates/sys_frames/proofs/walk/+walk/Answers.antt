use Rattle.std.proofs.Common.{rules, ◌≡◌, ◌+◌, ◌<◌, ◌∷◌, length, map, drop, ap}
use Rattle.sys_tables.specs.Numbers.{CallHasRoom}
use Rattle.sys_tables.specs.Views.{linked_view, tables_view}
use Rattle.sys_texts.specs.Views.{modes_view, sight_view}
use Rattle.sys_frames.specs.Views.{lists_view}
use Rattle.sys_frames.specs.Walked.{HasRoomWithin, OfCall, lists_within}
use Rattle.sys_frames.proofs.Steps.{all_later, calls_step, dropped}
use Rattle.sys_frames.proofs.walk.+walk.Goals as goal

pub visit_calls-loop-place-preserved : goal.visit_calls-loop-place-preserved
visit_calls-loop-place-preserved t c =
    let l : c.loop-place.place < length c.args.calls.now = search rules in
    let rest : map linked_view (drop c.loop-place.place c.args.calls.now)
    ≡ linked_view c.index-calls-place.result ∷ map linked_view (drop (c.loop-place.place + 1) c.args.calls.now) =
    ap (map linked_view) (dropped c.args.calls.now c.loop-place.place c.index-calls-place.result l c.index-calls-place.is) in
    record {
      made = calls_step (lists_within c.args.depth (tables_view c.args.tables.all.now) c.args.tables.missing) (tables_view c.args.tables.all.now)
          (sight_view c.args.sight.now) (modes_view c.args.modes.now) c.args.from c.loop-place.place (linked_view c.index-calls-place.result) _ _
          (lists_view c.loop-place.lists) (lists_view c.visit_placed.new.lists) _ rest c.in_ok-visit_placed.ensures c.loop-place.invariant.made;
      room = all_later (CallHasRoom c.args.from) _ (linked_view c.index-calls-place.result) _ rest c.loop-place.invariant.room;
      below = all_later (OfCall (HasRoomWithin c.args.depth (tables_view c.args.tables.all.now)) (tables_view c.args.tables.all.now) c.args.from) _
          (linked_view c.index-calls-place.result) _ rest c.loop-place.invariant.below;
    }
