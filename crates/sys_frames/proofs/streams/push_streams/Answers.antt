use Rattle.std.proofs.Common.{rules, ◌≡◌, ◌++◌, ◌+◌, ◌<◌, ◌∷◌, length, map, drop, ap, ◌∙◌}
use Rattle.sys_parts.specs.Parts.{part_view}
use Rattle.sys_tables.specs.Views.{named_view}
use Rattle.sys_terms.specs.View.{terms_view}
use Rattle.sys_texts.specs.Views.{modes_view, sight_view}
use Rattle.sys_frames.specs.Streams.{stream_here}
use Rattle.sys_frames.proofs.Steps.{dropped}
use Rattle.sys_frames.proofs.Taken.{first_dropped, streams_step}
use Rattle.sys_frames.proofs.streams.push_streams.Goals as goal

pub loop-place-preserved : goal.loop-place-preserved
loop-place-preserved c =
    let l : c.loop-place.place < length c.args.streams.now = search rules in
    let rest : map named_view (drop c.loop-place.place c.args.streams.now)
    ≡ named_view c.index-streams-place.result ∷ map named_view (drop (c.loop-place.place + 1) c.args.streams.now) =
    ap (map named_view) (dropped c.args.streams.now c.loop-place.place c.index-streams-place.result l c.index-streams-place.is) in
    streams_step (sight_view c.args.sight.now) (modes_view c.args.modes.now) (map part_view c.args.given.now) c.loop-place.place
    (named_view c.index-streams-place.result) (map named_view (drop c.loop-place.place c.args.streams.now))
    (map named_view (drop (c.loop-place.place + 1) c.args.streams.now)) (terms_view c.loop-place.formulas.items) (terms_view c.push_stream.new.formulas.items)
    _ rest
    (c.in_ok-push_stream.ensures
    ∙ ap (λ o. terms_view c.loop-place.formulas.items
    ++ stream_here (sight_view c.args.sight.now) (modes_view c.args.modes.now) (named_view c.index-streams-place.result) o)
    (c.part_at.ensures ∙ first_dropped (map part_view c.args.given.now) c.loop-place.place))
    c.loop-place.invariant
