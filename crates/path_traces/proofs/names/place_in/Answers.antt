use Rattle.std.proofs.Common.{arith, rules, ◌≡◌, ◌≤◌, ◌∙◌, length}
use Rattle.lus_streams.specs.Streams.{params_view}
use Rattle.path_traces.specs.Numbered.{place_in}
use Rattle.path_traces.proofs.Indexes.{stream_so, place_within}
use Rattle.path_traces.proofs.names.place_in.Goals as goal

pub returns : goal.returns
returns c =
    let many : c.len.result ≡ length c.args.names.now.params.items = search rules in
    let place : c.place_or.result ≡ place_in (params_view c.args.names.now.params.items) c.args.name.now =
    c.place_or.ensures
    ∙ stream_so c.args.names.now.params.items c.args.name.now _ c.len.result (c.args.names.now.indexed c.args.name.now) many in
    let within : place_in (params_view c.args.names.now.params.items) c.args.name.now ≤ length c.args.names.now.params.items =
    place_within c.args.names.now.params.items c.args.name.now in
    record { place = place; within = omega (arith, place, within) }
