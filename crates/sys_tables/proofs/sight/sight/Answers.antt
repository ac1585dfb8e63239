use Rattle.std.proofs.Common.{map, option_map}
use Rattle.sys_parts.specs.Constants.{constant_view}
use Rattle.sys_texts.specs.Sights.{Sight}
use Rattle.sys_texts.specs.Views.{by_name, call_view, stream_view}
use Rattle.sys_tables.specs.Numbers.{sight_at}
use Rattle.sys_tables.specs.Views.{table_view}
use Rattle.sys_tables.proofs.Sighted.{sights_same}
use Rattle.sys_tables.proofs.sight.sight.Goals as goal

pub returns : goal.returns
returns c =
    let t : Sight = sight_at (table_view c.args.table.now) c.args.way c.args.base c.args.missing in
    sights_same c.args.base c.args.missing c.stream_count-bound.result t.streams
    (λ x. option_map constant_view (by_name c.in_ok-constants.constants x)) t.constant
    (λ x. option_map stream_view (by_name c.in_ok-streams.streams x)) t.stream c.in_ok-memories.memories.items t.memories
    c.in_ok-starts.starts.items t.starts (map call_view c.in_ok-calls.calls.items) t.calls c.stream_count-bound.ensures c.in_ok-constants.ensures
    c.in_ok-streams.ensures c.in_ok-memories.ensures c.in_ok-starts.ensures c.in_ok-calls.ensures
