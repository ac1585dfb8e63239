use Rattle.std.proofs.Common.{rules, ◌≡◌, map}
use Rattle.lus_meaning.specs.TraceView.{entry_view, spot_view}
use Rattle.path_traces.proofs.Bare.{line_bare}
use Rattle.path_traces.proofs.lines.line.Goals as goal

pub returns : goal.returns
returns c =
    let e : c.in_ok-way.way.items ≡ c.args.path.now = search rules in
    line_bare _ c.args.path.now c.in_ok-way.way.items (spot_view c.args.what) (map entry_view c.args.values.now) c.unplaced.result e c.unplaced.ensures
