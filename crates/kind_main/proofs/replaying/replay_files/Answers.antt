use Rattle.lus_checked.specs.Program.{tree_of}
use Rattle.lus_meaning.specs.TraceView.{trace_view}
use Rattle.kind_main.proofs.Answering.{stop_as, handed_on, held_source, bad_source, no_trace, bad_trace, replay_ends}
use Rattle.kind_main.proofs.replaying.replay_files.Goals as goal

pub returns-in_err-checked-clause-ended : goal.returns-in_err-checked-clause-ended
returns-in_err-checked-clause-ended g c =
    let held = c.in_ok-bytes.ensures.fetched in
    let stopped = rw c.deref.ensures.value at c.in_err-checked.ensures in
    handed_on _ _ _ c.from_residual-in_err-checked.ensures.1
    (stop_as _ _ (bad_source (g.H.Shelf.told c.args.shelf.now) _ _ c.args.source.now c.args.trace.now c.in_ok-bytes.bytes.items held.0 held.1) _ stopped)

pub returns-in_err-bytes-2-clause-ended : goal.returns-in_err-bytes-2-clause-ended
returns-in_err-bytes-2-clause-ended g c =
    let held = c.in_ok-bytes.ensures.fetched in
    let read = rw c.deref.ensures.value at c.in_ok-checked.ensures in
    handed_on _ _ _ c.from_residual-in_err-bytes-2.ensures.1
    (stop_as _ _ (no_trace (g.H.Shelf.told c.args.shelf.now) _ _ c.args.source.now c.args.trace.now (tree_of c.in_ok-checked.checked)
    (held_source _ (tree_of c.in_ok-checked.checked) c.in_ok-bytes.bytes.items held.0 held.1 read.0 read.1)
    _ c.in_ok-bytes.ensures.later _ (c.in_ok-bytes.ensures.names c.args.trace.now)) _ c.in_err-bytes-2.ensures.fetched)

pub returns-in_err-trace-clause-ended : goal.returns-in_err-trace-clause-ended
returns-in_err-trace-clause-ended g c =
    let held = c.in_ok-bytes.ensures.fetched in
    let read = rw c.deref.ensures.value at c.in_ok-checked.ensures in
    let listed = c.in_ok-bytes-2.ensures.fetched in
    let stopped = rw c.deref-2.ensures.value at c.in_err-trace.ensures in
    handed_on _ _ _ c.from_residual-in_err-trace.ensures.1
    (stop_as _ _ (bad_trace (g.H.Shelf.told c.args.shelf.now) _ _ c.args.source.now c.args.trace.now (tree_of c.in_ok-checked.checked)
    (held_source _ (tree_of c.in_ok-checked.checked) c.in_ok-bytes.bytes.items held.0 held.1 read.0 read.1)
    _ (c.in_ok-bytes.ensures.names c.args.trace.now) c.in_ok-bytes-2.bytes.items listed.0 listed.1) _ stopped)

pub returns-clause-ended : goal.returns-clause-ended
returns-clause-ended g c =
    let held = c.in_ok-bytes.ensures.fetched in
    let read = rw c.deref.ensures.value at c.in_ok-checked.ensures in
    let listed = c.in_ok-bytes-2.ensures.fetched in
    let text = rw c.deref-2.ensures.value at c.in_ok-trace.ensures in
    replay_ends (g.H.Shelf.told c.args.shelf.now) (g.H.Shelf.faults c.args.shelf.now)
    (g.H.Shelf.faults c.fetch-2.new.shelf) c.args.source.now c.args.trace.now (tree_of c.in_ok-checked.checked)
    (held_source _ (tree_of c.in_ok-checked.checked) c.in_ok-bytes.bytes.items held.0 held.1 read.0 read.1)
    _ (c.in_ok-bytes.ensures.names c.args.trace.now) c.in_ok-bytes-2.bytes.items listed.0 listed.1
    (trace_view c.in_ok-trace.trace) text _ c.replay_report.ensures
