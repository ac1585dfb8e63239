use Rattle.std.proofs.Common.{◌≡◌, drop}
use Rattle.lus_scopes.specs.Least.{least_view, noted_all}
use Rattle.lus_order.specs.ClockCircles.{marked_faults}
use Rattle.lus_order.specs.Streams.{params_view}
use Rattle.lus_order.proofs.clock_circles.note_marked.Given as goal

abbrev pub invariant-loop-param : goal.invariant-loop-param
invariant-loop-param l = record {
  together : l.place ≡ l.param-index;
  rest : noted_all (least_view l.least) (marked_faults (params_view (drop l.param-index l.params)) (drop l.place l.marks))
      ≡ noted_all (least_view l.initial.least) (marked_faults (params_view l.params) l.marks);
}
