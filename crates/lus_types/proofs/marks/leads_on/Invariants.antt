use Rattle.std.proofs.Common.{◌≡◌, drop, map}
use Rattle.lus_types.specs.Marks.{is_marked, leads_on, link_view}
use Rattle.lus_types.proofs.marks.leads_on.Given as goal

abbrev pub invariant-loop-link : goal.invariant-loop-link
invariant-loop-link l = leads_on (is_marked l.marks) (map link_view (drop l.link-index l.links)) ≡ leads_on (is_marked l.marks) (map link_view l.links)
