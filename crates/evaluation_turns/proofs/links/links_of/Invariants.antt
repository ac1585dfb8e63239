use Rattle.std.proofs.Common.{◌≡◌, ◌++◌, map, drop}
use Rattle.sys_tables.specs.Views.{linked_view}
use Rattle.evaluation_parts.specs.Views.{links_view}
use Rattle.evaluation_turns.specs.Seen.{link_seen}
use Rattle.evaluation_turns.proofs.links.links_of.Given as goal

abbrev pub invariant-loop-linked : goal.invariant-loop-linked
invariant-loop-linked l = links_view l.links.items ++ map link_seen (map linked_view (drop l.linked-index l.calls))
    ≡ map link_seen (map linked_view l.calls)
