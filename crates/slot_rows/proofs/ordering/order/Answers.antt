use Rattle.std.proofs.Common.{◌≤◌, length, map, ap, subst, sym, arith}
use Rattle.std.proofs.lemmas.Bool.{MatchBool-at_false}
use Rattle.slot_sources.specs.Source.{source_view}
use Rattle.slot_rows.specs.SlotReads.{reads_view}
use Rattle.slot_rows.specs.Searching.{Searching, search_view}
use Rattle.slot_rows.proofs.Searched.{starts}
use Rattle.slot_rows.proofs.SlotOrders.{no_order, none_met, whole_order}
use Rattle.slot_rows.proofs.ordering.order.Goals as goal

pub loop-root-init : goal.loop-root-init
loop-root-init c =
    let rows = reads_view c.in_ok-reads.reads in
    none_met rows (search_view c.in_ok-search.search) (subst (Searching rows) (sym c.in_ok-search.ensures) (starts rows c.len.result c.len.ensures))
    (ap (λ s. s.visited) c.in_ok-search.ensures)

pub returns-then-not-branch : goal.returns-then-not-branch
returns-then-not-branch c = no_order (map source_view c.args.sources.now) (reads_view c.in_ok-reads.reads) c.in_ok-reads.ensures
    (MatchBool-at_false _ _ c.if-not-branch.true c.in_ok-visit.ensures)

pub returns : goal.returns
returns c =
    let rows = reads_view c.in_ok-reads.reads in
    let l : length rows ≤ c.loop-root.root = omega (arith, c.loop-root-test.false, c.len-root-end.ensures) in
    whole_order (map source_view c.args.sources.now) rows (search_view c.loop-root.search) c.loop-root.root c.in_ok-reads.ensures c.loop-root.invariant l
