use Rattle.std.proofs.Common.{◌≤◌, length, get_or, refl, arith}
use Rattle.slot_rows.specs.SlotReads.{reads_view}
use Rattle.slot_rows.specs.Searching.{search_view}
use Rattle.slot_rows.proofs.Searched.{advanced, finished}
use Rattle.slot_rows.proofs.search.Search.advance.Goals as goal

pub returns-then-place-row : goal.returns-then-place-row
returns-then-place-row c =
    let row = c.row-row.result.now in
    let p = rw c.deref.ensures.value at c.pass-place.ensures in
    advanced (reads_view c.args.rows.now) (search_view c.args.self.now) c.args.slot c.pass-place.result (get_or row c.pass-place.result 0)
    c.in_ok-new.new row c.push.new.self.items (search_view c.enter.new.self) c.requires c.row-row.ensures c.in_ok-push.ensures.items p
    c.if-place-row.true refl c.in_ok-new.ensures.new c.in_ok-new.ensures.entered

pub returns : goal.returns
returns c =
    let p = rw c.deref.ensures.value at c.pass-place.ensures in
    let l : length c.row-row.result.now ≤ c.pass-place.result = omega (arith, c.if-place-row.false) in
    finished (reads_view c.args.rows.now) (search_view c.args.self.now) c.args.slot c.pass-place.result c.row-row.result.now
    (search_view c.list.new.self) c.requires c.row-row.ensures p l c.in_ok-list.ensures
