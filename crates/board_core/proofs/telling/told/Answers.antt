use Rattle.std.proofs.Common.{rules, arith, ◌≤◌, length, map}
use Rattle.board_core.specs.View.{news_view}
use Rattle.board_core.proofs.Tellings.{all-told}
use Rattle.board_core.proofs.telling.told.Goals as goal

-- src/telling.rt:67:1
pub returns : goal.returns
returns c =
    let l : length c.args.entries.now ≤ c.loop-place.place = search (rules, arith) in
    all-told c.args.entries.now c.args.front c.loop-place.place (map news_view c.loop-place.news.items) l
    c.loop-place.invariant
