use Rattle.std.specs.Prelude.{◌≡◌, ◌++◌, map, drop}
use Rattle.board_core.specs.Books.{history_in}
use Rattle.board_core.specs.View.{news_view, told_from}
use Rattle.board_core.proofs.telling.told.Given as goal

-- what is told and what is left to tell is all that is to be told
abbrev pub invariant-loop-place : goal.invariant-loop-place
invariant-loop-place l =
    map news_view l.news.items ++ told_from l.place (history_in (drop l.place l.entries))
    ≡ told_from l.fn.front (history_in (drop l.fn.front l.fn.entries))
