use Rattle.std.specs.Prelude.{◌≡◌, ◌≤◌, length, map}
use Rattle.std.specs.List.{AllByRecursion}
use Rattle.std.specs.Vec.Iter.{into_iter_items, into_iter_len}
use Rattle.cert_rules.specs.View.{cites_view}
use Rattle.board_core.specs.View.{news_view}
use Rattle.kind_engine.specs.Lemmas.{AreLemmas, IsToldOf}
use Rattle.kind_engine.proofs.Citing.{IsLeft}
use Rattle.kind_engine.proofs.lemmas.read_lemmas.Given as goal

-- what is left to take up are entries that the seat has seen
abbrev pub invariant-loop-entry : goal.invariant-loop-entry
invariant-loop-entry g l =
    let b = g.B.BoardSeat in
    let rest = into_iter_items l.entry-iterator in
    record {
      lemmas : AreLemmas (b.machine l.seat) (b.seen l.seat) l.lemmas.front (cites_view l.lemmas.cites.items);
      told : AllByRecursion (IsToldOf (b.seen l.seat)) (map news_view rest);
      left : b.front l.fn.seat ≤ l.fn.lemmas.front → IsLeft (length (b.seen l.seat)) l.lemmas.front (map news_view rest);
      rest : into_iter_len l.entry-iterator ≡ length rest;
    }
