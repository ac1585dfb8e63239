use Rattle.std.proofs.Common.{map}
use Rattle.lus_tree.specs.Tree.{text_of}
use Rattle.lus_tree.specs.View.{word_view}
use Rattle.lus_scopes.specs.Least.{least_view}
use Rattle.lus_streams.specs.Clocks.{clock_seen}
use Rattle.lus_streams.specs.Names.{names_view}
use Rattle.lus_clocks.proofs.Sides.{side_behind}
use Rattle.lus_clocks.proofs.equation.equation.Goals as goal

pub returns : goal.returns
returns c = side_behind (names_view c.args.names) (map text_of (map word_view c.args.words.now)) c.args.e.now
    (clock_seen c.side_clock-clock.result) c.some_other-clash.result (least_view c.args.least.now) (least_view c.note_if.new.self)
    (least_view c.placed.new.least) c.side_clock-clock.ensures c.some_other-clash.ensures c.note_if.ensures c.placed.ensures
