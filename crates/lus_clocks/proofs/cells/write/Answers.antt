use Rattle.std.proofs.Common.{◌==◌, ap, sym, ◌∙◌, is_none}
use Rattle.lus_meaning.specs.ClockFaults.{or_else}
use Rattle.lus_clocks.specs.Cells.{cell_at}
use Rattle.lus_streams.specs.Clocks.{clock_seen}
use Rattle.lus_clocks.specs.Sought.{if_there}
use Rattle.lus_clocks.proofs.Numbered.{written}
use Rattle.lus_clocks.proofs.cells.write.Goals as goal

pub returns-in_ok-cells : goal.returns-in_ok-cells
returns-in_ok-cells c = λ k.
    written c.widen.new.cells.items c.args.number c.in_ok-cells.field-0 (clock_seen c.args.clock) c.in_ok-widen.ensures.room
    c.in_ok-cells.ensures
    (ap (λ cs. is_none (cell_at cs c.args.number)) (sym c.deref.ensures.value) ∙ sym c.is_unseen.ensures ∙ c.if-is_unseen.true) k
    ∙ ap (λ o. or_else o (if_there (c.args.number == k) (clock_seen c.args.clock))) (c.in_ok-widen.ensures.same k)
