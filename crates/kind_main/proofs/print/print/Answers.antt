use Rattle.std.proofs.Common.{arith, ap, Err}
use Rattle.kind_main.specs.Ending.{line_bytes}
use Rattle.kind_main.proofs.Printing.{writing-next, writing-failed, writing-stays, writing-stopped, writing-end}
use Rattle.kind_main.proofs.print.print.Goals as goal

pub returns-in-Err-Failed : goal.returns-in-Err-Failed
returns-in-Err-Failed g c =
    let e = ap Err c.in-Err-Failed.field-0-is in
    writing-failed line_bytes c.args.lines.now c.loop-line.line-index c.line-item.result
    (omega arith) c.line-item.is c.args.status.code _ _ _ _ _ _ c.loop-line.invariant
    (c.in-Err-Failed.ensures.cause e) (rw c.deref.ensures.value at (c.in-Err-Failed.ensures.front e))

pub returns-in-Err-Memory : goal.returns-in-Err-Memory
returns-in-Err-Memory g c =
    let e = ap Err c.in-Err-Memory.field-0-is in
    writing-stopped line_bytes c.args.lines.now c.loop-line.line-index c.line-item.result (omega arith) c.line-item.is c.args.status.code _ _ _ _ _ _ _
    (writing-stays line_bytes c.args.lines.now c.loop-line.line-index c.line-item.result
    (omega arith) c.line-item.is _ _ _ _ _ _ c.loop-line.invariant c.in-Err-Memory.ensures.later (c.in-Err-Memory.ensures.memory e))
    c.out_of_memory.ensures.said

pub loop-line-preserved : goal.loop-line-preserved
loop-line-preserved g c =
    writing-next line_bytes c.args.lines.now c.loop-line.line-index c.line-item.result (omega arith) c.line-item.is _ _ _ _ _ _ c.loop-line.invariant
    c.in-Ok.ensures.later (rw c.deref.ensures.value at c.in-Ok.ensures.all)

pub returns : goal.returns
returns g c = writing-end line_bytes c.args.lines.now c.loop-line.line-index c.args.status.code _ _ _ _ (omega arith) c.loop-line.invariant
