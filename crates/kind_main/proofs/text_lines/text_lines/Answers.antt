use Rattle.std.proofs.Common.{arith}
use Rattle.kind_main.proofs.Cutting.{cutting_next, cutting_whole}
use Rattle.kind_main.proofs.text_lines.text_lines.Goals as goal

pub returns-clause-whole : goal.returns-clause-whole
returns-clause-whole c = cutting_whole c.args.text.now c.requires c.loop-byte.byte-index _ _ (omega arith) c.loop-byte.invariant

pub loop-byte-preserved : goal.loop-byte-preserved
loop-byte-preserved c =
    cutting_next c.args.text.now c.loop-byte.byte-index _ _ (omega arith) c.loop-byte.invariant _ _ c.in_ok-cut.ensures
