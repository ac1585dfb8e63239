use Rattle.lus_tree.specs.View.{program_view}
use Rattle.lus_tree.specs.Reason.{refusal_view}
use Rattle.kind_main.proofs.Answering.{stop_as, misread_ends, ruled_out_ends}
use Rattle.kind_main.proofs.source.read_source.Goals as goal

pub returns-in-Err : goal.returns-in-Err
returns-in-Err c = stop_as _ _ (misread_ends c.args.bytes.now (refusal_view c.in-Err.refusal) c.in-Err.ensures.refused) c.refused.result c.refused.ensures

pub returns-in-Err-ruled : goal.returns-in-Err-ruled
returns-in-Err-ruled c =
    stop_as _ _ (ruled_out_ends c.args.bytes.now (program_view c.in-Ok.program)
    (refusal_view c.in-Err-ruled.refusal) c.in-Ok.ensures.found c.in-Err-ruled.ensures.refused)
    c.refused-in-Err-ruled.result c.refused-in-Err-ruled.ensures
