use Rattle.kind_main.proofs.Answering.{stop_as, formless_ends}
use Rattle.kind_main.proofs.replaying.read_listing.Goals as goal

pub returns-in-Err : goal.returns-in-Err
returns-in-Err c =
    stop_as _ _ (formless_ends c.args.bytes.now c.in-Err.fault c.in-Err.ensures.form) c.unread_trace.result c.unread_trace.ensures
