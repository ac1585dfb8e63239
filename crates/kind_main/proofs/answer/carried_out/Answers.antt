use Rattle.kind_main.specs.Answer as A
use Rattle.kind_main.proofs.Answering.{ended_as}
use Rattle.kind_main.proofs.answer.carried_out.Goals as goal

pub prove_file-requires : goal.prove_file-requires
prove_file-requires g c = (rw c.in-Some-Prove.field-0-is at c.in-Some-Prove.ensures).1

pub returns-in-Some-Prove-clause-ended : goal.returns-in-Some-Prove-clause-ended
returns-in-Some-Prove-clause-ended g c =
    ended_as _ _ (λ e h. A.prove c.in-Some-Prove.source.now c.in-Some-Prove.options
    (rw c.in-Some-Prove.field-0-is at c.in-Some-Prove.ensures).0 h) _ c.prove_file.ensures.ended

pub returns-in-Some-Replay-clause-ended : goal.returns-in-Some-Replay-clause-ended
returns-in-Some-Replay-clause-ended g c =
    ended_as _ _ (λ e h. A.replay c.in-Some-Replay.source.now c.in-Some-Replay.trace.now
    (rw c.in-Some-Replay.field-0-is at c.in-Some-Replay.ensures) h) _ c.replay_files.ensures.ended
