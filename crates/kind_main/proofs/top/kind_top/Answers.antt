use Rattle.kind_main.proofs.Leaving.{proof_of, replay_of, usage_of, words_of, refusal_of, unread_of, broken_of, short_of, known_of}
use Rattle.kind_main.proofs.top.kind_top.Goals as goal

pub returns : goal.returns
returns g c = record {
  proved = proof_of _ _ _ _ _ _ _ _ _ c.run.ensures.leaves;
  replayed = replay_of _ _ _ _ _ _ _ _ _ c.run.ensures.leaves;
  usage = usage_of _ _ _ _ _ _ _ _ _ c.run.ensures.leaves;
  words = words_of _ _ _ _ _ _ _ _ _ c.run.ensures.leaves;
  refused = refusal_of _ _ _ _ _ _ _ _ _ c.run.ensures.leaves;
  unread = unread_of _ _ _ _ _ _ _ _ _ c.run.ensures.leaves;
  broken = broken_of _ _ _ _ _ _ _ _ _ c.run.ensures.leaves;
  short = short_of _ _ _ _ _ _ _ _ _ c.run.ensures.leaves;
  known = known_of _ _ _ _ _ _ _ _ _ c.run.ensures.leaves;
  names = c.run.ensures.names;
}
