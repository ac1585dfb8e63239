use Rattle.proof_checker.proofs.Firsts.{broken_first, first_broken, refuted_right, right_refuted, unfinished_right, right_unfinished}
use Rattle.proof_checker.proofs.laws.what_verdicts_say.Goals as goal

pub returns : goal.returns
returns c = record {
  broken = λ shapes atoms clauses more moves n rule.
      (broken_first shapes atoms clauses more moves n rule, first_broken shapes atoms clauses more moves n rule);
  refuted = λ shapes atoms clauses more moves.
      (refuted_right shapes atoms clauses more moves, right_refuted shapes atoms clauses more moves);
  unfinished = λ shapes atoms clauses more moves.
      (unfinished_right shapes atoms clauses more moves, right_unfinished shapes atoms clauses more moves);
}
