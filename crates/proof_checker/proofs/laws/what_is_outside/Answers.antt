use Rattle.proof_checker.proofs.Sets.{one_outside_only, only_outside_one, nothing_outside_all, all_nothing_outside}
use Rattle.proof_checker.proofs.laws.what_is_outside.Goals as goal

pub returns : goal.returns
returns c = record {
  one = λ set clause l. (one_outside_only set clause l, only_outside_one set clause l);
  nothing = λ set clause. (nothing_outside_all set clause, all_nothing_outside set clause);
}
