use Rattle.std.specs.Prelude.{◌≡◌, ◌≤◌, ◌+◌, ◌-◌, true, length, drop}
use Rattle.cnf_maker.specs.View.{op_of}
use Rattle.cnf_maker.specs.Linear.{with_terms, is_increasing}
use Rattle.cnf_maker.specs.Joining.{pending}
use Rattle.cnf_maker.proofs.linear.joined_terms.Given as goal

abbrev pub invariant-loop-j : goal.invariant-loop-j
invariant-loop-j l = record {
  left_within : l.i ≤ length l.left;
  right_within : l.j ≤ length l.right;
  increasing : is_increasing (drop l.j l.right) ≡ true;
  same : pending (op_of l.sign) l.sum.items (drop l.i l.left) (drop l.j l.right) ≡ with_terms
      (op_of l.fn.sign) l.fn.left l.fn.right;
}

abbrev pub decreases-loop-j : goal.decreases-loop-j
decreases-loop-j l = (length l.left + length l.right) - (l.i + l.j)
