use Rattle.std.specs.Prelude.{◌≡◌, drop, take, true}
use Rattle.sys_terms.specs.Fits.{is_narrow}
use Rattle.kind_engine.proofs.large.large_entry.Given as goal

abbrev pub invariant-loop-number : goal.invariant-loop-number
invariant-loop-number l =
    (is_narrow (drop l.number l.values) ≡ is_narrow l.fn.values) × (is_narrow (take l.number l.values) ≡ true)
