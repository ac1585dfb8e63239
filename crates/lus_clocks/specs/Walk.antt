-- The faults of an expression in the order in which a part's own come behind those of its parts. They are those of
-- `clock_form_faults` of all its parts: `proofs/Walks`.
use Rattle.std.specs.Prelude.{true, false, List, [], ◌++◌, Option, None, unwrap_or}
use Rattle.lus_tree.specs.Tree.{Spelled, Component, Expression, Expressions, truth, number, name, negation, minus, pre, arrow, binary, choice, sampled, merged, call, condact, mode_name, no_more, more}
use Rattle.lus_tree.specs.Reason.{Refused}
use Rattle.lus_meaning.specs.Scene.{Clock, base, sampled_by, clock_of}
use Rattle.lus_meaning.specs.ClockFaults.{clock_in, clock_among, or_else, stands_on}
use Rattle.lus_clocks.specs.Parts.{fits_on}

-- ---- own faults

abbrev pub pair_own : Component → Option Clock → Expression → Expression → List Refused
pair_own n o a b = fits_on n o a ++ fits_on n o b

abbrev pub triple_own : Component → Option Clock → Expression → Expression → Expression → List Refused
triple_own n o a b c = fits_on n o a ++ (fits_on n o b ++ fits_on n o c)

abbrev pub pair_clock : Component → Expression → Expression → Option Clock
pair_clock n a b = or_else (clock_in n a) (clock_in n b)

abbrev pub triple_clock : Component → Expression → Expression → Expression → Option Clock
triple_clock n a b c = or_else (clock_in n a) (or_else (clock_in n b) (clock_in n c))

abbrev pub branches_own : Component → Spelled → Expression → Expression → List Refused
branches_own n x a b = stands_on n (sampled_by true x.text) a ++ stands_on n (sampled_by false x.text) b

abbrev pub condition_own : Component → Expression → Expressions → List Refused
condition_own n a as_ = stands_on n (unwrap_or (clock_among n as_) base) a

-- ---- all of them

abbrev mutual
  pub walk : Component → Expression → List Refused
  walk n (truth p b) = []
  walk n (number p k) = []
  walk n (name p x) = []
  walk n (negation p a) = walk n a
  walk n (minus p a) = walk n a
  walk n (pre p k a) = walk n a
  walk n (arrow p k a b) = walk n a ++ (walk n b ++ pair_own n (pair_clock n a b) a b)
  walk n (binary p o a b) = walk n a ++ (walk n b ++ pair_own n (pair_clock n a b) a b)
  walk n (choice p a b c) = walk n a ++ (walk n b ++ (walk n c ++ triple_own n (triple_clock n a b c) a b c))
  walk n (sampled p a b x) = walk n a ++ stands_on n (clock_of n x.text) a
  walk n (merged p x a b) = walk n a ++ (walk n b ++ branches_own n x a b)
  walk n (call p k f as_) = walk_among n None as_
  walk n (condact p k a f as_ ds) = walk n a ++ (walk_among n None as_ ++ (walk_each n ds ++ condition_own n a as_))
  walk n (mode_name p c m) = []

  -- of values that are to be on one clock, where that of those before them is known or not
  pub walk_among : Component → Option Clock → Expressions → List Refused
  walk_among n o no_more = []
  walk_among n o (more a as_) =
      (walk n a ++ fits_on n (or_else o (clock_in n a)) a) ++ walk_among n (or_else o (clock_in n a)) as_

  -- of values by themselves
  pub walk_each : Component → Expressions → List Refused
  walk_each n no_more = []
  walk_each n (more a as_) = walk n a ++ walk_each n as_
