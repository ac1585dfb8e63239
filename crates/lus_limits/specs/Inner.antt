-- The greatest sizes of the terms for what stands in an expression: what `pre` and `->` keep, and what stands for calls.
use Rattle.std.specs.Prelude.{true, false, List, [], ◌∷◌}
use Rattle.lus_tree.specs.Tree.{Expression, Expressions, truth, number, name, negation, minus, pre, arrow, binary, choice, sampled, merged, call, condact, mode_name, no_more, more, Component}
use Rattle.lus_meaning.specs.Scene.{Clock, sampled_by, clock_of}
use Rattle.lus_meaning.specs.Program.{listed}
use Rattle.lus_meaning.specs.Sizes.{Size, leaf, one, two, three, given_size, ModeSizes, presence, size_in}
use Rattle.lus_limits.specs.Peaks.{no_size, greater}

abbrev pub memory_of : Component → ModeSizes → Clock → Expression → Size
memory_of n ms c a = two leaf (three (presence n c) (size_in n ms a) leaf)

abbrev pub start_of : Component → Clock → Size
start_of n c = two leaf (two leaf (one (presence n c)))

abbrev pub argument_terms : Component → ModeSizes → List Expression → Size
argument_terms n ms [] = no_size
argument_terms n ms (a ∷ as_) = greater (given_size leaf (size_in n ms a)) (argument_terms n ms as_)

-- a call's beat, and its arguments
abbrev pub call_terms : Component → ModeSizes → Clock → List Expression → Size
call_terms n ms c as_ = greater (two leaf (presence n c)) (argument_terms n ms as_)

-- the same of a call under a condition, and what it holds
abbrev pub held_terms : Size
held_terms = greater (three leaf leaf leaf) (two leaf (three leaf leaf leaf))

abbrev pub condition_terms : Component → ModeSizes → Clock → Expression → List Expression → Size
condition_terms n ms c a as_ =
    greater (two leaf (two (presence n c) (size_in n ms a))) (greater held_terms (argument_terms n ms as_))

-- the same of an import, which runs where its owner does
abbrev pub import_terms : Component → ModeSizes → List Expression → Size
import_terms n ms as_ = greater (given_size leaf leaf) (argument_terms n ms as_)

abbrev mutual
  pub inner_in : Component → ModeSizes → Clock → Expression → Size
  inner_in n ms c (truth p b) = no_size
  inner_in n ms c (number p k) = no_size
  inner_in n ms c (name p x) = no_size
  inner_in n ms c (negation p a) = inner_in n ms c a
  inner_in n ms c (minus p a) = inner_in n ms c a
  inner_in n ms c (pre p k a) = greater (memory_of n ms c a) (inner_in n ms c a)
  inner_in n ms c (arrow p k a b) = greater (start_of n c) (greater (inner_in n ms c a) (inner_in n ms c b))
  inner_in n ms c (binary p o a b) = greater (inner_in n ms c a) (inner_in n ms c b)
  inner_in n ms c (choice p a b d) = greater (inner_in n ms c a) (greater (inner_in n ms c b) (inner_in n ms c d))
  inner_in n ms c (sampled p a b x) = inner_in n ms (clock_of n x.text) a
  inner_in n ms c (merged p x a b) =
      greater (inner_in n ms (sampled_by true x.text) a) (inner_in n ms (sampled_by false x.text) b)
  inner_in n ms c (call p k f as_) = greater (call_terms n ms c (listed as_)) (inner_among n ms c as_)
  inner_in n ms c (condact p k a f as_ ds) =
      greater (condition_terms n ms c a (listed as_))
      (greater (inner_in n ms c a) (greater (inner_among n ms c as_) (inner_among n ms c ds)))
  inner_in n ms c (mode_name p d m) = no_size

  pub inner_among : Component → ModeSizes → Clock → Expressions → Size
  inner_among n ms c no_more = no_size
  inner_among n ms c (more a as_) = greater (inner_in n ms c a) (inner_among n ms c as_)
