-- The `pre`, the `->` and the calls of an expression that stands on a clock, in the order of the tree.
use Rattle.std.specs.Prelude.{ℕ, true, false, List, [], ◌∷◌, ◌++◌, map, flat_map}
use Rattle.lus_tree.specs.Tree.{Spelled, Expression, Expressions, negation, minus, pre, arrow, binary, choice, sampled, merged, call, condact, no_more, more, Component}
use Rattle.lus_meaning.specs.Scene.{Clock, sampled_by, clock_of, plain, while_true, Site}
use Rattle.lus_meaning.specs.Occurrences.{Memory, Start, Text, texts}
use Rattle.lus_meaning.specs.Program.{listed}

-- an expression and the clock of its place
abbrev pub Placed : Type 0
Placed = Clock × Expression

abbrev pub placed : Text → Placed
placed x = (x.0.clock, x.1)

abbrev mutual
  pub memories_in : Component → Clock → Expression → List Memory
  memories_in n c (negation p a) = memories_in n c a
  memories_in n c (minus p a) = memories_in n c a
  memories_in n c (pre p k a) = record { number = k; clock = c; operand = a } ∷ memories_in n c a
  memories_in n c (arrow p k a b) = memories_in n c a ++ memories_in n c b
  memories_in n c (binary p o a b) = memories_in n c a ++ memories_in n c b
  memories_in n c (choice p a b d) = memories_in n c a ++ (memories_in n c b ++ memories_in n c d)
  memories_in n c (sampled p a b x) = memories_in n (clock_of n x.text) a
  memories_in n c (merged p x a b) =
      memories_in n (sampled_by true x.text) a ++ memories_in n (sampled_by false x.text) b
  memories_in n c (call p k f as_) = memories_among n c as_
  memories_in n c (condact p k a f as_ ds) =
      memories_in n c a ++ (memories_among n c as_ ++ memories_among n c ds)
  memories_in n c _ = []

  pub memories_among : Component → Clock → Expressions → List Memory
  memories_among n c no_more = []
  memories_among n c (more a as_) = memories_in n c a ++ memories_among n c as_

abbrev mutual
  pub starts_in : Component → Clock → Expression → List Start
  starts_in n c (negation p a) = starts_in n c a
  starts_in n c (minus p a) = starts_in n c a
  starts_in n c (pre p k a) = starts_in n c a
  starts_in n c (arrow p k a b) = starts_in n c a ++ record { number = k; clock = c } ∷ starts_in n c b
  starts_in n c (binary p o a b) = starts_in n c a ++ starts_in n c b
  starts_in n c (choice p a b d) = starts_in n c a ++ (starts_in n c b ++ starts_in n c d)
  starts_in n c (sampled p a b x) = starts_in n (clock_of n x.text) a
  starts_in n c (merged p x a b) =
      starts_in n (sampled_by true x.text) a ++ starts_in n (sampled_by false x.text) b
  starts_in n c (call p k f as_) = starts_among n c as_
  starts_in n c (condact p k a f as_ ds) = starts_in n c a ++ (starts_among n c as_ ++ starts_among n c ds)
  starts_in n c _ = []

  pub starts_among : Component → Clock → Expressions → List Start
  starts_among n c no_more = []
  starts_among n c (more a as_) = starts_in n c a ++ starts_among n c as_

abbrev pub plain_site : ℕ → Spelled → Clock → List Expression → Site
plain_site k f c as_ =
    record { number = k; callee = f.text; clock = c; arguments = as_; defaults = []; manner = plain }

abbrev pub held_site : ℕ → Spelled → Clock → Expression → List Expression → List Expression → Site
held_site k f c a as_ ds =
    record { number = k; callee = f.text; clock = c; arguments = as_; defaults = ds; manner = while_true a }

abbrev mutual
  pub sites_in : Component → Clock → Expression → List Site
  sites_in n c (negation p a) = sites_in n c a
  sites_in n c (minus p a) = sites_in n c a
  sites_in n c (pre p k a) = sites_in n c a
  sites_in n c (arrow p k a b) = sites_in n c a ++ sites_in n c b
  sites_in n c (binary p o a b) = sites_in n c a ++ sites_in n c b
  sites_in n c (choice p a b d) = sites_in n c a ++ (sites_in n c b ++ sites_in n c d)
  sites_in n c (sampled p a b x) = sites_in n (clock_of n x.text) a
  sites_in n c (merged p x a b) = sites_in n (sampled_by true x.text) a ++ sites_in n (sampled_by false x.text) b
  sites_in n c (call p k f as_) = plain_site k f c (listed as_) ∷ sites_among n c as_
  sites_in n c (condact p k a f as_ ds) =
      held_site k f c a (listed as_) (listed ds) ∷ sites_in n c a ++ (sites_among n c as_ ++ sites_among n c ds)
  sites_in n c _ = []

  pub sites_among : Component → Clock → Expressions → List Site
  sites_among n c no_more = []
  sites_among n c (more a as_) = sites_in n c a ++ sites_among n c as_

-- ---- those of a declaration

abbrev pub memories_of : Component → List Placed → List Memory
memories_of n xs = flat_map (λ x. memories_in n x.0 x.1) xs

abbrev pub starts_of : Component → List Placed → List Start
starts_of n xs = flat_map (λ x. starts_in n x.0 x.1) xs

abbrev pub sites_of : Component → List Placed → List Site
sites_of n xs = flat_map (λ x. sites_in n x.0 x.1) xs

abbrev pub places : Component → List Placed
places n = map placed (texts n)
