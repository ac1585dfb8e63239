-- Where in the evaluation of each row the first value outside 128 bits stands.
use Rattle.std.proofs.Common.{◌≡◌, ℕ, ◌^◌, List, [], ◌∷◌, refl, arith, pos, Some, None}
use Rattle.lus_tree.specs.declared.expression.Operator.TheVariants as operators
use Rattle.kind_num.specs.declared.Op.TheVariants as ops
use Rattle.kind_num.specs.Exact.{within}
use Rattle.lus_meaning.specs.Value.{whole}
use Rattle.lus_evaluation.specs.Part.{Part}
use Rattle.lus_evaluation.specs.Frame.{picked}
use Rattle.lus_evaluation.specs.Turn.{in_turn}
use Rattle.lus_evaluation.specs.Evaluation.{IsEvaluation}
use Rattle.lus_evaluation.specs.Past.{past_of_numbers, past_of_minus}
use Rattle.lus_evaluation.specs.Outcome.{StaysWithin, MeetsPast}
use Rattle.evaluation_rows.specs.Orders.{OrderTree, order_tree, no_trees, with_tree, orders_of}
use Rattle.evaluation_rows.specs.OrderRows.{one_equation}
use Rattle.evaluation_rows.specs.PastRows.{column, product_past, growing, growing_frame, two, two_frame, scaling, scaling_frame, merging, merging_frame, sampling, sampling_frame, resting, resting_frame, argued, argued_frame, least, greatest, minus_one, told}
use Rattle.evaluation_rows.proofs.EvaluationTest.{evaluation_by}
use Rattle.evaluation_rows.proofs.PastTest.{within_by, first_by}

-- ---- a product that grows

abbrev growing_numbers : List ℕ
growing_numbers = 0 ∷ 2 ∷ 3 ∷ 4 ∷ 5 ∷ 1 ∷ []

abbrev growing_parts : List Part
growing_parts = picked growing_numbers (in_turn (orders_of one_equation) growing)

growing_evaluation : IsEvaluation growing growing_parts
growing_evaluation = evaluation_by 4 growing one_equation growing_numbers refl refl

pub growing_within : StaysWithin growing growing_frame 3
unfolding within
growing_within = record {
  parts = growing_parts;
  evaluation = growing_evaluation;
  within = within_by growing growing_frame growing_parts 3 refl;
}

pub growing_past : MeetsPast growing growing_frame 4 (column 51) 3 (product_past (pos (2 ^ 124)))
unfolding within
growing_past = record {
  parts = growing_parts;
  evaluation = growing_evaluation;
  first = first_by growing growing_frame growing_parts 3 4 (column 51) 3 (product_past (pos (2 ^ 124))) refl (omega arith) refl refl refl refl;
}

-- ---- two values at one instant

abbrev two_orders : OrderTree
two_orders = order_tree (0 ∷ 1 ∷ 2 ∷ []) no_trees

abbrev two_numbers : List ℕ
two_numbers = 0 ∷ 4 ∷ 5 ∷ 6 ∷ 8 ∷ 9 ∷ 10 ∷ 11 ∷ 1 ∷ 2 ∷ 3 ∷ 7 ∷ 12 ∷ 13 ∷ 14 ∷ []

abbrev two_parts : List Part
two_parts = picked two_numbers (in_turn (orders_of two_orders) two)

pub two_past : MeetsPast two two_frame 3 (column 68) 2 (product_past (pos (2 ^ 124)))
unfolding within
two_past = record {
  parts = two_parts;
  evaluation = evaluation_by 6 two two_orders two_numbers refl refl;
  first = first_by two two_frame two_parts 10 3 (column 68) 2 (product_past (pos (2 ^ 124))) refl (omega arith) refl refl refl refl;
}

-- ---- a callee

abbrev scaling_orders : OrderTree
scaling_orders = order_tree (0 ∷ 1 ∷ []) (with_tree one_equation no_trees)

abbrev scaling_numbers : List ℕ
scaling_numbers = 0 ∷ 2 ∷ 3 ∷ 4 ∷ 5 ∷ 1 ∷ 6 ∷ 7 ∷ 8 ∷ 9 ∷ 10 ∷ []

abbrev scaling_parts : List Part
scaling_parts = picked scaling_numbers (in_turn (orders_of scaling_orders) scaling)

pub scaling_past : MeetsPast scaling scaling_frame 3 (column 50) 2 (product_past (pos (2 ^ 124)))
unfolding within
scaling_past = record {
  parts = scaling_parts;
  evaluation = evaluation_by 8 scaling scaling_orders scaling_numbers refl refl;
  first = first_by scaling scaling_frame scaling_parts 9 3 (column 50) 2 (product_past (pos (2 ^ 124))) refl (omega arith) refl refl refl refl;
}

-- ---- clocks

-- z: 1, then z, which is late, `pre`, the factor, `*`, `->`; then the other equation
abbrev in_two : OrderTree
in_two = order_tree (0 ∷ 1 ∷ []) no_trees

abbrev merging_numbers : List ℕ
merging_numbers = 0 ∷ 2 ∷ 3 ∷ 4 ∷ 5 ∷ 1 ∷ 6 ∷ 7 ∷ 8 ∷ 9 ∷ 10 ∷ 11 ∷ []

pub merging_within : StaysWithin merging merging_frame 3
unfolding within
merging_within = record {
  parts = picked merging_numbers (in_turn (orders_of in_two) merging);
  evaluation = evaluation_by 6 merging in_two merging_numbers refl refl;
  within = within_by merging merging_frame (picked merging_numbers (in_turn (orders_of in_two) merging)) 3 refl;
}

abbrev sampling_numbers : List ℕ
sampling_numbers = 0 ∷ 2 ∷ 3 ∷ 4 ∷ 5 ∷ 1 ∷ 6 ∷ 7 ∷ 8 ∷ 9 ∷ []

abbrev sampling_parts : List Part
sampling_parts = picked sampling_numbers (in_turn (orders_of in_two) sampling)

pub sampling_past : MeetsPast sampling sampling_frame 3 (column 3) 2 (product_past (pos (2 ^ 124)))
unfolding within
sampling_past = record {
  parts = sampling_parts;
  evaluation = evaluation_by 6 sampling in_two sampling_numbers refl refl;
  first = first_by sampling sampling_frame sampling_parts 8 3 (column 3) 2 (product_past (pos (2 ^ 124))) refl (omega arith) refl refl refl refl;
}

-- ---- condacts

abbrev resting_numbers : List ℕ
resting_numbers = 0 ∷ 2 ∷ 3 ∷ 4 ∷ 5 ∷ 1 ∷ 6 ∷ 7 ∷ 8 ∷ 9 ∷ 10 ∷ 11 ∷ 12 ∷ []

pub resting_within : StaysWithin resting resting_frame 3
unfolding within
resting_within = record {
  parts = picked resting_numbers (in_turn (orders_of scaling_orders) resting);
  evaluation = evaluation_by 8 resting scaling_orders resting_numbers refl refl;
  within = within_by resting resting_frame (picked resting_numbers (in_turn (orders_of scaling_orders) resting)) 3 refl;
}

abbrev argued_numbers : List ℕ
argued_numbers = 0 ∷ 2 ∷ 3 ∷ 4 ∷ 5 ∷ 1 ∷ 6 ∷ 7 ∷ 8 ∷ 9 ∷ 10 ∷ 11 ∷ 12 ∷ 13 ∷ 14 ∷ []

abbrev argued_parts : List Part
argued_parts = picked argued_numbers (in_turn (orders_of scaling_orders) argued)

pub argued_past : MeetsPast argued argued_frame 3 (column 3) 2 (product_past (pos (2 ^ 124)))
unfolding within
argued_past = record {
  parts = argued_parts;
  evaluation = evaluation_by 8 argued scaling_orders argued_numbers refl refl;
  first = first_by argued argued_frame argued_parts 9 3 (column 3) 2 (product_past (pos (2 ^ 124))) refl (omega arith) refl refl refl refl;
}

-- ---- the ends of 128 bits

pub sum : past_of_numbers operators.Add greatest (pos 1) ≡ Some (told ops.Add greatest (pos 1))
unfolding within
sum = refl

pub sum_within : past_of_numbers operators.Add greatest (pos 0) ≡ None
unfolding within
sum_within = refl

pub difference : past_of_numbers operators.Sub least (pos 1) ≡ Some (told ops.Sub least (pos 1))
unfolding within
difference = refl

pub difference_within : past_of_numbers operators.Sub least (pos 0) ≡ None
unfolding within
difference_within = refl

pub product : past_of_numbers operators.Mul least minus_one ≡ Some (told ops.Mul least minus_one)
unfolding within
product = refl

pub product_within : past_of_numbers operators.Mul greatest minus_one ≡ None
unfolding within
product_within = refl

pub quotient : past_of_numbers operators.Div least minus_one ≡ Some (told ops.Div least minus_one)
unfolding within
quotient = refl

pub quotient_within : past_of_numbers operators.Div greatest minus_one ≡ None
unfolding within
quotient_within = refl

pub remainder : past_of_numbers operators.Mod least minus_one ≡ Some (told ops.Div least minus_one)
unfolding within
remainder = refl

pub minus : past_of_minus (whole least) ≡ Some (told ops.Sub (pos 0) least)
unfolding within
minus = refl

pub minus_within : past_of_minus (whole greatest) ≡ None
unfolding within
minus_within = refl
