-- What holds of the states of a frame, by what names and numbers mean there: memories, starts, assertions, and calls.
use Rattle.std.specs.Prelude.{ℕ, true, List, [], ◌∷◌, map}
use Rattle.lus_tree.specs.declared.place.Sort.{Sort}
use Rattle.lus_tree.specs.declared.place.Sort.TheVariants.{Bool as Flags}
use Rattle.lus_tree.specs.Tree.{Statement, property}
use Rattle.lus_meaning.specs.Value.{Value, absent}
use Rattle.lus_meaning.specs.Scene.{Clock, Manner, plain, while_true, as_import}
use Rattle.lus_meaning.specs.Occurrences.{Memory, Start}
use Rattle.lus_meaning.specs.Property.{assertions}
use Rattle.sys_terms.specs.View.{Formula, negation, both}
use Rattle.sys_meaning.specs.Part.{Part, a_flag, fixed, variable, variable_in, all_of, choose_part, equal_parts}
use Rattle.sys_texts.specs.Sights.{Sight, Mode, Output, number_at, flag_at, latest_part}
use Rattle.sys_texts.specs.Texts.{part_of, formula, present, sort_by}

-- the variable of the next state is the term
abbrev pub becomes : Sort → ℕ → Part → Formula
becomes s n q = equal_parts (variable_in true s n) q

-- ---- memories and starts

-- a memory of that type and number is the operand where its clock is on, else what it was
abbrev pub kept : Sort → ℕ → Formula → Part → Formula
kept s n on q = becomes s n (choose_part on q (variable s n))

unfoldable pub memory_condition : Sight → List Mode → Memory → Formula
memory_condition s ms m =
    kept (sort_by s m.operand) (number_at s.memories s.missing m.number) (present s m.clock) (part_of s ms m.operand)

abbrev pub memory_conditions : Sight → List Mode → List Memory → List Formula
memory_conditions s ms us = map (memory_condition s ms) us

-- it is at its start as long as its clock was not on
abbrev pub waits : ℕ → Formula → Formula
waits n on = becomes Flags n (a_flag (both (flag_at n) (negation on)))

abbrev pub start_condition : Sight → Start → Formula
start_condition s a = waits (number_at s.starts s.missing a.number) (present s a.clock)

abbrev pub start_conditions : Sight → List Start → List Formula
start_conditions s as_ = map (start_condition s) as_

abbrev pub at_first : Sight → List Start → List Formula
at_first s as_ = map (λ a. flag_at (number_at s.starts s.missing a.number)) as_

-- where the frame is active the formula is true
abbrev pub where_active : ℕ → Formula → Formula
where_active beat f = negation (both (flag_at beat) (negation f))

-- the assumptions were true so far, and are where the frame is active
abbrev pub so_far_condition : Sight → ℕ → List Formula → Formula
so_far_condition s n assumes = becomes Flags n (a_flag (both (flag_at n) (where_active s.beat (all_of assumes))))

-- ---- assertions and properties

abbrev pub assert_conditions : Sight → List Mode → List Statement → List Formula
assert_conditions s ms ss = map (λ e. where_active s.beat (formula s ms e)) (assertions ss)

abbrev pub body_properties : Sight → List Mode → List Statement → List Formula
body_properties s ms [] = []
body_properties s ms (property l ∷ ss) = formula s ms l.value ∷ body_properties s ms ss
body_properties s ms (_ ∷ ss) = body_properties s ms ss

-- what a callee assumes, where its frame is active
abbrev pub owed : ℕ → List Formula → List Formula
owed beat fs = map (where_active beat) fs

-- ---- calls

-- where a call's frame is active
abbrev pub runs_where : Sight → List Mode → Clock → Manner → Formula
runs_where s ms c plain = present s c
runs_where s ms c (while_true a) = both (present s c) (formula s ms a)
runs_where s ms c (as_import xs) = flag_at s.beat

-- what is held of an output
abbrev pub held_condition : ℕ → Output → Formula
held_condition beat o = becomes o.sort o.held (latest_part beat o)

abbrev pub held_conditions : ℕ → List Output → List Formula
held_conditions beat os = map (held_condition beat) os

abbrev pub held_at_first : List Output → List Value → List Formula
held_at_first [] vs = []
held_at_first (o ∷ os) [] = equal_parts (variable o.sort o.held) (fixed absent) ∷ held_at_first os []
held_at_first (o ∷ os) (v ∷ vs) = equal_parts (variable o.sort o.held) (fixed v) ∷ held_at_first os vs
