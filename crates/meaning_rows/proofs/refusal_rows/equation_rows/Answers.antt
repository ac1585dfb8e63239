use Rattle.std.proofs.Common.{refl, ◌≡◌, ℕ, ◌∷◌, [], List, Some, codes, true, get_or, length}
use Rattle.std.specs.Prelude.{Contains, nat_lt}
use Rattle.lus_tree.specs.declared.place.Sort.TheVariants.{Bool as Flags}
use Rattle.lus_tree.specs.Tree.{Component, Variable}
use Rattle.lus_meaning.specs.Scene.{variables}
use Rattle.lus_meaning.specs.Scene.{no_component}
use Rattle.std.proofs.lemmas.Bool.{ltb-true}
use Rattle.lus_tree.specs.Reason.{clock_clash, cycle, equation_twice, input_defined}
use Rattle.lus_meaning.specs.Faults.{fault}
use Rattle.lus_meaning.specs.EquationFaults.{of_circle, of_equation, of_clocks, sides}
use Rattle.lus_meaning.specs.ClockFaults.{components}
use Rattle.meaning_rows.specs.PlacedParts.{at, word, variable}
use Rattle.meaning_rows.specs.RefusalRows.{faster_than_its_clock, defined_twice, defined_input, needs_each_other, clocks_in_a_circle, through_its_clock, late_argument}
use Rattle.lus_meaning.proofs.FirstFault.{clock_row, left_row, equation_row, clocked_row}
use Rattle.lus_meaning.proofs.NoCircle.{follows_row, left_alone_row}
use Rattle.meaning_rows.proofs.refusal_rows.equation_rows.Goals as goal

pub returns-clause-clock : goal.returns-clause-clock
returns-clause-clock c = clock_row faster_than_its_clock (fault clock_clash (at 2 9)) refl refl refl refl

pub returns-clause-twice : goal.returns-clause-twice
returns-clause-twice c = left_alone_row defined_twice 9 (fault equation_twice (at 3 2)) refl refl refl refl refl refl

pub returns-clause-input : goal.returns-clause-input
returns-clause-input c = left_row defined_input (fault input_defined (at 2 5)) refl refl refl refl refl

pub returns-clause-late : goal.returns-clause-late
returns-clause-late c = follows_row late_argument 9 refl refl refl refl

-- the one at k, as it computes
at_place : {A : Type 0} (xs : List A) (k : ℕ) (x : A) → nat_lt k (length xs) ≡ true → get_or xs k x ≡ x → Contains xs x
at_place xs k x l e = (k, ltb-true k (length xs) l, e)

abbrev each_other : Component
each_other = get_or (components needs_each_other) 0 no_component

pub returns-clause-circle : goal.returns-clause-circle
returns-clause-circle c = equation_row needs_each_other (fault cycle (at 3 5)) refl refl
    (of_circle each_other (at_place (components needs_each_other) 0 each_other refl refl)
    (of_equation (word (codes "x") 3 5) [] (at_place (sides each_other) 0 (word (codes "x") 3 5 ∷ []) refl refl)
    (record {
      start = codes "x";
      starts = refl;
      first = (2, ([], Some (codes "y")));
      rest = (2, ([], Some (codes "x"))) ∷ [];
      way = (refl, (refl, tt));
      finish = codes "x";
      finishes = refl;
      last = refl;
    }) refl)) refl

abbrev in_circle : Component
in_circle = get_or (components clocks_in_a_circle) 0 no_component

abbrev on_b : Variable
on_b = variable (word (codes "a") 2 5) Flags (Some (true, word (codes "b") 2 19))

pub returns-clause-clocks : goal.returns-clause-clocks
returns-clause-clocks c = equation_row clocks_in_a_circle (fault cycle (at 2 5)) refl refl
    (of_circle in_circle (at_place (components clocks_in_a_circle) 0 in_circle refl refl)
    (of_clocks on_b (record {
      declared = at_place (variables in_circle) 0 on_b refl refl;
      next = codes "b";
      rest = codes "a" ∷ [];
      chain = (refl, refl, (refl, refl, tt));
      last = refl;
    }) refl)) refl

abbrev defined_on_b : Component
defined_on_b = get_or (components through_its_clock) 0 no_component

pub returns-clause-through : goal.returns-clause-through
returns-clause-through c = (
  clocked_row through_its_clock refl refl,
  of_circle defined_on_b (at_place (components through_its_clock) 0 defined_on_b refl refl)
      (of_equation (word (codes "a") 3 5) [] (at_place (sides defined_on_b) 0 (word (codes "a") 3 5 ∷ []) refl refl)
      (record {
        start = codes "a";
        starts = refl;
        first = (0, ([], Some (codes "b")));
        rest = (0, ([], Some (codes "a"))) ∷ [];
        way = (refl, (refl, tt));
        finish = codes "a";
        finishes = refl;
        last = refl;
      }) refl),
)
