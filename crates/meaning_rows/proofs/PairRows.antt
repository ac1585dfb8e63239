-- The worked rows of two equations of a node.
use Rattle.std.proofs.Common.{◌≡◌, ℕ, zero, suc, ◌<◌, false, true, [], ◌∷◌, refl, arith, codes, None, Some}
use Rattle.std.proofs.lemmas.Bool.{false≢true}
use Rattle.lus_tree.specs.Tree.{Program, declared_node}
use Rattle.lus_tree.specs.Numbers.{Counted, a_pre, an_arrow, a_call, are_counted, numbers_in}
use Rattle.lus_meaning.specs.Run.{equations}
use Rattle.lus_meaning.specs.Cycle.{NoCycle}
use Rattle.lus_meaning.specs.Order.{is_listed, IsReady, IsOrder, IsStuck, NeedsEquation, IsLeastEquationOrder}
use Rattle.lus_meaning.specs.Grammatical.{IsGrammaticalComponent}
use Rattle.lus_meaning.specs.Limits.{size_faults}
use Rattle.lus_meaning.specs.Refusals.{IsChecked, IsWithinLimits}
use Rattle.meaning_rows.specs.PairRows.{against, against_node, circle, circle_node}
use Rattle.lus_meaning.proofs.FirstFault.{none_of}
use Rattle.lus_meaning.proofs.NoCircle.{follows_row}
use Rattle.lus_meaning.proofs.Orders.{distinct-cons, no_numbers}
use Rattle.meaning_rows.proofs.Ways.{at_name, by_way, no_way}

-- ---- equations against their order: x is 0, and y is 1

abbrev Needs : ℕ → ℕ → Type 0
Needs = NeedsEquation against (equations against_node)

first_needs_second : Needs 0 1
first_needs_second = by_way against (codes "x") (codes "y") refl refl (3, at_name (codes "y")) [] (refl, tt) refl

first_not_first : Needs 0 0 → ⊥
first_not_first n = no_way against 9 (codes "x") (codes "x") refl refl n

second_not_first : Needs 1 0 → ⊥
second_not_first n = no_way against 9 (codes "y") (codes "x") refl refl n

second_not_second : Needs 1 1 → ⊥
second_not_second n = no_way against 9 (codes "y") (codes "y") refl refl n

second_ready : IsReady 2 Needs [] 1
second_ready zero l n = absurd (second_not_first n)
second_ready (suc zero) l n = absurd (second_not_second n)
second_ready (suc (suc j)) l n = absurd (omega arith)

first_ready : IsReady 2 Needs (1 ∷ []) 0
first_ready zero l n = absurd (first_not_first n)
first_ready (suc zero) l n = refl
first_ready (suc (suc j)) l n = absurd (omega arith)

both_listed : (k : ℕ) → k < 2 → is_listed (1 ∷ 0 ∷ []) k ≡ true
both_listed zero l = refl
both_listed (suc zero) l = refl
both_listed (suc (suc k)) l = absurd (omega arith)

not_first : (j : ℕ) → j < 1 → is_listed [] j ≡ false → IsReady 2 Needs [] j → ⊥
not_first zero l e h = false≢true (h 1 (omega arith) first_needs_second)
not_first (suc j) l e h = absurd (omega arith)

against_is_order : IsOrder 2 Needs (1 ∷ 0 ∷ [])
against_is_order = record {
  below = (omega arith, (omega arith, tt));
  all = both_listed;
  once = distinct-cons 1 (0 ∷ []) (distinct-cons 0 [] no_numbers refl) refl;
  ready = (second_ready, (first_ready, tt));
}

pub against_order : IsLeastEquationOrder against (equations against_node) (1 ∷ 0 ∷ [])
against_order = record {
  order = against_is_order;
  next = (
    record { below = omega arith; new = refl; ready = second_ready; least = not_first },
    (record { below = omega arith; new = refl; ready = first_ready; least = λ j l e h. absurd (omega arith) }, tt),
  );
}

-- ---- the rules and the limits

abbrev against_program : Program
against_program = declared_node against_node ∷ []

against_counted : (c : Counted) → are_counted (numbers_in c against_node) ≡ true
against_counted a_pre = refl
against_counted an_arrow = refl
against_counted a_call = refl

against_is_plain : IsGrammaticalComponent against_node
against_is_plain = record {
  name = refl;
  names = refl;
  modes = refl;
  words = refl;
  clocks = refl;
  forms = refl;
  lefts = refl;
  labels = refl;
  numbered = record { each = against_counted };
}

pub against_checked : IsChecked against_program
against_checked = record {
  grammatical = (against_is_plain, tt);
  rules = follows_row against_program 9 refl refl refl refl;
}

pub against_within : IsWithinLimits against_program None
against_within = none_of (size_faults against_program None) refl

-- ---- equations that need each other

-- x = not y
x_needs_y : NeedsEquation circle (equations circle_node) 0 1
x_needs_y = record {
  start = codes "x";
  starts = refl;
  first = (3, ([], Some (codes "y")));
  rest = [];
  way = (refl, tt);
  finish = codes "y";
  finishes = refl;
  last = refl;
}

-- y = pre x -> x
y_needs_x : NeedsEquation circle (equations circle_node) 1 0
y_needs_x = record {
  start = codes "y";
  starts = refl;
  first = (4, ([], Some (codes "x")));
  rest = [];
  way = (refl, tt);
  finish = codes "x";
  finishes = refl;
  last = refl;
}

pub circle_stuck : IsStuck 2 (NeedsEquation circle (equations circle_node)) []
circle_stuck = record { left = 0; below = omega arith; new = refl; none = none }
  where
    none : (k : ℕ) → k < 2 → is_listed [] k ≡ false → IsReady 2 (NeedsEquation circle (equations circle_node)) [] k → ⊥
    none zero l e h = false≢true (h 1 (omega arith) x_needs_y)
    none (suc zero) l e h = false≢true (h 0 (omega arith) y_needs_x)
    none (suc (suc k)) l e h = absurd (omega arith)

pub circle_refused : NoCycle circle → ⊥
circle_refused h = h (codes "x") (3, ([], Some (codes "y"))) ((4, ([], Some (codes "x"))) ∷ []) (refl, (refl, tt)) refl
