-- What is said of frames: the shapes of their variables, and what holds of their states.
use Rattle.std.specs.Prelude.{List, [], ◌++◌}
use Rattle.kind_num.specs.declared.Shape.{Shape}
use Rattle.sys_terms.specs.View.{Formula}

-- the shapes of variables, and what holds in the first state, in each state, between a state and the next, and what is
-- asserted
pub record Lists : Type 0 where
  pub shapes : List Shape
  pub first : List Formula
  pub here : List Formula
  pub next : List Formula
  pub asserts : List Formula

abbrev pub no_lists : Lists
no_lists = record { shapes = []; first = []; here = []; next = []; asserts = [] }

-- those of two, one behind the other
abbrev pub joined : Lists → Lists → Lists
joined a b = record {
  shapes = a.shapes ++ b.shapes;
  first = a.first ++ b.first;
  here = a.here ++ b.here;
  next = a.next ++ b.next;
  asserts = a.asserts ++ b.asserts;
}
