-- How a text is made by the grammar: its concrete syntax.
use Rattle.std.specs.Prelude.{ℕ, ◌+◌}
use Rattle.lus_grammar.specs.Stream.{Mark}
use Rattle.lus_grammar.specs.Phrase.{Part, Counter, pres, arrows, calls}

-- how many occurrences of each kind stand before a place of a declaration
pub record Counts : Type 0 where
  pub pres : ℕ
  pub arrows : ℕ
  pub calls : ℕ

abbrev pub none_before : Counts
none_before = record { pres = 0; arrows = 0; calls = 0 }

-- the number of the next occurrence of a kind
abbrev pub number_of : Counter → Counts → ℕ
number_of pres n = n.pres + 1
number_of arrows n = n.arrows + 1
number_of calls n = n.calls + 1

-- the counts behind it
abbrev pub counted_on : Counter → Counts → Counts
counted_on pres n = record { pres = n.pres + 1; arrows = n.arrows; calls = n.calls }
counted_on arrows n = record { pres = n.pres; arrows = n.arrows + 1; calls = n.calls }
counted_on calls n = record { pres = n.pres; arrows = n.arrows; calls = n.calls + 1 }

infixr 50 ◌·◌
pub data Syntax : Type 0 where
  -- a token; a token with the number of its occurrence
  leaf : Mark → Syntax
  numbered : Mark → ℕ → Syntax
  -- the text of a line of the grammar
  node : Part → Syntax → Syntax
  -- one and then the other
  ◌·◌ : Syntax → Syntax → Syntax
  -- the one or the other of two
  this : Syntax → Syntax
  that : Syntax → Syntax
  -- what may stand at most once
  absent : Syntax
  present : Syntax → Syntax
  -- what may stand any number of times
  none : Syntax
  some : Syntax → Syntax → Syntax
