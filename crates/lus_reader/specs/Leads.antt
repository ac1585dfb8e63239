-- How a list goes on: what the rest comes to, the whole comes to, behind what was read before.
use Rattle.std.specs.Prelude.{ℕ, List, ◌++◌}
use Rattle.lus_tree.specs.Reason.{Refused}
use Rattle.lus_grammar.specs.Stream.{Stream}
use Rattle.lus_grammar.specs.Phrase.{Phrase}
use Rattle.lus_grammar.specs.Syntax.{Counts, Syntax}
use Rattle.lus_grammar.specs.Answers.{Reads, Refuses}

-- The whole phrase from i, with the value w, has read front and goes on at k with the rest of it, whose value is v.
pub record Leads {V : Type 0} (w v : Syntax → List V) (s : Stream) (whole rest : Phrase) (i : ℕ) (n : Counts) (front : List V) (k : ℕ)
    (m : Counts) : Type 0 where
  pub reads : (j : ℕ) (o : Counts) (xs : List V) → Reads v s rest k m j o xs → Reads w s whole i n j o (front ++ xs)
  pub refuses : (r : Refused) → Refuses s rest k m r → Refuses s whole i n r
