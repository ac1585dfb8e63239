-- What a reader of a phrase answers: for its callers by `Run`, and for all others by the grammar's texts alone.
use Rattle.std.specs.Prelude.{◌≡◌, ℕ}
use Rattle.lus_tree.specs.Reason.{Refused, memory}
use Rattle.lus_grammar.specs.Stream.{Stream}
use Rattle.lus_grammar.specs.Phrase.{Phrase}
use Rattle.lus_grammar.specs.Syntax.{Counts, Syntax}
use Rattle.lus_grammar.specs.Run.{Cause, read, stop, Run}
use Rattle.lus_grammar.specs.Reading.{Whole, Stops}
use Rattle.lus_grammar.specs.Source.{limit, IsReason}

-- a reading of the phrase from i comes to j, where v is the value of what was read
pub record Reads {V : Type 0} (value : Syntax → V) (s : Stream) (g : Phrase) (i : ℕ) (n : Counts) (j : ℕ) (m : Counts) (v : V) : Type 0 where
  pub syntax : Syntax
  pub run : Run limit s g i n (read j m syntax)
  pub is : v ≡ value syntax

-- a reading of the phrase from i stops at a mark, and the refusal says where and why; or memory ran out
pub data Refuses (s : Stream) (g : Phrase) (i : ℕ) (n : Counts) (r : Refused) : Type 0 where
  out_of_memory : r.reason ≡ memory → Refuses s g i n r
  stopped : {c : Cause} {k : ℕ} → Run limit s g i n (stop c k) → r.at ≡ (s k).at → IsReason (s k) c r.reason → Refuses s g i n r

-- the marks from i up to j are a text of the phrase and can't be a longer one, and v is its value
pub record IsText {V : Type 0} (value : Syntax → V) (s : Stream) (g : Phrase) (i : ℕ) (n : Counts) (j : ℕ) (m : Counts) (v : V) : Type 0 where
  pub syntax : Syntax
  pub whole : Whole limit s g i n j m syntax
  pub is : v ≡ value syntax

-- the first mark from i on that no text of the phrase goes on with, and why; or memory ran out
pub data IsNoText (s : Stream) (g : Phrase) (i : ℕ) (n : Counts) (r : Refused) : Type 0 where
  out_of_memory : r.reason ≡ memory → IsNoText s g i n r
  stopped : {c : Cause} {k : ℕ} → Stops limit s g i n c k → r.at ≡ (s k).at → IsReason (s k) c r.reason → IsNoText s g i n r
