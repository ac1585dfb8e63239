-- What printing leaves of the lines of an answer.
use Rattle.std.specs.Prelude.{◌≡◌, ◌++◌, ◌⊎◌, ℕ, List, [], Option}
use Rattle.std.specs.Io.KnownBytes.{Appends}
use Rattle.kind_io.specs.Counts.{Rose}
use Rattle.kind_io.specs.Written.{AppendsFront}
use Rattle.kind_main.specs.Lines.{Line, text_of, memory_line}

-- that memory ran out was said, or could not be
pub data IsSaid (puts_before puts_now : ℕ) (old new : Option (List ℕ)) (code : ℕ) : Type 0 where
  said : code ≡ 7 → Appends old new memory_line ⊎ Appends old new [] → IsSaid puts_before puts_now old new code
  unsaid : code ≡ 6 → Rose puts_before puts_now → AppendsFront old new memory_line → IsSaid puts_before puts_now old new code

-- all lines, or first ones and then a put that failed or memory that ran out
pub data Printed (lines : List Line) (status : ℕ) (puts_before puts_now : ℕ) (old new : Option (List ℕ)) (code : ℕ) : Type 0 where
  whole : code ≡ status → Appends old new (text_of lines) → Printed lines status puts_before puts_now old new code
  broken : code ≡ 6 → Rose puts_before puts_now → AppendsFront old new (text_of lines) → Printed lines status puts_before puts_now old new code
  stopped : (first rest : List Line) → lines ≡ first ++ rest → code ≡ 7 → Appends old new (text_of first ++ memory_line) ⊎ Appends old new
      (text_of first) → Printed lines status puts_before puts_now old new code
  lost : (first rest : List Line) → lines ≡ first ++ rest → code ≡ 6 → Rose puts_before puts_now → AppendsFront old new
      (text_of first ++ memory_line) → Printed lines status puts_before puts_now old new code
