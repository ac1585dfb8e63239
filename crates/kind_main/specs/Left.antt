-- What a call leaves, status by status.
use Rattle.std.specs.Prelude.{◌≡◌, ◌++◌, ◌⊎◌, ℕ, List, [], Option}
use Rattle.std.specs.Io.KnownBytes.{Appends}
use Rattle.kind_io.specs.Counts.{Rose}
use Rattle.kind_io.specs.Written.{AppendsFront}
use Rattle.kind_io.specs.Told.{Told}
use Rattle.kind_main.specs.declared.options.Options.{Options}
use Rattle.kind_main.specs.Words.{AreProve, AreReplay, AreNoCommand}
use Rattle.kind_main.specs.Lines.{Line, text_of, usage_line, memory_line, read_fault_line}
use Rattle.kind_main.specs.Fetched.{Tells}
use Rattle.kind_main.specs.Source.{IsRefusedFile}
use Rattle.kind_main.specs.Proved.{IsProved}
use Rattle.kind_main.specs.Traced.{IsReplayed, IsUnreadOf, IsRefusedOf}
use Rattle.kind_main.specs.Answer.{IsAnswer}

-- what was written before and is written now, where that is told
abbrev pub Written : Type 0
Written = Option (List ℕ)

-- whole first lines of the answer
pub data AreFirst (told : Tells) (before now : ℕ) (words : List (List ℕ)) (lines : List Line) : Type 0 where
  nothing : lines ≡ [] → AreFirst told before now words lines
  some : (rest : List Line) (code : ℕ) → IsAnswer told before now words (lines ++ rest) code → AreFirst told before now words lines

-- what a call writes where no put fails: the answer, or where memory runs out its first lines and a line that says so
pub data IsWhole (told : Tells) (before now : ℕ) (words : List (List ℕ)) (text : List ℕ) : Type 0 where
  answered : (lines : List Line) (code : ℕ) → IsAnswer told before now words lines code → text ≡ text_of lines → IsWhole told before now words text
  short : (lines : List Line) → AreFirst told before now words lines → text ≡ text_of lines ++ memory_line → IsWhole told before now words text

-- How a call ends: with its answer written, with a put that failed, or without memory.
pub data Leaves (told : Tells) (before now : ℕ) (words : List (List ℕ)) (puts_before puts_now : ℕ) (old new : Written) (code : ℕ) : Type 0 where
  answer : (lines : List Line) → IsAnswer told before now words lines code → Appends old new (text_of lines)
      → Leaves told before now words puts_before puts_now old new code
  failed : (text : List ℕ) → code ≡ 6 → Rose puts_before puts_now → IsWhole told before now words text → AppendsFront old new text
      → Leaves told before now words puts_before puts_now old new code
  no_memory : (lines : List Line) → code ≡ 7 → AreFirst told before now words lines → Appends old new (text_of lines ++ memory_line)
      ⊎ Appends old new (text_of lines) → Leaves told before now words puts_before puts_now old new code

-- ---- commands that were carried out

-- the statuses of a proof, and of a replay
abbrev pub IsProofCode : ℕ → Type 0
IsProofCode code = (code ≡ 0) ⊎ ((code ≡ 1) ⊎ (code ≡ 4))

abbrev pub IsReplayCode : ℕ → Type 0
IsReplayCode code = (code ≡ 1) ⊎ ((code ≡ 9) ⊎ (code ≡ 10))

-- The file holds a source that follows the rules, and what was written grew by the lines of its proof.
pub record IsProofDone (o : Options) (told : Told) (old new : Written) (code : ℕ) : Type 0 where
  pub lines : List Line
  pub proved : IsProved o told lines code
  pub printed : Appends old new (text_of lines)

-- The files hold a source that follows the rules and a trace that fits it, and what was written grew by the lines of
-- the trace's one frame, or by the line of the first value outside 128 bits.
pub record IsReplayDone (told : Tells) (file trace : List ℕ) (old new : Written) (code : ℕ) : Type 0 where
  pub lines : List Line
  pub replayed : IsReplayed told file trace lines code
  pub printed : Appends old new (text_of lines)

-- ---- other statuses

-- Status 2: the words are of no form that is built, and the usage line was written.
pub record IsUsage (words : List (List ℕ)) (old new : Written) : Type 0 where
  pub other : AreNoCommand words
  pub printed : Appends old new usage_line

-- of a proof the source is refused; of a replay the source or, where that is held, the trace
pub data IsRefusedBy (told : Tells) (words : List (List ℕ)) (line : Line) : Type 0 where
  in_proof : (file : List ℕ) (o : Options) → AreProve words file o → IsRefusedFile (told file) line → IsRefusedBy told words line
  in_replay : (file trace : List ℕ) → AreReplay words file trace → IsRefusedOf told file trace line → IsRefusedBy told words line

-- Status 3: a file of the command is refused, and the line that says so was written.
pub record IsRefusal (told : Tells) (words : List (List ℕ)) (old new : Written) : Type 0 where
  pub line : Line
  pub cause : IsRefusedBy told words line
  pub printed : Appends old new line

-- of a proof the source could not be read; of a replay the source or, where that is held, the trace
pub data IsUnreadBy (told : Tells) (words : List (List ℕ)) (name : List ℕ) : Type 0 where
  in_proof : (file : List ℕ) (o : Options) → AreProve words file o → name ≡ file → IsUnreadBy told words name
  in_replay : (file trace : List ℕ) → AreReplay words file trace → IsUnreadOf told file trace name → IsUnreadBy told words name

-- Status 5: a file of the command could not be read, and the line that names it was written.
pub record IsUnread (told : Tells) (before now : ℕ) (words : List (List ℕ)) (old new : Written) : Type 0 where
  pub rose : Rose before now
  pub name : List ℕ
  pub which : IsUnreadBy told words name
  pub printed : Appends old new (read_fault_line name)

-- Status 6: a put failed, and a front of what the call would have written was written.
pub record IsBroken (told : Tells) (before now : ℕ) (words : List (List ℕ)) (puts_before puts_now : ℕ) (old new : Written) : Type 0 where
  pub rose : Rose puts_before puts_now
  pub text : List ℕ
  pub whole : IsWhole told before now words text
  pub printed : AppendsFront old new text

-- Status 7: memory ran out; some whole first lines of the answer were written and then, unless that put wanted memory too, the line that says so.
pub record IsShort (told : Tells) (before now : ℕ) (words : List (List ℕ)) (old new : Written) : Type 0 where
  pub lines : List Line
  pub first : AreFirst told before now words lines
  pub printed : Appends old new (text_of lines ++ memory_line) ⊎ Appends old new (text_of lines)

-- the statuses, those of a command among them
pub data IsKnown (words : List (List ℕ)) (code : ℕ) : Type 0 where
  of_no_command : (code ≡ 2) ⊎ ((code ≡ 3) ⊎ ((code ≡ 5) ⊎ ((code ≡ 6) ⊎ (code ≡ 7)))) → IsKnown words code
  of_proof : (file : List ℕ) (o : Options) → AreProve words file o → IsProofCode code → IsKnown words code
  of_replay : (file trace : List ℕ) → AreReplay words file trace → IsReplayCode code → IsKnown words code
