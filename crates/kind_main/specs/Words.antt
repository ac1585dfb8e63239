-- The words of the command line.
use Rattle.std.specs.Prelude.{◌≡◌, ℕ, false, List, [], ◌∷◌, codes, Option, None, Some}
use Rattle.kind_main.specs.declared.words.Command.{Command}
use Rattle.kind_main.specs.declared.options.Options.{Options}
use Rattle.kind_main.specs.declared.options.Engines.{Engines}
use Rattle.kind_main.specs.declared.options.Engines.TheVariants as e
use Rattle.kind_main.specs.Options.{default_options, IsInRange}
use Rattle.kind_main.specs.Given.{Given, AreGiven, is_option}
use Rattle.kind_main.specs.declared.words.Command.TheVariants.{Prove, Replay}

-- what the words give, and else the default: standard input, to depth 20, by bounded search and induction
abbrev pub file_or : Option (List ℕ) → List ℕ
file_or None = []
file_or (Some f) = f

abbrev pub depth_or : Option ℕ → ℕ
depth_or None = 20
depth_or (Some n) = n

abbrev pub engines_or : Option Engines → Engines
engines_or None = e.BoundedStep
engines_or (Some es) = es

-- no words, or the word `prove` and in any order at most one file, one depth and one list of engines
pub data AreProve (words : List (List ℕ)) (file : List ℕ) (o : Options) : Type 0 where
  no_words : words ≡ [] → file ≡ [] → o ≡ default_options → AreProve words file o
  command : (more : List (List ℕ)) (given : Given) → words ≡ codes "prove" ∷ more → AreGiven more given → file ≡ file_or given.file
      → o ≡ record { depth = depth_or given.depth; engines = engines_or given.engines } → AreProve words file o

-- the words `replay FILE TRACE`
pub record AreReplay (words : List (List ℕ)) (file trace : List ℕ) : Type 0 where
  pub spelled : words ≡ codes "replay" ∷ file ∷ trace ∷ []
  pub file_word : is_option file ≡ false
  pub trace_word : is_option trace ≡ false

-- the words are of no form that is built
pub record AreNoCommand (words : List (List ℕ)) : Type 0 where
  pub no_proof : (file : List ℕ) (o : Options) → AreProve words file o → ⊥
  pub no_replay : (file trace : List ℕ) → AreReplay words file trace → ⊥

-- the words are those of the command
abbrev pub IsCommand : List (List ℕ) → Command → Type 0
IsCommand words (Prove source options) = AreProve words source.now options × IsInRange options
IsCommand words (Replay source trace) = AreReplay words source.now trace.now

-- the proof with these words
abbrev pub IsProofOf : Given → Command → Type 0
IsProofOf g (Prove source options) =
    (source.now ≡ file_or g.file) × (options ≡ record { depth = depth_or g.depth; engines = engines_or g.engines })
IsProofOf g (Replay source trace) = ⊥
