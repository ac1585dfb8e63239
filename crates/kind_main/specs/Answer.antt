-- How the command of the words ends.
use Rattle.std.specs.Prelude.{◌≡◌, ℕ, List}
use Rattle.kind_main.specs.declared.options.Options.{Options}
use Rattle.kind_main.specs.Words.{AreProve, AreReplay, AreNoCommand}
use Rattle.kind_main.specs.Fetched.{Tells}
use Rattle.kind_main.specs.Lines.{Line}
use Rattle.kind_main.specs.Ending.{Ending, usage, Shows}
use Rattle.kind_main.specs.Traced.{EndsReplay}
use Rattle.kind_main.specs.Proved.{EndsProof}

-- a constructor for each command, and one for words of no form that is built
pub data EndsSo (told : Tells) (before now : ℕ) (words : List (List ℕ)) (e : Ending) : Type 0 where
  no_command : AreNoCommand words → e ≡ usage → EndsSo told before now words e
  prove : (file : List ℕ) (o : Options) → AreProve words file o → EndsProof o told before now file e → EndsSo told before now words e
  replay : (file trace : List ℕ) → AreReplay words file trace → EndsReplay told before now file trace e → EndsSo told before now words e

-- the lines and the status that answer the words
pub record IsAnswer (told : Tells) (before now : ℕ) (words : List (List ℕ)) (lines : List Line) (code : ℕ) : Type 0 where
  pub ending : Ending
  pub ends : EndsSo told before now words ending
  pub shown : Shows lines code ending
