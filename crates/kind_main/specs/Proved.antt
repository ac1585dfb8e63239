-- How a proof ends.
use Rattle.std.specs.Prelude.{◌≡◌, ℕ, List}
use Rattle.kind_io.specs.Counts.{Rose}
use Rattle.kind_io.specs.Told.{Told}
use Rattle.lus_tree.specs.Tree.{Program}
use Rattle.kind_main.specs.Lines.{Line}
use Rattle.kind_main.specs.declared.options.Options.{Options}
use Rattle.kind_main.specs.Proof.{IsProof}
use Rattle.kind_main.specs.Fetched.{Tells}
use Rattle.kind_main.specs.Source.{HoldsSource, IsRefusedFile}
use Rattle.kind_main.specs.Ending.{Ending, usage, unread, refused, done}

-- the file holds a source, and the lines say of each of its properties what is so, for these options
pub record IsProved (o : Options) (told : Told) (lines : List Line) (code : ℕ) : Type 0 where
  pub program : Program
  pub source : HoldsSource told program
  pub proof : IsProof o program lines code

-- How the proof of a source ends. The counts are the shelf's faults before the call and now.
abbrev pub EndsProof : Options → Tells → ℕ → ℕ → List ℕ → Ending → Type 0
EndsProof o told before now file usage = ⊥
EndsProof o told before now file (unread name) = Rose before now × (name ≡ file)
EndsProof o told before now file (refused line) = IsRefusedFile (told file) line
EndsProof o told before now file (done lines code) = IsProved o (told file) lines code
