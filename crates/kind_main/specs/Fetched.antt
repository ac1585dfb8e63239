-- The files of a command.
use Rattle.std.specs.Prelude.{◌≡◌, ℕ, List}
use Rattle.kind_io.specs.Counts.{Rose}
use Rattle.kind_io.specs.Told.{Told, MayExceed}
use Rattle.kind_main.specs.Lines.{too_long_line}
use Rattle.kind_main.specs.Ending.{Ending, usage, unread, refused, done}

-- what the shelf tells of each name
abbrev pub Tells : Type 0
Tells = List ℕ → Told

-- sources and traces have at most so many bytes
abbrev pub limit : ℕ
limit = 1048576

-- how a command ends that gets no bytes of a file: it could not be read, or it is too long
abbrev pub IsUnfetched : Told → ℕ → ℕ → List ℕ → Ending → Type 0
IsUnfetched told before now name (unread file) = Rose before now × (file ≡ name)
IsUnfetched told before now name (refused line) = MayExceed told limit × (line ≡ too_long_line)
IsUnfetched told before now name usage = ⊥
IsUnfetched told before now name (done lines code) = ⊥
