-- What a list of named bytes holds.
use Rattle.std.specs.Prelude.{ℕ, List, [], ◌∷◌, Option, Some, None, string_bytes, if◌then◌else◌}
use Rattle.std.specs.Str.{bytes_eq}
use Rattle.std.specs.declared.alloc.Global.{Global}
use Rattle.std.specs.declared.string.String.{String}
use Rattle.std.specs.declared.vec.Vec.{Vec}

-- the bytes of the first file of that name
abbrev pub held_of : List (String Global × Vec ℕ Global) → List ℕ → Option (List ℕ)
held_of [] name = None
held_of (file ∷ files) name = if bytes_eq (string_bytes file.0) name then Some file.1.items else held_of files name
