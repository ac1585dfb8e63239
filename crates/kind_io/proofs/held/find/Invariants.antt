use Rattle.std.proofs.Common.{◌≡◌, drop}
use Rattle.kind_io.specs.Held.{held_of}
use Rattle.kind_io.proofs.held.find.Given as goal

-- the files before this one have other names
abbrev pub invariant-loop-file : goal.invariant-loop-file
invariant-loop-file l = held_of l.files l.name ≡ held_of (drop l.file-index l.files) l.name
