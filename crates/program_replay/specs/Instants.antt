-- The parts of an instant of a named node.
use Rattle.std.specs.Prelude.{◌≡◌, List, Some}
use Rattle.lus_tree.specs.Tree.{Name, Program}
use Rattle.slot_replay.specs.Parts.{Part}
use Rattle.replay_laws.specs.OverSlots.{AreDeclaredParts}
use Rattle.program_replay.specs.Named.{Numbered, numbers_from}

-- of the first node or function of that name, where there is one
abbrev pub AreNamedParts : Program → Name → List Part → Type 0
AreNamedParts p x ps = (m : Numbered) → numbers_from 0 0 x p ≡ Some m → AreDeclaredParts p m.place ps
