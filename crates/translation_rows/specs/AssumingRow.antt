-- A node with an assumption.
use Rattle.std.specs.Prelude.{[], ◌∷◌}
use Rattle.lus_tree.specs.Tree.{declared_node}
use Rattle.lus_meaning.specs.Scene.{Instance}
use Rattle.lus_meaning.specs.Program.{instance_of}
use Rattle.meaning_rows.specs.ContractRows.{guarded_part}

abbrev pub assuming : Instance
assuming = instance_of (declared_node guarded_part ∷ []) guarded_part
