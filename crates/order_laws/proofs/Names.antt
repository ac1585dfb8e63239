-- Which modes an expression names.
use Rattle.std.proofs.Common.{option_map, option_to_list}
use Rattle.lus_tree.specs.Tree.{text_of, Expression, mode_name}
use Rattle.lus_meaning.specs.Occurrences.{Occurrence}
use Rattle.sys_meaning.specs.Items.{Key}

-- a mode that is named is one of these
abbrev pub NamesIn : (Key → Type 0) → Expression → Type 0
NamesIn M (mode_name p d m) = M (option_to_list (option_map text_of d), m.text)
NamesIn M _ = Unit {0}

abbrev pub Named : (Key → Type 0) → Occurrence → Type 0
Named M o = NamesIn M o.expression
