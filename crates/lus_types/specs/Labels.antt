-- Labels, and those that stand twice, from the last one on.
use Rattle.std.specs.Prelude.{◌≡◌, List, [], ◌∷◌, ◌++◌, map}
use Rattle.lus_tree.specs.Tree.{Name}
use Rattle.lus_tree.specs.Reason.{Refused, name_twice}
use Rattle.lus_meaning.specs.Depends.{named_in}
use Rattle.lus_meaning.specs.Faults.{meets}
use Rattle.lus_meaning.specs.NameFaults.{Tag, same_tag}
use Rattle.lus_types.specs.declared.labels.Label.{Label}

abbrev pub label_view : Label → Tag
label_view l = (l.of.now, l.text.now, l.at)

abbrev pub labels_view : List Label → List Tag
labels_view ls = map label_view ls

-- the labels are those before, and these behind them
abbrev pub LabelsOn : List Label → List Label → List Tag → Type 0
LabelsOn old new ts = labels_view new ≡ labels_view old ++ ts

-- the table has the texts of these labels
abbrev pub HasLabels : List Name → List Tag → Type 0
HasLabels t ts = (x : Name) → named_in x t ≡ named_in x (map (λ l. l.1) ts)

abbrev pub tags_from_last : List Tag → List Refused
tags_from_last [] = []
tags_from_last (t ∷ ts) = tags_from_last ts ++ meets same_tag (λ l. l.2) name_twice t ts
