-- How what names a property is printed.
use Rattle.std.specs.Prelude.{ℕ, List}
use Rattle.lus_meaning.specs.Label.{name_text, path_text, label_text}
use Rattle.lus_properties.specs.Marks.{Mark}

abbrev pub mark_text : Mark → List ℕ
mark_text m = label_text m.kind (path_text m.path) (name_text m.label m.at)
