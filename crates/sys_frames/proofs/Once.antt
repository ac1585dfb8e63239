-- In a checked program the names of declarations stand once each.
use Rattle.std.proofs.Common.{◌≡◌, Bool, true, false, ◌||◌, List, [], ◌∷◌, ◌++◌, map, refl, sym}
use Rattle.std.specs.Str.{bytes_eq}
use Rattle.std.proofs.lemmas.Bool.{false≢true}
use Rattle.lus_tree.specs.Reason.{name_twice}
use Rattle.lus_tree.specs.Tree.{Name, text_of, Program, declared_constant, declared_node, declared_contract}
use Rattle.lus_meaning.specs.ClockFaults.{components}
use Rattle.lus_meaning.specs.Depends.{named_in}
use Rattle.lus_meaning.specs.Faults.{words_twice}
use Rattle.lus_meaning.specs.NameFaults.{declaration_word, declaration_faults, typing_faults}
use Rattle.lus_meaning.specs.Refusals.{IsChecked}
use Rattle.lus_meaning.specs.WellMade.{AreDistinct}
use Rattle.lus_meaning.proofs.NamesOnce.{none_twice, no_parts, empty_of}
use Rattle.sys_tables.specs.Tabled.{names_of}

-- the names of all declarations, those of constants too
abbrev all_names : Program → List Name
all_names ds = map text_of (map declaration_word ds)

later : (b a : Bool) → (b || a) ≡ false → a ≡ false
later true a h = absurd (false≢true (sym h))
later false a h = h

kept : (b a d : Bool) → (b || a) ≡ false → (a ≡ false → d ≡ false) → (b || d) ≡ false
kept true a d h r = absurd (false≢true (sym h))
kept false a d h r = r h

not_among : (y : Name) (ds : Program) → named_in y (all_names ds) ≡ false → named_in y (names_of (components ds)) ≡ false
not_among y [] e = refl
not_among y (declared_constant k ∷ ds) e = not_among y ds (later (bytes_eq y k.name.text) (named_in y (all_names ds)) e)
not_among y (declared_node n ∷ ds) e =
    kept (bytes_eq y n.name.text) (named_in y (all_names ds)) (named_in y (names_of (components ds))) e (not_among y ds)
not_among y (declared_contract n ∷ ds) e =
    kept (bytes_eq y n.name.text) (named_in y (all_names ds)) (named_in y (names_of (components ds))) e (not_among y ds)

names_distinct : (ds : Program) → AreDistinct (all_names ds) → AreDistinct (names_of (components ds))
names_distinct [] d = tt
names_distinct (declared_constant k ∷ ds) d = names_distinct ds d.1
names_distinct (declared_node n ∷ ds) d = (not_among n.name.text ds d.0, names_distinct ds d.1)
names_distinct (declared_contract n ∷ ds) d = (not_among n.name.text ds d.0, names_distinct ds d.1)

pub declared_once : (p : Program) → IsChecked p → AreDistinct (names_of (components p))
declared_once p c = names_distinct p (none_twice name_twice (map declaration_word p) none)
  where
    none : words_twice name_twice (map declaration_word p) ≡ []
    none = (no_parts (words_twice name_twice (map declaration_word p)) (declaration_faults p 0 p)
        (no_parts _ (words_twice name_twice (map declaration_word p) ++ declaration_faults p 0 p) (empty_of (typing_faults p) c.rules.clocked.typed)).1).0
