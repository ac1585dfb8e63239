-- In a checked program the names of what is known of a declaration differ.
use Rattle.std.proofs.Common.{List, [], ◌∷◌, map, sym, subst}
use Rattle.std.specs.List.{AllByRecursion}
use Rattle.lus_tree.specs.Tree.{Component, Program}
use Rattle.lus_meaning.specs.ClockFaults.{components}
use Rattle.lus_meaning.specs.Refusals.{IsChecked}
use Rattle.lus_meaning.specs.RuleLaws.{NamesOnce}
use Rattle.lus_meaning.specs.Scene.{variables}
use Rattle.lus_meaning.specs.WellMade.{AreDistinct}
use Rattle.rule_laws.proofs.Covered.{all_contained}
use Rattle.sys_tables.specs.Tabled.{table_of}
use Rattle.frame_names.specs.Known.{HasNamesOnce}
use Rattle.frame_names.proofs.Walks.{names_same}

all_mapped : {A B : Type 0} (f : A → B) (P : B → Type 0) (xs : List A) → AllByRecursion (λ x. P (f x)) xs → AllByRecursion P (map f xs)
all_mapped f P [] h = tt
all_mapped f P (x ∷ xs) h = (h.0, all_mapped f P xs h.1)

pub all_once : NamesOnce → (p : Program) → IsChecked p → AllByRecursion (λ t. HasNamesOnce t.streams) (map (table_of p) (components p))
all_once once p c =
    all_mapped (table_of p) (λ t. HasNamesOnce t.streams) (components p)
    (all_contained (λ (n : Component). HasNamesOnce (table_of p n).streams) (components p)
    (λ n j. subst AreDistinct (sym (names_same n (variables n))) (once p c n j)))
