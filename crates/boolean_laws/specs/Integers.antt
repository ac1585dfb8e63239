-- Declarations and programs without integers.
use Rattle.std.specs.Prelude.{◌≡◌}
use Rattle.std.specs.List.{AllByRecursion}
use Rattle.lus_tree.specs.declared.place.Sort.TheVariants.{Bool as Flags}
use Rattle.lus_tree.specs.Tree.{Program}
use Rattle.lus_meaning.specs.Scene.{Instance, Instances, instance, no_instances, with_instance, component_of, variables}
use Rattle.lus_meaning.specs.Program.{instance_of}
use Rattle.lus_meaning.specs.Run.{sort_of}
use Rattle.lus_meaning.specs.Occurrences.{all_occurrences}
use Rattle.lus_meaning.specs.ClockFaults.{components}

-- no stream of a declaration is of type int, ghost variables among them, and no expression that stands in its text, a
-- part of another or not. So it reads no constant of type int, and has no number.
pub record HasNoneItself (i : Instance) : Type 0 where
  pub streams : AllByRecursion (λ v. v.sort ≡ Flags) (variables (component_of i))
  pub expressions : AllByRecursion (λ o. sort_of i o.expression ≡ Flags) (all_occurrences (component_of i))

abbrev mutual
  -- nor of what it calls and imports, at every depth
  pub HasNoIntegers : Instance → Type 0
  HasNoIntegers (instance d cs is) = HasNoneItself (instance d cs is) × CallsHaveNone is

  pub CallsHaveNone : Instances → Type 0
  CallsHaveNone no_instances = Unit {0}
  CallsHaveNone (with_instance c k is) = HasNoIntegers k × CallsHaveNone is

-- no declaration of a program has any
abbrev pub IsWithoutIntegers : Program → Type 0
IsWithoutIntegers p = AllByRecursion (λ n. HasNoneItself (instance_of p n)) (components p)
