-- The laws of declarations without integers.
use Rattle.std.specs.Prelude.{◌≡◌, true}
use Rattle.std.specs.List.{AllByRecursion}
use Rattle.kind_num.specs.declared.Shape.TheVariants as shapes
use Rattle.lus_meaning.specs.Program.{instance_of}
use Rattle.lus_meaning.specs.RuleLaws.{OfEach}
use Rattle.sys_terms.specs.Boolean.{is_boolean}
use Rattle.sys_terms.specs.View.{Machine}
use Rattle.sys_meaning.specs.System.{system_of}
use Rattle.path_laws.specs.Laws.{OfEachInstance}
use Rattle.term_laws.specs.Laws.{terms_of}
use Rattle.boolean_laws.specs.Integers.{HasNoIntegers, IsWithoutIntegers}

-- of a program without integers no declaration has any, with all that it calls and imports
abbrev pub EachHasNone : Type 0
EachHasNone = OfEach (λ p n. IsWithoutIntegers p → HasNoIntegers (instance_of p n))

-- no variable of the system is a number, and no term compares numbers
pub record IsOfFlags (m : Machine) : Type 0 where
  pub variables : AllByRecursion (λ s. s ≡ shapes.Flag) m.shapes
  pub terms : AllByRecursion (λ f. is_boolean f ≡ true) (terms_of m)

abbrev pub SystemsAreOfFlags : Type 0
SystemsAreOfFlags = OfEachInstance (λ i. HasNoIntegers i → IsOfFlags (system_of i))
