-- The laws of the systems of checked programs.
use Rattle.std.specs.Prelude.{◌≤◌, List, ◌++◌, length, Contains, Option}
use Rattle.lus_tree.specs.Tree.{Name, Component, declared_node, Program}
use Rattle.lus_meaning.specs.Program.{instance_of}
use Rattle.lus_meaning.specs.Refusals.{IsChecked, IsWithinLimits}
use Rattle.lus_meaning.specs.Scene.{Instance}
use Rattle.lus_meaning.specs.Sizes.{Size, term_sizes}
use Rattle.sys_terms.specs.View.{Formula, Machine}
use Rattle.sys_terms.specs.Fits.{IsMild, levels, parts}
use Rattle.sys_meaning.specs.System.{system_of}
use Rattle.sys_meaning.specs.Verdicts.{HasFormulas}
use Rattle.path_laws.specs.Laws.{OfEachInstance}

-- Its terms fit its shapes, those of a state and the next alone speak of a next state, no divisor is 0, and no number and
-- no divisor weighs more than 2^63.
abbrev pub MildSystems : Type 0
MildSystems = OfEachInstance (λ i. IsMild (system_of i))

-- as many formulas as properties
abbrev pub EachFormulas : Type 0
EachFormulas = OfEachInstance HasFormulas

-- ---- levels and parts of terms

-- a term has at most the levels and the parts of a size, or at least those
pub record IsUpTo (f : Formula) (s : Size) : Type 0 where
  pub levels : levels f ≤ s.levels
  pub parts : parts f ≤ s.parts

pub record Reaches (f : Formula) (s : Size) : Type 0 where
  pub levels : s.levels ≤ levels f
  pub parts : s.parts ≤ parts f

-- all terms of a system
abbrev pub terms_of : Machine → List Formula
terms_of m = m.first ++ (m.here ++ (m.next ++ (m.legal ++ m.properties)))

-- each term of the system has at most the levels and parts of some size that is counted, and each of these sizes is
-- reached by some term: so a term has more levels, or more parts, than a limit exactly where a counted size has
pub record IsCounted (i : Instance) : Type 0 where
  pub terms : (f : Formula) → Contains (terms_of (system_of i)) f → (s : Size) × Contains (term_sizes i) s × IsUpTo f s
  pub sizes : (s : Size) → Contains (term_sizes i) s → (f : Formula) × Contains (terms_of (system_of i)) f × Reaches f s

abbrev pub SizesAreCounted : Type 0
SizesAreCounted = OfEachInstance IsCounted

-- ---- limits

-- at most 4,000 levels and 1,000,000 parts
pub record IsSmallTerm (f : Formula) : Type 0 where
  pub levels : levels f ≤ 4000
  pub parts : parts f ≤ 1000000

-- of a checked program within its limits, the terms of each system of a node or function
abbrev pub SmallTerms : Type 0
SmallTerms = (p : Program) (main : Option Name) → IsChecked p → IsWithinLimits p main → (n : Component) → Contains p (declared_node n)
    → (f : Formula) → Contains (terms_of (system_of (instance_of p n))) f → IsSmallTerm f

-- at most so many variables and formulas of properties
pub record IsSmall (m : Machine) : Type 0 where
  pub variables : length m.shapes ≤ 20000
  pub properties : length m.properties ≤ 500

-- a node or function of a program within its limits has a small system
abbrev pub SmallSystems : Type 0
SmallSystems = (p : Program) (main : Option Name) → IsWithinLimits p main → (n : Component) → Contains p (declared_node n)
    → IsSmall (system_of (instance_of p n))
