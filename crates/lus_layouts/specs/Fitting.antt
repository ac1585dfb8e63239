-- Which frames have no more variables than the limit.
use Rattle.std.specs.Prelude.{◌<◌, Contains, Option}
use Rattle.lus_tree.specs.Lookup.{nodes_of}
use Rattle.lus_tree.specs.Tree.{Name, Component, Program}
use Rattle.lus_meaning.specs.Program.{all_sites}
use Rattle.lus_meaning.specs.Refusals.{IsWithinLimits}
use Rattle.lus_meaning.specs.RuleLaws.{OfEach}
use Rattle.lus_meaning.specs.Scene.{Manner, plain, Site}
use Rattle.lus_limits.specs.Instances.{callee}
use Rattle.lus_limits.specs.Summaries.{bound}
use Rattle.lus_limits.specs.Widths.{frame_width}

-- those of the nodes and functions of a program that is within the limits
abbrev pub NodesFit : Type 0
NodesFit =
    (p : Program) (main : Option Name) → IsWithinLimits p main → (n : Component) → Contains (nodes_of p) n
    → frame_width p plain n < bound

-- and in a checked program those of what is called from one that does
abbrev pub CalleesFit : Type 0
CalleesFit =
    OfEach (λ p n. (m : Manner) → frame_width p m n < bound → (s : Site) → Contains (all_sites n) s
    → frame_width p s.manner (callee p s.callee) < bound)
