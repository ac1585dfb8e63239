-- The width of a frame by the declaration's own text and the widths of its callees' frames.
use Rattle.std.specs.Prelude.{◌≡◌, ℕ, ◌+◌, min, List, [], length}
use Rattle.lus_tree.specs.Tree.{Component, Program}
use Rattle.lus_meaning.specs.Scene.{Manner, plain, Site}
use Rattle.lus_meaning.specs.Program.{all_sites, instance_of}
use Rattle.lus_meaning.specs.Slots.{own_cells, slots_in, width}
use Rattle.lus_meaning.specs.RuleLaws.{OfEach, sites_width}

-- how many variables a declaration's frame has, those of its calls too, where it runs in that manner
abbrev pub frame_width : Program → Manner → Component → ℕ
frame_width p m n = length (slots_in m [] (instance_of p n))

-- its own cells, and for each call what the caller holds of it and its frame
abbrev pub WidthByText : Type 0
WidthByText =
    OfEach (λ p n. (m : Manner) → frame_width p m n ≡ length (own_cells m n) + sites_width (frame_width p) p (all_sites n))

-- the variables of a node's system are those of its frame
abbrev pub WidthIsPlain : Type 0
WidthIsPlain = (p : Program) (n : Component) → width (instance_of p n) ≡ frame_width p plain n

-- what calls take is known up to a bound from widths that are cut there
abbrev pub WidthCuts : Type 0
WidthCuts =
    (k : ℕ) (w : Manner → Component → ℕ) (p : Program) (ss : List Site) → min k (sites_width w p ss)
    ≡ min k (sites_width (λ m n. min k (w m n)) p ss)
