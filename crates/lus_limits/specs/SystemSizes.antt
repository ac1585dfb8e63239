-- How large the system of a declaration is, each number cut one past the greatest limit of its kind.
use Rattle.std.specs.Prelude.{min, length}
use Rattle.lus_tree.specs.Tree.{Component, Program}
use Rattle.lus_meaning.specs.Program.{instance_of}
use Rattle.lus_meaning.specs.Property.{properties}
use Rattle.lus_meaning.specs.Sizes.{term_sizes}
use Rattle.lus_meaning.specs.Slots.{width}
use Rattle.lus_limits.specs.declared.systems.SystemSize.{SystemSize}
use Rattle.lus_limits.specs.Peaks.{peak}
use Rattle.lus_limits.specs.SizeCuts.{level_bound, part_bound}
use Rattle.lus_limits.specs.Summaries.{cut}

-- the properties, the variables, and the greatest levels and the greatest parts of the terms
abbrev pub system_size : Program → Component → SystemSize
system_size p n = record {
  properties = cut (length (properties (instance_of p n)));
  variables = cut (width (instance_of p n));
  levels = min level_bound (peak (term_sizes (instance_of p n))).levels;
  parts = min part_bound (peak (term_sizes (instance_of p n))).parts;
}
