-- The frame of a declaration: its own cells, and its calls and imports by number.
use Rattle.std.specs.Prelude.{ℕ, Bool, is_none, not, List, [], map, length}
use Rattle.lus_tree.specs.Tree.{Component, Program}
use Rattle.lus_meaning.specs.Program.{all_sites}
use Rattle.lus_meaning.specs.Scene.{as_import}
use Rattle.lus_meaning.specs.Slots.{own_cells}
use Rattle.lus_limits.specs.declared.framed.Frame.{Frame}
use Rattle.lus_limits.specs.declared.summing.Link.{Link}
use Rattle.lus_limits.specs.Summaries.{cut, link_of}

-- how many cells it has of its own where it runs as an import, whether there is a contract, and the links of its calls
pub record Framed : Type 0 where
  pub own : ℕ
  pub contract : Bool
  pub links : List Link

abbrev pub frame_view : Frame → Framed
frame_view f = record { own = f.own; contract = f.contract; links = f.links.items }

abbrev pub frame_of : Program → Component → Framed
frame_of p n = record {
  own = cut (length (own_cells (as_import []) n));
  contract = not (is_none n.contract);
  links = map (link_of p) (all_sites n);
}
