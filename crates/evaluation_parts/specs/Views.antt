-- What contracts see of declarations with their calls, and of frames.
use Rattle.std.specs.Prelude.{ℕ, List, map, Option, Some, None}
use Rattle.lus_tree.specs.Tree.{text_of, Program}
use Rattle.lus_tree.specs.View.{expr_view, program_view, word_view}
use Rattle.lus_meaning.specs.Scene.{Manner, plain, while_true, as_import, Site, Instance}
use Rattle.lus_streams.specs.Clocks.{clock_seen}
use Rattle.lus_streams.specs.Names.{names_view}
use Rattle.evaluation_parts.specs.declared.frame.Manner.{Manner as MannerCode}
use Rattle.evaluation_parts.specs.declared.frame.Manner.TheVariants.{Plain, While, Import}
use Rattle.evaluation_parts.specs.declared.frame.Link.{Link}
use Rattle.evaluation_parts.specs.declared.frame.Declared.{Declared as DeclaredCode}
use Rattle.evaluation_parts.specs.declared.frame.Frame.{Frame}
use Rattle.evaluation_parts.specs.Unfolded.{Linked, Declared, nothing, unfolded}

abbrev pub manner_view : MannerCode → Manner
manner_view Plain = plain
manner_view (While a) = while_true (expr_view a.now)
manner_view (Import xs) = as_import (map text_of (map word_view xs.now))

abbrev pub site_view : Link → Site
site_view l = record {
  number = l.number;
  callee = l.callee.now;
  clock = clock_seen l.clock;
  arguments = map expr_view l.arguments.now;
  defaults = map expr_view l.defaults.now;
  manner = manner_view l.manner;
}

abbrev pub link_view : Link → Linked
link_view l = record { site = site_view l; place = l.place }

abbrev pub links_view : List Link → List Linked
links_view ls = map link_view ls

abbrev pub declared_view : DeclaredCode → Declared
declared_view d = record { component = names_view d.names; calls = links_view d.links.items }

abbrev pub all_view : List DeclaredCode → List Declared
all_view ds = map declared_view ds

abbrev pub frame_declared : Frame → Declared
frame_declared f = declared_view f.declared.now

-- the instance of which it is a frame
abbrev pub frame_instance : Frame → Instance
frame_instance f = unfolded (program_view f.program.now) (all_view f.all.now) f.depth (frame_declared f)

abbrev pub instance_there : Program → Option Frame → Instance
instance_there p None = nothing p
instance_there p (Some f) = frame_instance f

-- how deep calls are nested in a frame
abbrev pub depth_there : Option Frame → ℕ
depth_there None = 0
depth_there (Some f) = f.depth
