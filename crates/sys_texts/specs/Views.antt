-- What contracts see of what a text is translated over.
use Rattle.std.specs.Prelude.{ℕ, List, map, Option, option_map}
use Rattle.std.specs.Borrow.{Bor}
use Rattle.std.specs.Str.{bytes_eq}
use Rattle.indexmap.specs.IndexMap.{IndexMap, get_by}
use Rattle.lus_tree.specs.Tree.{Name}
use Rattle.lus_streams.specs.Clocks.{clock_seen}
use Rattle.sys_terms.specs.View.{term_view, terms_view}
use Rattle.sys_parts.specs.Constants.{constant_view}
use Rattle.sys_parts.specs.Parts.{part_view}
use Rattle.sys_texts.specs.declared.folding.Folded.{Folded as FoldedCode}
use Rattle.sys_texts.specs.declared.folding.Folded.TheVariants.{Known, Open}
use Rattle.sys_texts.specs.declared.sight.Stream.{Stream as StreamCode}
use Rattle.sys_texts.specs.declared.sight.Output.{Output as OutputCode}
use Rattle.sys_texts.specs.declared.sight.Call.{Call as CallCode}
use Rattle.sys_texts.specs.declared.sight.Way.{Way as WayCode}
use Rattle.sys_texts.specs.declared.sight.Way.TheVariants.{Own, Through, Deeper}
use Rattle.sys_texts.specs.declared.sight.Mode.{Mode as ModeCode}
use Rattle.sys_texts.specs.declared.sight.Sight.{Sight as SightCode}
use Rattle.sys_texts.specs.Sights.{Stream, Output, Call, Way, own, through, deeper, Mode, Sight}
use Rattle.sys_texts.specs.Texts.{Folded, known, left_open}

abbrev pub folded_view : FoldedCode → Folded
folded_view (Known c) = known (constant_view c)
folded_view (Open p) = left_open (part_view p)

abbrev pub by_name : {V S : Type 0} → IndexMap (Bor (List ℕ)) V S → Name → Option V
by_name m x = get_by (λ k. bytes_eq x k.now) m

abbrev pub stream_view : StreamCode → Stream
stream_view s = record { sort = s.sort; number = s.number; clock = clock_seen s.clock }

abbrev pub output_view : OutputCode → Output
output_view o = record { sort = o.sort; number = o.number; held = o.held }

abbrev pub call_view : CallCode → Call
call_view c = record { callee = c.callee.now; beat = c.beat; outputs = map output_view c.outputs.items }

abbrev pub way_view : WayCode → Way
way_view Own = own
way_view (Through c) = through c.now
way_view Deeper = deeper

abbrev pub mode_view : ModeCode → Mode
mode_view m = record {
  way = way_view m.way;
  name = m.name.now;
  asked = term_view m.asked;
  ensures_each = terms_view m.ensures_each.items;
}

abbrev pub modes_view : List ModeCode → List Mode
modes_view = map mode_view

abbrev pub sight_view : SightCode → Sight
sight_view s = record {
  beat = s.beat;
  missing = s.missing;
  streams = s.bound;
  constant = λ x. option_map constant_view (by_name s.constants x);
  stream = λ x. option_map stream_view (by_name s.streams x);
  memories = s.memories.items;
  starts = s.starts.items;
  calls = map call_view s.calls.items;
}
