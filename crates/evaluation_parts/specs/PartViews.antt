-- What contracts see of parts.
use Rattle.std.specs.Prelude.{List, [], ◌∷◌, map, option_map, unwrap_or}
use Rattle.lus_tree.specs.Tree.{Name, text_of}
use Rattle.lus_tree.specs.View.{expr_view, word_view}
use Rattle.lus_meaning.specs.Cycle.{Place}
use Rattle.lus_streams.specs.Clocks.{clock_seen}
use Rattle.lus_evaluation.specs.Part.{Part}
use Rattle.evaluation_parts.specs.declared.part.Needed.{Needed}
use Rattle.evaluation_parts.specs.declared.part.Gives.{Gives}
use Rattle.evaluation_parts.specs.declared.part.Gives.TheVariants.{Nothing, Name as OneName, Names}
use Rattle.evaluation_parts.specs.declared.part.Whole.{Whole}
use Rattle.evaluation_parts.specs.declared.part.Part.{Part as PartCode}

abbrev pub place_view : Needed → Place
place_view p = (p.way.items, option_map (λ x. x.now) p.name)

abbrev pub places_view : List Needed → List Place
places_view ps = map place_view ps

abbrev pub given : Gives → List Name
given Nothing = []
given (OneName w) = (word_view w.now).text ∷ []
given (Names ws) = map text_of (map word_view ws.now)

-- what a whole needs, where these are needed by the whole in which a mode is named
abbrev pub needed_in : List Place → Whole → List Place
needed_in ns w = unwrap_or (option_map (λ r. places_view r.value.items) w.needs) ns

-- a part, where these are needed by the whole in which a mode is named
abbrev pub filled : List Place → PartCode → Part
filled ns p = record {
  way = p.way.items;
  clock = clock_seen p.clock;
  expression = expr_view p.expression.now;
  needs = needed_in ns p.whole;
  gives = given p.gives;
}

abbrev pub filled_each : List Place → List PartCode → List Part
filled_each ns ps = map (filled ns) ps

-- parts that each have their whole
abbrev pub parts_view : List PartCode → List Part
parts_view ps = filled_each [] ps
