-- What holds of the streams of a frame: each is what its caller gives at its place, or else what an equation gives.
use Rattle.std.specs.Prelude.{List, [], ◌∷◌, ◌++◌, Option, Some, None}
use Rattle.sys_terms.specs.View.{Formula}
use Rattle.sys_meaning.specs.Part.{Part}
use Rattle.sys_texts.specs.Sights.{Sight, Mode}
use Rattle.sys_conditions.specs.Named.{given_or, name_conditions}
use Rattle.sys_tables.specs.Tabled.{Named}

abbrev pub first_part : List Part → Option Part
first_part [] = None
first_part (p ∷ ps) = Some p

abbrev pub other_parts : List Part → List Part
other_parts [] = []
other_parts (p ∷ ps) = ps

abbrev pub stream_here : Sight → List Mode → Named → Option Part → List Formula
stream_here s ms v given = name_conditions s v.input v.variable (given_or s ms given v.right)

-- the caller gives a part to each of the first ones
abbrev pub streams_here : Sight → List Mode → List Named → List Part → List Formula
streams_here s ms [] ps = []
streams_here s ms (v ∷ vs) ps = stream_here s ms v (first_part ps) ++ streams_here s ms vs (other_parts ps)
