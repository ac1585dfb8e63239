-- What contracts see of modes and of sources.
use Rattle.std.specs.Prelude.{List, map}
use Rattle.std.specs.declared.alloc.Global.{Global}
use Rattle.std.specs.declared.vec.Vec.{Vec}
use Rattle.sys_texts.specs.Views.{way_view}
use Rattle.slot_values.specs.Resolution.{resolved_view}
use Rattle.slot_sources.specs.declared.source.Source.{Source as SourceCode}
use Rattle.slot_sources.specs.Source.{Source, source_view}
use Rattle.frame_sources.specs.declared.modes.Asked.{Asked as AskedCode}
use Rattle.frame_sources.specs.Resolved.{Asked}

abbrev pub asked_view : AskedCode → Asked
asked_view m = record { way = way_view m.way; name = m.name.now; asked = resolved_view m.asked }

abbrev pub all_asked_view : List AskedCode → List Asked
all_asked_view = map asked_view

abbrev pub each_asked_view : List (Vec AskedCode Global) → List (List Asked)
each_asked_view = map (λ v. all_asked_view v.items)

abbrev pub sources_view : List SourceCode → List Source
sources_view = map source_view
