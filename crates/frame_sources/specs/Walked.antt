-- The sources of the slots of a frame and of those of its calls, by the tables of a program's declarations, with calls
-- nested no deeper than said.
use Rattle.std.specs.Prelude.{ℕ, zero, suc, List, [], ◌∷◌, ◌++◌, map, Option, Some, None, slice_get}
use Rattle.lus_meaning.specs.Scene.{Manner, plain, while_true, as_import, contract_statements}
use Rattle.lus_limits.specs.Calls.{way_of}
use Rattle.lus_limits.specs.declared.calls.Way.{Way}
use Rattle.lus_limits.specs.declared.calls.Way.TheVariants.{Plain, Import}
use Rattle.sys_texts.specs.Sights.{Sight, Call}
use Rattle.sys_tables.specs.Tabled.{Linked, Tabled}
use Rattle.sys_tables.specs.Numbers.{behind_own, frame_base, keeps_so_far, sight_at}
use Rattle.slot_sources.specs.Source.{Source, always}
use Rattle.frame_sources.specs.Resolved.{Asked}
use Rattle.frame_sources.specs.Modes.{contract_modes}
use Rattle.frame_sources.specs.Sourced.{beat_source, from_call, held_sources}
use Rattle.frame_sources.specs.OwnSources.{own_sources}

-- ---- the modes of contracts

-- what is said of the modes of a frame
abbrev pub ModesOf : Type 0
ModesOf = Tabled → Way → ℕ → List Asked

abbrev pub modes_or_none : ModesOf → Option Tabled → Way → ℕ → List Asked
modes_or_none f None w b = []
modes_or_none f (Some t) w b = f t w b

-- those of a call: of an import those of its frame; a contract looks at no others
abbrev pub called_mode : ModesOf → List Tabled → ℕ → ℕ → Manner → List Asked
called_mode f ts place b plain = []
called_mode f ts place b (while_true a) = []
called_mode f ts place b (as_import xs) = modes_or_none f (slice_get ts place) Import b

abbrev pub called_modes : ModesOf → List Tabled → ℕ → List Linked → List (List Asked)
called_modes f ts from qs = map (λ q. called_mode f ts q.place (frame_base from q) q.site.manner) qs

-- those of calls that stand from there on, with others nested in them no deeper than said; at 0 there are none
abbrev pub modes_below : ℕ → List Tabled → ℕ → ℕ → List Linked → List (List Asked)
modes_below zero ts missing from qs = []
modes_below (suc d) ts missing from qs =
    called_modes (λ t w b. contract_modes (sight_at t w b missing) (modes_below d ts missing (behind_own w t b) t.calls)
    (contract_statements t.component)) ts from qs

-- those of a frame that is seen so, whose calls stand from there on
abbrev pub modes_seen : ℕ → List Tabled → ℕ → Tabled → Sight → ℕ → List Asked
modes_seen d ts missing t s from =
    contract_modes s (modes_below d ts missing from t.calls) (contract_statements t.component)

abbrev pub modes_within : ℕ → List Tabled → ℕ → ModesOf
modes_within d ts missing t w b = modes_seen d ts missing t (sight_at t w b missing) (behind_own w t b)

-- ---- frames

-- the sources of a frame and of those of its calls, where this gives its beat, and this its first names
abbrev pub SourcesOf : Type 0
SourcesOf = Tabled → Way → ℕ → Source → List Source → List Source

abbrev pub sources_or_none : SourcesOf → Option Tabled → Way → ℕ → Source → List Source → List Source
sources_or_none f None w b active given = []
sources_or_none f (Some t) w b active given = f t w b active given

abbrev pub call_sources : SourcesOf → List Tabled → Sight → List Asked → ℕ → Linked → Call → List Source
call_sources f ts s ms from q c =
    held_sources q.defaults c q.site.manner
    ++ sources_or_none f (slice_get ts q.place) (way_of q.site.manner) (frame_base from q)
    (beat_source s ms q.site.clock q.site.manner) (from_call s ms c.beat q.site)

abbrev pub call_sources_or_none : SourcesOf → List Tabled → Sight → List Asked → ℕ → Linked → Option Call → List Source
call_sources_or_none f ts s ms from q None = []
call_sources_or_none f ts s ms from q (Some c) = call_sources f ts s ms from q c

-- the calls from that place on, of a frame that is seen so
abbrev pub calls_sources : SourcesOf → List Tabled → Sight → List Asked → ℕ → ℕ → List Linked → List Source
calls_sources f ts s ms from j [] = []
calls_sources f ts s ms from j (q ∷ qs) =
    call_sources_or_none f ts s ms from q (slice_get s.calls j) ++ calls_sources f ts s ms from (suc j) qs

-- those of calls that stand from there on, with others nested in them no deeper than said
abbrev pub sources_below : ℕ → List Tabled → ℕ → Sight → List Asked → ℕ → List Linked → List Source
sources_below zero ts missing s ms from qs = []
sources_below (suc d) ts missing s ms from qs =
    calls_sources (λ t w b active given.
    own_sources t (sight_at t w b missing) (modes_within d ts missing t w b) (keeps_so_far w t) active given
    ++ sources_below d ts missing (sight_at t w b missing) (modes_within d ts missing t w b) (behind_own w t b) t.calls)
    ts s ms from 0 qs

-- a frame that is seen so, where these modes are known
abbrev pub sources_seen : ℕ → List Tabled → ℕ → Tabled → Sight → List Asked → Way → ℕ → Source → List Source → List Source
sources_seen d ts missing t s ms w b active given =
    own_sources t s ms (keeps_so_far w t) active given ++ sources_below d ts missing s ms (behind_own w t b) t.calls

abbrev pub sources_within : ℕ → List Tabled → ℕ → SourcesOf
sources_within d ts missing t w b active given =
    sources_seen d ts missing t (sight_at t w b missing) (modes_within d ts missing t w b) w b active given

-- those of the analysed declaration
abbrev pub sources_at : ℕ → List Tabled → ℕ → Option Tabled → List Source
sources_at d ts missing None = []
sources_at d ts missing (Some t) = sources_within d ts missing t Plain 0 always []
