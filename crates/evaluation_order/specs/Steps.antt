-- What a place needs in one step, by the frames on its way.
use Rattle.std.specs.Prelude.{ℕ, cond, List, [], ◌++◌, map, flat_map, Option, Some, None}
use Rattle.std.specs.Str.{bytes_eq}
use Rattle.lus_tree.specs.Tree.{Name, Variable, Expression}
use Rattle.lus_meaning.specs.Cycle.{Place, place_of, at_top, caller_needs, deeper, next_places}
use Rattle.lus_meaning.specs.Depends.{Need, clock_needs, modes_need, needs, site_needs}
use Rattle.lus_meaning.specs.Scene.{Site, Instance, clock_from}
use Rattle.evaluation_parts.specs.Unfolded.{Linked}

-- what a name needs by how it is declared, where these are streams
abbrev pub stream_needs : Name → List Variable → List Need
stream_needs x vs = flat_map (λ v. cond (bytes_eq x v.name.text) (clock_needs (clock_from v.clock)) []) vs

-- what an argument of a call needs of the caller's frame
abbrev pub argument_needs : Instance → Site → Expression → List Need
argument_needs i c a = site_needs i (modes_need i) c c.manner ++ needs i (modes_need i) c.clock a

-- a place of the frame at the end of a way, seen from above
abbrev pub under : List ℕ → Place → Place
under v p = (v ++ p.0, p.1)

abbrev pub all_under : List ℕ → List Place → List Place
all_under v ps = map (under v) ps

abbrev pub places_of : List Need → List Place
places_of ns = map place_of ns

-- what a place needs that lies in the frame of a call with that number from 0, or below
abbrev pub next_at : Instance → (ℕ → Instance) → ℕ → List ℕ → Option Name → Option Linked → List Place
next_at i f j ks x None = []
next_at i f j ks x (Some l) = places_of (at_top ks (caller_needs i l.site (f l.place) x)) ++ map (deeper j) (next_places (f l.place) ks x)
