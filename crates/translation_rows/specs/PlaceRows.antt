-- Worked rows of the places that printed text has for variables, by number, and of the trace of states in one of which the
-- node isn't active.
use Prim.Native.String.{String}
use Rattle.std.specs.Prelude.{◌≡◌, ℕ, true, false, List, [], ◌∷◌, ◌++◌, map, Option, Some, None, codes}
use Rattle.lus_tree.specs.Numbers.{counting}
use Rattle.lus_meaning.specs.Value.{absent, flag}
use Rattle.lus_meaning.specs.Scene.{Instance}
use Rattle.lus_meaning.specs.Slots.{width}
use Rattle.lus_meaning.specs.Trace.{of_name, of_first}
use Rattle.sys_terms.specs.declared.term.Entry.{Entry}
use Rattle.sys_terms.specs.declared.term.Entry.TheVariants as entries
use Rattle.sys_meaning.specs.Path.{trace_of}
use Rattle.path_traces.specs.Printed.{PrintedPlace, printed_place}
use Rattle.meaning_rows.specs.PairRows.{against}
use Rattle.meaning_rows.specs.CallRows.{held_pair}
use Rattle.meaning_rows.specs.OwedRows.{two_calls}
use Rattle.translation_rows.specs.AgainstRow.{against_first}

-- those of all variables, in the order of their numbers
abbrev pub printed_places : Instance → List (Option PrintedPlace)
printed_places i = map (printed_place i) (counting 0 (width i))

-- names of the frame at the end of a way of calls
abbrev pub names_at : List ℕ → List String → List (Option PrintedPlace)
names_at path xs = map (λ x. Some (path, of_name (codes x))) xs

abbrev pub first_at : List ℕ → ℕ → List (Option PrintedPlace)
first_at path k = Some (path, of_first k) ∷ []

-- a beat, the start of a `->`, or whether the assumptions were true so far
abbrev pub unnamed : List (Option PrintedPlace)
unnamed = None ∷ []

-- node main(a : bool) returns (x : bool); var y, z : bool; with one `pre`
abbrev pub AgainstPlaces : Type 0
AgainstPlaces = printed_places against
    ≡ unnamed ++ (names_at [] ("a" ∷ "x" ∷ "y" ∷ "z" ∷ []) ++ first_at [] 1)

-- behind the last variable there is none
abbrev pub NoPlaceBehind : Type 0
NoPlaceBehind = printed_place against 6 ≡ None

-- each call's frame has a beat, its names, a `pre`, an `->`, and what its assumption keeps
abbrev pub TwoCallsPlaces : Type 0
TwoCallsPlaces = printed_places two_calls
    ≡ unnamed ++ (names_at [] ("c" ∷ "x" ∷ "y" ∷ "z" ∷ "s" ∷ [])
    ++ (unnamed ++ (names_at (1 ∷ []) ("a" ∷ "o" ∷ []) ++ (first_at (1 ∷ []) 1 ++ (unnamed ++ (unnamed
    ++ (unnamed ++ (names_at (2 ∷ []) ("a" ∷ "o" ∷ []) ++ (first_at (2 ∷ []) 1 ++ (unnamed ++ unnamed))))))))))

-- what a condact holds of an output has the output's place
abbrev pub HeldPairPlaces : Type 0
HeldPairPlaces = printed_places held_pair
    ≡ unnamed ++ (names_at [] ("c" ∷ "d" ∷ "x" ∷ "h" ∷ "k" ∷ "m" ∷ "n" ∷ "s" ∷ [])
    ++ (names_at (1 ∷ []) ("p" ∷ "q" ∷ [])
    ++ (unnamed ++ (names_at (1 ∷ []) ("a" ∷ "p" ∷ "q" ∷ []) ++ (first_at (1 ∷ []) 1 ++ (unnamed
    ++ (names_at (2 ∷ []) ("o" ∷ [])
    ++ (unnamed ++ (names_at (2 ∷ []) ("a" ∷ "o" ∷ [])
    ++ (unnamed ++ (names_at (3 ∷ []) ("a" ∷ "p" ∷ "q" ∷ []) ++ (first_at (3 ∷ []) 1 ++ unnamed))))))))))))

-- ---- a state in which the node isn't active

abbrev pub inactive : List Entry
inactive = entries.Flag false ∷ entries.Flag true ∷ entries.Flag true ∷ entries.Flag true ∷ entries.Flag true
    ∷ entries.Flag true ∷ []

-- names are absent in it; a first value is the memory of the first state, whether or not the node is active in it
abbrev pub TraceOfInactive : Type 0
TraceOfInactive = trace_of against (inactive ∷ against_first ∷ [])
    ≡ record { path = []; subject = of_name (codes "a"); values = absent ∷ flag false ∷ [] }
    ∷ record { path = []; subject = of_name (codes "z"); values = absent ∷ flag false ∷ [] }
    ∷ record { path = []; subject = of_first 1; values = flag true ∷ [] }
    ∷ []
