-- Places by numbers, and the graph of what they and the parts of an instant need.
use Rattle.std.specs.Prelude.{◌≡◌, ℕ, Bool, true, false, ◌&&◌, List, [], ◌∷◌, ◌++◌, map, flat_map, Option, Some, None, option_to_list, is_some, slice_get}
use Rattle.std.specs.List.{AllByRecursion, position_from}
use Rattle.std.specs.Str.{bytes_eq}
use Rattle.lus_tree.specs.Tree.{Name}
use Rattle.lus_meaning.specs.Cycle.{Place, next_places}
use Rattle.lus_meaning.specs.Scene.{Instance}
use Rattle.lus_meaning.specs.Trace.{same_numbers}
use Rattle.lus_evaluation.specs.Part.{Part}
use Rattle.number_graphs.specs.Graphs.{Rows}

abbrev pub same_name : Option Name → Option Name → Bool
same_name None None = true
same_name (Some x) (Some y) = bytes_eq x y
same_name _ _ = false

abbrev pub same_place : Place → Place → Bool
same_place p q = same_numbers p.0 q.0 && same_name p.1 q.1

-- the number of the first that is this place
abbrev pub number_of : List Place → Place → Option ℕ
number_of ps q = position_from (same_place q) 0 ps

-- the numbers of those that have one
abbrev pub numbers_of : List Place → List Place → List ℕ
numbers_of ps qs = flat_map (λ q. option_to_list (number_of ps q)) qs

abbrev pub where_new : List Place → Place → Option ℕ → List Place
where_new ps q None = ps ++ q ∷ []
where_new ps q (Some k) = ps

-- the places, and behind them those that are new
abbrev pub met : List Place → Place → List Place
met ps q = where_new ps q (number_of ps q)

abbrev pub met_all : List Place → List Place → List Place
met_all ps [] = ps
met_all ps (q ∷ qs) = met_all (met ps q) qs

-- the places, and behind them what these parts need that is new
abbrev pub met_parts : List Place → List Part → List Place
met_parts ps [] = ps
met_parts ps (q ∷ qs) = met_parts (met_all ps q.needs) qs

-- each of them has a number
abbrev pub AreAmong : List Place → List Place → Type 0
AreAmong ps qs = AllByRecursion (λ q. is_some (number_of ps q) ≡ true) qs

-- what a place needs in one step
abbrev pub next_of : Instance → Place → List Place
next_of i q = next_places i q.0 q.1

-- what each of the places needs in one step is among them
abbrev pub AreClosed : Instance → List Place → Type 0
AreClosed i ps = (k : ℕ) (q : Place) → slice_get ps k ≡ Some q → AreAmong ps (next_of i q)

-- all that the parts need is among the places, and what these need
pub record HaveAll (i : Instance) (qs : List Part) (ps : List Place) : Type 0 where
  pub needed : AllByRecursion (λ q. AreAmong ps q.needs) qs
  pub closed : AreClosed i ps

-- ---- the graph: first the places, and behind them the parts

abbrev pub place_rows : Instance → List Place → List Place → Rows
place_rows i ps qs = map (λ q. numbers_of ps (next_of i q)) qs

abbrev pub part_rows : List Place → List Part → Rows
part_rows ps qs = map (λ q. numbers_of ps q.needs) qs

abbrev pub need_rows : Instance → List Place → List Part → Rows
need_rows i ps qs = place_rows i ps ps ++ part_rows ps qs
