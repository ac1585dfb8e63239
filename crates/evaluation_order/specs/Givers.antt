-- Which parts give the names that are waited for, and which of them a part waits for.
use Rattle.std.specs.Prelude.{◌≡◌, ℕ, ◌+◌, Bool, true, false, cond, ◌&&◌, ◌==◌, List, [], ◌∷◌, ◌++◌, flat_map, map, Option, Some, None, option_to_list}
use Rattle.std.specs.List.{position_from}
use Rattle.lus_tree.specs.Tree.{Name}
use Rattle.lus_meaning.specs.Cycle.{Place}
use Rattle.lus_meaning.specs.Order.{is_listed}
use Rattle.lus_meaning.specs.Scene.{Instance}
use Rattle.lus_evaluation.specs.Part.{Part}
use Rattle.lus_evaluation.specs.Evaluation.{is_above, gives_name, place_named, Waits}
use Rattle.number_graphs.specs.Graphs.{is_marked}
use Rattle.evaluation_order.specs.Numbered.{number_of}

-- a part that is the first to give a name: its number, the calls on the way to its frame, and the number of the place that it gives
pub record Giver : Type 0 where
  pub part : ℕ
  pub way : List ℕ
  pub place : ℕ

abbrev pub is_number : ℕ → Option ℕ → Bool
is_number j None = false
is_number j (Some k) = k == j

-- whether the part of that number is the first of these to give the name
abbrev pub is_first : List Part → ℕ → List ℕ → Name → Bool
is_first qs j w x = is_number j (position_from (gives_name w x) 0 qs)

abbrev pub giver : ℕ → List ℕ → ℕ → Giver
giver j w n = record { part = j; way = w; place = n }

abbrev pub giver_of : List Place → List Part → ℕ → List ℕ → Name → List Giver
giver_of ps qs j w x = cond (is_first qs j w x) (map (giver j w) (option_to_list (number_of ps (place_named w x)))) []

abbrev pub givers_of : List Place → List Part → ℕ → List ℕ → List Name → List Giver
givers_of ps qs j w xs = flat_map (giver_of ps qs j w) xs

-- those of parts, of which the first has that number
abbrev pub givers_from : List Place → List Part → ℕ → List Part → List Giver
givers_from ps qs j [] = []
givers_from ps qs j (r ∷ rs) = givers_of ps qs j r.way r.gives ++ givers_from ps qs (j + 1) rs

-- those at whose place there is a mark, in a frame or above
abbrev pub given_above : List Bool → List ℕ → List Giver → List ℕ
given_above marks v gs = flat_map (λ g. cond (is_above g.way v && is_marked marks g.place) (g.part ∷ []) []) gs

-- these are the parts for which the part of that number waits
pub record AreWaited (i : Instance) (qs : List Part) (k : ℕ) (row : List ℕ) : Type 0 where
  pub each : (j : ℕ) → is_listed row j ≡ true → Waits i qs k j
  pub all : (j : ℕ) → Waits i qs k j → is_listed row j ≡ true
