-- Numbers that lead to marked ones.
use Rattle.std.specs.Prelude.{◌≡◌, ℕ, ◌+◌, ◌≤◌, Bool, true, false, cond, not, ◌&&◌, ◌||◌, List, [], ◌∷◌, map, length, get_or, set}
use Rattle.std.specs.List.{list_all, list_any}
use Rattle.lus_tree.specs.declared.place.Pos.{Pos}
use Rattle.lus_types.specs.declared.marks.Link.{Link as CodeLink}
use Rattle.lus_types.specs.declared.marks.Row.{Row as CodeRow}

-- a number that is led to, and where
abbrev pub Link : Type 0
Link = ℕ × Pos

-- a number, and those that it leads to
abbrev pub Row : Type 0
Row = ℕ × List Link

abbrev pub link_view : CodeLink → Link
link_view l = (l.to, l.at)

abbrev pub row_view : CodeRow → Row
row_view r = (r.from, map link_view r.links.items)

-- whether a number is marked; one past the end isn't
abbrev pub is_marked : List Bool → ℕ → Bool
is_marked marks j = get_or marks j false

-- whether it could be marked
abbrev pub is_free : List Bool → ℕ → Bool
is_free marks j = not (get_or marks j true)

abbrev pub leads_on : (ℕ → Bool) → List Link → Bool
leads_on test ls = list_any (λ l. test l.0) ls

-- a number that isn't marked and leads to a marked one
abbrev pub is_open : List Bool → Row → Bool
is_open marks r = is_free marks r.0 && leads_on (is_marked marks) r.1

abbrev pub stepped : List Bool → Row → List Bool
stepped marks r = cond (is_open marks r) (set marks r.0 true) marks

-- one row after another, from the first and from the last
abbrev pub passed_down : List Bool → List Row → List Bool
passed_down marks [] = marks
passed_down marks (r ∷ rs) = passed_down (stepped marks r) rs

abbrev pub passed_up : List Bool → List Row → List Bool
passed_up marks [] = marks
passed_up marks (r ∷ rs) = stepped (passed_up marks rs) r

abbrev pub has_open : List Bool → List Row → Bool
has_open marks rs = list_any (is_open marks) rs

-- how many could be marked
abbrev pub free_count : List Bool → ℕ
free_count [] = 0
free_count (b ∷ bs) = cond b 0 1 + free_count bs

-- a test that what leads to something passes where that does
abbrev pub is_backed : (ℕ → Bool) → Row → Bool
is_backed test r = test r.0 || not (leads_on test r.1)

-- only what leads to marked numbers is marked: it passes each such test that all those before pass
pub record Spreads (rs : List Row) (old new : List Bool) : Type 0 where
  pub length : length new ≡ length old
  pub kept : (j : ℕ) → is_marked old j ≡ true → is_marked new j ≡ true
  pub fewer : free_count new ≤ free_count old
  pub sound : (test : ℕ → Bool) → list_all (is_backed test) rs ≡ true
      → ((j : ℕ) → is_marked old j ≡ true → test j ≡ true) → (j : ℕ) → is_marked new j ≡ true → test j ≡ true
