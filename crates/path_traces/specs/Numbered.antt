-- The lines of a frame by the numbers of its variables: its beat first, then its names, then the memories of its `pre`.
use Rattle.std.specs.Prelude.{ℕ, zero, suc, ◌+◌, Bool, true, false, cond, not, ◌&&◌, List, [], ◌∷◌, map, length, Option, Some, None, find, option_map, unwrap_or, slice_get}
use Rattle.std.specs.Str.{bytes_eq}
use Rattle.lus_tree.specs.Tree.{Name, Variable}
use Rattle.lus_meaning.specs.Value.{Value, absent, flag, whole}
use Rattle.lus_meaning.specs.Scene.{Clock, base, sampled_by, clock_from}
use Rattle.lus_meaning.specs.Trace.{Subject, of_name, of_first, BareLine}
use Rattle.sys_terms.specs.declared.term.Entry.{Entry}
use Rattle.sys_terms.specs.declared.term.Entry.TheVariants as entries
use Rattle.sys_terms.specs.Meaning.{Values, values_of}
use Rattle.sys_meaning.specs.Part.{value_in}

-- ---- lines

abbrev pub bare_of : List ℕ → Subject → List Value → BareLine
bare_of path x vs = record { path = path; subject = x; values = vs }

-- ---- names

-- how many stand before the first of that name
abbrev pub place_in : List Variable → Name → ℕ
place_in [] x = zero
place_in (v ∷ vs) x = cond (bytes_eq x v.name.text) zero (suc (place_in vs x))

-- in a frame whose beat has that number
abbrev pub name_number : List Variable → ℕ → Name → ℕ
name_number vs b x = b + suc (place_in vs x)

abbrev pub clock_in : List Variable → Name → Clock
clock_in vs x = clock_from (unwrap_or (option_map (λ v. v.clock) (find (λ v. bytes_eq x v.name.text) vs)) None)

-- whether a clock is on, of which no more clocks than said follow from one another
abbrev pub on_within : ℕ → List Variable → ℕ → Values → Clock → Bool
on_within m vs b s base = s.flag_at b
on_within zero vs b s (sampled_by t x) = false
on_within (suc m) vs b s (sampled_by true x) = s.flag_at (name_number vs b x)
on_within (suc m) vs b s (sampled_by false x) = on_within m vs b s (clock_in vs x) && not (s.flag_at (name_number vs b x))

-- absent where its clock is off
abbrev pub name_value : List Variable → ℕ → Variable → List Entry → Value
name_value vs b v s = cond (on_within (length vs) vs b (values_of s) (clock_from v.clock))
    (value_in (values_of s) v.sort (name_number vs b v.name.text)) absent

abbrev pub name_line : List ℕ → List (List Entry) → List Variable → ℕ → Variable → BareLine
name_line path states vs b v = record { path = path; subject = of_name v.name.text; values = map (name_value vs b v) states }

-- ---- first values

abbrev pub entry_value : Option Entry → Value
entry_value None = absent
entry_value (Some (entries.Flag b)) = flag b
entry_value (Some (entries.Number z)) = whole z

-- so many from this variable and that number on, each as it stands in the state
abbrev pub first_lines : List ℕ → List Entry → ℕ → ℕ → ℕ → List BareLine
first_lines path s n k zero = []
first_lines path s n k (suc m) =
    record { path = path; subject = of_first k; values = entry_value (slice_get s n) ∷ [] } ∷ first_lines path s (suc n) (suc k) m
