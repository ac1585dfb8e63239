-- Numbers of size 2^63 or more.
use Rattle.std.specs.Prelude.{ℕ, ℤ, ◌≡◌, ◌≤◌, true, false, List, Option, Some, None, slice_get}
use Rattle.sys_terms.specs.declared.term.Entry.{Entry as Cell}
use Rattle.sys_terms.specs.declared.term.Entry.TheVariants as c
use Rattle.sys_terms.specs.Fits.{is_narrow_number}
use Rattle.board_core.specs.Entries.{IsWideAt}
use Rattle.kind_engine.specs.declared.large.Large.{Large}
use Rattle.kind_engine.specs.Looks.{are_narrow, IsFirstWide}

-- no variable of a smaller number has such a value in the state
abbrev pub IsFirstLarge : List Cell → ℕ → Type 0
IsFirstLarge values variable = (v : ℕ) (x : ℤ) → slice_get values v ≡ Some (c.Number x) → is_narrow_number x ≡ false
    → variable ≤ v

-- what names the first such value of the path, or that it has none
abbrev pub IsLeast : List (List Cell) → Option Large → Type 0
IsLeast path None = are_narrow path ≡ true
IsLeast path (Some l) = IsWideAt path l.number l.instant l.value × IsFirstWide path l.number l.instant
