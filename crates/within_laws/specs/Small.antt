-- Where the named values of a run are small, its evaluation stays within 128 bits.
use Rattle.std.specs.Prelude.{◌≡◌, ℕ, ◌<◌, ◌≤◌, Bool, true, List, length}
use Rattle.lus_tree.specs.declared.place.Sort.TheVariants.{Int as Numbers}
use Rattle.lus_meaning.specs.Fits.{is_of_sort}
use Rattle.lus_meaning.specs.Frame.{Frame}
use Rattle.lus_meaning.specs.Scene.{Instance}
use Rattle.lus_meaning.specs.Value.{Value, absent, flag, whole}
use Rattle.sys_terms.specs.declared.term.Entry.{Entry}
use Rattle.sys_terms.specs.Paths.{IsPath}
use Rattle.sys_meaning.specs.Path.{frame_of_path}
use Rattle.sys_meaning.specs.System.{system_of}
use Rattle.path_laws.specs.Laws.{HasSmallNumbers, OfEachInstance}
use Rattle.lus_evaluation.specs.Outcome.{StaysWithin}
use Rattle.evaluation_laws.specs.Rows.{row_at}
use Rattle.condition_laws.specs.Laws.{OfEachRun}

-- no number, or one of a size of at most 2^63 - 1
abbrev pub is_small : Value → Bool
is_small absent = true
is_small (flag b) = true
is_small (whole z) = is_of_sort Numbers (whole z)

-- The values of the slots of a run at n instants: of names, of what `pre` remembers, of outputs, and of what is held of these.
abbrev pub HasSmallRows : Instance → Frame → ℕ → Type 0
HasSmallRows i f n = (t k : ℕ) → t < n → is_small (row_at i f t k) ≡ true

-- Since no expression of a checked program has a weight above 2^63, no operation on such values has a result outside 128 bits.
abbrev pub SmallRunsStayWithin : Type 0
SmallRunsStayWithin = OfEachRun (λ i m f. (n : ℕ) → n ≤ m → HasSmallRows i f n → StaysWithin i f n)

-- So it is with the frame of a path whose numbers are small.
abbrev pub SmallPathsStayWithin : Type 0
SmallPathsStayWithin =
    OfEachInstance (λ i. (states : List (List Entry)) → IsPath (system_of i) states → HasSmallNumbers states →
    StaysWithin i (frame_of_path i states) (length states))
