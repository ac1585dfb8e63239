-- Frames that are kept.
use Rattle.std.proofs.Common.{◌≡◌, ℕ, zero, suc, ◌<◌, List, [], ◌∷◌, Option, Some, None, replicate, set, length, sym, ap, ◌∙◌, subst, arith}
use Rattle.std.specs.Prelude.{slice_get}
use Rattle.sys_tables.specs.Tabled.{Tabled}
use Rattle.part_resolver.specs.declared.seen.Seen.{Seen}
use Rattle.part_resolver.specs.Seen.{AreKept, IsKept, IsSeen}
use Rattle.part_resolver.proofs.Rooms.{of_one}

module _ (ts : List Tabled) (missing : ℕ) where
  -- at first there are none
  pub none_kept : (k : ℕ) → AreKept ts missing (replicate k None)
  none_kept zero = tt
  none_kept (suc k) = (tt, none_kept k)

  pub kept_none : (fs : List (Option Seen)) (k : ℕ) → fs ≡ replicate k None → AreKept ts missing fs
  kept_none fs k e = subst (AreKept ts missing) (sym e) (none_kept k)

  -- one more is kept
  pub one_more : (fs : List (Option Seen)) (k : ℕ) (f : Seen) → AreKept ts missing fs → IsSeen ts missing f → AreKept ts missing (set fs k (Some f))
  one_more [] k f a h = tt
  one_more (g ∷ fs) zero f a h = (h, a.1)
  one_more (g ∷ fs) (suc k) f a h = (a.0, one_more fs k f a.1 h)

  -- what is kept is seen
  pub is_seen : (fs : List (Option Seen)) (k : ℕ) (f : Seen) → AreKept ts missing fs → slice_get fs k ≡ Some (Some f) → IsSeen ts missing f
  is_seen fs k f a e = of_one (IsKept ts missing) fs k (Some f) a e
