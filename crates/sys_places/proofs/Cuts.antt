-- Sums below the cut.
use Rattle.std.proofs.Common.{◌≡◌, ℕ, ◌+◌, ◌<◌, ◌≤◌, arith}
use Rattle.lus_limits.specs.Summaries.{bound, cut}

pub has_room : (before h : ℕ) → cut h ≤ cut (before + cut h)
has_room before h = omega arith

-- where the first is held of a call
pub held_begins : (base own before h w j n : ℕ) → before + (h + w) < bound → n ≡ own + before → j + cut h ≡ cut (before + cut h)
    → base + n ≡ (base + own) + j
held_begins base own before h w j n l e f = omega arith

-- where its frame begins, behind those that are held of it
pub frame_begins : (base own before h w n m : ℕ) → before + (h + w) < bound → n ≡ own + before → m ≡ h
    → (base + n) + m ≡ (base + own) + cut (before + cut h)
frame_begins base own before h w n m l e f = omega arith

-- behind which the next call stands
pub next_begins : (before h f s w : ℕ) → before + (h + w) < bound → w ≡ f + s → cut (before + (cut h + (cut f + s))) ≡ before + (h + w)
next_begins before h f s w l e = omega arith
