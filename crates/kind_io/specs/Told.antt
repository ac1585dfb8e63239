-- What a shelf tells of a name, and what its answers may be where it tells nothing.
use Rattle.std.specs.Prelude.{◌≡◌, ◌<◌, ℕ, List, length, Option, None, Some, IsSome, ⊤}

-- nothing, that the name is missing, or its bytes
abbrev pub Told : Type 0
Told = Option (Option (List ℕ))

-- these may be the name's bytes: they are, where something is told
abbrev pub MayHold : Told → List ℕ → Type 0
MayHold None bytes = ⊤
MayHold (Some None) bytes = ⊥
MayHold (Some (Some held)) bytes = bytes ≡ held

-- the name may hold more bytes than the limit: it does, where something is told
abbrev pub MayExceed : Told → ℕ → Type 0
MayExceed None limit = ⊤
MayExceed (Some None) limit = ⊥
MayExceed (Some (Some held)) limit = limit < length held

-- a name of which something was told now holds exactly these bytes
abbrev pub NowHolds : Told → Told → List ℕ → Type 0
NowHolds None new bytes = ⊤
NowHolds (Some old) new bytes = new ≡ Some (Some bytes)

-- of a name of which something was told something is told
abbrev pub StillTells : Told → Told → Type 0
StillTells None new = ⊤
StillTells (Some old) new = IsSome new
