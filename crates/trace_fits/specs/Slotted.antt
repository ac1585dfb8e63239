-- What may be listed, with the number of its slot.
use Rattle.std.specs.Prelude.{ℕ, List, [], ◌∷◌, Option, Some, None, cond}
use Rattle.lus_meaning.specs.Trace.{Subject}
use Rattle.lus_meaning.specs.Fits.{Listable, same_place}

pub record Slotted : Type 0 where
  pub listable : Listable
  pub slot : ℕ

-- the first of these that is what the way and the subject say
abbrev pub slotted_at : List Slotted → List ℕ → Subject → Option Slotted
slotted_at [] path x = None
slotted_at (s ∷ ss) path x = cond (same_place s.listable.path s.listable.subject path x) (Some s) (slotted_at ss path x)
