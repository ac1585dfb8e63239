-- What is noted from instant to instant: how many are lawful, and when properties break.
use Rattle.std.specs.Prelude.{ℕ, zero, suc, Bool, not, cond, eqb, ◌&&◌, List, [], ◌∷◌, Option, Some, None, get_or}
use Rattle.slot_values.specs.Resolution.{Resolution}
use Rattle.slot_values.specs.Evaluated.{SlotValues}
use Rattle.slot_replay.specs.declared.marks.Marks.{Marks as CodeMarks}
use Rattle.slot_replay.specs.Conditions.{Conditions, all_true, is_true}

pub record Marks : Type 0 where
  pub lawful : ℕ
  pub broken : List (Option ℕ)

-- what was found of a property before, else this instant where it counts and the property is not true there
abbrev pub marked : Bool → Bool → ℕ → Option ℕ → Option ℕ
marked truth counts t (Some u) = Some u
marked truth counts t None = cond (counts && not truth) (Some t) None

-- of the properties from the number k on
abbrev pub noted : SlotValues → Bool → ℕ → ℕ → List Resolution → List (Option ℕ) → List (Option ℕ)
noted s counts t k [] bs = []
noted s counts t k (e ∷ es) bs = marked (is_true s e) counts t (get_or bs k None) ∷ noted s counts t (suc k) es bs

-- whether an instant counts, where so many are lawful before it
abbrev pub counts_here : SlotValues → Conditions → ℕ → ℕ → Bool
counts_here s q t a = all_true s q.legal && eqb a t

abbrev pub marks_after : SlotValues → Conditions → ℕ → Marks → Marks
marks_after s q t m = record {
  lawful = cond (counts_here s q t m.lawful) (suc t) m.lawful;
  broken = noted s (counts_here s q t m.lawful) t 0 q.properties m.broken;
}

-- behind the first t instants
abbrev pub marks_at : (ℕ → SlotValues) → Conditions → ℕ → Marks
marks_at s q zero = record { lawful = 0; broken = [] }
marks_at s q (suc t) = marks_after (s t) q t (marks_at s q t)

abbrev pub marks_view : CodeMarks → Marks
marks_view m = record { lawful = m.lawful; broken = m.broken.items }
