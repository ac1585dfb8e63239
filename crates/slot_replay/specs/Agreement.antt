-- When the answers by two sequences of rows are the same.
use Rattle.std.specs.Prelude.{◌≡◌, ℕ, ◌<◌, Bool, true, List, [], ◌∷◌, ◌++◌, Option, Some, slice_get}
use Rattle.std.specs.List.{AllByRecursion}
use Rattle.lus_meaning.specs.Value.{is}
use Rattle.slot_values.specs.Resolution.{Resolution}
use Rattle.slot_values.specs.Evaluated.{SlotValues, outside, worth}
use Rattle.slot_values.specs.declared.resolved.PastAt.{PastAt}
use Rattle.slot_sources.specs.Rows.{slots_read}
use Rattle.slot_replay.specs.Conditions.{Conditions, is_true}
use Rattle.slot_replay.specs.Parts.{Part, pasts_of}
use Rattle.slot_replay.specs.Answer.{AllGoOn, AreBreaks, AreLawful, IsFirstTold, Seen}

-- all of these slots are in the set
abbrev pub AreIn : (ℕ → Bool) → List ℕ → Type 0
AreIn in_set ks = AllByRecursion (λ k. in_set k ≡ true) ks

-- what expressions read is
abbrev pub ReadIn : (ℕ → Bool) → List Resolution → Type 0
ReadIn in_set es = AllByRecursion (λ e. AreIn in_set (slots_read e)) es

abbrev pub part_reads : Part → List ℕ
part_reads p = p.clock.slot ∷ slots_read p.expression

abbrev pub PartsReadIn : (ℕ → Bool) → List Part → Type 0
PartsReadIn in_set ps = AllByRecursion (λ p. AreIn in_set (part_reads p)) ps

pub record ConditionsReadIn (in_set : ℕ → Bool) (q : Conditions) : Type 0 where
  pub legal : ReadIn in_set q.legal
  pub properties : ReadIn in_set q.properties

-- the slots of the set have the same values
abbrev pub AgreeOn : (ℕ → Bool) → SlotValues → SlotValues → Type 0
AgreeOn in_set s r = (k : ℕ) → in_set k ≡ true → s k ≡ r k

abbrev pub BreaksAgree : Type 0
BreaksAgree =
    (in_set : ℕ → Bool) (q : Conditions) (n : ℕ) (s r : ℕ → SlotValues) (hits : ℕ → Option ℕ) → ConditionsReadIn in_set q →
    ((t : ℕ) → t < n → AgreeOn in_set (s t) (r t)) → AreBreaks s q n hits → AreBreaks r q n hits

abbrev pub LawfulAgree : Type 0
LawfulAgree =
    (in_set : ℕ → Bool) (q : Conditions) (n a : ℕ) (s r : ℕ → SlotValues) → ConditionsReadIn in_set q →
    ((t : ℕ) → t < n → AgreeOn in_set (s t) (r t)) → AreLawful s q n a → AreLawful r q n a

-- the operation that is told at one of the first m instants, or that there is none
pub record SamePasts (q : Conditions) (ps : List Part) (n m : ℕ) (s r : Seen) : Type 0 where
  pub told : (t : ℕ) (p : PastAt) → t < m → IsFirstTold s q ps n t p → IsFirstTold r q ps n t p
  pub going_on : AllGoOn s q ps m → AllGoOn r q ps m

abbrev pub PastsAgree : Type 0
PastsAgree =
    (in_set : ℕ → Bool) (q : Conditions) (ps : List Part) (n m : ℕ) (s r : Seen) → ConditionsReadIn in_set q → PartsReadIn in_set ps →
    ((t : ℕ) → t < m → AgreeOn in_set (s.values t) (r.values t)) → ((t : ℕ) → t < m → s.outside t ≡ r.outside t) → SamePasts q ps n m s r

-- The first operation outside of an instant stands in the parts up to its own, which read only slots of the set.
abbrev pub FirstAgree : Type 0
FirstAgree =
    (in_set : ℕ → Bool) (front rest : List Part) (s r : SlotValues) (p : PastAt) → PartsReadIn in_set front → AgreeOn in_set s r →
    slice_get (pasts_of s front) 0 ≡ Some p → slice_get (pasts_of r (front ++ rest)) 0 ≡ Some p

-- a condition with no operation outside is true exactly if it is worth that
abbrev pub WithinTrue : Type 0
WithinTrue = (s : SlotValues) (e : Resolution) → outside s true e ≡ [] → is_true s e ≡ is true (worth s true e)
