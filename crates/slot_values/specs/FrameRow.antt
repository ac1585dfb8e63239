-- Rows of values that show a frame at an instant.
use Rattle.std.specs.Prelude.{◌≡◌, ℕ, Bool, true, false, not, Option, option_to_list}
use Rattle.std.specs.List.{AllByRecursion}
use Rattle.lus_tree.specs.Tree.{Name, Expression, Expressions}
use Rattle.lus_meaning.specs.Value.{absent, flag, was_on, latest}
use Rattle.lus_meaning.specs.Frame.{entry, first_value, call_frame}
use Rattle.lus_meaning.specs.Scene.{Clock, Scene, component_of, call_instance, is_on}
use Rattle.lus_meaning.specs.Meaning.{value, mode_stream}
use Rattle.lus_meaning.specs.Run.{is_typed, sort_of_name, active}
use Rattle.sys_meaning.specs.Slot.{beat, named, memory, starting, held, Place, own, in_call}
use Rattle.sys_meaning.specs.Items.{Key, Known}
use Rattle.sys_meaning.specs.Defaults.{site_of}
use Rattle.sys_meaning.specs.State.{held_before}
use Rattle.sys_meaning.specs.Seen.{seen_mode}
use Rattle.sys_meaning.specs.WellTyped.{no_constant, is_declared, clock_here, IsMemory, IsStart, IsPlainCall, IsHeldCall, Stands}
use Rattle.slot_values.specs.Resolution.{Resolution}
use Rattle.slot_values.specs.Evaluated.{SlotValues, worth}
use Rattle.slot_values.specs.Resolved.{Numbering, resolution}
use Rattle.slot_values.specs.Clocked.{row_by, clock_on, Passes, sight_by}

-- the numbering of a scene's places
abbrev pub numbering : Scene → (Place → ℕ) → Known Resolution → Numbering
numbering s number modes = record { place = s.place; number = number; modes = modes }

-- the outputs of a call: in the row as they are in its frame, where they have a value of their type exactly where it is active
pub record ShowsCall (s : Scene) (number : Place → ℕ) (row : SlotValues) (k t : ℕ) : Type 0 where
  pub outputs : AllByRecursion (λ v. row (number (in_call k (own (named v.name.text)))) ≡ entry (call_frame s.frame k) v.name.text t)
      (component_of (call_instance s.place k)).outputs
  pub types : AllByRecursion (λ v. is_typed v.sort (active s (site_of s.place k) t) (entry (call_frame s.frame k) v.name.text t) ≡ true)
      (component_of (call_instance s.place k)).outputs

-- what besides is held of it
pub record ShowsHeld (s : Scene) (number : Place → ℕ) (row : SlotValues) (k t : ℕ) : Type 0 where
  pub beats : row (number (in_call k (own beat))) ≡ flag (active s (site_of s.place k) t)
  pub held : AllByRecursion (λ v. row (number (own (held k v.name.text))) ≡ held_before s k v.name.text t)
      (component_of (call_instance s.place k)).outputs

-- A row shows the frame of a scene at an instant, where these modes are known: names as they are in the frame, memories as at the last earlier instant of
-- their clock, whether an `->` starts, and calls.
pub record Shows (s : Scene) (test : Key → Bool) (number : Place → ℕ) (modes : Known Resolution) (row : SlotValues) (t : ℕ) : Type 0 where
  pub beats : row (number (own beat)) ≡ flag (s.beat t)
  pub names : (x : Name) → no_constant s.place (Passes test) x → is_declared s.place (Passes test) x → row (number (own (named x))) ≡ entry s.frame x t
  pub types : (x : Name) → no_constant s.place (Passes test) x → is_declared s.place (Passes test) x →
      is_typed (sort_of_name s.place x) (is_on s (clock_here s.place (Passes test) x) t) (entry s.frame x t) ≡ true
  pub clocks : (x : Name) → no_constant s.place (Passes test) x → is_declared s.place (Passes test) x →
      clock_on (row_by number row) (clock_here s.place (Passes test) x) ≡ is_on s (clock_here s.place (Passes test) x) t
  pub memories : (k : ℕ) (c : Clock) (a : Expression) → IsMemory s.place (Passes test) k c a →
      row (number (own (memory k))) ≡ latest (is_on s c) (value s c a) (first_value s.frame k) t
  pub starts : (k : ℕ) (c : Clock) → IsStart s.place (Passes test) k c → row (number (own (starting k))) ≡ flag (not (was_on (is_on s c) t))
  pub calls : (k : ℕ) (c : Clock) → IsPlainCall s.place (Passes test) k c → ShowsCall s number row k t
  pub held_calls : (k : ℕ) (c : Clock) (a : Expression) (ds : Expressions) → IsHeldCall s.place (Passes test) k c a ds →
      ShowsCall s number row k t × ShowsHeld s number row k t
  pub modes_on : (d : Option Name) (m : Name) → test (option_to_list d, m) ≡ true → s.beat t ≡ true →
      seen_mode (sight_by (numbering s number modes) row) (option_to_list d, m) ≡ mode_stream s d m t
  pub modes_off : (d : Option Name) (m : Name) → s.beat t ≡ false → mode_stream s d m t ≡ absent
  pub asked_off : s.beat t ≡ false → AllByRecursion (λ m. worth row false m.1 ≡ absent) modes

-- In such a row the resolution of an expression is worth the expression's value at the instant, on its clock and off it.
abbrev pub ValuesByRows : Type 0
ValuesByRows =
    (s : Scene) (test : Key → Bool) (number : Place → ℕ) (modes : Known Resolution) (row : SlotValues) (t : ℕ) → Shows s test number modes row t →
    (c : Clock) (e : Expression) → Stands s.place (Passes test) c e → clock_on (row_by number row) c ≡ is_on s c t →
    worth row (is_on s c t) (resolution (numbering s number modes) e) ≡ value s c e t
