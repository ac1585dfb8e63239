-- The states of a frame.
use Rattle.std.specs.Prelude.{ℕ, zero, suc, true, false, not, ◌&&◌, ◌||◌, List, [], ◌∷◌, map, Option, Some, None}
use Rattle.std.specs.List.{list_all}
use Rattle.lus_tree.specs.Tree.{Name}
use Rattle.lus_meaning.specs.Value.{Value, absent, flag, whole, Stream, Instants, is, was_on, latest}
use Rattle.lus_meaning.specs.Frame.{Frame, entry, first_value, call_frame}
use Rattle.lus_meaning.specs.Scene.{Instance, component_of, call_instance, Scene, is_on}
use Rattle.lus_meaning.specs.Meaning.{value, never}
use Rattle.lus_meaning.specs.Contract.{terms, scene}
use Rattle.lus_meaning.specs.Run.{active}
use Rattle.lus_meaning.specs.Trace.{or_default}
use Rattle.lus_meaning.specs.Verdict.{throughout}
use Rattle.sys_terms.specs.declared.term.Entry.{Entry}
use Rattle.sys_terms.specs.declared.term.Entry.TheVariants as entries
use Rattle.lus_meaning.specs.Occurrences.{Memory, Start}
use Rattle.lus_meaning.specs.Slots.{slots}
use Rattle.sys_meaning.specs.Slot.{Spot, beat, named, memory, starting, so_far, held, Place, place_of, memory_of, start_of}
use Rattle.sys_meaning.specs.Defaults.{site_of, default_of}

-- the argument's value at the last earlier instant at which its clock was on, else the first value
abbrev pub remembered : Scene → ℕ → Option Memory → Stream
remembered s k None = never
remembered s k (Some m) = latest (is_on s m.clock) (value s m.clock m.operand) (first_value s.frame k)

-- true where the clock was on at no earlier instant
abbrev pub still_starting : Scene → Option Start → Stream
still_starting s None = never
still_starting s (Some a) = λ t. flag (not (was_on (is_on s a.clock) t))

-- the output at the call frame's last earlier active instant, else its default
abbrev pub held_before : Scene → ℕ → Name → Stream
held_before s k x = latest (active s (site_of s.place k)) (entry (call_frame s.frame k) x) (default_of s.place k x)

-- whether the contract's assumptions were true at all earlier active instants
abbrev pub kept_so_far : Instance → Instants → Frame → Instants
kept_so_far i b f zero = true
kept_so_far i b f (suc t) =
    kept_so_far i b f t && (not (b t) || list_all (λ p. is true (p.test b f t)) (terms i).assumes)

-- a variable of the frame's own, as it stands
abbrev pub own_reading : Instance → Instants → Frame → Spot → Stream
own_reading i b f beat = λ t. flag (b t)
own_reading i b f (named x) = entry f x
own_reading i b f (memory k) = remembered (scene i b f) k (memory_of (component_of i) k)
own_reading i b f (starting k) = still_starting (scene i b f) (start_of (component_of i) k)
own_reading i b f so_far = λ t. flag (kept_so_far i b f t)
own_reading i b f (held k x) = held_before (scene i b f) k x

-- and of the frame at the end of a way of calls
abbrev pub reading_on : List ℕ → Instance → Instants → Frame → Spot → Stream
reading_on [] i b f p = own_reading i b f p
reading_on (k ∷ ks) i b f p =
    reading_on ks (call_instance i k) (active (scene i b f) (site_of i k)) (call_frame f k) p

abbrev pub reading : Instance → Instants → Frame → Place → Stream
reading i b f p = reading_on p.0 i b f p.1

-- ---- states

abbrev pub entry_of : Value → Entry
entry_of absent = entries.Flag false
entry_of (flag b) = entries.Flag b
entry_of (whole n) = entries.Number n

-- the state of a frame at an instant: its variables, absent as 0 or false
abbrev pub state_of : Instance → Frame → ℕ → List Entry
state_of i f t = map (λ p. entry_of (or_default p.sort (reading i throughout f (place_of p) t))) (slots i)

-- those of the instants before t
abbrev pub states_from : Instance → Frame → ℕ → ℕ → List (List Entry)
states_from i f t zero = []
states_from i f t (suc n) = state_of i f t ∷ states_from i f (suc t) n

abbrev pub states_of : Instance → Frame → ℕ → List (List Entry)
states_of i f n = states_from i f 0 n
