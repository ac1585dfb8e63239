-- The numbers of the variables of a frame that stands at a number, by what is known of the declaration.
use Rattle.std.specs.Prelude.{ℕ, suc, Bool, false, ◌+◌, ◌-◌, ◌<◌, ◌^◌, cond, List, [], ◌∷◌, map, length, Option, Some, None}
use Rattle.std.specs.List.{AllByRecursion}
use Rattle.std.specs.Map.{lookup}
use Rattle.std.specs.Str.{bytes_eq}
use Rattle.lus_tree.specs.Numbers.{counting}
use Rattle.lus_tree.specs.Tree.{Name, Variable}
use Rattle.lus_meaning.specs.Scene.{clock_from}
use Rattle.lus_limits.specs.declared.calls.Way.{Way}
use Rattle.lus_limits.specs.declared.calls.Way.TheVariants.{Plain, Condition, Import}
use Rattle.lus_limits.specs.Calls.{way_of}
use Rattle.lus_layouts.specs.Layouts.{own_count}
use Rattle.sys_texts.specs.Sights.{Stream, Output, Call, Sight}
use Rattle.sys_tables.specs.Tabled.{Named, Linked, Tabled}

-- the first number of a memory: behind the beat and the streams
abbrev pub first_memory : Tabled → ℕ → ℕ
first_memory t base = base + suc (length t.streams)

abbrev pub first_start : Tabled → ℕ → ℕ
first_start t base = first_memory t base + length t.memories

-- the number of what says whether the assumptions were true so far, where the frame keeps that
abbrev pub so_far_number : Tabled → ℕ → ℕ
so_far_number t base = first_start t base + length t.starts

-- a frame that runs so keeps it, where there is a contract, but for that of an import
abbrev pub keeps_so_far : Way → Tabled → Bool
keeps_so_far Plain t = t.contract
keeps_so_far Condition t = t.contract
keeps_so_far Import t = false

-- the first number behind the frame's own variables, where it runs so
abbrev pub behind_own : Way → Tabled → ℕ → ℕ
behind_own w t base = base + own_count w t.layout

-- the number at which the frame of a call stands, by the first one behind the caller's own variables
abbrev pub frame_base : ℕ → Linked → ℕ
frame_base from l = from + l.slots.frame

abbrev pub first_held : ℕ → Linked → ℕ
first_held from l = from + (l.slots.frame - l.slots.held)

-- no number of the frame, nor one that it names of its calls, is 2^32 or more
abbrev pub CallHasRoom : ℕ → Linked → Type 0
CallHasRoom from l = frame_base from l + suc (l.inputs + length l.outputs) < 2 ^ 32

pub record HasRoom (w : Way) (t : Tabled) (base : ℕ) : Type 0 where
  pub own : so_far_number t base < 2 ^ 32
  pub behind : behind_own w t base < 2 ^ 32
  pub calls : AllByRecursion (CallHasRoom (behind_own w t base)) t.calls

-- ---- what the frame's names and numbers mean

abbrev pub stream_from : ℕ → List Named → Name → Option Stream
stream_from k [] x = None
stream_from k (s ∷ ss) x =
    cond (bytes_eq x s.variable.name.text)
    (Some record { sort = s.variable.sort; number = k; clock = clock_from s.variable.clock }) (stream_from (suc k) ss x)

-- what holds an output, for a call under a condition alone
abbrev pub held_or : Way → ℕ → ℕ → ℕ
held_or Plain k missing = missing
held_or Condition k missing = k
held_or Import k missing = missing

-- outputs, of which the first has that number and is held there
abbrev pub outputs_from : Way → ℕ → ℕ → ℕ → List Variable → List Output
outputs_from w k h missing [] = []
outputs_from w k h missing (v ∷ vs) =
    record { sort = v.sort; number = k; held = held_or w h missing } ∷ outputs_from w (suc k) (suc h) missing vs

abbrev pub call_at : ℕ → ℕ → Linked → Call
call_at from missing l = record {
  callee = l.site.callee;
  beat = frame_base from l;
  outputs = outputs_from (way_of l.site.manner) (frame_base from l + suc l.inputs) (first_held from l) missing l.outputs;
}

-- of a frame that runs so, of which the beat has the number `base`
abbrev pub sight_at : Tabled → Way → ℕ → ℕ → Sight
sight_at t w base missing = record {
  beat = base;
  missing = missing;
  streams = length t.streams;
  constant = λ x. lookup (bytes_eq x) t.constants;
  stream = λ x. stream_from (suc base) t.streams x;
  memories = counting (first_memory t base) (length t.memories);
  starts = counting (first_start t base) (length t.starts);
  calls = map (call_at (behind_own w t base) missing) t.calls;
}
