-- What a text is translated over, found by names and numbers.
use Rattle.std.specs.Prelude.{ℕ, pred, nat_le, Bool, true, false, cond, ◌&&◌, List, [], ◌∷◌, map, Option, Some, None, unwrap_or, slice_get}
use Rattle.std.specs.Option.{option_map_or}
use Rattle.std.specs.Str.{bytes_eq}
use Rattle.lus_tree.specs.declared.place.Sort.{Sort}
use Rattle.lus_tree.specs.declared.place.Sort.TheVariants.{Bool as Flags}
use Rattle.lus_tree.specs.Tree.{Name}
use Rattle.lus_meaning.specs.Value.{Value, absent}
use Rattle.lus_meaning.specs.Scene.{Clock, base}
use Rattle.lus_meaning.specs.Run.{sort_of_value}
use Rattle.sys_terms.specs.View.{Formula, truth, flag}
use Rattle.sys_meaning.specs.Part.{Part, variable, choose_part}

-- a stream: its type, the number of its variable, and its clock
pub record Stream : Type 0 where
  pub sort : Sort
  pub number : ℕ
  pub clock : Clock

-- an output of a call: its type, the number of its variable, and of that which holds it
pub record Output : Type 0 where
  pub sort : Sort
  pub number : ℕ
  pub held : ℕ

-- a call: whom it calls, the number of the variable that says where its frame is active, and its outputs
pub record Call : Type 0 where
  pub callee : Name
  pub beat : ℕ
  pub outputs : List Output

-- the way to a mode: of the contract itself, of one that it imports, or of one that these import
pub data Way : Type 0 where
  own : Way
  through : Name → Way
  deeper : Way

-- a mode: what it asks, and each ensure where that is true
pub record Mode : Type 0 where
  pub way : Way
  pub name : Name
  pub asked : Formula
  pub ensures_each : List Formula

-- the frame of a declaration: where it is active, the number that stands for what isn't there, what its names mean,
-- and the numbers of the memories, of the starts and of the calls, by their numbers from 1
pub record Sight : Type 0 where
  pub beat : ℕ
  pub missing : ℕ
  pub streams : ℕ
  pub constant : Name → Option Value
  pub stream : Name → Option Stream
  pub memories : List ℕ
  pub starts : List ℕ
  pub calls : List Call

-- counted from 1
abbrev pub counted_from_one : {A : Type 0} → List A → ℕ → Option A
counted_from_one xs k = cond (nat_le 1 k) (slice_get xs (pred k)) None

abbrev pub number_at : List ℕ → ℕ → ℕ → ℕ
number_at ns missing k = unwrap_or (counted_from_one ns k) missing

-- ---- names

abbrev pub flag_at : ℕ → Formula
flag_at n = flag record { number = n; next = false }

abbrev pub name_sort : Sight → Name → Sort
name_sort s x = option_map_or (λ v. v.sort) (s.stream x) (sort_of_value (unwrap_or (s.constant x) absent))

abbrev pub name_number : Sight → Name → ℕ
name_number s x = option_map_or (λ v. v.number) (s.stream x) s.missing

abbrev pub name_clock : Sight → Name → Clock
name_clock s x = option_map_or (λ v. v.clock) (s.stream x) base

abbrev pub name_part : Sight → Name → Part
name_part s x = variable (name_sort s x) (name_number s x)

abbrev pub name_flag : Sight → Name → Formula
name_flag s x = flag_at (name_number s x)

-- ---- calls

abbrev pub output_part : Output → Part
output_part o = variable o.sort o.number

-- the same where it may be held
abbrev pub latest_part : ℕ → Output → Part
latest_part beat o = choose_part (flag_at beat) (variable o.sort o.number) (variable o.sort o.held)

abbrev pub outputs_at : Sight → ℕ → List Part
outputs_at s k = option_map_or (λ c. map output_part c.outputs) (counted_from_one s.calls k) []

abbrev pub latest_at : Sight → ℕ → List Part
latest_at s k = option_map_or (λ c. map (latest_part c.beat) c.outputs) (counted_from_one s.calls k) []

abbrev pub first_output_sort : List Output → Sort
first_output_sort [] = Flags
first_output_sort (o ∷ os) = o.sort

-- the type of the first output of the first call of this callee
abbrev pub called_sort : List Call → Name → Sort
called_sort [] f = Flags
called_sort (c ∷ cs) f = cond (bytes_eq f c.callee) (first_output_sort c.outputs) (called_sort cs f)

-- ---- modes

abbrev pub is_way : Option Name → Way → Bool
is_way None own = true
is_way (Some c) (through d) = bytes_eq c d
is_way _ _ = false

-- what the first mode of that name asks
abbrev pub asked_of : List Mode → Option Name → Name → Formula
asked_of [] c x = truth false
asked_of (m ∷ ms) c x = cond (is_way c m.way && bytes_eq x m.name) m.asked (asked_of ms c x)
