-- What may be listed of a frame and of those of its calls, by the tables of a program's declarations, with calls nested no
-- deeper than said.
use Rattle.std.specs.Prelude.{ℕ, zero, suc, Bool, true, false, cond, not, ◌&&◌, is_none, List, [], ◌∷◌, ◌++◌, Option, Some, None, slice_get}
use Rattle.lus_tree.specs.Tree.{Variable}
use Rattle.lus_meaning.specs.Occurrences.{Memory}
use Rattle.lus_meaning.specs.Trace.{of_name, of_first}
use Rattle.lus_limits.specs.Calls.{way_of}
use Rattle.lus_limits.specs.declared.calls.Way.{Way}
use Rattle.lus_limits.specs.declared.calls.Way.TheVariants.{Plain, Condition, Import}
use Rattle.sys_texts.specs.Sights.{Sight}
use Rattle.sys_texts.specs.Texts.{sort_by}
use Rattle.sys_tables.specs.Tabled.{Linked, Named, Tabled}
use Rattle.sys_tables.specs.Numbers.{behind_own, first_memory, frame_base, sight_at}
use Rattle.trace_fits.specs.Slotted.{Slotted}

-- ---- a frame itself

-- a name at the end of a way, in a trace of so many instants
abbrev pub name_listed : List ℕ → ℕ → Bool → ℕ → Variable → Slotted
name_listed path n needed k v = record {
  listable = record { path = path; subject = of_name v.name.text; sort = v.sort; count = n; needed = needed };
  slot = k;
}

-- the inputs, or what is neither an input nor has an equation
abbrev pub is_chosen : Bool → Named → Bool
is_chosen true s = s.input
is_chosen false s = is_none s.right && not s.input

abbrev pub stream_listed : List ℕ → ℕ → Bool → ℕ → Named → List Slotted
stream_listed path n inputs k s = cond (is_chosen inputs s) (name_listed path n inputs k s.variable ∷ []) []

-- of streams, of which the first has that number
abbrev pub streams_listed : List ℕ → ℕ → Bool → ℕ → List Named → List Slotted
streams_listed path n inputs k [] = []
streams_listed path n inputs k (s ∷ ss) = stream_listed path n inputs k s ++ streams_listed path n inputs (suc k) ss

-- in an import's frame none is free
abbrev pub free_listed : Way → List ℕ → ℕ → ℕ → List Named → List Slotted
free_listed Import path n k ss = []
free_listed Plain path n k ss = streams_listed path n false k ss
free_listed Condition path n k ss = streams_listed path n false k ss

abbrev pub memory_listed : Sight → List ℕ → ℕ → Memory → Slotted
memory_listed s path k m = record {
  listable = record { path = path; subject = of_first m.number; sort = sort_by s m.operand; count = 1; needed = false };
  slot = k;
}

abbrev pub memories_listed : Sight → List ℕ → ℕ → List Memory → List Slotted
memories_listed s path k [] = []
memories_listed s path k (m ∷ ms) = memory_listed s path k m ∷ memories_listed s path (suc k) ms

-- of a frame that is seen so
abbrev pub own_listed : Sight → ℕ → Way → ℕ → List ℕ → Tabled → List Slotted
own_listed s n w b path t = free_listed w path n (suc b) t.streams ++ memories_listed s path (first_memory t b) t.memories

-- ---- its calls

-- of a frame that runs so, from where it stands, and at the end of which way
abbrev pub ListedOf : Type 0
ListedOf = Way → ℕ → List ℕ → Tabled → List Slotted

abbrev pub listed_or_none : ListedOf → Way → ℕ → List ℕ → Option Tabled → List Slotted
listed_or_none f w b path None = []
listed_or_none f w b path (Some t) = f w b path t

abbrev pub call_listed : ListedOf → List Tabled → ℕ → List ℕ → Linked → List Slotted
call_listed f ts from path q =
    listed_or_none f (way_of q.site.manner) (frame_base from q) (path ++ q.site.number ∷ []) (slice_get ts q.place)

abbrev pub calls_listed : ListedOf → List Tabled → ℕ → List ℕ → List Linked → List Slotted
calls_listed f ts from path [] = []
calls_listed f ts from path (q ∷ qs) = call_listed f ts from path q ++ calls_listed f ts from path qs

module _ (ts : List Tabled) (missing n : ℕ) where
  abbrev pub listed_within : ℕ → ListedOf
  listed_within zero w b path t = own_listed (sight_at t w b missing) n w b path t
  listed_within (suc d) w b path t =
      own_listed (sight_at t w b missing) n w b path t ++ calls_listed (listed_within d) ts (behind_own w t b) path t.calls

  -- of an analysed declaration: its inputs, and then what is free
  abbrev pub all_listed : ℕ → Tabled → List Slotted
  all_listed d t = streams_listed [] n true 1 t.streams ++ listed_within d Plain 0 [] t

  abbrev pub all_or_none : ℕ → Option Tabled → List Slotted
  all_or_none d None = []
  all_or_none d (Some t) = all_listed d t
