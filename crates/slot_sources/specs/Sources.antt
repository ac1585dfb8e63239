-- The sources of a declaration: one for each of its slots, in the order of their numbers.
use Rattle.std.specs.Prelude.{◌≡◌, ℕ, ◌<◌, true, List, [], ◌∷◌, ◌++◌, map, Option, Some, None, slice_get, unwrap_or}
use Rattle.std.specs.List.{AllByRecursion}
use Rattle.std.specs.Map.{lookup}
use Rattle.std.specs.Str.{bytes_eq}
use Rattle.lus_tree.specs.Tree.{Name, Variable, Expression, ContractStatement, Component}
use Rattle.lus_meaning.specs.Scene.{Clock, base, sampled_by, Manner, plain, while_true, as_import, Site, Instance, Instances, instance, no_instances, with_instance, component_of, outputs_of, clock_from, clock_of_names, variables}
use Rattle.lus_meaning.specs.Run.{Equation, equations, inputs_of}
use Rattle.lus_meaning.specs.Occurrences.{Memory, memories, Start, starts}
use Rattle.lus_meaning.specs.Program.{in_order}
use Rattle.sys_meaning.specs.Slot.{beat, named, Place, own, in_call}
use Rattle.sys_meaning.specs.Defaults.{default_of}
use Rattle.sys_meaning.specs.System.{number_of, below_call}
use Rattle.slot_values.specs.Resolved.{Numbering, resolution, right_resolutions}
use Rattle.evaluation_laws.specs.Resolvings.{resolvings, at_numbers}
use Rattle.slot_sources.specs.declared.source.Switch.{Switch}
use Rattle.slot_sources.specs.Source.{Source, always, runs, runs_while, same, given, argument, listed, remembered, starting, unread}
use Rattle.slot_sources.specs.Source as s
use Rattle.slot_sources.specs.Rows.{reads_now}

-- what an instance's text is resolved over
abbrev pub numbering_of : Instance → (Place → ℕ) → Numbering
numbering_of i at = record { place = i; number = at; modes = at_numbers at (resolvings i) }

abbrev pub switch_of : Numbering → Clock → Switch
switch_of g base = record { slot = g.number (own beat); wanted = true }
switch_of g (sampled_by b x) = record { slot = g.number (own (named x)); wanted = b }

-- ---- names

-- what gives names their values: an equation of the frame, or the caller
abbrev pub NameSources : Type 0
NameSources = List (Name × Source)

abbrev pub paired : List Name → List Source → NameSources
paired (x ∷ xs) (e ∷ es) = (x, e) ∷ paired xs es
paired _ _ = []

-- a right side is on the clock of the equation's names
abbrev pub equation_sources : Numbering → List Equation → NameSources
equation_sources g [] = []
equation_sources g (e ∷ es) =
    paired e.names (map (given (switch_of g (clock_of_names (component_of g.place) e.names))) (right_resolutions g e.right))
    ++ equation_sources g es

abbrev pub name_source : Numbering → NameSources → Variable → Source
name_source g es v = unwrap_or (lookup (bytes_eq v.name.text) es) (listed (switch_of g (clock_from v.clock)))

abbrev pub name_sources : Numbering → NameSources → List Source
name_sources g from_caller =
    map (name_source g (from_caller ++ equation_sources g (equations (component_of g.place)))) (variables (component_of g.place))

-- ---- calls

abbrev pub call_beat : Numbering → Site → ℕ
call_beat g c = g.number (in_call c.number (own beat))

-- where a call's frame is active
abbrev pub beat_source : Numbering → Site → Manner → Source
beat_source g c plain = runs (switch_of g c.clock)
beat_source g c (while_true a) = runs_while (switch_of g c.clock) (resolution g a)
beat_source g c (as_import xs) = same (g.number (own beat))

abbrev pub argument_source : Numbering → Site → Expression → Source
argument_source g c a = argument (call_beat g c) (switch_of g c.clock) (resolution g a)

abbrev pub shared_sources : Numbering → Manner → Instance → NameSources
shared_sources g (as_import xs) k = paired (outputs_of k) (map (λ x. same (g.number (own (named x)))) xs)
shared_sources g plain k = []
shared_sources g (while_true a) k = []

-- what the caller gives: the inputs, and the outputs of an import
abbrev pub from_call : Numbering → Site → Instance → NameSources
from_call g c k = paired (inputs_of k) (map (argument_source g c) c.arguments) ++ shared_sources g c.manner k

abbrev pub held_source : Numbering → Site → Variable → Source
held_source g c v =
    s.held (call_beat g c) (g.number (in_call c.number (own (named v.name.text)))) (default_of g.place c.number v.name.text)

-- the caller's slots for a call: one for each output that it holds
abbrev pub held_each : Numbering → Site → List Variable → List Expression → List Source
held_each g c (v ∷ vs) (d ∷ ds) = held_source g c v ∷ held_each g c vs ds
held_each g c _ _ = []

abbrev pub held_sources : Numbering → Site → Component → Manner → List Source
held_sources g c n (while_true a) = held_each g c n.outputs c.defaults
held_sources g c n plain = []
held_sources g c n (as_import xs) = []

-- ---- frames

abbrev pub memory_source : Numbering → Memory → Source
memory_source g m = remembered (switch_of g m.clock) (resolution g m.operand)

abbrev pub start_source : Numbering → Start → Source
start_source g a = starting (switch_of g a.clock)

-- of what says whether the assumptions were true so far; an import's frame has none
abbrev pub contract_sources : Manner → Option (List ContractStatement) → List Source
contract_sources m None = []
contract_sources (as_import xs) (Some cs) = []
contract_sources plain (Some cs) = unread ∷ []
contract_sources (while_true a) (Some cs) = unread ∷ []

-- of a frame's own slots, where this gives its beat, and this names of it
abbrev pub own_sources : Manner → Numbering → Source → NameSources → List Source
own_sources m g active from_caller =
    active
    ∷ name_sources g from_caller
    ++ (map (memory_source g) (in_order (λ p. p.number) (memories (component_of g.place)))
    ++ (map (start_source g) (in_order (λ p. p.number) (starts (component_of g.place)))
    ++ contract_sources m (component_of g.place).contract))

abbrev mutual
  pub sources_in : Manner → Instance → (Place → ℕ) → Source → NameSources → List Source
  sources_in m (instance d cs is) at active from_caller =
      own_sources m (numbering_of (instance d cs is) at) active from_caller ++ call_sources (numbering_of (instance d cs is) at) is

  pub call_sources : Numbering → Instances → List Source
  call_sources g no_instances = []
  call_sources g (with_instance c k is) =
      held_sources g c (component_of k) c.manner
      ++ (sources_in c.manner k (below_call c.number g.number) (beat_source g c c.manner) (from_call g c k) ++ call_sources g is)

abbrev pub sources_of : Instance → List Source
sources_of i = sources_in plain i (number_of i) always []

-- ---- an order

-- ranks by which each slot is above those that it reads at the same instant
pub record HasRanks (es : List Source) : Type 0 where
  pub rank : ℕ → ℕ
  pub above : (k : ℕ) (e : Source) → slice_get es k ≡ Some e → AllByRecursion (λ j. rank j < rank k) (reads_now e)
