-- The system of a declaration.
use Rattle.std.specs.Prelude.{ℕ, Bool, true, false, cond, List, [], ◌∷◌, ◌++◌, map, flat_map, Option, Some, None, is_some}
use Rattle.std.specs.Map.{lookup}
use Rattle.std.specs.Str.{bytes_eq}
use Rattle.lus_tree.specs.declared.place.Sort.{Sort}
use Rattle.lus_tree.specs.declared.place.Sort.TheVariants.{Bool as Flags, Int as Numbers}
use Rattle.lus_tree.specs.Tree.{Name, Variable, Component, Statement, property}
use Rattle.lus_meaning.specs.Scene.{Clock, Manner, plain, while_true, as_import, Site, Instance, Instances, instance, no_instances, with_instance, component_of, outputs_of, clock_from, variables}
use Rattle.lus_meaning.specs.Run.{Equation, equations, inputs_of, sort_of}
use Rattle.lus_meaning.specs.Property.{assertions}
use Rattle.lus_meaning.specs.Depends.{named_in}
use Rattle.kind_num.specs.declared.Shape.{Shape}
use Rattle.kind_num.specs.declared.Shape.TheVariants as shapes
use Rattle.sys_terms.specs.View.{Formula, negation, both, same, Machine}
use Rattle.sys_terms.specs.View as t
use Rattle.lus_meaning.specs.Occurrences.{Memory, memories, Start, starts}
use Rattle.lus_meaning.specs.Program.{in_order}
use Rattle.lus_meaning.specs.Slots.{slots}
use Rattle.sys_meaning.specs.Slot.{Spot, beat, named, memory, starting, so_far, held, Place, own, in_call, number_in}
use Rattle.sys_meaning.specs.Defaults.{default_of}
use Rattle.sys_meaning.specs.Items.{Known, ModeItem, Items, Sense, items, known}
use Rattle.sys_meaning.specs.Part.{Part, a_flag, fixed, variable, variable_in, zero_of, implies, all_of, some_of, choose_part, equal_parts}
use Rattle.sys_meaning.specs.Translate.{Stage, flag_at, name_part, present, term_of, right_terms, formula, head_part}

-- ---- contracts

-- a formula of a frame, by the numbers of its variables
abbrev pub Written : Type 0
Written = (Place → ℕ) → Formula

abbrev pub at_numbers : (Place → ℕ) → Known Written → Known Formula
at_numbers at ms = map (λ m. (m.0, m.1 at)) ms

abbrev pub below_call : ℕ → (Place → ℕ) → Place → ℕ
below_call k at p = at (in_call k p)

abbrev pub written : Sense Written
written = record {
  says = λ i ms e at. formula (record { place = i; number = at; modes = at_numbers at ms }) e;
  all_of = λ fs at. all_of (map (λ f. f at) fs);
  under = λ f g at. implies (f at) (g at);
  through = λ k f at. f (below_call k at);
}

abbrev pub contract_of : Instance → Items Written
contract_of i = items written i

abbrev pub assumed : Instance → (Place → ℕ) → List Formula
assumed i at = map (λ f. f at) (contract_of i).assumes

-- what an instance's text is translated over
abbrev pub stage : Instance → (Place → ℕ) → Stage
stage i at = record { place = i; number = at; modes = at_numbers at (known (contract_of i).modes) }

-- ---- here

-- what a name equals: a term of the frame, or one that the caller gives
abbrev pub Sources : Type 0
Sources = List (Name × Part)

abbrev pub tail_parts : List Part → List Part
tail_parts [] = []
tail_parts (p ∷ ps) = ps

abbrev pub paired : List Name → List Part → Sources
paired [] ps = []
paired (x ∷ xs) ps = (x, head_part ps) ∷ paired xs (tail_parts ps)

abbrev pub equation_sources : Stage → List Equation → Sources
equation_sources g [] = []
equation_sources g (e ∷ es) = paired e.names (right_terms g e.right) ++ equation_sources g es

abbrev pub variable_of : Stage → Variable → Part
variable_of g v = variable v.sort (g.number (own (named v.name.text)))

abbrev pub clock_of_variable : Variable → Clock
clock_of_variable v = clock_from v.clock

-- 0 or false where its clock is off
abbrev pub equals_where_on : Stage → Variable → Part → Formula
equals_where_on g v p =
    equal_parts (variable_of g v) (choose_part (present g (clock_of_variable v)) p (zero_of v.sort))

abbrev pub is_free : Stage → Variable → Formula
is_free g v = negation (both (negation (present g (clock_of_variable v))) (negation (equal_parts (variable_of g v)
    (zero_of v.sort))))

-- the inputs of the analysed declaration may be anything
abbrev pub name_here : Stage → Variable → Option Part → List Formula
name_here g v (Some p) = equals_where_on g v p ∷ []
name_here g v None = cond (named_in v.name.text (inputs_of g.place)) [] (is_free g v ∷ [])

abbrev pub names_here : Stage → Sources → List Formula
names_here g given =
    flat_map (λ v. name_here g v (lookup (bytes_eq v.name.text) (given ++ equation_sources g (equations
    (component_of g.place))))) (variables (component_of g.place))

-- where a call's frame is active
abbrev pub runs_where : Stage → Site → Manner → Formula
runs_where g c plain = present g c.clock
runs_where g c (while_true a) = both (present g c.clock) (formula g a)
runs_where g c (as_import xs) = flag_at g (own beat)

abbrev pub shared_outputs : Stage → Manner → Instance → Sources
shared_outputs g (as_import xs) i = paired (outputs_of i) (map (name_part g) xs)
shared_outputs g plain i = []
shared_outputs g (while_true a) i = []

abbrev pub from_call : Stage → Site → Instance → Sources
from_call g c i = paired (inputs_of i) (map (term_of g) c.arguments) ++ shared_outputs g c.manner i

abbrev mutual
  -- of a frame, of which this says where it is active, and of the frames of its calls
  pub here_of : Instance → (Place → ℕ) → Formula → Sources → List Formula
  here_of (instance d cs is) at active given = active ∷ names_here (stage (instance d cs is) at) given
      ++ calls_here is (stage (instance d cs is) at)

  pub calls_here : Instances → Stage → List Formula
  calls_here no_instances g = []
  calls_here (with_instance c i is) g =
      here_of i (below_call c.number g.number) (same (flag_at g (in_call c.number (own beat)))
      (runs_where g c c.manner)) (from_call g c i) ++ calls_here is g

-- ---- first and next

abbrev pub has_so_far : Manner → Component → Bool
has_so_far (as_import xs) d = false
has_so_far plain d = is_some d.contract
has_so_far (while_true a) d = is_some d.contract

abbrev pub starts_first : Stage → List Formula
starts_first g =
    map (λ a. flag_at g (own (starting a.number))) (in_order (λ a. a.number) (starts (component_of g.place)))

abbrev pub so_far_first : Stage → Manner → List Formula
so_far_first g m = cond (has_so_far m (component_of g.place)) (flag_at g (own so_far) ∷ []) []

abbrev pub held_first : Stage → Site → Manner → Instance → List Formula
held_first g c (while_true a) i =
    map (λ v. equal_parts (variable v.sort (g.number (own (held c.number v.name.text)))) (fixed
    (default_of g.place c.number v.name.text))) (component_of i).outputs
held_first g c plain i = []
held_first g c (as_import xs) i = []

abbrev mutual
  pub first_of : Manner → Instance → (Place → ℕ) → List Formula
  first_of m (instance d cs is) at = let g : Stage = stage (instance d cs is) at in starts_first g
      ++ so_far_first g m ++ calls_first is g

  pub calls_first : Instances → Stage → List Formula
  calls_first no_instances g = []
  calls_first (with_instance c i is) g = held_first g c c.manner i
      ++ first_of c.manner i (below_call c.number g.number) ++ calls_first is g

-- the variable of the next state is the term
abbrev pub becomes : Stage → Sort → Spot → Part → Formula
becomes g s p q = equal_parts (variable_in true s (g.number (own p))) q

abbrev pub memory_next : Stage → Memory → Formula
memory_next g m =
    let s : Sort = sort_of g.place m.operand in
    becomes g s (memory m.number) (choose_part (present g m.clock) (term_of g m.operand) (variable s (g.number (own
    (memory m.number)))))

abbrev pub start_next : Stage → Start → Formula
start_next g a =
    becomes g Flags (starting a.number) (a_flag (both (flag_at g (own (starting a.number))) (negation
    (present g a.clock))))

abbrev pub so_far_next : Stage → Manner → List Formula
so_far_next g m = cond (has_so_far m (component_of g.place))
    (becomes g Flags so_far (a_flag (both (flag_at g (own so_far)) (negation (both (flag_at g (own beat)) (negation
    (all_of (assumed g.place g.number))))))) ∷ [])
    []

abbrev pub held_next : Stage → Site → Manner → Instance → List Formula
held_next g c (while_true a) i = map (λ v. becomes g v.sort (held c.number v.name.text)
    (choose_part (flag_at g (in_call c.number (own beat))) (variable v.sort (g.number (in_call c.number (own
    (named v.name.text))))) (variable v.sort (g.number (own (held c.number v.name.text))))))
    (component_of i).outputs
held_next g c plain i = []
held_next g c (as_import xs) i = []

abbrev mutual
  pub next_of : Manner → Instance → (Place → ℕ) → List Formula
  next_of m (instance d cs is) at =
      let g : Stage = stage (instance d cs is) at in
      map (memory_next g) (in_order (λ m. m.number) (memories d))
      ++ map (start_next g) (in_order (λ a. a.number) (starts d)) ++ so_far_next g m ++ calls_next is g

  pub calls_next : Instances → Stage → List Formula
  calls_next no_instances g = []
  calls_next (with_instance c i is) g = held_next g c c.manner i
      ++ next_of c.manner i (below_call c.number g.number) ++ calls_next is g

-- ---- legal

abbrev pub asserts_of : Stage → List Formula
asserts_of g = map (λ e. negation (both (flag_at g (own beat)) (negation (formula g e)))) (assertions
    (component_of g.place).body)

abbrev mutual
  pub asserts_in : Instance → (Place → ℕ) → List Formula
  asserts_in (instance d cs is) at = asserts_of (stage (instance d cs is) at)
      ++ calls_asserts is (stage (instance d cs is) at)

  pub calls_asserts : Instances → Stage → List Formula
  calls_asserts no_instances g = []
  calls_asserts (with_instance c i is) g = asserts_in i (below_call c.number g.number) ++ calls_asserts is g

abbrev pub legal_of : Instance → (Place → ℕ) → List Formula
legal_of i at = assumed i at ++ asserts_in i at

-- ---- properties

abbrev pub body_properties : Stage → List Statement → List Formula
body_properties g [] = []
body_properties g (property l ∷ ss) = formula g l.value ∷ body_properties g ss
body_properties g (_ ∷ ss) = body_properties g ss

-- where there is a mode, that one is active
abbrev pub one_mode : List (ModeItem Written) → (Place → ℕ) → List Formula
one_mode [] at = []
one_mode (m ∷ ms) at = some_of (map (λ m. m.asked at) (m ∷ ms)) ∷ []

abbrev pub owed_by_site : Stage → Site → Manner → Instance → List Formula
owed_by_site g c (as_import xs) i = []
owed_by_site g c plain i =
    map (λ f. negation (both (flag_at g (in_call c.number (own beat))) (negation f))) (assumed i
    (below_call c.number g.number))
owed_by_site g c (while_true a) i =
    map (λ f. negation (both (flag_at g (in_call c.number (own beat))) (negation f))) (assumed i
    (below_call c.number g.number))

abbrev pub owed_by_calls : Stage → Instances → List Formula
owed_by_calls g no_instances = []
owed_by_calls g (with_instance c i is) = owed_by_site g c c.manner i ++ owed_by_calls g is

abbrev pub properties_of : Instance → (Place → ℕ) → List Formula
properties_of (instance d cs is) at =
    let i : Instance = instance d cs is in
    body_properties (stage i at) d.body
    ++ map (λ f. f at) (contract_of i).guarantees
    ++ flat_map (λ m. map (λ f. f at) m.ensures_each) (contract_of i).modes
    ++ one_mode (contract_of i).modes at
    ++ owed_by_calls (stage i at) is

-- ---- the system

abbrev pub shape_of : Sort → Shape
shape_of Flags = shapes.Flag
shape_of Numbers = shapes.Number

-- the number of a variable
abbrev pub number_of : Instance → Place → ℕ
number_of i p = number_in (slots i) p

abbrev pub system_of : Instance → Machine
system_of i = record {
  shapes = map (λ p. shape_of p.sort) (slots i);
  first = first_of plain i (number_of i);
  here = here_of i (number_of i) (t.flag record { number = number_of i (own beat); next = false }) [];
  next = next_of plain i (number_of i);
  legal = legal_of i (number_of i);
  properties = properties_of i (number_of i);
}
