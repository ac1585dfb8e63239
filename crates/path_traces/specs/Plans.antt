-- What a trace lists of a declaration's frames, and how many variables they have.
use Rattle.std.specs.Prelude.{ℕ, suc, ◌+◌, min, Bool, not, is_none, List, [], ◌∷◌, map, flat_map, length, cond}
use Rattle.std.specs.List.{list_any}
use Rattle.std.specs.Str.{bytes_eq}
use Rattle.lus_tree.specs.Numbers.{arrow_number, pre_number, all_numbers}
use Rattle.lus_tree.specs.Tree.{Name, Variable, Component}
use Rattle.lus_tree.specs.View.{param_view}
use Rattle.lus_meaning.specs.Depends.{named_in}
use Rattle.lus_meaning.specs.Program.{all_sites}
use Rattle.lus_meaning.specs.Run.{Equation}
use Rattle.lus_meaning.specs.Scene.{no_component, variables}
use Rattle.lus_meaning.specs.Trace.{is_defined, free_names}
use Rattle.lus_streams.specs.Streams.{params_view}
use Rattle.lus_limits.specs.declared.calls.Way.{Way}
use Rattle.lus_limits.specs.declared.calls.Way.TheVariants.{Plain, Condition, Import}
use Rattle.lus_limits.specs.Calls.{Called, called_of, call_view}
use Rattle.lus_limits.specs.Summaries.{sofar_count}
use Rattle.path_traces.specs.declared.plan.Plan.{Plan as PlanCode}

-- whether an equation has that left name
abbrev pub is_left : List Equation → Name → Bool
is_left es x = list_any (λ e. list_any (bytes_eq x) e.names) es

-- those of these that no equation defines
abbrev pub free_among : Component → List Variable → List Variable
free_among d vs = flat_map (λ v. cond (is_defined d v.name.text) [] (v ∷ [])) vs

-- those of these whose names aren't among the names
abbrev pub unnamed_in : List Name → List Variable → List Variable
unnamed_in xs vs = flat_map (λ v. cond (named_in v.name.text xs) [] (v ∷ [])) vs

-- its name and streams, those that no equation defines, its outputs, how many `pre` and `->` it has, whether a contract,
-- and its calls
pub record Plan : Type 0 where
  pub name : Name
  pub names : List Variable
  pub free : List Variable
  pub outputs : List Variable
  pub memories : ℕ
  pub starts : ℕ
  pub contract : Bool
  pub calls : List Called

abbrev pub plan_view : PlanCode → Plan
plan_view p = record {
  name = p.name.now;
  names = params_view p.names.params.items;
  free = params_view p.free.items;
  outputs = map param_view p.outputs.now;
  memories = p.memories;
  starts = p.starts;
  contract = p.contract;
  calls = map call_view p.calls.items;
}

abbrev pub plan_of : Component → Plan
plan_of d = record {
  name = d.name.text;
  names = variables d;
  free = free_names d;
  outputs = d.outputs;
  memories = length (all_numbers pre_number d);
  starts = length (all_numbers arrow_number d);
  contract = not (is_none d.contract);
  calls = map called_of (all_sites d);
}

-- ---- one by its name

-- the first of that name; what isn't there has no names
abbrev pub plan_named : List Plan → Name → Plan
plan_named [] x = plan_of no_component
plan_named (p ∷ ps) x = cond (bytes_eq x p.name) p (plan_named ps x)

abbrev pub plan_names : List Plan → List Name
plan_names ps = map (λ p. p.name) ps

-- ---- widths

-- the variables of its own frame where it runs so, its calls left aside
abbrev pub own_width : Way → Plan → ℕ
own_width w p = suc (length p.names) + (p.memories + (p.starts + sofar_count w p.contract))

-- how many outputs the caller holds
abbrev pub held_by : Way → ℕ → ℕ
held_by Condition k = k
held_by Plain k = 0
held_by Import k = 0

abbrev pub held_count : Called → Plan → ℕ
held_count c p = held_by c.way (min (length p.outputs) c.defaults)

-- in an import's frame no name is free
abbrev pub free_by : Way → Plan → List Variable
free_by Import p = []
free_by Plain p = p.free
free_by Condition p = p.free
