-- What is steady of a call or an import, and the values of its defaults.
use Rattle.std.specs.Prelude.{◌≡◌, true, List, [], map}
use Rattle.std.specs.List.{AllByRecursion}
use Rattle.lus_tree.specs.Tree.{Name, Expression}
use Rattle.lus_meaning.specs.Value.{Value}
use Rattle.lus_meaning.specs.Scene.{Manner, plain, while_true, as_import, Site, Instance, component_of, constants_of, call_instance}
use Rattle.lus_meaning.specs.Program.{constant_value}
use Rattle.sys_terms.specs.View.{Formula}
use Rattle.sys_meaning.specs.Defaults.{is_constant, default_of}
use Rattle.sys_meaning.specs.Translate.{Stage}
use Rattle.sys_parts.specs.Values.{is_small}
use Rattle.sys_texts.specs.Laws.{IsSteady}
use Rattle.sys_conditions.specs.Conditioned.{held_at_first}
use Rattle.sys_conditions.specs.Laws.{IsSteadyManner, output_of}

-- a default is steady and constant, and its value is no number that is too great
pub record IsSteadyDefault (cs : List (Name × Value)) (e : Expression) : Type 0 where
  pub steady : IsSteady cs e
  pub constant : is_constant cs e ≡ true
  pub small : is_small (constant_value cs e) ≡ true

pub record IsSteadySite (cs : List (Name × Value)) (s : Site) : Type 0 where
  pub arguments : AllByRecursion (IsSteady cs) s.arguments
  pub manner : IsSteadyManner cs s.manner
  pub defaults : AllByRecursion (IsSteadyDefault cs) s.defaults

-- the outputs of a call that runs while a condition is true have the values of its defaults, in their order
abbrev pub HasDefaults : Instance → Site → Manner → Type 0
HasDefaults i s plain = Unit {0}
HasDefaults i s (while_true a) =
    map (λ v. default_of i s.number v.name.text) (component_of (call_instance i s.number)).outputs
    ≡ map (constant_value (constants_of i)) s.defaults
HasDefaults i s (as_import xs) = Unit {0}

-- what is held at first of the outputs of a call, by the values of its defaults
abbrev pub first_held : Stage → Site → Manner → Instance → List Formula
first_held g s plain i = []
first_held g s (while_true a) i =
    held_at_first (map (output_of g s.number) (component_of i).outputs) (map (constant_value (constants_of g.place)) s.defaults)
first_held g s (as_import xs) i = []
