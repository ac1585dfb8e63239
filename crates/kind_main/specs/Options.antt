-- The options of a proof.
use Rattle.std.specs.Prelude.{ℕ, List, [], ◌∷◌, Option, Some, None}
use Rattle.proof_steps.specs.declared.stops.Budgets.{Budgets}
use Rattle.board_core.specs.declared.plan.Plan.{Plan}
use Rattle.board_core.specs.Plans.{IsWithin}
use Rattle.kind_main.specs.declared.options.EngineName.{EngineName}
use Rattle.kind_main.specs.declared.options.EngineName.TheVariants as n
use Rattle.kind_main.specs.declared.options.Engines.{Engines}
use Rattle.kind_main.specs.declared.options.Engines.TheVariants as e
use Rattle.kind_main.specs.declared.options.Options.{Options}

-- bounded search is engine 0, induction engine 1
abbrev pub number_of : EngineName → ℕ
number_of n.Bounded = 0
number_of n.Step = 1

-- the engines by their numbers, in their order
abbrev pub numbers_of : Engines → List ℕ
numbers_of e.Bounded = 0 ∷ []
numbers_of e.Step = 1 ∷ []
numbers_of e.BoundedStep = 0 ∷ 1 ∷ []
numbers_of e.StepBounded = 1 ∷ 0 ∷ []

abbrev pub number_if : Option EngineName → List ℕ
number_if None = []
number_if (Some name) = number_of name ∷ []

abbrev pub numbers_in : EngineName × Option EngineName → List ℕ
numbers_in names = number_of names.0 ∷ number_if names.1

-- what the solver may spend on a query
abbrev pub default_budgets : Budgets
default_budgets = record { conflicts = 100000; splits = 2000; pivots = 200000 }

-- what the engines may do
abbrev pub options_plan : Options → Plan
options_plan o = record { depth = o.depth; frames = 30; blocked = 5000; budgets = default_budgets }

-- where no option says otherwise: to depth 20, by bounded search and induction
abbrev pub default_options : Options
default_options = record { depth = 20; engines = e.BoundedStep }

-- the depths that an option may name
abbrev pub IsInRange : Options → Type 0
IsInRange o = IsWithin 1 1000 o.depth
