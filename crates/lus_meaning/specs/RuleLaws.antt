-- The laws of the rules: of refusals, of the names of a checked program, and of the width of a node.
use Rattle.std.specs.Prelude.{◌≡◌, ℕ, zero, suc, ◌+◌, min, List, [], ◌∷◌, map, length, unwrap_or, Contains, Option}
use Rattle.lus_tree.specs.Tree.{Name, Component, Program}
use Rattle.lus_tree.specs.Reason.{Refused}
use Rattle.lus_meaning.specs.Scene.{Manner, plain, Site, no_component, variables}
use Rattle.lus_meaning.specs.Program.{all_sites, component_named, instance_of}
use Rattle.lus_meaning.specs.WellMade.{AreDistinct}
use Rattle.lus_meaning.specs.Faults.{number_of}
use Rattle.lus_meaning.specs.ClockFaults.{components}
use Rattle.lus_meaning.specs.Refusals.{FollowsRules, IsChecked, IsWithinLimits, IsRefusedFor}
use Rattle.lus_meaning.specs.Slots.{own_cells, held_cells, width}

-- ---- refusals

-- two refusals of a program are at one place and of one rule
abbrev pub OneRefusal : Type 0
OneRefusal =
    (p : Program) (main : Option Name) (r s : Refused) → IsRefusedFor p main r → IsRefusedFor p main s
    → (r.at ≡ s.at) × (number_of r.reason ≡ number_of s.reason)

-- a program that is refused breaks a rule or passes a limit
abbrev pub NotBoth : Type 0
NotBoth =
    (p : Program) (main : Option Name) (r : Refused) → IsRefusedFor p main r → FollowsRules p → IsWithinLimits p main → ⊥

-- ---- checked programs

-- what holds of each declaration of a checked program
abbrev pub OfEach : (Program → Component → Type 0) → Type 0
OfEach P = (p : Program) → IsChecked p → (n : Component) → Contains (components p) n → P p n

-- each name of a declaration stands once
abbrev pub NamesOnce : Type 0
NamesOnce = OfEach (λ p n. AreDistinct (map (λ v. v.name.text) (variables n)))

-- ---- widths

-- what a call takes: what the caller holds of it, and its frame
abbrev pub callee_of : Program → Site → Component
callee_of p c = unwrap_or (component_named p c.callee) no_component

abbrev pub sites_width : (Manner → Component → ℕ) → Program → List Site → ℕ
sites_width w p [] = 0
sites_width w p (c ∷ cs) =
    length (held_cells c (callee_of p c) c.manner) + (w c.manner (callee_of p c) + sites_width w p cs)

-- the slots of a declaration by the widths of its callees, with calls nested no deeper than the number
abbrev pub width_within : ℕ → Program → Manner → Component → ℕ
width_within zero p m n = length (own_cells m n)
width_within (suc d) p m n = length (own_cells m n) + sites_width (width_within d p) p (all_sites n)

-- so the width of a node is counted without its instance, once for each declaration and manner
abbrev pub WidthByCallees : Type 0
WidthByCallees = (p : Program) (n : Component) → width (instance_of p n) ≡ width_within (length p) p plain n

-- a sum past a limit is known to be past it from parts that are cut there
abbrev pub CutSums : Type 0
CutSums = (k a b : ℕ) → min k (a + b) ≡ min k (min k a + min k b)
