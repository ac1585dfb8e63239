-- The faults of equations of a program, and the orders of its declarations.
use Rattle.std.specs.Prelude.{◌≡◌, ◌↔◌, ℕ, List, [], ◌∷◌, Contains, Option}
use Rattle.lus_tree.specs.Tree.{Component, Program}
use Rattle.std.proofs.Math.Logic.{◌⊎◌}
use Rattle.lus_tree.specs.Reason.{Refused, memory}
use Rattle.lus_meaning.specs.ClockFaults.{components}
use Rattle.lus_meaning.specs.EquationFaults.{IsEquationFault}
use Rattle.lus_meaning.specs.Faults.{IsFirst, fault}
use Rattle.lus_meaning.specs.NameFaults.{start_of_text}
use Rattle.lus_meaning.specs.Order.{IsLeastEquationOrder}
use Rattle.lus_meaning.specs.Program.{instance_of}
use Rattle.lus_meaning.specs.Refusals.{HasNone}
use Rattle.lus_meaning.specs.Run.{equations}
use Rattle.lus_scopes.specs.Least.{IsLeast, noted_all}
use Rattle.way_laws.specs.Circles.{IsOwnCircle}
use Rattle.way_laws.specs.OwnGraph.{Summaries}
use Rattle.lus_order.specs.Ordered.{IsOrdered}

-- a fault of circles of one of these declarations
abbrev pub IsCircleAmong : List Component → Summaries → Refused → Type 0
IsCircleAmong ns g r = (n : Component) × Contains ns n × IsOwnCircle n g r

-- noted are the faults of circles of these
pub record AllNoted (ns : List Component) (g : Summaries) (old new : Option Refused) : Type 0 where
  pub faults : List Refused
  pub noted : new ≡ noted_all old faults
  pub all : (r : Refused) → Contains faults r ↔ IsCircleAmong ns g r

-- declaration by declaration
abbrev pub AreOrdered : Summaries → List Component → List (List ℕ) → Type 0
AreOrdered g [] [] = Unit {0}
AreOrdered g (n ∷ ns) (ks ∷ kss) = IsOrdered n g ks × AreOrdered g ns kss
AreOrdered g _ _ = Prim.⊥

-- for each of these declarations the least order of its equations
abbrev pub AreLeastOrders : Program → List Component → List (List ℕ) → Type 0
AreLeastOrders p [] [] = Unit {0}
AreLeastOrders p (n ∷ ns) (ks ∷ kss) = IsLeastEquationOrder (instance_of p n) (equations n) ks × AreLeastOrders p ns kss
AreLeastOrders p _ _ = Prim.⊥

-- the least of the faults, and the orders where there is none
pub record IsCheckedBy (p : Program) (o : Option Refused) (kss : List (List ℕ)) : Type 0 where
  pub faults : List Refused
  pub least : IsLeast o faults
  pub all : (r : Refused) → Contains faults r ↔ IsEquationFault p r
  pub orders : HasNone (IsEquationFault p) → AreLeastOrders p (components p) kss

-- memory ran out, which is said at 1:1, or it is a first fault of equations
abbrev pub IsRefusal : Program → Refused → Type 0
IsRefusal p r = (r ≡ fault memory start_of_text) ⊎ IsFirst (IsEquationFault p) r
