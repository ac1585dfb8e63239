-- The laws of programs that follow the rules: clocks, orders of equations, and runs.
use Rattle.std.specs.Prelude.{◌≡◌, ◌↔◌, ℕ, ◌<◌, true, suc, List, [], ◌∷◌, Contains, Some}
use Rattle.std.specs.List.{AllByRecursion}
use Rattle.lus_tree.specs.declared.place.Sort.TheVariants.{Bool as Flags}
use Rattle.lus_tree.specs.Tree.{Name, Component, Program}
use Rattle.lus_meaning.specs.Value.{Instants}
use Rattle.lus_meaning.specs.Frame.{Frame, frame_at, calls_in, firsts_of, entry}
use Rattle.lus_meaning.specs.Scene.{Scene, Instance, Instances, instance, no_instances, with_instance, clock_from, variables, is_on}
use Rattle.lus_meaning.specs.Meaning.{value}
use Rattle.lus_meaning.specs.Contract.{Test, Terms, terms, scene}
use Rattle.lus_meaning.specs.Run.{sort_of, is_typed, first_sorts, have_sorts, active, IsRun, equations}
use Rattle.lus_meaning.specs.Occurrences.{Occurrence, all_occurrences}
use Rattle.lus_meaning.specs.Program.{instance_of}
use Rattle.lus_meaning.specs.Depends.{Rank, IsRanked, SameChoices}
use Rattle.lus_meaning.specs.Recompute.{recomputed}
use Rattle.lus_meaning.specs.WellMade.{IsWellMade, HasTypes}
use Rattle.lus_meaning.specs.Choices.{ChoicesFit}
use Rattle.lus_meaning.specs.Cycle.{Place, IsWay, last_place}
use Rattle.lus_meaning.specs.Order.{IsEquationOrder, IsLeastEquationOrder}
use Rattle.lus_meaning.specs.ClockFaults.{components}
use Rattle.lus_meaning.specs.EquationFaults.{left_faults, DependsOnItself}
use Rattle.lus_meaning.specs.Grammatical.{IsGrammatical}
use Rattle.lus_meaning.specs.Refusals.{IsTyped, IsClocked}
use Rattle.lus_meaning.specs.RuleLaws.{OfEach}

-- a tree of the grammar that breaks no rule of names, types, numbers and clocks, whatever its equations and circles
pub record IsClockedTree (p : Program) : Type 0 where
  pub grammatical : IsGrammatical p
  pub clocked : IsClocked p

-- what holds of each declaration of such a tree
abbrev pub OfEachClocked : (Program → Component → Type 0) → Type 0
OfEachClocked P = (p : Program) → IsClockedTree p → (n : Component) → Contains (components p) n → P p n

-- A frame whose names are on their clocks, and so are those of its calls, each on the instants at which it is active:
-- a name has a value of its type exactly where its clock is on, and first values have their types.
abbrev mutual
  pub IsOnClocks : Instance → ℕ → Instants → Frame → Type 0
  IsOnClocks (instance d cs is) m b f =
      AllByRecursion (λ v. (t : ℕ) → t < m → is_typed v.sort (is_on (scene (instance d cs is) b f) (clock_from v.clock) t)
      (entry f v.name.text t) ≡ true) (variables d)
      × (have_sorts (first_sorts (instance d cs is)) (firsts_of f) ≡ true)
      × CallsOnClocks m (scene (instance d cs is) b f) is (frame_at (calls_in f))

  pub CallsOnClocks : ℕ → Scene → Instances → (ℕ → Frame) → Type 0
  CallsOnClocks m s no_instances g = Unit {0}
  CallsOnClocks m s (with_instance c k is) g = IsOnClocks k m (active s c) (g 0) × CallsOnClocks m s is (λ j. g (suc j))

-- where the clock of its place is on, an occurrence has a value of its type, and elsewhere none
abbrev pub HasItsValue : Instance → Instants → Frame → ℕ → Occurrence → Type 0
HasItsValue i b f t o =
    is_typed (sort_of i o.expression) (is_on (scene i b f) o.standing.clock t)
    (value (scene i b f) o.standing.clock o.expression t) ≡ true

abbrev pub ExpressionsOnClocks : Type 0
ExpressionsOnClocks =
    OfEachClocked (λ p n. (m : ℕ) (b : Instants) (f : Frame) → IsOnClocks (instance_of p n) m b f →
    (o : Occurrence) → Contains (all_occurrences n) o → (t : ℕ) → t < m → HasItsValue (instance_of p n) b f t o)

-- what an item of a contract or a mode says: a truth value exactly where the frame is active
abbrev pub IsSaid : ℕ → Instants → Frame → Test → Type 0
IsSaid m b f test = (t : ℕ) → t < m → is_typed Flags (b t) (test b f t) ≡ true

-- so do all items of a contract, those of its imports among them
pub record IsContractSaid (m : ℕ) (b : Instants) (f : Frame) (r : Terms) : Type 0 where
  pub assumes : AllByRecursion (λ q. IsSaid m b f q.test) r.assumes
  pub guarantees : AllByRecursion (λ q. IsSaid m b f q.test) r.guarantees
  pub modes : AllByRecursion (λ x. IsSaid m b f x.requires_all) r.modes
  pub ensures_each : AllByRecursion (λ x. AllByRecursion (λ q. IsSaid m b f q.test) x.ensures_each) r.modes

abbrev pub ContractsOnClocks : Type 0
ContractsOnClocks =
    OfEachClocked (λ p n. (m : ℕ) (b : Instants) (f : Frame) → IsOnClocks (instance_of p n) m b f → IsContractSaid m b f (terms (instance_of p n)))

-- each run is such a frame
abbrev pub RunsOnClocks : Type 0
RunsOnClocks = (i : Instance) (m : ℕ) (b : Instants) (f : Frame) → IsRun i m b f → IsOnClocks i m b f

-- ---- orders of equations

-- no equation of a declaration needs itself at one instant
abbrev pub NoneOnCircle : Program → Component → Type 0
NoneOnCircle p n = AllByRecursion (λ e. DependsOnItself (instance_of p n) e.names → ⊥) (equations n)

-- where names, types and left names have no fault, the equations of a declaration have an order exactly where none needs
-- itself
abbrev pub OrderOrCircle : Type 0
OrderOrCircle =
    (p : Program) → IsTyped p → (n : Component) → Contains (components p) n → left_faults n ≡ [] →
    ((ks : List ℕ) × IsEquationOrder (instance_of p n) (equations n) ks) ↔ NoneOnCircle p n

-- in a checked program there is exactly one order in which again and again the least equation that is ready is listed
abbrev pub OneOrderOfEach : Type 0
OneOrderOfEach =
    OfEach (λ p n. (ks : List ℕ) × IsLeastEquationOrder (instance_of p n) (equations n) ks
    × ((js : List ℕ) → IsLeastEquationOrder (instance_of p n) (equations n) js → js ≡ ks))

-- ---- runs

-- no way of needs from a place of a tree of instances, of one step at least, comes back to it
abbrev pub NeverReturns : Instance → Type 0
NeverReturns i = (q : Place) (s : ℕ × Place) (ws : List (ℕ × Place)) → IsWay i q (s ∷ ws) → last_place s.1 ws ≡ q → ⊥

-- so it is in the tree of each declaration, at every depth of calls
abbrev pub NothingNeedsItself : Type 0
NothingNeedsItself = OfEach (λ p n. NeverReturns (instance_of p n))

-- each name of the tree has a number above those of all that it needs at its own instant, and all are below some number
pub record HasRank (i : Instance) : Type 0 where
  pub rank : Rank
  pub ranked : IsRanked i rank
  pub bound : ℕ
  pub below : (ks : List ℕ) (x : Name) → rank ks (Some x) < bound

abbrev pub EachHasRank : Type 0
EachHasRank = OfEach (λ p n. HasRank (instance_of p n))

-- two runs on a beat with the same choices, which are first values and the values of inputs and free names, are one
abbrev pub OneRunAtMost : Type 0
OneRunAtMost =
    OfEach (λ p n. (m : ℕ) (b : Instants) (f g : Frame) → IsRun (instance_of p n) m b f → IsRun (instance_of p n) m b g →
    SameChoices (instance_of p n) [] m f g → f ≡ g)

-- the instance of each declaration is well made for choices that fit: what a run is computed from has the right numbers
-- of names and values
abbrev pub EachWellMade : Type 0
EachWellMade =
    OfEach (λ p n. (m : ℕ) (c : Frame) → ChoicesFit (instance_of p n) m c → IsWellMade (instance_of p n) [] c)

-- what is computed from choices that fit, in a number of rounds, is a run of these choices where its names have values
-- of their types exactly on their clocks
abbrev pub IsRunWhereTyped : Instance → ℕ → Instants → Frame → Frame → Type 0
IsRunWhereTyped i m b c f = HasTypes i m b f → IsRun i m b f × SameChoices i [] m f c

abbrev pub ComputedRuns : Type 0
ComputedRuns =
    OfEach (λ p n. (m : ℕ) (b : Instants) (c : Frame) → ChoicesFit (instance_of p n) m c →
    (k : ℕ) × IsRunWhereTyped (instance_of p n) m b c (recomputed k (instance_of p n) m b c))
