-- The laws of types: in a frame whose names and first values have their types, every expression's value has its own.
use Rattle.std.specs.Prelude.{◌≡◌, ℕ, suc, ◌<◌, Bool, true, ◌||◌, Contains, List, [], ◌∷◌}
use Rattle.std.specs.List.{AllByRecursion}
use Rattle.lus_tree.specs.declared.place.Sort.{Sort}
use Rattle.lus_tree.specs.declared.place.Sort.TheVariants.{Bool as Flags}
use Rattle.lus_meaning.specs.Value.{Value, Instants, has_sort, is_absent}
use Rattle.lus_meaning.specs.Frame.{Frame, frame_at, calls_in, firsts_of, entry}
use Rattle.lus_meaning.specs.Scene.{Instance, Instances, instance, no_instances, with_instance, variables, is_on}
use Rattle.lus_meaning.specs.Meaning.{value}
use Rattle.lus_meaning.specs.Contract.{Property, ModeTerms, Terms, terms, scene}
use Rattle.lus_meaning.specs.Program.{instance_of}
use Rattle.lus_meaning.specs.Property.{properties}
use Rattle.lus_meaning.specs.Run.{sort_of, first_sorts, have_sorts, is_typed, IsRun}
use Rattle.lus_meaning.specs.Occurrences.{Occurrence, all_occurrences}
use Rattle.lus_meaning.specs.RuleLaws.{OfEach}
use Rattle.lus_meaning.specs.WellMade.{HasTypes}
use Rattle.rule_laws.specs.Laws.{OfEachTyped}

-- the first values of a frame, and of those of its calls, have their types
abbrev mutual
  pub HasTypedFirsts : Instance → Frame → Type 0
  HasTypedFirsts (instance d cs is) f =
      (have_sorts (first_sorts (instance d cs is)) (firsts_of f) ≡ true) × CallsHaveTypedFirsts is (frame_at (calls_in f))

  pub CallsHaveTypedFirsts : Instances → (ℕ → Frame) → Type 0
  CallsHaveTypedFirsts no_instances g = Unit {0}
  CallsHaveTypedFirsts (with_instance c k is) g = HasTypedFirsts k (g 0) × CallsHaveTypedFirsts is (λ j. g (suc j))

-- before instant n each name of a frame has a value of its type exactly where its clock is on, and so in the frames of its
-- calls; and first values have their types
pub record IsTypedFrame (i : Instance) (n : ℕ) (b : Instants) (f : Frame) : Type 0 where
  pub names : HasTypes i n b f
  pub firsts : HasTypedFirsts i f

-- the value is of the expression's type exactly where the clock of its place is on, and absent elsewhere
abbrev pub IsTypedThere : Instance → ℕ → Instants → Frame → Occurrence → Type 0
IsTypedThere i n b f o = (t : ℕ) → t < n →
    is_typed (sort_of i o.expression) (is_on (scene i b f) o.standing.clock t) (value (scene i b f) o.standing.clock o.expression t) ≡ true

-- The law of types, of each declaration of a checked program and each expression in it.
abbrev pub TypesOfValues : Type 0
TypesOfValues =
    OfEach (λ p n. (m : ℕ) (b : Instants) (f : Frame) → IsTypedFrame (instance_of p n) m b f →
    (o : Occurrence) → Contains (all_occurrences n) o → IsTypedThere (instance_of p n) m b f o)

-- so in each run
abbrev pub TypesInRuns : Type 0
TypesInRuns =
    OfEach (λ p n. (m : ℕ) (b : Instants) (f : Frame) → IsRun (instance_of p n) m b f →
    (o : Occurrence) → Contains (all_occurrences n) o → IsTypedThere (instance_of p n) m b f o)

-- What a mode requires, of the contract or of an import, is a truth value exactly where the beat is on.
abbrev pub TypesOfModes : Type 0
TypesOfModes =
    OfEach (λ p n. (k : ℕ) (b : Instants) (f : Frame) → IsTypedFrame (instance_of p n) k b f →
    (m : ModeTerms) → Contains (terms (instance_of p n)).modes m → (t : ℕ) → t < k →
    is_typed Flags (b t) (m.requires_all b f t) ≡ true)

-- What a contract assumes, guarantees and ensures, that of imports included, is a truth value wherever the beat is on.
abbrev pub IsTruth : ℕ → Instants → Frame → Property → Type 0
IsTruth n b f q = (t : ℕ) → t < n → b t ≡ true → has_sort Flags (q.test b f t) ≡ true

pub record HasTruths (n : ℕ) (b : Instants) (f : Frame) (r : Terms) : Type 0 where
  pub assumes : AllByRecursion (IsTruth n b f) r.assumes
  pub guarantees : AllByRecursion (IsTruth n b f) r.guarantees
  pub ensures : AllByRecursion (λ m. AllByRecursion (IsTruth n b f) m.ensures_each) r.modes

abbrev pub TypesOfContracts : Type 0
TypesOfContracts =
    OfEach (λ p n. (k : ℕ) (b : Instants) (f : Frame) → IsTypedFrame (instance_of p n) k b f → HasTruths k b f (terms (instance_of p n)))

-- So is each property, of an analysed declaration and what it owes its callees.
abbrev pub TypesOfProperties : Type 0
TypesOfProperties =
    OfEach (λ p n. (k : ℕ) (b : Instants) (f : Frame) → IsTypedFrame (instance_of p n) k b f →
    (q : Property) → Contains (properties (instance_of p n)) q → IsTruth k b f q)

-- ---- by the rules of names and types alone, which say nothing of presence

-- of that type, or absent
abbrev pub has_sort_if_there : Sort → Value → Bool
has_sort_if_there q v = is_absent v || has_sort q v

abbrev pub FirstsHaveSorts : List Sort → List Value → Type 0
FirstsHaveSorts (q ∷ qs) (v ∷ vs) = (has_sort_if_there q v ≡ true) × FirstsHaveSorts qs vs
FirstsHaveSorts _ _ = Unit {0}

-- before instant n each name of a frame, and each first value, has a value of its type where it has one, and so in the
-- frames of its calls
abbrev mutual
  pub HasSortsIfThere : Instance → ℕ → Frame → Type 0
  HasSortsIfThere (instance d cs is) n f =
      AllByRecursion (λ v. (t : ℕ) → t < n → has_sort_if_there v.sort (entry f v.name.text t) ≡ true) (variables d)
      × FirstsHaveSorts (first_sorts (instance d cs is)) (firsts_of f)
      × CallsHaveSortsIfThere is n (frame_at (calls_in f))

  pub CallsHaveSortsIfThere : Instances → ℕ → (ℕ → Frame) → Type 0
  CallsHaveSortsIfThere no_instances n g = Unit {0}
  CallsHaveSortsIfThere (with_instance c k is) n g = HasSortsIfThere k n (g 0) × CallsHaveSortsIfThere is n (λ j. g (suc j))

-- The literal law of types: whatever the clocks, a value that is there is of its expression's type.
abbrev pub SortsOfValues : Type 0
SortsOfValues =
    OfEachTyped (λ p n. (m : ℕ) (b : Instants) (f : Frame) → HasSortsIfThere (instance_of p n) m f →
    (o : Occurrence) → Contains (all_occurrences n) o → (t : ℕ) → t < m →
    has_sort_if_there (sort_of (instance_of p n) o.expression)
    (value (scene (instance_of p n) b f) o.standing.clock o.expression t) ≡ true)

-- So is what a mode requires, of the contract or of an import.
abbrev pub SortsOfModes : Type 0
SortsOfModes =
    OfEachTyped (λ p n. (k : ℕ) (b : Instants) (f : Frame) → HasSortsIfThere (instance_of p n) k f →
    (m : ModeTerms) → Contains (terms (instance_of p n)).modes m → (t : ℕ) → t < k →
    has_sort_if_there Flags (m.requires_all b f t) ≡ true)
