-- What the rules of types and clocks give of a declaration's text.
use Rattle.std.specs.Prelude.{◌≡◌, ℕ, zero, suc, pred, slice_get, ◌<◌, true, false, cond, ◌⊎◌, List, [], ◌∷◌, ◌++◌, map, length, Option, Some, None, is_some, option_map, option_to_list}
use Rattle.std.specs.List.{AllByRecursion, list_any}
use Rattle.std.specs.Map.{lookup}
use Rattle.std.specs.Str.{bytes_eq}
use Rattle.lus_tree.specs.declared.expression.Operator.{Operator}
use Rattle.lus_tree.specs.declared.expression.Operator.TheVariants.{Implies, Or, Xor, And, Less, AtMost, Equal, Differs, AtLeast, More, Add, Sub, Mul, Div, Mod}
use Rattle.lus_tree.specs.declared.place.Sort.{Sort}
use Rattle.lus_tree.specs.declared.place.Sort.TheVariants.{Bool as Flags, Int as Numbers}
use Rattle.lus_tree.specs.Tree.{Statement, property, Labelled, ContractStatement, assume, guarantee, ghost_variable, constant, mode, «import», Name, Variable, text_of, Expression, Expressions, no_more, more, truth, number, name, negation, minus, pre, arrow, binary, choice, sampled, merged, call, condact, mode_name}
use Rattle.lus_meaning.specs.Value.{Value, has_sort}
use Rattle.lus_meaning.specs.Scene.{Manner, as_import, Site, instance, Instances, no_instances, with_instance, calls_of, clock_from, Clock, base, sampled_by, plain, while_true, Instance, component_of, constants_of, outputs_of, call_instance, instance_called, clock_of, contract_statements, variables}
use Rattle.lus_meaning.specs.Scene.{clock_of_names}
use Rattle.lus_meaning.specs.Meaning.{mode_key}
use Rattle.lus_meaning.specs.Contract.{terms}
use Rattle.lus_meaning.specs.Program.{constant_value}
use Rattle.lus_meaning.specs.Occurrences.{Memory, memories, Start, starts}
use Rattle.lus_meaning.specs.Property.{assertions}
use Rattle.lus_meaning.specs.Run.{Equation, equations, inputs_of, first_sorts, output_sort, sort_of, sort_of_name, Takes}
use Rattle.lus_meaning.specs.Depends.{named_in}
use Rattle.lus_meaning.specs.WellMade.{AreDistinct}
use Rattle.sys_meaning.specs.Defaults.{is_constant, site_of, default_of}
use Rattle.lus_meaning.specs.Slots.{Slot, slots}
use Rattle.sys_meaning.specs.Slot.{Spot, beat, named, memory, starting, so_far, held, Place, spot_of, place_of, same_place, number_in, memory_of, start_of}
use Rattle.sys_meaning.specs.Items.{Key}
use Rattle.sys_meaning.specs.System.{has_so_far}

abbrev pub count_of : Instances → ℕ
count_of no_instances = 0
count_of (with_instance c i is) = suc (count_of is)

-- what a body checks
abbrev pub checked : List Statement → List Expression
checked [] = []
checked (property l ∷ ss) = l.value ∷ checked ss
checked (_ ∷ ss) = checked ss

-- ModeAt says which modes are known
module _ (i : Instance) (ModeAt : Key → Type 0) where
  abbrev pub no_constant : Name → Type 0
  no_constant x = lookup (bytes_eq x) (constants_of i) ≡ None

  abbrev pub is_declared : Name → Type 0
  is_declared x = named_in x (map (λ v. v.name.text) (variables (component_of i))) ≡ true

  abbrev pub clock_here : Name → Clock
  clock_here x = clock_of (component_of i) x

  -- a declared name on that clock
  pub record IsNameOn (c : Clock) (x : Name) : Type 0 where
    pub stream : no_constant x
    pub declared : is_declared x
    pub clock : clock_here x ≡ c

  -- a constant of its type, or a name on that clock
  abbrev pub NameFits : Option Value → Clock → Name → Type 0
  NameFits None c x = is_declared x × (clock_here x ≡ c)
  NameFits (Some v) c x = has_sort (sort_of_name i x) v ≡ true

  -- the occurrence is the one of its number
  abbrev pub IsMemory : ℕ → Clock → Expression → Type 0
  IsMemory k c a = memory_of (component_of i) k ≡ Some record { number = k; clock = c; operand = a }

  abbrev pub IsStart : ℕ → Clock → Type 0
  IsStart k c = start_of (component_of i) k ≡ Some record { number = k; clock = c }

  abbrev pub HasOutput : ℕ → Type 0
  HasOutput k = 0 < length (component_of (call_instance i k)).outputs

  -- an output of a call is a stream of its callee, on the base clock
  abbrev pub OutputFits : ℕ → Variable → Type 0
  OutputFits k v = (v.clock ≡ None) × (sort_of_name (call_instance i k) v.name.text ≡ v.sort)
      × (named_in v.name.text (map (λ v. v.name.text) (variables (component_of (call_instance i k)))) ≡ true)
      × (lookup (bytes_eq v.name.text) (constants_of (call_instance i k)) ≡ None)
      × (clock_of (component_of (call_instance i k)) v.name.text ≡ base)

  -- the call's frame, by its number
  pub record IsCall (k : ℕ) : Type 0 where
    pub number : (site_of i k).number ≡ k
    pub counted : 0 < k
    pub listed : pred k < count_of (calls_of i)
    pub named : AllByRecursion (OutputFits k) (component_of (call_instance i k)).outputs

  pub record IsPlainCall (k : ℕ) (c : Clock) : Type 0 where
    pub call : IsCall k
    pub outputs : HasOutput k
    pub clock : (site_of i k).clock ≡ c
    pub manner : (site_of i k).manner ≡ plain

  -- a constant default of its type for each output
  abbrev pub DefaultsFit : ℕ → List Variable → Expressions → Type 0
  DefaultsFit k [] no_more = Unit {0}
  DefaultsFit k [] (more d ds) = ⊥
  DefaultsFit k (v ∷ vs) no_more = ⊥
  DefaultsFit k (v ∷ vs) (more d ds) = (default_of i k v.name.text ≡ constant_value (constants_of i) d)
      × (is_constant (constants_of i) d ≡ true) × (has_sort v.sort (constant_value (constants_of i) d) ≡ true)
      × DefaultsFit k vs ds

  pub record IsHeldCall (k : ℕ) (c : Clock) (a : Expression) (ds : Expressions) : Type 0 where
    pub call : IsCall k
    pub outputs : HasOutput k
    pub clock : (site_of i k).clock ≡ c
    pub manner : (site_of i k).manner ≡ while_true a
    pub defaults : DefaultsFit k (component_of (call_instance i k)).outputs ds

  -- the callee's name says the type of the call's first output
  abbrev pub CalleeFits : ℕ → Name → Type 0
  CalleeFits k f = output_sort (instance_called i f) ≡ output_sort (call_instance i k)

  -- what a term needs of a product's and a quotient's operands
  abbrev pub HasConstant : Operator → Expression → Expression → Type 0
  HasConstant Mul a b = (is_constant (constants_of i) a ≡ true) ⊎ (is_constant (constants_of i) b ≡ true)
  HasConstant Div a b = is_constant (constants_of i) b ≡ true
  HasConstant Mod a b = is_constant (constants_of i) b ≡ true
  HasConstant o a b = Unit {0}

  -- an expression that stands on that clock: its types and clocks are right, and its occurrences are those of the text
  abbrev pub Stands : Clock → Expression → Type 0
  Stands c (truth p b) = Unit {0}
  Stands c (number p n) = Unit {0}
  Stands c (name p x) = NameFits (lookup (bytes_eq x) (constants_of i)) c x
  Stands c (negation p a) = (sort_of i a ≡ Flags) × Stands c a
  Stands c (minus p a) = (sort_of i a ≡ Numbers) × Stands c a
  Stands c (pre p k a) = IsMemory k c a × Stands c a
  Stands c (arrow p k a b) = IsStart k c × (sort_of i b ≡ sort_of i a) × Stands c a × Stands c b
  Stands c (binary p o a b) = Takes o (sort_of i a) × (sort_of i b ≡ sort_of i a) × HasConstant o a b × Stands c a
      × Stands c b
  Stands c (choice p a b d) = (sort_of i a ≡ Flags) × (sort_of i d ≡ sort_of i b) × Stands c a × Stands c b
      × Stands c d
  Stands c (sampled p a q x) = (c ≡ sampled_by q x.text) × IsNameOn (clock_here x.text) x.text
      × Stands (clock_here x.text) a
  Stands c (merged p x a b) = IsNameOn c x.text × (sort_of_name i x.text ≡ Flags) × (sort_of i b ≡ sort_of i a)
      × Stands (sampled_by true x.text) a × Stands (sampled_by false x.text) b
  Stands c (call p k f as_) = IsPlainCall k c × CalleeFits k f.text
  Stands c (condact p k a f as_ ds) = IsHeldCall k c a ds × (sort_of i a ≡ Flags) × Stands c a × CalleeFits k f.text
  Stands c (mode_name p d m) = (c ≡ base) × ModeAt (option_to_list (option_map text_of d), m.text)

  -- a clock is the base clock, or a flag says it that is on such a clock
  abbrev pub ClockEnds : ℕ → Clock → Type 0
  ClockEnds m base = Unit {0}
  ClockEnds zero (sampled_by b x) = ⊥
  ClockEnds (suc m) (sampled_by b x) = IsNameOn (clock_here x) x × (sort_of_name i x ≡ Flags)
      × ClockEnds m (clock_here x)

  abbrev pub ClockFits : Clock → Type 0
  ClockFits c = ClockEnds (length (variables (component_of i))) c

  -- a stream is declared once, and its clock is good
  pub record StreamFits (v : Variable) : Type 0 where
    pub name : IsNameOn (clock_from v.clock) v.name.text
    pub sort : sort_of_name i v.name.text ≡ v.sort
    pub clock : ClockFits (clock_from v.clock)

  -- the types of a right side
  abbrev pub right_sorts : Expression → List Sort
  right_sorts (call p k f as_) = map (λ v. v.sort) (component_of (call_instance i k)).outputs
  right_sorts (condact p k a f as_ ds) = map (λ v. v.sort) (component_of (call_instance i k)).outputs
  right_sorts e = sort_of i e ∷ []

  -- an equation has the types and the clock of its names
  pub record EquationFits (e : Equation) : Type 0 where
    pub right : Stands (clock_of_names (component_of i) e.names) e.right
    pub names : AllByRecursion (λ x. IsNameOn (clock_of_names (component_of i) e.names) x) e.names
    pub sorts : map (sort_of_name i) e.names ≡ right_sorts e.right
    pub clock : ClockFits (clock_of_names (component_of i) e.names)

  pub record MemoryFits (m : Memory) : Type 0 where
    pub found : IsMemory m.number m.clock m.operand
    pub counted : m.number ≡ suc (pred m.number)
    pub listed : pred m.number < length (memories (component_of i))
    pub first : slice_get (first_sorts i) (pred m.number) ≡ Some (sort_of i m.operand)
    pub operand : Stands m.clock m.operand
    pub clock : ClockFits m.clock

  pub record StartFits (a : Start) : Type 0 where
    pub found : IsStart a.number a.clock
    pub counted : a.number ≡ suc (pred a.number)
    pub listed : pred a.number < length (starts (component_of i))
    pub clock : ClockFits a.clock

-- ---- contracts

-- the mode is one of the contract, or of an import by way of its contract
abbrev pub IsKnown : Instance → Key → Type 0
IsKnown i key = list_any (λ m. mode_key key m.key) (terms i).modes ≡ true

abbrev pub IsAmong : List Key → Key → Type 0
IsAmong ks key = list_any (mode_key key) ks ≡ true

-- a truth value on the base clock, which names modes of these keys
abbrev pub FlagFits : Instance → List Key → Labelled → Type 0
FlagFits i ks l = Stands i (IsAmong ks) base l.value × (sort_of i l.value ≡ Flags)

-- an import stands on the base clock at its number
pub record IsImport (i : Instance) (k : ℕ) : Type 0 where
  pub call : IsCall i (IsKnown i) k
  pub clock : (site_of i k).clock ≡ base
  pub outputs : List Name
  pub manner : (site_of i k).manner ≡ as_import outputs

-- an item of a contract, where modes of these keys stand before it
abbrev pub StatementFits : Instance → List Key → ContractStatement → Type 0
StatementFits i ks (assume l) = FlagFits i ks l
StatementFits i ks (guarantee l) = FlagFits i ks l
StatementFits i ks (ghost_variable x e) = Unit {0}
StatementFits i ks (constant c) = Unit {0}
StatementFits i ks (mode m rs es) = AllByRecursion (FlagFits i ks) rs × AllByRecursion (FlagFits i ks) es
StatementFits i ks («import» k c as_ xs) = IsImport i k

-- the keys of an item's modes; those of an import by way of its contract
abbrev pub own_keys : Instance → ContractStatement → List Key
own_keys i (mode m rs es) = ([], m.text) ∷ []
own_keys i («import» k c as_ xs) = map (λ m. (c.text ∷ m.key.0, m.key.1)) (terms (call_instance i k)).modes
own_keys i _ = []

-- in text order: a mode can be named behind it
abbrev pub StatementsFit : Instance → List Key → List ContractStatement → Type 0
StatementsFit i ks [] = Unit {0}
StatementsFit i ks (c ∷ cs) = StatementFits i ks c × StatementsFit i (ks ++ own_keys i c) cs

-- ---- a declaration

module _ (i : Instance) (ModeAt : Key → Type 0) where
  pub record OwnFits : Type 0 where
    -- each name is declared once
    pub once : AreDistinct (map (λ v. v.name.text) (variables (component_of i)))
    pub contract : StatementsFit i [] (contract_statements (component_of i))
    pub streams : AllByRecursion (StreamFits i ModeAt) (variables (component_of i))
    pub equations : AllByRecursion (EquationFits i ModeAt) (equations (component_of i))
    -- each first value is that of a memory
    pub firsts : (j : ℕ) → j < length (first_sorts i) → (c : Clock) × (a : Expression) × IsMemory i ModeAt (suc j) c a
    pub memories : AllByRecursion (MemoryFits i ModeAt) (memories (component_of i))
    pub starts : AllByRecursion (StartFits i ModeAt) (starts (component_of i))
    pub asserts : AllByRecursion (λ e. Stands i ModeAt base e × (sort_of i e ≡ Flags)) (assertions (component_of i).body)
    pub body_properties : AllByRecursion (λ e. Stands i ModeAt base e × (sort_of i e ≡ Flags)) (checked (component_of i).body)

  -- ---- places

  -- a variable of the own ones of a frame that runs in this manner, and its type
  abbrev pub HasSpot : Manner → Spot → Sort → Type 0
  HasSpot m beat z = z ≡ Flags
  HasSpot m (named x) z = is_declared i ModeAt x × no_constant i ModeAt x × (sort_of_name i x ≡ z)
  HasSpot m (memory k) z = (c : Clock) × (a : Expression) × IsMemory i ModeAt k c a × (sort_of i a ≡ z)
  HasSpot m (starting k) z = (c : Clock) × IsStart i ModeAt k c × (z ≡ Flags)
  HasSpot m so_far z = (z ≡ Flags) × (has_so_far m (component_of i) ≡ true)
  HasSpot m (held k x) z = (c : Clock) × (a : Expression) × (ds : Expressions) × IsHeldCall i ModeAt k c a ds
      × (named_in x (outputs_of (call_instance i k)) ≡ true) × (sort_of_name (call_instance i k) x ≡ z)

-- Modes says which modes each instance knows
module _ (Modes : Instance → Key → Type 0) where
  -- and of the frames of its calls
  abbrev pub HasPlaceIn : Manner → List ℕ → Instance → Spot → Sort → Type 0
  HasPlaceIn m [] i p z = HasSpot i (Modes i) m p z
  HasPlaceIn m (k ∷ ks) i p z = IsCall i (Modes i) k × HasPlaceIn (site_of i k).manner ks (call_instance i k) p z

  -- of the analysed declaration
  abbrev pub HasPlace : List ℕ → Instance → Spot → Sort → Type 0
  HasPlace ks i p z = HasPlaceIn plain ks i p z

  -- how a call runs
  abbrev pub MannerFits : Instance → Clock → Manner → Instance → Type 0
  MannerFits i c plain k = Unit {0}
  MannerFits i c (while_true a) k = Stands i (Modes i) c a × (sort_of i a ≡ Flags)
  MannerFits i c (as_import xs) k = (c ≡ base) × AllByRecursion (IsNameOn i (Modes i) base) xs
      × (map (sort_of_name i) xs ≡ map (λ v. v.sort) (component_of k).outputs)

  -- a call has its number, its clock and arguments of the inputs' types; inputs and outputs are on the base clock
  pub record CallFits (i : Instance) (c : Site) (k : Instance) (p : ℕ) : Type 0 where
    pub number : c.number ≡ suc p
    pub call : IsCall i (Modes i) (suc p)
    pub clock : ClockFits i (Modes i) c.clock
    pub arguments : AllByRecursion (Stands i (Modes i) c.clock) c.arguments
    pub sorts : map (sort_of i) c.arguments ≡ map (λ v. v.sort) (component_of k).inputs
    pub manner : MannerFits i c.clock c.manner k
    pub held : (a : Expression) → c.manner ≡ while_true a → (ds : Expressions)
        × IsHeldCall i (Modes i) (suc p) c.clock a ds
    pub inputs : AllByRecursion (IsNameOn k (Modes k) base) (inputs_of k)
    pub input_sorts : map (sort_of_name k) (inputs_of k) ≡ map (λ v. v.sort) (component_of k).inputs
    pub outputs : AllByRecursion (IsNameOn k (Modes k) base) (outputs_of k)
    pub output_sorts : map (sort_of_name k) (outputs_of k) ≡ map (λ v. v.sort) (component_of k).outputs

  abbrev mutual
    pub TreeFits : Instance → Type 0
    TreeFits (instance d cs is) = OwnFits (instance d cs is) (Modes (instance d cs is))
        × CallsFit (instance d cs is) is 0

    pub CallsFit : Instance → Instances → ℕ → Type 0
    CallsFit i no_instances p = Unit {0}
    CallsFit i (with_instance c k is) p = CallFits i c k p × TreeFits k × CallsFit i is (suc p)

  -- the type of the first slot of a place
  abbrev pub slot_sort : List Slot → Place → Option Sort
  slot_sort [] p = None
  slot_sort (q ∷ qs) p = cond (same_place p (place_of q)) (Some q.sort) (slot_sort qs p)

  -- What the rules give of an analysed declaration: its texts have their types and clocks, and its places are different.
  pub record WellTyped (i : Instance) : Type 0 where
    pub tree : TreeFits i
    pub places : (ks : List ℕ) (p : Spot) (z : Sort) → HasPlace ks i p z → slot_sort (slots i) (ks, p) ≡ Some z
    -- each slot is the first of its place
    pub numbered : (k : ℕ) (q : Slot) → slice_get (slots i) k ≡ Some q → number_in (slots i) (place_of q) ≡ k
    pub slots : AllByRecursion (λ q. HasPlace q.path i (spot_of q.cell) q.sort) (slots i)
    pub main_inputs : AllByRecursion (IsNameOn i (Modes i) base) (inputs_of i)
