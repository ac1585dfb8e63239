-- How many levels and parts the terms of a node's system have: each by the form of what it translates.
use Rattle.std.specs.Prelude.{ℕ, zero, suc, pred, max, ◌+◌, Bool, true, false, cond, ◌&&◌, not, List, [], ◌∷◌, ◌++◌, map, flat_map, length, slice_index_or, unwrap_or, option_map, option_to_list, Option, Some, None}
use Rattle.std.specs.Map.{lookup}
use Rattle.std.specs.List.{fold}
use Rattle.lus_tree.specs.declared.expression.Operator.{Operator}
use Rattle.lus_tree.specs.declared.expression.Operator.TheVariants.{Implies, Or, And, AtMost, Equal, AtLeast, Add, Sub, Mul, Div, Mod}
use Rattle.lus_tree.specs.Tree.{Name, text_of, Expression, truth, number, name, negation, minus, arrow, binary, choice, sampled, merged, condact, mode_name, Labelled, Statement, assertion, property, ContractStatement, assume, guarantee, ghost_variable, constant, mode, «import», Component}
use Rattle.lus_meaning.specs.Scene.{Clock, base, sampled_by, clock_from, clock_of, contract_statements, variables, Manner, plain, while_true, as_import, Site, Instance, Instances, instance, no_instances, with_instance, component_of, clock_of_names}
use Rattle.lus_meaning.specs.Meaning.{mode_key}
use Rattle.lus_meaning.specs.Depends.{named_in, left_names, from_caller}
use Rattle.lus_meaning.specs.Run.{Equation, equations}
use Rattle.lus_meaning.specs.Occurrences.{Memory, Start, memories, starts}

-- of a term; a leaf has one of each
pub record Size : Type 0 where
  pub levels : ℕ
  pub parts : ℕ

abbrev pub leaf : Size
leaf = record { levels = 1; parts = 1 }

abbrev pub beside : Size → Size → Size
beside a b = record { levels = max a.levels b.levels; parts = a.parts + b.parts }

abbrev pub above : Size → Size
above a = record { levels = suc a.levels; parts = suc a.parts }

-- a term of one, of two and of three terms
abbrev pub one : Size → Size
one a = above a

abbrev pub two : Size → Size → Size
two a b = above (beside a b)

abbrev pub three : Size → Size → Size → Size
three a b c = above (beside a (beside b c))

abbrev pub either : Size → Size → Size
either a b = one (two (one a) (one b))

-- a list of terms, grouped to the left
abbrev pub all_of : List Size → Size
all_of [] = leaf
all_of (a ∷ as_) = fold two a as_

abbrev pub some_of : List Size → Size
some_of [] = leaf
some_of (a ∷ as_) = fold either a as_

-- ---- expressions

abbrev pub ModeSizes : Type 0
ModeSizes = List ((List Name × Name) × Size)

-- made of literals, constants and operators
abbrev pub is_fixed : Component → Expression → Bool
is_fixed n (truth p b) = true
is_fixed n (number p k) = true
is_fixed n (name p x) = not (named_in x (map (λ v. v.name.text) (variables n)))
is_fixed n (negation p a) = is_fixed n a
is_fixed n (minus p a) = is_fixed n a
is_fixed n (binary p o a b) = is_fixed n a && is_fixed n b
is_fixed n (choice p a b c) = is_fixed n a && (is_fixed n b && is_fixed n c)
is_fixed n _ = false

abbrev pub operator_size : Operator → Bool → Size → Size → Size
operator_size Implies fixed a b = one (two a (one b))
operator_size Or fixed a b = either a b
operator_size And fixed a b = two a b
operator_size AtMost fixed a b = two a b
operator_size AtLeast fixed a b = two a b
operator_size Equal fixed a b = two a b
operator_size Add fixed a b = two a b
operator_size Sub fixed a b = two a b
operator_size Mul true a b = one b
operator_size Mul false a b = one a
operator_size Div fixed a b = one a
operator_size Mod fixed a b = one a
operator_size _ fixed a b = one (two a b)

-- a constant is its value
abbrev pub unless_fixed : Component → Expression → Size → Size
unless_fixed n e a = cond (is_fixed n e) leaf a

abbrev pub size_in : Component → ModeSizes → Expression → Size
size_in n ms (negation p a) = unless_fixed n a (one (size_in n ms a))
size_in n ms (minus p a) = unless_fixed n a (one (size_in n ms a))
size_in n ms (arrow p k a b) = three leaf (size_in n ms a) (size_in n ms b)
size_in n ms (binary p o a b) =
    unless_fixed n (binary p o a b) (operator_size o (is_fixed n a) (size_in n ms a) (size_in n ms b))
size_in n ms (choice p a b c) =
    unless_fixed n (choice p a b c) (three (size_in n ms a) (size_in n ms b) (size_in n ms c))
size_in n ms (sampled p a b x) = size_in n ms a
size_in n ms (merged p x a b) = three leaf (size_in n ms a) (size_in n ms b)
size_in n ms (condact p k a f as_ ds) = three leaf leaf leaf
size_in n ms (mode_name p c m) =
    unwrap_or (lookup (mode_key (option_to_list (option_map text_of c), m.text)) ms) leaf
size_in n ms _ = leaf

-- ---- modes, and what a contract says

abbrev pub sizes_of : Component → ModeSizes → List Labelled → List Size
sizes_of n ms ls = map (λ l. size_in n ms l.value) ls

abbrev pub imported_size : Name → (List Name × Name) × Size → (List Name × Name) × Size
imported_size c e = ((c ∷ e.0.0, e.0.1), e.1)

-- the assumptions, the promises, and the modes with their requires
pub record ContractSizes : Type 0 where
  pub assumes : List Size
  pub promises : List Size
  pub modes : ModeSizes

abbrev pub no_sizes : ContractSizes
no_sizes = record { assumes = []; promises = []; modes = [] }

abbrev pub asked_size : Size → Size → Size
asked_size r e = one (two r (one e))

abbrev pub sizes_after : Component → (ℕ → ContractSizes) → ContractSizes → List ContractStatement → ContractSizes
sizes_after n sub r [] = r
sizes_after n sub r (assume l ∷ cs) =
    sizes_after n sub (record r { assumes = r.assumes ++ size_in n r.modes l.value ∷ [] }) cs
sizes_after n sub r (guarantee l ∷ cs) =
    sizes_after n sub (record r { promises = r.promises ++ size_in n r.modes l.value ∷ [] }) cs
sizes_after n sub r (mode m rs es ∷ cs) =
    let asked : Size = all_of (sizes_of n r.modes rs) in
    sizes_after n sub (record r {
      promises =
          r.promises ++ map (asked_size asked) (sizes_of n r.modes es);
      modes = r.modes
          ++ (([], m.text), asked) ∷ [];
    }) cs
sizes_after n sub r («import» k c as_ xs ∷ cs) =
    sizes_after n sub (record {
      assumes = r.assumes ++ (sub k).assumes;
      promises = r.promises ++ (sub k).promises;
      modes = r.modes ++ map (imported_size c.text) (sub k).modes;
    }) cs
sizes_after n sub r (ghost_variable v e ∷ cs) = sizes_after n sub r cs
sizes_after n sub r (constant c ∷ cs) = sizes_after n sub r cs

abbrev mutual
  pub contract_sizes : Instance → ContractSizes
  contract_sizes (instance n cs is) =
      sizes_after n (λ k. slice_index_or (contract_sizes_each is) (pred k) no_sizes) no_sizes (contract_statements n)

  pub contract_sizes_each : Instances → List ContractSizes
  contract_sizes_each no_instances = []
  contract_sizes_each (with_instance c k is) = contract_sizes k ∷ contract_sizes_each is

-- ---- frames

-- the presence of a clock; a chain of clocks of a checked program is no longer than its names
abbrev pub presence_within : ℕ → Component → Clock → Size
presence_within zero n c = leaf
presence_within (suc d) n base = leaf
presence_within (suc d) n (sampled_by true x) = leaf
presence_within (suc d) n (sampled_by false x) = two (presence_within d n (clock_of n x)) (one leaf)

abbrev pub presence : Component → Clock → Size
presence n c = presence_within (length (variables n)) n c

-- the right side of an equation
abbrev pub side_size : Component → ModeSizes → Equation → Size
side_size n ms e = size_in n ms e.right

-- x is a term where its clock is on, and 0 elsewhere
abbrev pub given_size : Size → Size → Size
given_size p a = two leaf (three p a leaf)

abbrev pub free_size : Size → Size
free_size p = one (two (one p) (one (two leaf leaf)))

abbrev pub equation_sizes : Component → ModeSizes → List Size
equation_sizes n ms =
    map (λ e. given_size (presence n (clock_of_names n e.names)) (side_size n ms e)) (equations n)

-- the streams that neither an equation nor the caller gives
abbrev pub free_sizes : List Name → Component → List Size
free_sizes given n =
    flat_map
    (λ v. cond (named_in v.name.text (given ++ left_names n)) [] (free_size (presence n (clock_from v.clock)) ∷ []))
    (variables n)

abbrev pub memory_size : Component → ModeSizes → Memory → Size
memory_size n ms m = two leaf (three (presence n m.clock) (size_in n ms m.operand) leaf)

abbrev pub start_size : Component → Start → Size
start_size n s = two leaf (two leaf (one (presence n s.clock)))

-- sofar' = And(sofar, Not(And(beat, Not A)))
abbrev pub sofar_sizes : Option (List ContractStatement) → List Size → List Size
sofar_sizes None as_ = []
sofar_sizes (Some cs) as_ = two leaf (two leaf (one (two leaf (one (all_of as_))))) ∷ []

abbrev pub assert_sizes : Component → ModeSizes → List Statement → List Size
assert_sizes n ms [] = []
assert_sizes n ms (assertion e ∷ ss) = one (two leaf (one (size_in n ms e))) ∷ assert_sizes n ms ss
assert_sizes n ms (_ ∷ ss) = assert_sizes n ms ss

-- the beat of a call's frame, its inputs, and what it holds
abbrev pub site_sizes : Component → ModeSizes → Site → Component → Manner → List Size
site_sizes n ms c k plain =
    two leaf (presence n c.clock) ∷ map (λ a. given_size leaf (size_in n ms a)) c.arguments
site_sizes n ms c k (while_true a) =
    two leaf (two (presence n c.clock) (size_in n ms a))
    ∷ three leaf leaf leaf
    ∷ two leaf (three leaf leaf leaf)
    ∷ map (λ a. given_size leaf (size_in n ms a)) c.arguments
site_sizes n ms c k (as_import xs) =
    given_size leaf leaf ∷ map (λ a. given_size leaf (size_in n ms a)) c.arguments

abbrev pub own_sizes : List Name → Component → ContractSizes → List Size
own_sizes given n r =
    equation_sizes n r.modes
    ++ (free_sizes given n
    ++ (map (memory_size n r.modes) (memories n)
    ++ (map (start_size n) (starts n)
    ++ (sofar_sizes n.contract r.assumes
    ++ assert_sizes n r.modes n.body))))

-- of the terms of `here`, `first` and `next`, and of the assertions, of a frame and of all call frames in it
abbrev mutual
  pub frame_sizes : List Name → Instance → List Size
  frame_sizes given (instance n cs is) =
      own_sizes given n (contract_sizes (instance n cs is))
      ++ call_sizes n (contract_sizes (instance n cs is)).modes is

  pub call_sizes : Component → ModeSizes → Instances → List Size
  call_sizes n ms no_instances = []
  call_sizes n ms (with_instance c k is) =
      site_sizes n ms c (component_of k) c.manner
      ++ (frame_sizes (from_caller c k) k
      ++ call_sizes n ms is)

-- ---- the analysed node

abbrev pub property_sizes : Component → ModeSizes → List Statement → List Size
property_sizes n ms [] = []
property_sizes n ms (property l ∷ ss) = size_in n ms l.value ∷ property_sizes n ms ss
property_sizes n ms (_ ∷ ss) = property_sizes n ms ss

abbrev pub owed_sizes : Manner → Instance → List Size
owed_sizes (as_import xs) k = []
owed_sizes plain k = map (λ a. one (two leaf (one a))) (contract_sizes k).assumes
owed_sizes (while_true e) k = map (λ a. one (two leaf (one a))) (contract_sizes k).assumes

abbrev pub owed_by_sites : Instances → List Size
owed_by_sites no_instances = []
owed_by_sites (with_instance c k is) = owed_sizes c.manner k ++ owed_by_sites is

-- of all terms of a node's system
abbrev pub term_sizes : Instance → List Size
term_sizes (instance n cs is) =
    let r : ContractSizes = contract_sizes (instance n cs is) in
    frame_sizes (map (λ v. v.name.text) n.inputs) (instance n cs is)
    ++ (r.assumes
    ++ (property_sizes n r.modes n.body
    ++ (r.promises
    ++ (some_of (map (λ m. m.1) r.modes)
    ∷ owed_by_sites is))))
