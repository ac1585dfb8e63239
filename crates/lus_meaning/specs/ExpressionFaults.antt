-- The faults of types, names and numbers in one expression, each at a part of it.
use Rattle.std.specs.Prelude.{Bool, true, false, cond, not, ◌&&◌, ◌||◌, ◌==◌, List, [], ◌∷◌, ◌++◌, flat_map, length, filter, Option, Some, None}
use Rattle.std.specs.Str.{bytes_eq}
use Rattle.lus_tree.specs.declared.place.Pos.{Pos}
use Rattle.lus_tree.specs.declared.place.Sort.{Sort}
use Rattle.lus_tree.specs.declared.place.Sort.TheVariants.{Bool as Flags, Int as Numbers}
use Rattle.lus_tree.specs.declared.expression.Operator.{Operator}
use Rattle.lus_tree.specs.declared.expression.Operator.TheVariants.{Implies, Or, Xor, And, Equal, Differs, Mul, Div, Mod}
use Rattle.lus_tree.specs.Tree.{Name, Spelled, Expression, name, negation, minus, pre, arrow, binary, choice, sampled, merged, call, condact, mode_name, Variable, Component}
use Rattle.lus_tree.specs.Reason.{Refused, name_unknown, type_clash, arity_clash, not_linear, zero_divisor, not_constant, heavy, mode_unknown}
use Rattle.lus_meaning.specs.Scene.{Clock, base, contract_statements}
use Rattle.lus_meaning.specs.Program.{listed}
use Rattle.lus_meaning.specs.Depends.{named_in}
use Rattle.lus_meaning.specs.Occurrences.{Standing, on_clock, as_side, Occurrence, occurrences, begin}
use Rattle.lus_meaning.specs.Scope.{Scope, is_known, is_constant_name, is_constant, is_zero, constant_of, type_of, sort_of_entry, weight_of, is_heavy, node_named, contract_named, mode_names}
use Rattle.lus_meaning.specs.Faults.{fault, faults_at, if_so, differ}

-- ---- names

abbrev pub used : Scope → Name → Pos → List Refused
used s x at = if_so (not (is_known s x)) name_unknown at

-- the name behind a `when` or of a merge is a stream of truth values
abbrev pub used_as_clock : Scope → Spelled → List Refused
used_as_clock s w =
    if_so (not (is_known s w.text) || is_constant_name s w.text) name_unknown w.at
    ++ if_so (differ (Some Flags) (sort_of_entry s w.text)) type_clash w.at

-- ---- types

abbrev pub needs_sort : Scope → Sort → Expression → List Refused
needs_sort s q e = if_so (differ (Some q) (type_of s e)) type_clash (begin e)

-- two have to agree; the second is at fault
abbrev pub agree : Scope → Expression → Expression → List Refused
agree s a b = if_so (differ (type_of s a) (type_of s b)) type_clash (begin b)

abbrev pub sorts_fit : Scope → List Variable → List Expression → List Refused
sorts_fit s (v ∷ vs) (a ∷ as_) = needs_sort s v.sort a ++ sorts_fit s vs as_
sorts_fit s _ _ = []

-- where there are as many as needed
abbrev pub arguments_fit : Scope → List Variable → List Expression → List Refused
arguments_fit s vs as_ = cond (length vs == length as_) (sorts_fit s vs as_) []

-- ---- constants

abbrev pub hinders_constant : Scope → Expression → List Pos
hinders_constant s (name p x) = cond (is_constant_name s x) [] (p.at ∷ [])
hinders_constant s (pre p k a) = p.at ∷ []
hinders_constant s (arrow p k a b) = p.at ∷ []
hinders_constant s (sampled p a b x) = p.at ∷ []
hinders_constant s (merged p x a b) = p.at ∷ []
hinders_constant s (call p k f as_) = p.at ∷ []
hinders_constant s (condact p k a f as_ ds) = p.at ∷ []
hinders_constant s (mode_name p c m) = p.at ∷ []
hinders_constant s _ = []

abbrev pub parts : Scope → Expression → List Occurrence
parts s e = occurrences s.owner (on_clock base) e

-- the tokens that are not allowed in a constant
abbrev pub not_allowed : Scope → Expression → List Refused
not_allowed s e = faults_at not_constant (flat_map (λ o. hinders_constant s o.expression) (parts s e))

-- ---- operators

abbrev pub operator_faults : Scope → Pos → Operator → Expression → Expression → List Refused
operator_faults s at Implies a b = needs_sort s Flags a ++ needs_sort s Flags b
operator_faults s at Or a b = needs_sort s Flags a ++ needs_sort s Flags b
operator_faults s at Xor a b = needs_sort s Flags a ++ needs_sort s Flags b
operator_faults s at And a b = needs_sort s Flags a ++ needs_sort s Flags b
operator_faults s at Equal a b = agree s a b
operator_faults s at Differs a b = agree s a b
operator_faults s at Mul a b =
    needs_sort s Numbers a ++ needs_sort s Numbers b ++ if_so (not (is_constant s a || is_constant s b)) not_linear at
operator_faults s at Div a b =
    needs_sort s Numbers a ++ needs_sort s Numbers b ++ not_allowed s b
    ++ if_so (is_constant s b && is_zero (constant_of s b)) zero_divisor at
operator_faults s at Mod a b =
    needs_sort s Numbers a ++ needs_sort s Numbers b ++ not_allowed s b
    ++ if_so (is_constant s b && is_zero (constant_of s b)) zero_divisor at
operator_faults s at o a b = needs_sort s Numbers a ++ needs_sort s Numbers b

-- ---- calls and modes

abbrev pub has_one : {A : Type 0} → List A → Bool
has_one xs = length xs == 1

-- a call has as many arguments as its callee inputs, of their types; it has one output where it isn't the whole right side
abbrev pub call_faults : Scope → Bool → Spelled → List Expression → Option Component → List Refused
call_faults s whole_side f as_ None = fault name_unknown f.at ∷ []
call_faults s whole_side f as_ (Some n) =
    if_so (not (length n.inputs == length as_)) arity_clash f.at
    ++ arguments_fit s n.inputs as_
    ++ if_so (not whole_side && not (has_one n.outputs)) arity_clash f.at

abbrev pub default_faults : Scope → Spelled → List Expression → Option Component → List Refused
default_faults s f ds None = []
default_faults s f ds (Some n) =
    if_so (not (length n.outputs == length ds)) arity_clash f.at ++ arguments_fit s n.outputs ds

abbrev pub has_mode : Name → Option Component → Bool
has_mode m None = false
has_mode m (Some n) = named_in m (mode_names (contract_statements n))

-- the contract is imported exactly once before, and has the mode
abbrev pub is_imported_mode : Scope → Name → Name → Bool
is_imported_mode s c m = has_one (filter (bytes_eq c) s.imports) && has_mode m (contract_named s.program c)

abbrev pub mode_is_known : Scope → Option Spelled → Spelled → Bool
mode_is_known s None m = named_in m.text s.modes
mode_is_known s (Some c) m = is_imported_mode s c.text m.text

-- ---- one part

-- the faults of an expression, those of its parts left aside
abbrev pub form_faults : Scope → Bool → Expression → List Refused
form_faults s w (name p x) = used s x p.at
form_faults s w (negation p a) = needs_sort s Flags a
form_faults s w (minus p a) = needs_sort s Numbers a
form_faults s w (arrow p k a b) = agree s a b
form_faults s w (binary p o a b) = operator_faults s p.at o a b
form_faults s w (choice p a b c) = needs_sort s Flags a ++ agree s b c
form_faults s w (sampled p a b x) = used_as_clock s x
form_faults s w (merged p x a b) = used_as_clock s x ++ agree s a b
form_faults s w (call p k f as_) = call_faults s w f (listed as_) (node_named s.program f.text)
form_faults s w (condact p k a f as_ ds) =
    needs_sort s Flags a
    ++ call_faults s w f (listed as_) (node_named s.program f.text)
    ++ default_faults s f (listed ds) (node_named s.program f.text)
    ++ flat_map (not_allowed s) (listed ds)
form_faults s w (mode_name p c m) = if_so (not (mode_is_known s c m)) mode_unknown m.at
form_faults s w _ = []

abbrev pub is_integer : Option Sort → Bool
is_integer (Some Numbers) = true
is_integer _ = false

abbrev pub weight_faults : Scope → Expression → List Refused
weight_faults s e = if_so (is_integer (type_of s e) && is_heavy (weight_of s e)) heavy (begin e)

abbrev pub part_faults : Scope → Occurrence → List Refused
part_faults s o = form_faults s o.standing.whole_side o.expression ++ weight_faults s o.expression

-- ---- all parts

abbrev pub expression_faults : Scope → Standing → Expression → List Refused
expression_faults s t e = flat_map (part_faults s) (occurrences s.owner t e)

-- an expression of truth values
abbrev pub flag_faults : Scope → Expression → List Refused
flag_faults s e = needs_sort s Flags e ++ expression_faults s (on_clock base) e

abbrev pub differs_from : Scope → Spelled → Option Sort → Bool
differs_from s x q = differ (sort_of_entry s x.text) q

abbrev pub some_differ : Scope → List Spelled → List Variable → Bool
some_differ s (x ∷ xs) (v ∷ vs) = differs_from s x (Some v.sort) || some_differ s xs vs
some_differ s _ _ = false

-- the outputs of a call go to as many left names, of their types
abbrev pub outputs_fit : Scope → List Spelled → Expression → Spelled → Option Component → List Refused
outputs_fit s xs e f None = []
outputs_fit s xs e f (Some n) =
    cond (length n.outputs == length xs) (if_so (some_differ s xs n.outputs) type_clash (begin e)) (fault arity_clash f.at ∷ [])

-- one value goes to one left name
abbrev pub value_fits : Scope → List Spelled → Expression → List Refused
value_fits s (x ∷ []) e = if_so (differs_from s x (type_of s e)) type_clash (begin e)
value_fits s _ e = fault arity_clash (begin e) ∷ []

abbrev pub sides_fit : Scope → List Spelled → Expression → List Refused
sides_fit s xs (call p k f as_) = outputs_fit s xs (call p k f as_) f (node_named s.program f.text)
sides_fit s xs (condact p k a f as_ ds) =
    outputs_fit s xs (condact p k a f as_ ds) f (node_named s.program f.text)
sides_fit s xs e = value_fits s xs e

abbrev pub equation_faults : Scope → Clock → List Spelled → Expression → List Refused
equation_faults s c xs e =
    flat_map (λ x. used s x.text x.at) xs ++ sides_fit s xs e ++ expression_faults s (as_side c) e

-- a constant is made of constants, and has the type that is written
abbrev pub definition_faults : Scope → Option Sort → Expression → List Refused
definition_faults s q e =
    not_allowed s e ++ expression_faults s (on_clock base) e ++ if_so (differ q (type_of s e)) type_clash (begin e)
