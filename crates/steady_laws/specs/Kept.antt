-- Values of constant expressions by kept values, of which none is a number that is too great.
use Rattle.std.specs.Prelude.{List, [], ◌∷◌, ◌++◌, unwrap_or, pos}
use Rattle.std.specs.Map.{lookup}
use Rattle.std.specs.Str.{bytes_eq}
use Rattle.lus_tree.specs.Tree.{Name, Expression, truth, number, name, negation, minus, pre, arrow, binary, choice, sampled, merged, call, condact, mode_name, Constant, Component, Program}
use Rattle.lus_meaning.specs.Value.{Value, absent, flag, whole, not_value, minus_value}
use Rattle.lus_meaning.specs.Scene.{contract_statements}
use Rattle.lus_meaning.specs.Program.{program_constants, contract_statement_constants}
use Rattle.lus_meaning.specs.Scope.{apply_total, choose_total}
use Rattle.sys_parts.specs.Values.{tame}

-- the value of a constant expression, where these constants have these values; what is too great, divided by 0 or not
-- constant has none
abbrev pub kept_value : List (Name × Value) → Expression → Value
kept_value cs (truth p b) = flag b
kept_value cs (number p n) = tame (whole (pos n))
kept_value cs (name p x) = unwrap_or (lookup (bytes_eq x) cs) absent
kept_value cs (negation p a) = not_value (kept_value cs a)
kept_value cs (minus p a) = tame (minus_value (kept_value cs a))
kept_value cs (binary p o a b) = tame (apply_total o (kept_value cs a) (kept_value cs b))
kept_value cs (choice p a b d) = choose_total (kept_value cs a) (kept_value cs b) (kept_value cs d)
kept_value cs (pre p k a) = absent
kept_value cs (arrow p k a b) = absent
kept_value cs (sampled p a b x) = absent
kept_value cs (merged p x a b) = absent
kept_value cs (call p k f as_) = absent
kept_value cs (condact p k a f as_ ds) = absent
kept_value cs (mode_name p d m) = absent

-- the values of constants in text order, each by those before it
abbrev pub kept_values : List (Name × Value) → List Constant → List (Name × Value)
kept_values cs [] = cs
kept_values cs (d ∷ ds) = kept_values (cs ++ (d.name.text, kept_value cs d.value) ∷ []) ds

-- those of a declaration's contract, and its own
abbrev pub own_constants : Component → List Constant
own_constants n = contract_statement_constants (contract_statements n) ++ n.constants

-- those of the program, and then those of the declaration
abbrev pub constants_for : Program → Component → List Constant
constants_for p n = program_constants p ++ contract_statement_constants (contract_statements n) ++ n.constants
