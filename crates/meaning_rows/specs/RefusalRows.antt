-- Programs that break one rule each, with their places, and some that break none.
use Rattle.std.specs.Prelude.{ℕ, List, true, false, replicate, [], ◌∷◌, Some, None, codes}
use Rattle.lus_tree.specs.declared.place.Sort.TheVariants.{Bool as Flags, Int as Numbers}
use Rattle.lus_tree.specs.declared.expression.Operator.TheVariants as O
use Rattle.lus_tree.specs.Tree.{Program, Declaration, Statement, truth, number, name, pre, arrow, binary, sampled, call, mode_name, no_more, more, equation, property, assume, guarantee, declared_constant, declared_node}
use Rattle.meaning_rows.specs.PlacedParts.{at, here, from, word, variable, fixed, said, component}

-- `node main(x : int; b : bool) returns (y : int);` in a line, with this body
abbrev pub main_in_line : ℕ → List Statement → Declaration
main_in_line l ss =
    declared_node
    (component (word (codes "main") l 6) false
    (variable (word (codes "x") l 11) Numbers None ∷ variable (word (codes "b") l 20) Flags None ∷ [])
    (variable (word (codes "y") l 39) Numbers None ∷ []) [] [] None ss)

-- nothing
abbrev pub nothing : Program
nothing = []

-- node main(x, y : int) returns (z : int);
-- let z = x * y; tel
abbrev pub product_of_two_names : Program
product_of_two_names =
    declared_node
    (component (word (codes "main") 1 6) false
    (variable (word (codes "x") 1 11) Numbers None ∷ variable (word (codes "y") 1 14) Numbers None ∷ [])
    (variable (word (codes "z") 1 32) Numbers None ∷ []) [] [] None
    (equation (word (codes "z") 2 5 ∷ [])
    (binary (from 2 9 2 11) O.Mul (name (here 2 9) (codes "x")) (name (here 2 13) (codes "y")))
    ∷ []))
    ∷ []

-- node main(x : bool) returns (y : int);
-- let y = x; tel
abbrev pub truth_for_a_number : Program
truth_for_a_number =
    declared_node
    (component (word (codes "main") 1 6) false (variable (word (codes "x") 1 11) Flags None ∷ [])
    (variable (word (codes "y") 1 30) Numbers None ∷ []) [] [] None
    (equation (word (codes "y") 2 5 ∷ []) (name (here 2 9) (codes "x")) ∷ []))
    ∷ []

-- node main(c : bool; x : int) returns (z : int);
-- let z = x when c; tel
abbrev pub faster_than_its_clock : Program
faster_than_its_clock =
    declared_node
    (component (word (codes "main") 1 6) false
    (variable (word (codes "c") 1 11) Flags None ∷ variable (word (codes "x") 1 21) Numbers None ∷ [])
    (variable (word (codes "z") 1 39) Numbers None ∷ []) [] [] None
    (equation (word (codes "z") 2 5 ∷ [])
    (sampled (from 2 9 2 11) (name (here 2 9) (codes "x")) true (word (codes "c") 2 16))
    ∷ []))
    ∷ []

-- node main(x : bool) returns (y : bool);
-- let y = main(x); tel
abbrev pub call_of_itself : Program
call_of_itself =
    declared_node
    (component (word (codes "main") 1 6) false (variable (word (codes "x") 1 11) Flags None ∷ [])
    (variable (word (codes "y") 1 30) Flags None ∷ []) [] [] None
    (equation (word (codes "y") 2 5 ∷ [])
    (call (here 2 9) 1 (word (codes "main") 2 9) (more (name (here 2 14) (codes "x")) no_more))
    ∷ []))
    ∷ []

-- node main(x : int) returns (y : int);
-- (*@contract assume y > 0; *)
-- let y = x; tel
abbrev pub assumed_output : Program
assumed_output =
    declared_node
    (component (word (codes "main") 1 6) false (variable (word (codes "x") 1 11) Numbers None ∷ [])
    (variable (word (codes "y") 1 29) Numbers None ∷ []) [] []
    (Some
    (assume
    (said None (at 2 13)
    (binary (from 2 20 2 22) O.More (name (here 2 20) (codes "y")) (number (here 2 24) 0)))
    ∷ [])) (equation (word (codes "y") 3 5 ∷ []) (name (here 3 9) (codes "x")) ∷ []))
    ∷ []

-- node main(x : int) returns (y : int);
-- (*@contract guarantee ::m; *)
-- let y = x; tel
abbrev pub no_such_mode : Program
no_such_mode =
    declared_node
    (component (word (codes "main") 1 6) false (variable (word (codes "x") 1 11) Numbers None ∷ [])
    (variable (word (codes "y") 1 29) Numbers None ∷ []) [] []
    (Some (guarantee (said None (at 2 13) (mode_name (here 2 23) None (word (codes "m") 2 25))) ∷ []))
    (equation (word (codes "y") 3 5 ∷ []) (name (here 3 9) (codes "x")) ∷ []))
    ∷ []

-- node main(x : int; b : bool) returns (y : int);
-- let y = x; check "p" b;
-- check "p" b; tel
abbrev pub label_twice : Program
label_twice =
    main_in_line 1
    (equation (word (codes "y") 2 5 ∷ []) (name (here 2 9) (codes "x"))
    ∷ property (said (Some (codes "p")) (at 2 12) (name (here 2 22) (codes "b")))
    ∷ property (said (Some (codes "p")) (at 3 1) (name (here 3 11) (codes "b")))
    ∷ [])
    ∷ []

-- node main(x : int; b : bool) returns (y : int);
-- let y = k; tel
-- const k = 1;
abbrev pub constant_behind : Program
constant_behind =
    main_in_line 1
    (equation (word (codes "y") 2 5 ∷ []) (name (here 2 9) (codes "k")) ∷ [])
    ∷ declared_constant (fixed (word (codes "k") 3 7) None (number (here 3 11) 1))
    ∷ []

-- node f(a : int) returns (o : int); let o = a; tel
-- node main(x : int; b : bool) returns (y : int);
-- let y = f(x, 1); tel
abbrev pub too_many_arguments : Program
too_many_arguments =
    declared_node
    (component (word (codes "f") 1 6) false (variable (word (codes "a") 1 8) Numbers None ∷ [])
    (variable (word (codes "o") 1 26) Numbers None ∷ []) [] [] None
    (equation (word (codes "o") 1 40 ∷ []) (name (here 1 44) (codes "a")) ∷ []))
    ∷ main_in_line 2
    (equation (word (codes "y") 3 5 ∷ [])
    (call (here 3 9) 1 (word (codes "f") 3 9)
    (more (name (here 3 11) (codes "x")) (more (number (here 3 14) 1) no_more)))
    ∷ [])
    ∷ []

-- node main(x : int; b : bool) returns (y : int);
-- let y = x div 0; tel
abbrev pub division_by_zero : Program
division_by_zero =
    main_in_line 1
    (equation (word (codes "y") 2 5 ∷ [])
    (binary (from 2 9 2 11) O.Div (name (here 2 9) (codes "x")) (number (here 2 15) 0))
    ∷ [])
    ∷ []

-- node main(x : int; b : bool) returns (y : int);
-- let y = 7 mod (1 + x); tel
abbrev pub divisor_with_a_name : Program
divisor_with_a_name =
    main_in_line 1
    (equation (word (codes "y") 2 5 ∷ [])
    (binary (from 2 9 2 11) O.Mod (number (here 2 9) 7)
    (binary (from 2 15 2 18) O.Add (number (here 2 16) 1) (name (here 2 20) (codes "x"))))
    ∷ [])
    ∷ []

-- node main(x : int; b : bool) returns (y : int);
-- let y = x * 4611686018427387904 * 3; tel
abbrev pub past_all_weights : Program
past_all_weights =
    main_in_line 1
    (equation (word (codes "y") 2 5 ∷ [])
    (binary (from 2 9 2 33) O.Mul
    (binary (from 2 9 2 11) O.Mul (name (here 2 9) (codes "x"))
    (number (here 2 13) 4611686018427387904)) (number (here 2 35) 3))
    ∷ [])
    ∷ []

-- node main(x : int; b : bool) returns (y : int);
-- let y = x * 4611686018427387904 * 2; tel
abbrev pub as_heavy_as_can_be : Program
as_heavy_as_can_be =
    main_in_line 1
    (equation (word (codes "y") 2 5 ∷ [])
    (binary (from 2 9 2 33) O.Mul
    (binary (from 2 9 2 11) O.Mul (name (here 2 9) (codes "x"))
    (number (here 2 13) 4611686018427387904)) (number (here 2 35) 2))
    ∷ [])
    ∷ []

-- node main(x : int; b : bool) returns (y : int);
-- let y = x div later; tel
-- const later = 0;
abbrev pub zero_behind : Program
zero_behind =
    main_in_line 1
    (equation (word (codes "y") 2 5 ∷ [])
    (binary (from 2 9 2 11) O.Div (name (here 2 9) (codes "x")) (name (here 2 15) (codes "later")))
    ∷ [])
    ∷ declared_constant (fixed (word (codes "later") 3 7) None (number (here 3 15) 0))
    ∷ []

-- node main(x : int; b : bool) returns (y : int);
-- let y = 4611686018427387904 * later; tel
-- const later = 4;
abbrev pub heavy_behind : Program
heavy_behind =
    main_in_line 1
    (equation (word (codes "y") 2 5 ∷ [])
    (binary (from 2 9 2 29) O.Mul (number (here 2 9) 4611686018427387904) (name (here 2 31) (codes "later")))
    ∷ [])
    ∷ declared_constant (fixed (word (codes "later") 3 7) None (number (here 3 15) 4))
    ∷ []

-- node main(x : int; b : bool) returns (y : int);
-- let y = (x div 0) * 9223372036854775807 * 2; tel
abbrev pub heavy_but_for_a_zero : Program
heavy_but_for_a_zero =
    main_in_line 1
    (equation (word (codes "y") 2 5 ∷ [])
    (binary (from 2 9 2 41) O.Mul
    (binary (from 2 9 2 19) O.Mul
    (binary (from 2 9 2 12) O.Div (name (here 2 10) (codes "x")) (number (here 2 16) 0))
    (number (here 2 21) 9223372036854775807)) (number (here 2 43) 2))
    ∷ [])
    ∷ []

-- node main(x : int; b : bool) returns (y : int);
-- let y = x;
--  y = 1; tel
abbrev pub defined_twice : Program
defined_twice =
    main_in_line 1
    (equation (word (codes "y") 2 5 ∷ []) (name (here 2 9) (codes "x"))
    ∷ equation (word (codes "y") 3 2 ∷ []) (number (here 3 6) 1)
    ∷ [])
    ∷ []

-- node main(x : int; b : bool) returns (y : int);
-- let x = 1; tel
abbrev pub defined_input : Program
defined_input =
    main_in_line 1
    (equation (word (codes "x") 2 5 ∷ []) (number (here 2 9) 1) ∷ [])
    ∷ []

-- function f(x : int) returns (y : int);
-- let y = pre x; tel
abbrev pub function_with_state : Program
function_with_state =
    declared_node
    (component (word (codes "f") 1 10) true (variable (word (codes "x") 1 12) Numbers None ∷ [])
    (variable (word (codes "y") 1 30) Numbers None ∷ []) [] [] None
    (equation (word (codes "y") 2 5 ∷ []) (pre (here 2 9) 1 (name (here 2 13) (codes "x"))) ∷ []))
    ∷ []

-- node main() returns (x : bool);
-- var y : bool;
-- let x = y; y = x; tel
abbrev pub needs_each_other : Program
needs_each_other =
    declared_node
    (component (word (codes "main") 1 6) false [] (variable (word (codes "x") 1 22) Flags None ∷ [])
    (variable (word (codes "y") 2 5) Flags None ∷ []) [] None
    (equation (word (codes "x") 3 5 ∷ []) (name (here 3 9) (codes "y"))
    ∷ equation (word (codes "y") 3 12 ∷ []) (name (here 3 16) (codes "x"))
    ∷ []))
    ∷ []

-- node f() returns ();
-- var a : bool when b; b : bool when a;
-- let tel
abbrev pub clocks_in_a_circle : Program
clocks_in_a_circle =
    declared_node
    (component (word (codes "f") 1 6) false [] []
    (variable (word (codes "a") 2 5) Flags (Some (true, (word (codes "b") 2 19)))
    ∷ variable (word (codes "b") 2 22) Flags (Some (true, (word (codes "a") 2 36)))
    ∷ []) [] None [])
    ∷ []

-- node f() returns ();
-- var a : bool when b; b : bool when a;
-- let a = true; tel
abbrev pub through_its_clock : Program
through_its_clock =
    declared_node
    (component (word (codes "f") 1 6) false [] []
    (variable (word (codes "a") 2 5) Flags (Some (true, (word (codes "b") 2 19)))
    ∷ variable (word (codes "b") 2 22) Flags (Some (true, (word (codes "a") 2 36)))
    ∷ []) [] None (equation (word (codes "a") 3 5 ∷ []) (truth (here 3 9) true) ∷ []))
    ∷ []

-- node main() returns (n : int);
-- let
--   n = 0 -> pre n + 1;
--   --%PROPERTY "low" n >= 0;
--   --%PROPERTY "cap" n < 3;
-- tel
abbrev pub counting_up : Program
counting_up =
    declared_node
    (component (word (codes "main") 1 6) false [] (variable (word (codes "n") 1 22) Numbers None ∷ []) [] []
    None
    (equation (word (codes "n") 3 3 ∷ [])
    (arrow (from 3 7 3 9) 1 (number (here 3 7) 0)
    (binary (from 3 12 3 18) O.Add (pre (here 3 12) 1 (name (here 3 16) (codes "n")))
    (number (here 3 20) 1)))
    ∷ property
    (said (Some (codes "low")) (at 4 3)
    (binary (from 4 21 4 23) O.AtLeast (name (here 4 21) (codes "n")) (number (here 4 26) 0)))
    ∷ property
    (said (Some (codes "cap")) (at 5 3)
    (binary (from 5 21 5 23) O.Less (name (here 5 21) (codes "n")) (number (here 5 25) 3)))
    ∷ []))
    ∷ []

-- node d(a : int) returns (o : int); let o = 0 -> pre a; tel
-- node main() returns (x : int); let x = d(x) + 1; --%PROPERTY "pos" x >= 1; tel
abbrev pub late_argument : Program
late_argument =
    declared_node
    (component (word (codes "d") 1 6) false (variable (word (codes "a") 1 8) Numbers None ∷ [])
    (variable (word (codes "o") 1 26) Numbers None ∷ []) [] [] None
    (equation (word (codes "o") 1 40 ∷ [])
    (arrow (from 1 44 1 46) 1 (number (here 1 44) 0) (pre (here 1 49) 1 (name (here 1 53) (codes "a"))))
    ∷ []))
    ∷ declared_node
    (component (word (codes "main") 2 6) false [] (variable (word (codes "x") 2 22) Numbers None ∷ []) [] []
    None
    (equation (word (codes "x") 2 36 ∷ [])
    (binary (from 2 40 2 45) O.Add
    (call (here 2 40) 1 (word (codes "d") 2 40) (more (name (here 2 42) (codes "x")) no_more))
    (number (here 2 47) 1))
    ∷ property
    (said (Some (codes "pos")) (at 2 50)
    (binary (from 2 68 2 70) O.AtLeast (name (here 2 68) (codes "x")) (number (here 2 73) 1)))
    ∷ []))
    ∷ []

-- node a() returns (); let check true; .. tel, with 501 checks
abbrev pub five_hundred_and_one : Program
five_hundred_and_one =
    declared_node (component (word (codes "a") 1 6) false [] [] [] [] None (replicate 501 (property (said None (at 1 26) (truth (here 1 32) true))))) ∷ []
