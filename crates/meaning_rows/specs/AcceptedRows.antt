-- Programs just inside a rule: each is near one that the rule refuses, and follows all rules.
use Rattle.std.specs.Prelude.{true, false, replicate, [], ◌∷◌, Some, None, codes}
use Rattle.lus_tree.specs.declared.place.Sort.TheVariants.{Bool as Flags, Int as Numbers}
use Rattle.lus_tree.specs.declared.expression.Operator.TheVariants as O
use Rattle.lus_tree.specs.Tree.{Program, truth, number, name, minus, pre, binary, choice, sampled, merged, call, mode_name, no_more, more, equation, property, assume, guarantee, mode, declared_constant, declared_node}
use Rattle.meaning_rows.specs.PlacedParts.{at, here, from, word, variable, fixed, said, component}
use Rattle.meaning_rows.specs.RefusalRows.{main_in_line}

-- node x(x : bool) returns (y : bool);
-- (*@contract assume "p" x; guarantee "p" y; mode x (); *)
-- let y = x; check "p" x; check "q" x; tel
abbrev pub names_apart : Program
names_apart =
    declared_node
    (component (word (codes "x") 1 6) false (variable (word (codes "x") 1 8) Flags None ∷ [])
    (variable (word (codes "y") 1 27) Flags None ∷ []) [] []
    (Some
    (assume (said (Some (codes "p")) (at 2 13) (name (here 2 24) (codes "x")))
    ∷ guarantee (said (Some (codes "p")) (at 2 27) (name (here 2 41) (codes "y")))
    ∷ mode (word (codes "x") 2 49) [] []
    ∷ []))
    (equation (word (codes "y") 3 5 ∷ []) (name (here 3 9) (codes "x"))
    ∷ property (said (Some (codes "p")) (at 3 12) (name (here 3 22) (codes "x")))
    ∷ property (said (Some (codes "q")) (at 3 25) (name (here 3 35) (codes "x")))
    ∷ []))
    ∷ []

-- const k = 1;
-- node main(x : int; b : bool) returns (y : int);
-- let y = k; tel
abbrev pub constant_before : Program
constant_before =
    declared_constant (fixed (word (codes "k") 1 7) None (number (here 1 11) 1))
    ∷ main_in_line 2
    (equation (word (codes "y") 3 5 ∷ []) (name (here 3 9) (codes "k")) ∷ [])
    ∷ []

-- node main(x : bool) returns (y : int);
-- let y = if x then 1 else 0; tel
abbrev pub truth_for_a_condition : Program
truth_for_a_condition =
    declared_node
    (component (word (codes "main") 1 6) false (variable (word (codes "x") 1 11) Flags None ∷ [])
    (variable (word (codes "y") 1 30) Numbers None ∷ []) [] [] None
    (equation (word (codes "y") 2 5 ∷ [])
    (choice (here 2 9) (name (here 2 12) (codes "x")) (number (here 2 19) 1) (number (here 2 26) 0))
    ∷ []))
    ∷ []

-- node main(x : int; b : bool) returns (y : int);
-- let y = x div 1 mod -1; tel
abbrev pub division_by_one : Program
division_by_one =
    main_in_line 1
    (equation (word (codes "y") 2 5 ∷ [])
    (binary (from 2 9 2 17) O.Mod
    (binary (from 2 9 2 11) O.Div (name (here 2 9) (codes "x")) (number (here 2 15) 1))
    (minus (here 2 21) (number (here 2 22) 1)))
    ∷ [])
    ∷ []

-- const k = 1;
-- node main(x : int; b : bool) returns (y : int);
-- let y = 7 mod (1 + k); tel
abbrev pub divisor_with_a_constant : Program
divisor_with_a_constant =
    declared_constant (fixed (word (codes "k") 1 7) None (number (here 1 11) 1))
    ∷ main_in_line 2
    (equation (word (codes "y") 3 5 ∷ [])
    (binary (from 3 9 3 11) O.Mod (number (here 3 9) 7)
    (binary (from 3 15 3 18) O.Add (number (here 3 16) 1) (name (here 3 20) (codes "k"))))
    ∷ [])
    ∷ []

-- node main(c : bool; x : int) returns ();
-- var z : int when c;
-- let z = x when c; tel
abbrev pub slow_as_its_clock : Program
slow_as_its_clock =
    declared_node
    (component (word (codes "main") 1 6) false
    (variable (word (codes "c") 1 11) Flags None ∷ variable (word (codes "x") 1 21) Numbers None ∷ []) []
    (variable (word (codes "z") 2 5) Numbers (Some (true, (word (codes "c") 2 18))) ∷ []) [] None
    (equation (word (codes "z") 3 5 ∷ [])
    (sampled (from 3 9 3 11) (name (here 3 9) (codes "x")) true (word (codes "c") 3 16))
    ∷ []))
    ∷ []

-- node main(c : bool; x : int) returns (z : int);
-- let z = merge c (true -> x when c) (false -> 0); tel
abbrev pub merge_on_a_clock : Program
merge_on_a_clock =
    declared_node
    (component (word (codes "main") 1 6) false
    (variable (word (codes "c") 1 11) Flags None ∷ variable (word (codes "x") 1 21) Numbers None ∷ [])
    (variable (word (codes "z") 1 39) Numbers None ∷ []) [] [] None
    (equation (word (codes "z") 2 5 ∷ [])
    (merged (here 2 9) (word (codes "c") 2 15)
    (sampled (from 2 26 2 28) (name (here 2 26) (codes "x")) true (word (codes "c") 2 33))
    (number (here 2 46) 0))
    ∷ []))
    ∷ []

-- node main() returns (y, z : int);
-- let y = z;
--  z = 1; tel
abbrev pub defined_once : Program
defined_once =
    declared_node
    (component (word (codes "main") 1 6) false []
    (variable (word (codes "y") 1 22) Numbers None ∷ variable (word (codes "z") 1 25) Numbers None ∷ []) [] []
    None
    (equation (word (codes "y") 2 5 ∷ []) (name (here 2 9) (codes "z"))
    ∷ equation (word (codes "z") 3 2 ∷ []) (number (here 3 6) 1)
    ∷ []))
    ∷ []

-- node main(x : int) returns (y : int);
-- var z : int;
-- let y = x; z = 1; tel
abbrev pub defined_output_and_local : Program
defined_output_and_local =
    declared_node
    (component (word (codes "main") 1 6) false (variable (word (codes "x") 1 11) Numbers None ∷ [])
    (variable (word (codes "y") 1 29) Numbers None ∷ []) (variable (word (codes "z") 2 5) Numbers None ∷ []) []
    None
    (equation (word (codes "y") 3 5 ∷ []) (name (here 3 9) (codes "x"))
    ∷ equation (word (codes "z") 3 12 ∷ []) (number (here 3 16) 1)
    ∷ []))
    ∷ []

-- function f(x : int) returns (y : int); let y = x; tel
-- function g(x : int) returns (y : int); let y = f(x); tel
abbrev pub function_without_state : Program
function_without_state =
    declared_node
    (component (word (codes "f") 1 10) true (variable (word (codes "x") 1 12) Numbers None ∷ [])
    (variable (word (codes "y") 1 30) Numbers None ∷ []) [] [] None
    (equation (word (codes "y") 1 44 ∷ []) (name (here 1 48) (codes "x")) ∷ []))
    ∷ declared_node
    (component (word (codes "g") 2 10) true (variable (word (codes "x") 2 12) Numbers None ∷ [])
    (variable (word (codes "y") 2 30) Numbers None ∷ []) [] [] None
    (equation (word (codes "y") 2 44 ∷ [])
    (call (here 2 48) 1 (word (codes "f") 2 48) (more (name (here 2 50) (codes "x")) no_more))
    ∷ []))
    ∷ []

-- node main(x : int) returns (y : int);
-- (*@contract assume pre y > 0; guarantee y > 0; *)
-- let y = x; tel
abbrev pub assumed_last_output : Program
assumed_last_output =
    declared_node
    (component (word (codes "main") 1 6) false (variable (word (codes "x") 1 11) Numbers None ∷ [])
    (variable (word (codes "y") 1 29) Numbers None ∷ []) [] []
    (Some
    (assume
    (said None (at 2 13)
    (binary (from 2 20 2 26) O.More (pre (here 2 20) 1 (name (here 2 24) (codes "y"))) (number (here 2 28) 0)))
    ∷ guarantee
    (said None (at 2 31)
    (binary (from 2 41 2 43) O.More (name (here 2 41) (codes "y")) (number (here 2 45) 0)))
    ∷ [])) (equation (word (codes "y") 3 5 ∷ []) (name (here 3 9) (codes "x")) ∷ []))
    ∷ []

-- node main(x : int) returns (y : int);
-- (*@contract mode m (); guarantee ::m; *)
-- let y = x; tel
abbrev pub mode_before : Program
mode_before =
    declared_node
    (component (word (codes "main") 1 6) false (variable (word (codes "x") 1 11) Numbers None ∷ [])
    (variable (word (codes "y") 1 29) Numbers None ∷ []) [] []
    (Some
    (mode (word (codes "m") 2 18) [] []
    ∷ guarantee (said None (at 2 24) (mode_name (here 2 34) None (word (codes "m") 2 36)))
    ∷ [])) (equation (word (codes "y") 3 5 ∷ []) (name (here 3 9) (codes "x")) ∷ []))
    ∷ []

-- node a() returns (); let check true; .. tel, with 500 checks
abbrev pub five_hundred : Program
five_hundred =
    declared_node (component (word (codes "a") 1 6) false [] [] [] [] None (replicate 500 (property (said None (at 1 26) (truth (here 1 32) true))))) ∷ []
