-- A worked row of the items of contracts: imports of imports, a plain call and a condact of a node with a contract, and the name
-- of each property.
use Rattle.std.specs.Prelude.{ℕ, List, true, false, [], ◌∷◌, Some, codes}
use Rattle.lus_tree.specs.declared.expression.Operator.TheVariants.{And, Less, Equal, Differs, More, Add, Sub}
use Rattle.lus_tree.specs.Tree.{Place, binary, Component, property, assume, guarantee, declared_node, declared_contract, Program}
use Rattle.lus_meaning.specs.Value.{Value, absent}
use Rattle.lus_meaning.specs.Frame.{Frame, frame, no_frames}
use Rattle.lus_meaning.specs.Scene.{Instance}
use Rattle.lus_meaning.specs.Program.{instance_of}
use Rattle.meaning_rows.specs.RowParts.{declares, natural, unlabelled}
use Rattle.meaning_rows.specs.Written.{the, literal, combined, calling, calling_while, flag_named, number_named, sets, saying, checked, mode_named, importing, negative, naturals, flags_of, stream, framed}

--  1 contract deep(a : int) returns (o : int); let
--  2   assume a <> 9 and a <> 1;
--  3   guarantee "g" o > 0;
--  4   mode m (require a > 1; ensure o > 1; ensure "e" o > 2;);
--  5 tel
--  6 contract outer(a : int) returns (o : int); let
--  7   import deep(a + 1) returns (o);
--  8   guarantee o > 3;
--  9 tel
-- 10 node callee(a : int) returns (o : int);
-- 11 (*@contract
-- 12   assume "small" a < 9;
-- 13   import outer(a) returns (o);
-- 14   assume a <> 2;
-- 15 *)
-- 16 let o = a; tel
-- 17 node main(x : int; c : bool) returns (y, z : int);
-- 18 (*@contract
-- 19   import outer(x - 1) returns (y);
-- 20   guarantee "own" y < 5;
-- 21   mode n (require y < 2; ensure "f" y > 0; ensure y = 0;);
-- 22 *)
-- 23 let y = callee(x); z = condact(c, callee(x), 1);
-- 24   --%PROPERTY "p" y > 0;
-- 25   --%PROPERTY z > 1;
-- 26 tel

-- where an expression begins; its own token is never asked for
abbrev pub placed : ℕ → ℕ → Place
placed l k = record { from = record { line = l; column = k }; at = record { line = 1; column = 1 } }

abbrev pub deep : Component
deep =
    declares (codes "deep") (number_named "a" ∷ []) (number_named "o" ∷ []) []
    (Some
    (assume
    (unlabelled
    (binary (placed 2 10) And (combined Differs (the "a") (literal 9))
    (combined Differs (the "a") (literal 1))))
    ∷ guarantee (saying "g" (combined More (the "o") (literal 0)))
    ∷ mode_named "m" (unlabelled (combined More (the "a") (literal 1)) ∷ [])
    (unlabelled (binary (placed 4 33) More (the "o") (literal 1))
    ∷ saying "e" (combined More (the "o") (literal 2))
    ∷ [])
    ∷ [])) []

abbrev pub outer : Component
outer = declares (codes "outer") (number_named "a" ∷ []) (number_named "o" ∷ []) []
    (Some
    (importing 1 "deep" (combined Add (the "a") (literal 1) ∷ []) ("o" ∷ [])
    ∷ guarantee (unlabelled (binary (placed 8 13) More (the "o") (literal 3)))
    ∷ []))
    []

abbrev pub callee_node : Component
callee_node = declares (codes "callee") (number_named "a" ∷ []) (number_named "o" ∷ []) []
    (Some
    (assume (saying "small" (combined Less (the "a") (literal 9)))
    ∷ importing 1 "outer" (the "a" ∷ []) ("o" ∷ [])
    ∷ assume (unlabelled (binary (placed 14 10) Differs (the "a") (literal 2)))
    ∷ []))
    (sets "o" (the "a") ∷ [])

abbrev pub items_node : Component
items_node =
    declares (codes "main") (number_named "x" ∷ flag_named "c" ∷ []) (number_named "y" ∷ number_named "z" ∷ [])
    []
    (Some
    (importing 1 "outer" (combined Sub (the "x") (literal 1) ∷ []) ("y" ∷ [])
    ∷ guarantee (saying "own" (combined Less (the "y") (literal 5)))
    ∷ mode_named "n" (unlabelled (combined Less (the "y") (literal 2)) ∷ [])
    (saying "f" (combined More (the "y") (literal 0))
    ∷ unlabelled (binary (placed 21 51) Equal (the "y") (literal 0))
    ∷ [])
    ∷ []))
    (sets "y" (calling 2 "callee" (the "x" ∷ []))
    ∷ sets "z" (calling_while 3 (the "c") "callee" (the "x" ∷ []) (literal 1 ∷ []))
    ∷ checked "p" (combined More (the "y") (literal 0))
    ∷ property (unlabelled (binary (placed 25 15) More (the "z") (literal 1)))
    ∷ [])

abbrev pub items_program : Program
items_program =
    declared_contract deep ∷ declared_contract outer ∷ declared_node callee_node ∷ declared_node items_node ∷ []

abbrev pub items : Instance
items = instance_of items_program items_node

-- x |     2     0     9
-- c | false  true  true
-- y |     2     0     9
-- z |     1     0     9
-- The import of main has x - 1 as its a, and the import in it x. The plain call has x as its a, and so has its import; the import
-- in that has x + 1. The condact is the same at the instants 1 and 2.
abbrev pub contract_frame : List Value → List Value → Frame
contract_frame as_ os = frame (stream "a" as_ ∷ stream "o" os ∷ []) [] no_frames

-- with an import
abbrev pub importing_frame : List Value → List Value → Frame → Frame
importing_frame as_ os f = frame (stream "a" as_ ∷ stream "o" os ∷ []) [] (framed (f ∷ []))

abbrev pub all_three : List Value
all_three = naturals (2 ∷ 0 ∷ 9 ∷ [])

abbrev pub last_two : List Value
last_two = absent ∷ natural 0 ∷ natural 9 ∷ []

abbrev pub items_frame : Frame
items_frame =
    frame
    (stream "x" all_three
    ∷ stream "c" (flags_of (false ∷ true ∷ true ∷ []))
    ∷ stream "y" all_three
    ∷ stream "z" (naturals (1 ∷ 0 ∷ 9 ∷ []))
    ∷ []) []
    (framed
    (importing_frame (natural 1 ∷ negative 1 ∷ natural 8 ∷ []) all_three
    (contract_frame all_three all_three)
    ∷ importing_frame all_three all_three
    (importing_frame all_three all_three (contract_frame (naturals (3 ∷ 1 ∷ 10 ∷ [])) all_three))
    ∷ importing_frame last_two last_two
    (importing_frame last_two last_two
    (contract_frame (absent ∷ natural 1 ∷ natural 10 ∷ []) last_two))
    ∷ []))

-- the properties at the three instants, each with its name
abbrev pub items_truths : List (List Value)
items_truths =
    flags_of (true ∷ false ∷ true ∷ [])  -- property "p"
    ∷ flags_of (false ∷ false ∷ true ∷ [])  -- property @25:15
    ∷ flags_of (true ∷ false ∷ true ∷ [])  -- guarantee 1.1."g"
    ∷ flags_of (false ∷ false ∷ true ∷ [])  -- guarantee 1.@8:13
    ∷ flags_of (true ∷ true ∷ false ∷ [])  -- guarantee "own"
    ∷ flags_of (true ∷ true ∷ true ∷ [])  -- ensure 1.1.m @4:33: m is active at 0 and 2, and o > 1 is true there
    ∷ flags_of (false ∷ true ∷ true ∷ [])  -- ensure 1.1.m "e"
    ∷ flags_of (true ∷ false ∷ true ∷ [])  -- ensure n "f": n is active at 1
    ∷ flags_of (true ∷ true ∷ true ∷ [])  -- ensure n @21:51
    ∷ flags_of (true ∷ true ∷ true ∷ [])  -- one mode active
    ∷ flags_of (true ∷ true ∷ false ∷ [])  -- assume 2."small"
    ∷ flags_of (true ∷ false ∷ true ∷ [])  -- assume 2.1.1.@2:10: a is 3, 1, 10
    ∷ flags_of (false ∷ true ∷ true ∷ [])  -- assume 2.@14:10
    ∷ flags_of (true ∷ true ∷ false ∷ [])  -- assume 3."small"
    ∷ flags_of (true ∷ false ∷ true ∷ [])  -- assume 3.1.1.@2:10
    ∷ flags_of (true ∷ true ∷ true ∷ [])  -- assume 3.@14:10: the callee is not active at 0
    ∷ []

abbrev pub items_labels : List (List ℕ)
items_labels =
    codes "property \"p\""
    ∷ codes "property @25:15"
    ∷ codes "guarantee 1.1.\"g\""
    ∷ codes "guarantee 1.@8:13"
    ∷ codes "guarantee \"own\""
    ∷ codes "ensure 1.1.m @4:33"
    ∷ codes "ensure 1.1.m \"e\""
    ∷ codes "ensure n \"f\""
    ∷ codes "ensure n @21:51"
    ∷ codes "one mode active"
    ∷ codes "assume 2.\"small\""
    ∷ codes "assume 2.1.1.@2:10"
    ∷ codes "assume 2.@14:10"
    ∷ codes "assume 3.\"small\""
    ∷ codes "assume 3.1.1.@2:10"
    ∷ codes "assume 3.@14:10"
    ∷ []
