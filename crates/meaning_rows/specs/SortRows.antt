-- A worked row of the types of first values: `pre` of each form of expression.
use Rattle.std.specs.Prelude.{ℕ, true, List, [], ◌∷◌, Some, None, codes}
use Rattle.lus_tree.specs.declared.place.Sort.{Sort}
use Rattle.lus_tree.specs.declared.place.Sort.TheVariants.{Bool as Flags, Int as Numbers}
use Rattle.lus_tree.specs.declared.expression.Operator.TheVariants.{Implies, Or, Xor, And, Less, AtMost, Equal, Differs, AtLeast, More, Add, Sub, Mul, Div, Mod}
use Rattle.lus_tree.specs.Tree.{Expression, Statement, property, Component, declared_constant, declared_node}
use Rattle.lus_meaning.specs.Scene.{Instance}
use Rattle.lus_meaning.specs.Program.{instance_of}
use Rattle.meaning_rows.specs.RowParts.{declares, unlabelled}
use Rattle.meaning_rows.specs.CallRows.{next}
use Rattle.meaning_rows.specs.Written.{the, truth_of, literal, negated, opposite, previous, followed, combined, chosen, when_true, merged_on, calling, calling_while, own_mode, flag_named, number_named, defined, sets, mode_named}

-- node sign(a : int) returns (o : bool); let o = a > 0; tel
abbrev pub sign : Component
sign = declares (codes "sign") (number_named "a" ∷ []) (flag_named "o" ∷ []) [] None (sets "o" (combined More (the "a") (literal 0)) ∷ [])

-- `check pre e = e;`
abbrev pub repeated : ℕ → Expression → Statement
repeated k e = property (unlabelled (combined Equal (previous k e) e))

-- const K = 3; const T = true;
-- node main(c : bool; x : int) returns (y : int); (*@contract mode m (require c;); *)
-- let y = x; and a check of each of these:
--   pre (true) = (true)
--   pre (1) = (1)
--   pre (x) = (x)
--   pre (c) = (c)
--   pre (K) = (K)
--   pre (T) = (T)
--   pre (not c) = (not c)
--   pre (-x) = (-x)
--   pre (if c then x else x) = (if c then x else x)
--   pre (if c then c else c) = (if c then c else c)
--   pre (x + 2) = (x + 2)
--   pre (x - 2) = (x - 2)
--   pre (x * 2) = (x * 2)
--   pre (x div 2) = (x div 2)
--   pre (x mod 2) = (x mod 2)
--   pre (x < 2) = (x < 2)
--   pre (x <= 2) = (x <= 2)
--   pre (x = 2) = (x = 2)
--   pre (x <> 2) = (x <> 2)
--   pre (x >= 2) = (x >= 2)
--   pre (x > 2) = (x > 2)
--   pre (c and c) = (c and c)
--   pre (c or c) = (c or c)
--   pre (c xor c) = (c xor c)
--   pre (c => c) = (c => c)
--   pre (::m) = (::m)
--   pre (merge c (true -> x when c) (false -> 0)) = (merge c (true -> x when c) (false -> 0))
--   pre (merge c (true -> c when c) (false -> true)) = (merge c (true -> c when c) (false -> true))
--   pre next(x) = 0
--   pre sign(x)
--   pre condact(c, next(x), 0) = 0
--   pre condact(c, sign(x), true)
--   merge c (true -> pre (x when c)) (false -> 0) = 0
--   merge c (true -> pre (c when c)) (false -> true)
--   pre (1 -> x) = 0
--   pre (true -> c)
--   pre (pre x = 0)
-- tel
abbrev pub sorted_node : Component
sorted_node = declares (codes "main") (flag_named "c" ∷ number_named "x" ∷ []) (number_named "y" ∷ []) []
    (Some (mode_named "m" (unlabelled (the "c") ∷ []) [] ∷ []))
    (sets "y" (the "x")
    ∷ repeated 1 (truth_of true)
    ∷ repeated 2 (literal 1)
    ∷ repeated 3 (the "x")
    ∷ repeated 4 (the "c")
    ∷ repeated 5 (the "K")
    ∷ repeated 6 (the "T")
    ∷ repeated 7 (negated (the "c"))
    ∷ repeated 8 (opposite (the "x"))
    ∷ repeated 9 (chosen (the "c") (the "x") (the "x"))
    ∷ repeated 10 (chosen (the "c") (the "c") (the "c"))
    ∷ repeated 11 (combined Add (the "x") (literal 2))
    ∷ repeated 12 (combined Sub (the "x") (literal 2))
    ∷ repeated 13 (combined Mul (the "x") (literal 2))
    ∷ repeated 14 (combined Div (the "x") (literal 2))
    ∷ repeated 15 (combined Mod (the "x") (literal 2))
    ∷ repeated 16 (combined Less (the "x") (literal 2))
    ∷ repeated 17 (combined AtMost (the "x") (literal 2))
    ∷ repeated 18 (combined Equal (the "x") (literal 2))
    ∷ repeated 19 (combined Differs (the "x") (literal 2))
    ∷ repeated 20 (combined AtLeast (the "x") (literal 2))
    ∷ repeated 21 (combined More (the "x") (literal 2))
    ∷ repeated 22 (combined And (the "c") (the "c"))
    ∷ repeated 23 (combined Or (the "c") (the "c"))
    ∷ repeated 24 (combined Xor (the "c") (the "c"))
    ∷ repeated 25 (combined Implies (the "c") (the "c"))
    ∷ repeated 26 (own_mode "m")
    ∷ repeated 27 (merged_on "c" (when_true (the "x") "c") (literal 0))
    ∷ repeated 28 (merged_on "c" (when_true (the "c") "c") (truth_of true))
    ∷ property (unlabelled (combined Equal (previous 29 (calling 1 "next" (the "x" ∷ []))) (literal 0)))
    ∷ property (unlabelled (previous 30 (calling 2 "sign" (the "x" ∷ []))))
    ∷ property (unlabelled (combined Equal (previous 31 (calling_while 3 (the "c") "next" (the "x" ∷ []) (literal 0 ∷ []))) (literal 0)))
    ∷ property (unlabelled (previous 32 (calling_while 4 (the "c") "sign" (the "x" ∷ []) (truth_of true ∷ []))))
    ∷ property (unlabelled (combined Equal (merged_on "c" (previous 33 (when_true (the "x") "c")) (literal 0)) (literal 0)))
    ∷ property (unlabelled (merged_on "c" (previous 34 (when_true (the "c") "c")) (truth_of true)))
    ∷ property (unlabelled (combined Equal (previous 35 (followed 1 (literal 1) (the "x"))) (literal 0)))
    ∷ property (unlabelled (previous 36 (followed 2 (truth_of true) (the "c"))))
    ∷ property (unlabelled (previous 37 (combined Equal (previous 38 (the "x")) (literal 0))))
    ∷ [])

abbrev pub sorted : Instance
sorted = instance_of
    (declared_constant (defined "K" (literal 3)) ∷ declared_constant
    (defined "T" (truth_of true)) ∷ declared_node next ∷ declared_node sign ∷ declared_node sorted_node ∷ [])
    sorted_node

-- the types in the order of the checks, and at the end those of `pre x = 0` and of x
abbrev pub sorts : List Sort
sorts =
    Flags ∷ Numbers ∷ Numbers ∷ Flags ∷ Numbers ∷ Flags ∷ Flags ∷ Numbers ∷ Numbers ∷ Flags ∷ Numbers ∷
    Numbers ∷ Numbers ∷ Numbers ∷ Numbers ∷ Flags ∷ Flags ∷ Flags ∷ Flags ∷ Flags ∷ Flags ∷ Flags ∷ Flags ∷
    Flags ∷ Flags ∷ Flags ∷ Numbers ∷ Flags ∷ Numbers ∷ Flags ∷ Numbers ∷ Flags ∷ Numbers ∷ Flags ∷ Numbers ∷
    Flags ∷ Flags ∷ Numbers ∷ []
