-- Worked rows of needs: what a name of a node needs at its own instant, circles, and orders of equations.
use Rattle.std.specs.Prelude.{true, false, [], ◌∷◌, Some, None, codes}
use Rattle.lus_tree.specs.declared.expression.Operator.TheVariants.{Add, More}
use Rattle.lus_tree.specs.Tree.{Component, declared_node, declared_contract}
use Rattle.lus_meaning.specs.Scene.{Instance}
use Rattle.lus_meaning.specs.Program.{instance_of}
use Rattle.meaning_rows.specs.RowParts.{declares, unlabelled}
use Rattle.meaning_rows.specs.CallRows.{next}
use Rattle.meaning_rows.specs.Written.{the, truth_of, literal, negated, opposite, previous, followed, combined, when_true, when_false, merged_on, calling, calling_while, own_mode, mode_of, flag_named, number_named, on, sets, mode_named, importing}

-- ---- each form of expression

-- node next(a : int) returns (o : int); let o = a + 1; tel
-- node late(i : int) returns (o : int); let o = 0 -> pre i; tel
abbrev pub late_part : Component
late_part =
    declares (codes "late") (number_named "i" ∷ []) (number_named "o" ∷ []) [] None
    (sets "o" (followed 1 (literal 0) (previous 1 (the "i"))) ∷ [])

-- node main(c, u : bool; x : int) returns (r, a, p, g, h, q, w, v, m : int; z : bool);
-- (*@contract mode positive (require r > 0;); *) var k, d : bool; b, l : int when d;
-- let r = x + 1; k = u; d = c;
--   a = -r; p = next(r); g = condact(k, next(x), 0); h = condact(c, next(r), 0); b = r when d;
--   m = merge d (true -> b) (false -> r when not d); z = ::positive;
--   q = pre r; w = late(r); v = condact(c, late(r), 0); tel
-- a, p, h, b, m and z need r, and g needs k. b, m and l, which has no equation, need d. q, w and v need neither r nor, but for its clock, anything else
-- than c.
abbrev pub needing_node : Component
needing_node =
    declares (codes "main") (flag_named "c" ∷ flag_named "u" ∷ number_named "x" ∷ [])
    (number_named "r"
    ∷ number_named "a"
    ∷ number_named "p"
    ∷ number_named "g"
    ∷ number_named "h"
    ∷ number_named "q"
    ∷ number_named "w"
    ∷ number_named "v"
    ∷ number_named "m"
    ∷ flag_named "z"
    ∷ []) (flag_named "k" ∷ flag_named "d" ∷ on "d" (number_named "b") ∷ on "d" (number_named "l") ∷ [])
    (Some (mode_named "positive" (unlabelled (combined More (the "r") (literal 0)) ∷ []) [] ∷ []))
    (sets "r" (combined Add (the "x") (literal 1))
    ∷ sets "k" (the "u")
    ∷ sets "d" (the "c")
    ∷ sets "a" (opposite (the "r"))
    ∷ sets "p" (calling 1 "next" (the "r" ∷ []))
    ∷ sets "g" (calling_while 2 (the "k") "next" (the "x" ∷ []) (literal 0 ∷ []))
    ∷ sets "h" (calling_while 3 (the "c") "next" (the "r" ∷ []) (literal 0 ∷ []))
    ∷ sets "b" (when_true (the "r") "d")
    ∷ sets "m" (merged_on "d" (the "b") (when_false (the "r") "d"))
    ∷ sets "z" (own_mode "positive")
    ∷ sets "q" (previous 1 (the "r"))
    ∷ sets "w" (calling 4 "late" (the "r" ∷ []))
    ∷ sets "v" (calling_while 5 (the "c") "late" (the "r" ∷ []) (literal 0 ∷ []))
    ∷ [])

abbrev pub needing : Instance
needing = instance_of (declared_node next ∷ declared_node late_part ∷ declared_node needing_node ∷ []) needing_node

-- ---- circles

-- contract C(a : int) returns (o : bool); let mode m (require o;); tel
abbrev pub required_output : Component
required_output = declares (codes "C") (number_named "a" ∷ []) (flag_named "o" ∷ []) []
    (Some (mode_named "m" (unlabelled (the "o") ∷ []) [] ∷ [])) []

-- node main(x : int) returns (y : bool); (*@contract import C(x) returns (y); *) let y = not ::C::m; tel
-- y needs the mode, which needs o, which is y.
abbrev pub import_mode_node : Component
import_mode_node = declares (codes "main") (number_named "x" ∷ []) (flag_named "y" ∷ []) []
    (Some (importing 1 "C" (the "x" ∷ []) ("y" ∷ []) ∷ [])) (sets "y" (negated (mode_of "C" "m")) ∷ [])

abbrev pub import_mode_circle : Instance
import_mode_circle =
    instance_of (declared_contract required_output ∷ declared_node import_mode_node ∷ []) import_mode_node

-- the same with `y = true -> pre ::C::m`, where y needs nothing but its clock
abbrev pub late_mode_node : Component
late_mode_node =
    declares (codes "main") (number_named "x" ∷ []) (flag_named "y" ∷ []) []
    (Some (importing 1 "C" (the "x" ∷ []) ("y" ∷ []) ∷ []))
    (sets "y" (followed 1 (truth_of true) (previous 1 (mode_of "C" "m"))) ∷ [])

abbrev pub late_mode : Instance
late_mode = instance_of (declared_contract required_output ∷ declared_node late_mode_node ∷ []) late_mode_node

-- node main() returns (y : bool); (*@contract mode m (require y;); *) let y = not ::m; tel
abbrev pub own_mode_node : Component
own_mode_node = declares (codes "main") [] (flag_named "y" ∷ []) []
    (Some (mode_named "m" (unlabelled (the "y") ∷ []) [] ∷ [])) (sets "y" (negated (own_mode "m")) ∷ [])

abbrev pub own_mode_circle : Instance
own_mode_circle = instance_of (declared_node own_mode_node ∷ []) own_mode_node

-- node same(b : bool) returns (o : bool); let o = b; tel
abbrev pub same_node : Component
same_node = declares (codes "same") (flag_named "b" ∷ []) (flag_named "o" ∷ []) [] None (sets "o" (the "b") ∷ [])

-- node main(x : bool) returns (y : bool); let y = condact(y, same(x), false); tel
abbrev pub condition_node : Component
condition_node = declares (codes "main") (flag_named "x" ∷ []) (flag_named "y" ∷ []) [] None
    (sets "y" (calling_while 1 (the "y") "same" (the "x" ∷ []) (truth_of false ∷ [])) ∷ [])

abbrev pub condition_circle : Instance
condition_circle = instance_of (declared_node same_node ∷ declared_node condition_node ∷ []) condition_node

-- node main(x : bool) returns (y : bool); let y = condact(x, same(y), false); tel
abbrev pub argument_node : Component
argument_node = declares (codes "main") (flag_named "x" ∷ []) (flag_named "y" ∷ []) [] None
    (sets "y" (calling_while 1 (the "x") "same" (the "y" ∷ []) (truth_of false ∷ [])) ∷ [])

abbrev pub argument_circle : Instance
argument_circle = instance_of (declared_node same_node ∷ declared_node argument_node ∷ []) argument_node

-- node main(x : bool) returns (y : bool); let y = merge y (true -> x when y) (false -> x when not y); tel
abbrev pub merge_node : Component
merge_node = declares (codes "main") (flag_named "x" ∷ []) (flag_named "y" ∷ []) [] None
    (sets "y" (merged_on "y" (when_true (the "x") "y") (when_false (the "x") "y")) ∷ [])

abbrev pub merge_circle : Instance
merge_circle = instance_of (declared_node merge_node ∷ []) merge_node

-- node main(x : bool) returns (y : bool); var s : bool when y;
-- let s = true; y = merge x (true -> same(x when x)) (false -> false); tel
-- s needs y by its clock alone; y does not need s.
abbrev pub clocked_node : Component
clocked_node =
    declares (codes "main") (flag_named "x" ∷ []) (flag_named "y" ∷ []) (on "y" (flag_named "s") ∷ []) None
    (sets "s" (truth_of true)
    ∷ sets "y" (merged_on "x" (calling 1 "same" (when_true (the "x") "x" ∷ [])) (truth_of false))
    ∷ [])

abbrev pub clocked : Instance
clocked = instance_of (declared_node same_node ∷ declared_node clocked_node ∷ []) clocked_node

-- ---- orders of equations

-- node main(c : bool; x : int) returns (p, q, r : int); let p = next(q); q = condact(c, next(r), 0); r = -x; tel
abbrev pub chained_node : Component
chained_node =
    declares (codes "main") (flag_named "c" ∷ number_named "x" ∷ [])
    (number_named "p" ∷ number_named "q" ∷ number_named "r" ∷ []) [] None
    (sets "p" (calling 1 "next" (the "q" ∷ []))
    ∷ sets "q" (calling_while 2 (the "c") "next" (the "r" ∷ []) (literal 0 ∷ []))
    ∷ sets "r" (opposite (the "x"))
    ∷ [])

abbrev pub chained : Instance
chained = instance_of (declared_node next ∷ declared_node chained_node ∷ []) chained_node

-- node main(x : int) returns (p, q : int); let p = x; q = -x; tel
abbrev pub apart_node : Component
apart_node =
    declares (codes "main") (number_named "x" ∷ []) (number_named "p" ∷ number_named "q" ∷ []) [] None
    (sets "p" (the "x") ∷ sets "q" (opposite (the "x")) ∷ [])

abbrev pub apart : Instance
apart = instance_of (declared_node apart_node ∷ []) apart_node
