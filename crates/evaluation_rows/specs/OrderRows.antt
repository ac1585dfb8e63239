-- Worked rows of the order in which an instant is evaluated.
use Rattle.std.specs.Prelude.{◌≡◌, ℕ, List, [], ◌∷◌, map, Some, None, codes}
use Rattle.lus_tree.specs.declared.expression.Operator.TheVariants.{Add, Sub, Mul, More}
use Rattle.lus_tree.specs.Tree.{Expression, Component, declared_node, declared_contract, assertion, assume, guarantee, ghost_variable}
use Rattle.lus_meaning.specs.Scene.{Instance}
use Rattle.lus_meaning.specs.Program.{instance_of}
use Rattle.meaning_rows.specs.RowParts.{declares, unlabelled}
use Rattle.meaning_rows.specs.Written.{the, literal, opposite, combined, chosen, previous, followed, calling, calling_while, own_mode, flag_named, number_named, sets, checked, mode_named, importing}
use Rattle.meaning_rows.specs.CallRows.{next}
use Rattle.lus_evaluation.specs.Part.{Part}
use Rattle.lus_evaluation.specs.Evaluation.{IsEvaluation}
use Rattle.evaluation_rows.specs.Orders.{OrderTree, order_tree, no_trees, with_tree}

-- what is evaluated: the calls on the way, and the expression
abbrev pub Evaluated : Type 0
Evaluated = List (List ℕ × Expression)

abbrev pub shown : List Part → Evaluated
shown qs = map (λ q. (q.way, q.expression)) qs

-- the parts of the evaluation are these, in this order
pub record Evaluates (i : Instance) (es : Evaluated) : Type 0 where
  pub parts : List Part
  pub evaluation : IsEvaluation i parts
  pub are : shown parts ≡ es

-- an expression of the analysed declaration, and one of the frame of its first call or import
abbrev pub main : Expression → List ℕ × Expression
main e = ([], e)

abbrev pub below : Expression → List ℕ × Expression
below e = (1 ∷ [], e)

-- ---- operands

-- node main(a, b : int) returns (y : int); let y = a * 2 + -b; tel
abbrev pub sum : Expression
sum = combined Add (combined Mul (the "a") (literal 2)) (opposite (the "b"))

abbrev pub operating_node : Component
operating_node =
    declares (codes "main") (number_named "a" ∷ number_named "b" ∷ []) (number_named "y" ∷ []) [] None (sets "y" sum ∷ [])

abbrev pub operating : Instance
operating = instance_of (declared_node operating_node ∷ []) operating_node

abbrev pub operating_parts : Evaluated
operating_parts =
    main (the "a")
    ∷ main (literal 2)
    ∷ main (combined Mul (the "a") (literal 2))
    ∷ main (the "b")
    ∷ main (opposite (the "b"))
    ∷ main sum
    ∷ []

-- ---- a callee at its call

-- node next(a : int) returns (o : int); let o = a + 1; tel
-- node main(x : int) returns (y : int); let y = next(x) * 2; tel
abbrev pub doubled : Expression
doubled = combined Mul (calling 1 "next" (the "x" ∷ [])) (literal 2)

abbrev pub calling_node : Component
calling_node = declares (codes "main") (number_named "x" ∷ []) (number_named "y" ∷ []) [] None (sets "y" doubled ∷ [])

abbrev pub calling_next : Instance
calling_next = instance_of (declared_node next ∷ declared_node calling_node ∷ []) calling_node

abbrev pub calling_parts : Evaluated
calling_parts =
    main (the "x")
    ∷ below (the "a")
    ∷ below (literal 1)
    ∷ below (combined Add (the "a") (literal 1))
    ∷ main (calling 1 "next" (the "x" ∷ []))
    ∷ main (literal 2)
    ∷ main doubled
    ∷ []

-- node main(c : bool; x : int) returns (y : int); let y = condact(c, next(x), 0); tel
abbrev pub condact_of_next : Expression
condact_of_next = calling_while 1 (the "c") "next" (the "x" ∷ []) (literal 0 ∷ [])

abbrev pub condact_node : Component
condact_node =
    declares (codes "main") (flag_named "c" ∷ number_named "x" ∷ []) (number_named "y" ∷ []) [] None
    (sets "y" condact_of_next ∷ [])

abbrev pub condact_next : Instance
condact_next = instance_of (declared_node next ∷ declared_node condact_node ∷ []) condact_node

abbrev pub condact_parts : Evaluated
condact_parts =
    main (the "c")
    ∷ main (the "x")
    ∷ below (the "a")
    ∷ below (literal 1)
    ∷ below (combined Add (the "a") (literal 1))
    ∷ main (literal 0)
    ∷ main condact_of_next
    ∷ []

-- ---- an import before the equations, and a part of it that waits for an output

-- contract C(a : int) returns (o : int); let var g : int = o * 3; var h : int = a * 2; guarantee g > h; tel
-- node main(x : int) returns (y : int); (*@contract import C(x + 1) returns (y); *) let y = x - 1; tel
abbrev pub scaled_contract : Component
scaled_contract = declares (codes "C") (number_named "a" ∷ []) (number_named "o" ∷ []) []
    (Some (ghost_variable (number_named "g") (combined Mul (the "o") (literal 3))
    ∷ ghost_variable (number_named "h") (combined Mul (the "a") (literal 2))
    ∷ guarantee (unlabelled (combined More (the "g") (the "h")))
    ∷ [])) []

abbrev pub import_node : Component
import_node =
    declares (codes "main") (number_named "x" ∷ []) (number_named "y" ∷ []) []
    (Some (importing 1 "C" (combined Add (the "x") (literal 1) ∷ []) ("y" ∷ []) ∷ []))
    (sets "y" (combined Sub (the "x") (literal 1)) ∷ [])

abbrev pub with_import : Instance
with_import = instance_of (declared_contract scaled_contract ∷ declared_node import_node ∷ []) import_node

abbrev pub import_parts : Evaluated
import_parts =
    main (the "x")
    ∷ main (literal 1)
    ∷ main (combined Add (the "x") (literal 1))
    ∷ below (the "a")
    ∷ below (literal 2)
    ∷ below (combined Mul (the "a") (literal 2))
    ∷ main (the "x")
    ∷ main (literal 1)
    ∷ main (combined Sub (the "x") (literal 1))
    ∷ below (the "o")
    ∷ below (literal 3)
    ∷ below (combined Mul (the "o") (literal 3))
    ∷ below (the "g")
    ∷ below (the "h")
    ∷ below (combined More (the "g") (the "h"))
    ∷ []

-- ---- late parts

-- node main(x : int) returns (y, w : int); var z : int; let y = 0 -> pre (z * 3); z = x * 2; w = z + 1; tel
abbrev pub tripled : Expression
tripled = combined Mul (the "z") (literal 3)

abbrev pub late_node : Component
late_node =
    declares (codes "main") (number_named "x" ∷ []) (number_named "y" ∷ number_named "w" ∷ []) (number_named "z" ∷ []) None
    (sets "y" (followed 1 (literal 0) (previous 1 tripled))
    ∷ sets "z" (combined Mul (the "x") (literal 2))
    ∷ sets "w" (combined Add (the "z") (literal 1))
    ∷ [])

abbrev pub late_pre : Instance
late_pre = instance_of (declared_node late_node ∷ []) late_node

abbrev pub late_parts : Evaluated
late_parts =
    main (literal 0)
    ∷ main (previous 1 tripled)
    ∷ main (followed 1 (literal 0) (previous 1 tripled))
    ∷ main (the "x")
    ∷ main (literal 2)
    ∷ main (combined Mul (the "x") (literal 2))
    ∷ main (the "z")
    ∷ main (literal 3)
    ∷ main tripled
    ∷ main (the "z")
    ∷ main (literal 1)
    ∷ main (combined Add (the "z") (literal 1))
    ∷ []

-- node late(i : int) returns (o : int); var q : int; let o = 0 -> pre (q + 1); q = i * 2; tel
-- node main(x : int) returns (y : int); var z : int; let y = late(z) - 1; z = x - 3; tel
abbrev pub more_than_q : Expression
more_than_q = combined Add (the "q") (literal 1)

abbrev pub late_callee : Component
late_callee =
    declares (codes "late") (number_named "i" ∷ []) (number_named "o" ∷ []) (number_named "q" ∷ []) None
    (sets "o" (followed 1 (literal 0) (previous 1 more_than_q)) ∷ sets "q" (combined Mul (the "i") (literal 2)) ∷ [])

abbrev pub late_call : Expression
late_call = calling 1 "late" (the "z" ∷ [])

abbrev pub late_call_node : Component
late_call_node = declares (codes "main") (number_named "x" ∷ []) (number_named "y" ∷ []) (number_named "z" ∷ []) None
    (sets "y" (combined Sub late_call (literal 1)) ∷ sets "z" (combined Sub (the "x") (literal 3)) ∷ [])

abbrev pub calling_late : Instance
calling_late = instance_of (declared_node late_callee ∷ declared_node late_call_node ∷ []) late_call_node

abbrev pub late_call_parts : Evaluated
late_call_parts =
    below (literal 0)
    ∷ below (previous 1 more_than_q)
    ∷ below (followed 1 (literal 0) (previous 1 more_than_q))
    ∷ main late_call
    ∷ main (literal 1)
    ∷ main (combined Sub late_call (literal 1))
    ∷ main (the "x")
    ∷ main (literal 3)
    ∷ main (combined Sub (the "x") (literal 3))
    ∷ main (the "z")
    ∷ below (the "i")
    ∷ below (literal 2)
    ∷ below (combined Mul (the "i") (literal 2))
    ∷ below (the "q")
    ∷ below (literal 1)
    ∷ below more_than_q
    ∷ []

-- node square(b : int) returns (o : int); let o = b * b; tel
-- node delayed(i : int) returns (y : int); let y = 0 -> pre i; tel
-- node main(d, b : int) returns (x : int); let x = delayed(x + condact(d * d > 0, square(b), 0)); tel
abbrev pub square : Component
square =
    declares (codes "square") (number_named "b" ∷ []) (number_named "o" ∷ []) [] None (sets "o" (combined Mul (the "b") (the "b")) ∷ [])

abbrev pub delayed : Component
delayed =
    declares (codes "delayed") (number_named "i" ∷ []) (number_named "y" ∷ []) [] None
    (sets "y" (followed 1 (literal 0) (previous 1 (the "i"))) ∷ [])

abbrev pub squared_condition : Expression
squared_condition = combined More (combined Mul (the "d") (the "d")) (literal 0)

abbrev pub condact_of_square : Expression
condact_of_square = calling_while 2 squared_condition "square" (the "b" ∷ []) (literal 0 ∷ [])

abbrev pub late_sum : Expression
late_sum = combined Add (the "x") condact_of_square

abbrev pub late_condact_node : Component
late_condact_node =
    declares (codes "main") (number_named "d" ∷ number_named "b" ∷ []) (number_named "x" ∷ []) [] None
    (sets "x" (calling 1 "delayed" (late_sum ∷ [])) ∷ [])

abbrev pub late_condact : Instance
late_condact = instance_of (declared_node square ∷ declared_node delayed ∷ declared_node late_condact_node ∷ []) late_condact_node

-- an expression of the frame of the second call
abbrev pub in_square : Expression → List ℕ × Expression
in_square e = (2 ∷ [], e)

-- the sum waits for `x`, and the condact with it; its condition and its callee do not
abbrev pub late_condact_parts : Evaluated
late_condact_parts =
    main (the "d")
    ∷ main (the "d")
    ∷ main (combined Mul (the "d") (the "d"))
    ∷ main (literal 0)
    ∷ main squared_condition
    ∷ main (the "b")
    ∷ in_square (the "b")
    ∷ in_square (the "b")
    ∷ in_square (combined Mul (the "b") (the "b"))
    ∷ below (literal 0)
    ∷ below (previous 1 (the "i"))
    ∷ below (followed 1 (literal 0) (previous 1 (the "i")))
    ∷ main (calling 1 "delayed" (late_sum ∷ []))
    ∷ main (the "x")
    ∷ main (literal 0)
    ∷ main condact_of_square
    ∷ main late_sum
    ∷ below (the "i")
    ∷ []

-- ---- conditions

-- node positive(a : int) returns (o : bool); let assert a > 0; o = a > 1; tel
-- node main(x : int) returns (y : int); (*@contract assume x > 2; *) let y = -x; check "one" positive(y); tel
abbrev pub positive : Component
positive = declares (codes "positive") (number_named "a" ∷ []) (flag_named "o" ∷ []) [] None
    (assertion (combined More (the "a") (literal 0)) ∷ sets "o" (combined More (the "a") (literal 1)) ∷ [])

abbrev pub condition_node : Component
condition_node = declares (codes "main") (number_named "x" ∷ []) (number_named "y" ∷ []) []
    (Some (assume (unlabelled (combined More (the "x") (literal 2))) ∷ []))
    (sets "y" (opposite (the "x")) ∷ checked "one" (calling 1 "positive" (the "y" ∷ [])) ∷ [])

abbrev pub with_conditions : Instance
with_conditions = instance_of (declared_node positive ∷ declared_node condition_node ∷ []) condition_node

-- the call stands in no equation, so it is evaluated before the assertion in it, and again with the property
abbrev pub condition_parts : Evaluated
condition_parts =
    main (the "x")
    ∷ main (opposite (the "x"))
    ∷ main (the "x")
    ∷ main (literal 2)
    ∷ main (combined More (the "x") (literal 2))
    ∷ main (the "y")
    ∷ below (the "a")
    ∷ below (literal 1)
    ∷ below (combined More (the "a") (literal 1))
    ∷ below (the "a")
    ∷ below (literal 0)
    ∷ below (combined More (the "a") (literal 0))
    ∷ main (the "y")
    ∷ below (the "a")
    ∷ below (literal 1)
    ∷ below (combined More (the "a") (literal 1))
    ∷ main (calling 1 "positive" (the "y" ∷ []))
    ∷ []

-- node main(x : int) returns (y : int); (*@contract mode m (require x > 0; ensure y > 1;); *)
-- let y = if ::m then x else 2; tel
abbrev pub required : Expression
required = combined More (the "x") (literal 0)

abbrev pub by_mode : Expression
by_mode = chosen (own_mode "m") (the "x") (literal 2)

abbrev pub mode_node : Component
mode_node = declares (codes "main") (number_named "x" ∷ []) (number_named "y" ∷ []) []
    (Some (mode_named "m" (unlabelled required ∷ []) (unlabelled (combined More (the "y") (literal 1)) ∷ []) ∷ []))
    (sets "y" by_mode ∷ [])

abbrev pub with_mode : Instance
with_mode = instance_of (declared_node mode_node ∷ []) mode_node

-- what the mode requires comes where it is named, before the ensure, and for the property that a mode is active
abbrev pub mode_parts : Evaluated
mode_parts =
    main (the "x")
    ∷ main (literal 0)
    ∷ main required
    ∷ main (own_mode "m")
    ∷ main (the "x")
    ∷ main (literal 2)
    ∷ main by_mode
    ∷ main (the "x")
    ∷ main (literal 0)
    ∷ main required
    ∷ main (the "y")
    ∷ main (literal 1)
    ∷ main (combined More (the "y") (literal 1))
    ∷ main (the "x")
    ∷ main (literal 0)
    ∷ main required
    ∷ []

-- ---- the orders of the equations

abbrev pub one_equation : OrderTree
one_equation = order_tree (0 ∷ []) no_trees

abbrev pub in_one_call : OrderTree
in_one_call = order_tree (0 ∷ []) (with_tree one_equation no_trees)
