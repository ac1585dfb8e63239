-- Worked rows of what is read off the tree: first tokens, numbers of occurrences, and the inputs that an output reads now.
use Rattle.std.specs.Prelude.{ℕ, true, List, [], ◌∷◌, Some, None, codes}
use Rattle.lus_tree.specs.declared.expression.Operator.TheVariants.{Add, Equal}
use Rattle.lus_tree.specs.Tree.{Place, Expression, truth, number, name, negation, minus, pre, arrow, binary, choice, sampled, merged, call, condact, mode_name, no_more, Component, guarantee}
use Rattle.meaning_rows.specs.RowParts.{declares, spelled}
use Rattle.meaning_rows.specs.PlacedParts.{from}
use Rattle.meaning_rows.specs.Written.{the, literal, previous, followed, combined, calling_while, flag_named, number_named, defined, with_constants, sets, saying, importing}

-- ---- one expression of each form, which begins in line 2, column 3 and has its own token in line 5, column 7

abbrev pub there : Place
there = from 2 3 5 7

abbrev pub every_form : List Expression
every_form =
    truth there true
    ∷ number there 1
    ∷ name there (codes "x")
    ∷ negation there (the "c")
    ∷ minus there (the "x")
    ∷ pre there 1 (the "x")
    ∷ arrow there 1 (the "x") (the "x")
    ∷ binary there Add (the "x") (the "x")
    ∷ choice there (the "c") (the "x") (the "x")
    ∷ sampled there (the "x") true (spelled (codes "c"))
    ∷ merged there (spelled (codes "c")) (literal 1) (literal 2)
    ∷ call there 1 (spelled (codes "next")) no_more
    ∷ condact there 1 (the "c") (spelled (codes "next")) no_more no_more
    ∷ mode_name there None (spelled (codes "m"))
    ∷ []

-- ---- two occurrences of each kind, with these numbers

-- node main(x : int) returns (y : int); let y = pre x + pre x; tel
abbrev pub two_pres : ℕ → ℕ → Component
two_pres j k = declares (codes "main") (number_named "x" ∷ []) (number_named "y" ∷ []) [] None
    (sets "y" (combined Add (previous j (the "x")) (previous k (the "x"))) ∷ [])

-- node main(x : int) returns (y : int); let y = (1 -> x) + (2 -> x); tel
abbrev pub two_arrows : ℕ → ℕ → Component
two_arrows j k = declares (codes "main") (number_named "x" ∷ []) (number_named "y" ∷ []) [] None
    (sets "y" (combined Add (followed j (literal 1) (the "x")) (followed k (literal 2) (the "x"))) ∷ [])

-- node main(c : bool; x : int) returns (y : int); (*@contract import lim(x) returns (y); *) let y = condact(c, next(x), 7); tel
abbrev pub import_and_condact : ℕ → ℕ → Component
import_and_condact j k = declares (codes "main") (flag_named "c" ∷ number_named "x" ∷ []) (number_named "y" ∷ []) []
    (Some (importing j "lim" (the "x" ∷ []) ("y" ∷ []) ∷ []))
    (sets "y" (calling_while k (the "c") "next" (the "x" ∷ []) (literal 7 ∷ [])) ∷ [])

-- node main(x : int) returns (y : int); (*@contract guarantee "g" pre x = y; *) let y = pre x; tel
abbrev pub contract_and_body : ℕ → ℕ → Component
contract_and_body j k = declares (codes "main") (number_named "x" ∷ []) (number_named "y" ∷ []) []
    (Some (guarantee (saying "g" (combined Equal (previous j (the "x")) (the "y"))) ∷ []))
    (sets "y" (previous k (the "x")) ∷ [])

-- node main(c : bool; x : int) returns (y : int); let y = condact(c, next(x), 1 -> 2) + (3 -> x); tel
-- A default has to be constant, but its arrow is counted.
abbrev pub default_and_body : ℕ → ℕ → Component
default_and_body j k = declares (codes "main") (flag_named "c" ∷ number_named "x" ∷ []) (number_named "y" ∷ []) [] None
    (sets "y" (combined Add (calling_while 1 (the "c") "next" (the "x" ∷ []) (followed j (literal 1) (literal 2) ∷ []))
    (followed k (literal 3) (the "x"))) ∷ [])

-- node main(x : int) returns (y : int); const N = 1 -> 2; let y = 3 -> x; tel
abbrev pub constant_and_body : ℕ → ℕ → Component
constant_and_body j k = with_constants (defined "N" (followed j (literal 1) (literal 2)) ∷ [])
    (declares (codes "main") (number_named "x" ∷ []) (number_named "y" ∷ []) [] None (sets "y" (followed k (literal 3) (the "x")) ∷ []))
