-- Worked rows of the layout: what the variables of a system stand for, in their order.
use Prim.Native.String.{String}
use Rattle.std.specs.Prelude.{ℕ, List, [], ◌∷◌, ◌++◌, map, Some, codes}
use Rattle.lus_tree.specs.Tree.{Name, Component, declared_node}
use Rattle.lus_meaning.specs.Scene.{Instance}
use Rattle.lus_meaning.specs.Program.{instance_of}
use Rattle.lus_meaning.specs.Slots.{Cell, beat_cell, name_cell, memory_cell, start_cell, sofar_cell, held_cell, slots}
use Rattle.meaning_rows.specs.RowParts.{declares}
use Rattle.meaning_rows.specs.Written.{the, number_named, sets}

-- A cell by a word and a number: a name, `#` and `>` with the number of the `pre` and of the `->`, and a held output with
-- the number of its call.
abbrev pub Sign : Type 0
Sign = Name × ℕ

abbrev pub sign_of : Cell → Sign
sign_of beat_cell = (codes "beat", 0)
sign_of (name_cell v) = (v.name.text, 0)
sign_of (memory_cell m) = (codes "#", m.number)
sign_of (start_cell s) = (codes ">", s.number)
sign_of sofar_cell = (codes "sofar", 0)
sign_of (held_cell c v d) = (codes "held " ++ v.name.text, c.number)

abbrev pub signs : Instance → List (List ℕ × Sign)
signs i = map (λ s. (s.path, sign_of s.cell)) (slots i)

-- in the frame at the end of a way of calls
abbrev pub words : List ℕ → List String → List (List ℕ × Sign)
words path xs = map (λ x. (path, (codes x, 0))) xs

abbrev pub numbered : List ℕ → String → ℕ → List ℕ × Sign
numbered path x k = (path, (codes x, k))

-- main has no contract; each call of part has its own frame, with what its assumption keeps
abbrev pub two_calls_signs : List (List ℕ × Sign)
two_calls_signs =
    words [] ("beat" ∷ "c" ∷ "x" ∷ "y" ∷ "z" ∷ "s" ∷ [])
    ++ (words (1 ∷ []) ("beat" ∷ "a" ∷ "o" ∷ [])
    ++ (numbered (1 ∷ []) "#" 1 ∷ numbered (1 ∷ []) ">" 1 ∷ numbered (1 ∷ []) "sofar" 0 ∷ []
    ++ (words (2 ∷ []) ("beat" ∷ "a" ∷ "o" ∷ [])
    ++ numbered (2 ∷ []) "#" 1 ∷ numbered (2 ∷ []) ">" 1 ∷ numbered (2 ∷ []) "sofar" 0 ∷ [])))

-- what a condact holds belongs to its caller and stands before its frame; a plain call holds nothing
abbrev pub held_pair_signs : List (List ℕ × Sign)
held_pair_signs =
    words [] ("beat" ∷ "c" ∷ "d" ∷ "x" ∷ "h" ∷ "k" ∷ "m" ∷ "n" ∷ "s" ∷ [])
    ++ (numbered [] "held p" 1 ∷ numbered [] "held q" 1 ∷ []
    ++ (words (1 ∷ []) ("beat" ∷ "a" ∷ "p" ∷ "q" ∷ [])
    ++ (numbered (1 ∷ []) "#" 1 ∷ numbered (1 ∷ []) ">" 1 ∷ numbered [] "held o" 2 ∷ []
    ++ (words (2 ∷ []) ("beat" ∷ "a" ∷ "o" ∷ [])
    ++ (words (3 ∷ []) ("beat" ∷ "a" ∷ "p" ∷ "q" ∷ [])
    ++ numbered (3 ∷ []) "#" 1 ∷ numbered (3 ∷ []) ">" 1 ∷ [])))))

-- a node with a contract keeps whether its assumptions were true, and an import does not
abbrev pub running_signs : List (List ℕ × Sign)
running_signs =
    words [] ("beat" ∷ "c" ∷ "u" ∷ "x" ∷ "y" ∷ "s" ∷ "t" ∷ [])
    ++ (numbered [] "#" 1 ∷ numbered [] "#" 2 ∷ numbered [] "sofar" 0 ∷ []
    ++ (words (1 ∷ []) ("beat" ∷ "b" ∷ "r" ∷ "up" ∷ []) ++ words (2 ∷ []) ("beat" ∷ "a" ∷ "o" ∷ [])))

-- so does a node that runs under a condition
abbrev pub guarding_signs : List (List ℕ × Sign)
guarding_signs =
    words [] ("beat" ∷ "c" ∷ "a" ∷ "h" ∷ [])
    ++ (numbered [] "held o" 1 ∷ [] ++ words (1 ∷ []) ("beat" ∷ "a" ∷ "o" ∷ "sofar" ∷ []))

-- the imports of imports are two calls deep
abbrev pub items_signs : List (List ℕ × Sign)
items_signs =
    words [] ("beat" ∷ "x" ∷ "c" ∷ "y" ∷ "z" ∷ "sofar" ∷ [])
    ++ (words (1 ∷ []) ("beat" ∷ "a" ∷ "o" ∷ [])
    ++ (words (1 ∷ 1 ∷ []) ("beat" ∷ "a" ∷ "o" ∷ [])
    ++ (words (2 ∷ []) ("beat" ∷ "a" ∷ "o" ∷ "sofar" ∷ [])
    ++ (words (2 ∷ 1 ∷ []) ("beat" ∷ "a" ∷ "o" ∷ [])
    ++ (words (2 ∷ 1 ∷ 1 ∷ []) ("beat" ∷ "a" ∷ "o" ∷ [])
    ++ (numbered [] "held o" 3 ∷ []
    ++ (words (3 ∷ []) ("beat" ∷ "a" ∷ "o" ∷ "sofar" ∷ [])
    ++ (words (3 ∷ 1 ∷ []) ("beat" ∷ "a" ∷ "o" ∷ []) ++ words (3 ∷ 1 ∷ 1 ∷ []) ("beat" ∷ "a" ∷ "o" ∷ [])))))))))

-- the four `pre` of mode_memory, in the order of the text
abbrev pub mode_memory_signs : List (List ℕ × Sign)
mode_memory_signs =
    words [] ("beat" ∷ "a" ∷ "b" ∷ "o" ∷ [])
    ++ (numbered [] "#" 1 ∷ numbered [] "#" 2 ∷ numbered [] "#" 3 ∷ numbered [] "#" 4 ∷ words [] ("sofar" ∷ []))

-- node main(x : int) returns (y : int); (*@contract *) let y = x; tel
abbrev pub empty_contract : Component
empty_contract = declares (codes "main") (number_named "x" ∷ []) (number_named "y" ∷ []) [] (Some []) (sets "y" (the "x") ∷ [])

abbrev pub with_empty_contract : Instance
with_empty_contract = instance_of (declared_node empty_contract ∷ []) empty_contract
