-- On which inputs the outputs of nodes and functions depend at the same instant.
use Rattle.std.specs.Prelude.{◌≡◌, ℕ, List, [], ◌∷◌, ◌++◌, Some, Vec, map, option_map, option_to_list, slice_get, unwrap_or}
use Rattle.std.specs.Global.{Global}
use Rattle.lus_tree.specs.Tree.{Variable, Component, Declaration, declared_constant, declared_node, declared_contract, Program}
use Rattle.lus_tree.specs.Lookup.{node_at}
use Rattle.lus_meaning.specs.Cycle.{ReadsNow}
use Rattle.lus_meaning.specs.Program.{instance_of}
use Rattle.lus_order.specs.OutputReads.{AreInputsRead, AreReads}
use Rattle.lus_bounds.specs.Passed.{parts_after}

abbrev pub kept_reads : List (Vec (Vec ℕ Global) Global) → List (List (List ℕ))
kept_reads vs = map (λ v. map (λ r. r.items) v.items) vs

-- ---- of nodes and functions, by those of all declarations with parts

abbrev pub declaration_reads : List (List (List ℕ)) → ℕ → Declaration → List (List (List ℕ))
declaration_reads rs k (declared_constant c) = []
declaration_reads rs k (declared_node n) = option_to_list (slice_get rs k)
declaration_reads rs k (declared_contract n) = []

-- of the declarations in turn, behind so many with parts
abbrev pub node_reads : List (List (List ℕ)) → ℕ → List Declaration → List (List (List ℕ))
node_reads rs k [] = []
node_reads rs k (d ∷ ds) = declaration_reads rs k d ++ node_reads rs (parts_after k d) ds

-- ---- of one

-- the outputs of the node or function with that number
abbrev pub outputs_of : Program → ℕ → List Variable
outputs_of p k = unwrap_or (option_map (λ n. n.outputs) (node_at k p)) []

-- output by output the inputs on which those of the node or function with that number depend
abbrev pub AreReadsOf : Program → ℕ → List (List ℕ) → Type 0
AreReadsOf p k kss = (n : Component) → node_at k p ≡ Some n → AreReads (ReadsNow (instance_of p n)) n.inputs n.outputs kss

-- the inputs on which that output of the node or function with that number depends
abbrev pub AreReadNow : Program → ℕ → ℕ → List ℕ → Type 0
AreReadNow p k o ks =
    (n : Component) → node_at k p ≡ Some n → (v : Variable) → slice_get n.outputs o ≡ Some v
    → AreInputsRead (ReadsNow (instance_of p n) v.name.text) n.inputs ks
