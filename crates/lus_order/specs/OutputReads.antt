-- On which inputs the outputs of a declaration depend at the same instant.
use Rattle.std.specs.Prelude.{◌≡◌, ◌↔◌, ℕ, List, [], ◌∷◌, Contains, Some, slice_get}
use Rattle.std.specs.List.Sorted.{IsStrictlyIncreasing}
use Rattle.lus_tree.specs.Tree.{Name, Variable, Component, Program}
use Rattle.lus_meaning.specs.Cycle.{ReadsNow}
use Rattle.lus_meaning.specs.Program.{instance_of}
use Rattle.way_laws.specs.OwnGraph.{Summaries, LeadsTo, own_edges}

-- the input of that number, counted from 0, is read
pub record IsInputRead (Reads : Name → Type 0) (inputs : List Variable) (k : ℕ) : Type 0 where
  pub input : Variable
  pub stands : slice_get inputs k ≡ Some input
  pub read : Reads input.name.text

-- the numbers of exactly those inputs that are read, each once, ascending
pub record AreInputsRead (Reads : Name → Type 0) (inputs : List Variable) (ks : List ℕ) : Type 0 where
  pub ascending : IsStrictlyIncreasing ks
  pub exact : (k : ℕ) → Contains ks k ↔ IsInputRead Reads inputs k

-- output by output
abbrev pub AreReads : (Name → Name → Type 0) → List Variable → List Variable → List (List ℕ) → Type 0
AreReads Reads inputs [] [] = Unit {0}
AreReads Reads inputs (o ∷ os) (ks ∷ kss) = AreInputsRead (Reads o.name.text) inputs ks × AreReads Reads inputs os kss
AreReads Reads inputs _ _ = Prim.⊥

-- declaration by declaration, in the tree of instances
abbrev pub AreAllReads : Program → List Component → List (List (List ℕ)) → Type 0
AreAllReads p [] [] = Unit {0}
AreAllReads p (n ∷ ns) (r ∷ rs) = AreReads (ReadsNow (instance_of p n)) n.inputs n.outputs r × AreAllReads p ns rs
AreAllReads p _ _ = Prim.⊥

-- ---- by own graphs

abbrev pub LeadsOne : Component → Summaries → Name → Name → Type 0
LeadsOne n g o y = LeadsTo (own_edges n g) (o ∷ []) (y ∷ [])

abbrev pub AreReadsByOwn : Summaries → List Component → List (List (List ℕ)) → Type 0
AreReadsByOwn g [] [] = Unit {0}
AreReadsByOwn g (n ∷ ns) (r ∷ rs) = AreReads (LeadsOne n g) n.inputs n.outputs r × AreReadsByOwn g ns rs
AreReadsByOwn g _ _ = Prim.⊥
