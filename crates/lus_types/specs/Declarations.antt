-- The faults of declarations, those of circles left aside, and these behind all others.
use Rattle.std.specs.Prelude.{ℕ, suc, List, [], ◌∷◌, ◌++◌}
use Rattle.lus_tree.specs.Tree.{Spelled, Component, Declaration, declared_constant, declared_node, declared_contract, Program}
use Rattle.lus_tree.specs.Reason.{Refused, name_twice}
use Rattle.lus_meaning.specs.Scene.{contract_statements}
use Rattle.lus_meaning.specs.Scope.{Home, body_scope}
use Rattle.lus_meaning.specs.Faults.{words_twice}
use Rattle.lus_meaning.specs.ExpressionFaults.{definition_faults}
use Rattle.lus_meaning.specs.NameFaults.{assumption_faults, body_faults, constant_words, contract_faults, home, labels_twice, mode_words, outer_scope, outer_twice, own_words, state_faults}

-- names that stand twice, and those that are constants of the program
abbrev pub own_twice : List Spelled → Component → List Refused
own_twice outer n = words_twice name_twice (own_words n) ++ outer_twice outer (own_words n)

-- modes and labels that stand twice
abbrev pub marks_twice : Component → List Refused
marks_twice n = words_twice name_twice (mode_words (contract_statements n)) ++ labels_twice n

-- what stands in the contract and in the body
abbrev pub inner_faults : Home → List Refused
inner_faults h = contract_faults h [] (contract_statements h.owner) ++ (body_faults h ++ assumption_faults (body_scope h))

-- all but those of circles
abbrev pub alone_faults : Home → List Spelled → List Refused
alone_faults h outer = own_twice outer h.owner ++ (marks_twice h.owner ++ (state_faults h.program h.owner ++ inner_faults h))

-- of a declaration behind so many constants
abbrev pub alone_of : Program → ℕ → Declaration → List Refused
alone_of p k (declared_constant c) = definition_faults (outer_scope p k) c.sort c.value
alone_of p k (declared_node n) = alone_faults (home p k n) (constant_words p)
alone_of p k (declared_contract n) = alone_faults (home p k n) (constant_words p)

abbrev pub after : ℕ → Declaration → ℕ
after k (declared_constant c) = suc k
after k (declared_node n) = k
after k (declared_contract n) = k

abbrev pub alone_from : Program → ℕ → List Declaration → List Refused
alone_from p k [] = []
alone_from p k (d ∷ ds) = alone_of p k d ++ alone_from p (after k d) ds
