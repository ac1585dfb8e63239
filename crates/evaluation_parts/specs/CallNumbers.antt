-- The numbers of the calls that stand in the texts that are evaluated with a frame.
use Rattle.std.specs.Prelude.{ℕ, Bool, true, List, [], ◌∷◌, ◌++◌, flat_map, ◌==◌}
use Rattle.std.specs.List.{list_any}
use Rattle.lus_tree.specs.Tree.{Expression, Expressions, truth, number, name, negation, minus, pre, arrow, binary, choice, sampled, merged, call, condact, mode_name, no_more, more, Statement, equation, assertion, property, main_mark, ContractStatement, assume, guarantee, ghost_variable, constant, mode, «import», Component}
use Rattle.lus_meaning.specs.Scene.{Manner, plain, while_true, as_import, contract_statements}

abbrev mutual
  pub call_numbers : Expression → List ℕ
  call_numbers (truth p b) = []
  call_numbers (number p n) = []
  call_numbers (name p x) = []
  call_numbers (negation p a) = call_numbers a
  call_numbers (minus p a) = call_numbers a
  call_numbers (pre p k a) = call_numbers a
  call_numbers (arrow p k a b) = call_numbers a ++ call_numbers b
  call_numbers (binary p o a b) = call_numbers a ++ call_numbers b
  call_numbers (choice p a b d) = call_numbers a ++ (call_numbers b ++ call_numbers d)
  call_numbers (sampled p a b x) = call_numbers a
  call_numbers (merged p x a b) = call_numbers a ++ call_numbers b
  call_numbers (call p k f as_) = k ∷ call_numbers_among as_
  call_numbers (condact p k a f as_ ds) = k ∷ (call_numbers a ++ (call_numbers_among as_ ++ call_numbers_among ds))
  call_numbers (mode_name p d m) = []

  pub call_numbers_among : Expressions → List ℕ
  call_numbers_among no_more = []
  call_numbers_among (more a as_) = call_numbers a ++ call_numbers_among as_

-- of ghost variables, imports, equations and assertions
abbrev pub clause_numbers : ContractStatement → List ℕ
clause_numbers (ghost_variable x e) = call_numbers e
clause_numbers («import» k c as_ xs) = flat_map call_numbers as_
clause_numbers (assume l) = []
clause_numbers (guarantee l) = []
clause_numbers (constant c) = []
clause_numbers (mode m rs es) = []

abbrev pub statement_numbers : Statement → List ℕ
statement_numbers (equation xs e) = call_numbers e
statement_numbers (assertion e) = call_numbers e
statement_numbers (property l) = []
statement_numbers (main_mark p) = []

abbrev pub numbers_evaluated : Component → List ℕ
numbers_evaluated d = flat_map clause_numbers (contract_statements d) ++ flat_map statement_numbers d.body

abbrev pub has_number : List ℕ → ℕ → Bool
has_number ns k = list_any (λ j. j == k) ns

-- whether a call is an import, or has one of these numbers
abbrev pub is_import_or : List ℕ → ℕ → Manner → Bool
is_import_or ns k (as_import xs) = true
is_import_or ns k plain = has_number ns k
is_import_or ns k (while_true a) = has_number ns k
