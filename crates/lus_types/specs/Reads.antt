-- What assumptions read at their own instant, by the numbers of names.
use Rattle.std.specs.Prelude.{Bool, true, cond, ◌&&◌, List, [], ◌∷◌, ◌++◌, map, flat_map, set, ◌≡◌}
use Rattle.lus_tree.specs.Tree.{Name, Spelled, Expression, Expressions, truth, number, name, negation, minus, pre, arrow, binary, choice, sampled, merged, call, condact, mode_name, no_more, more, ContractStatement, ghost_variable}
use Rattle.lus_tree.specs.Reason.{Refused, assume_reads_output}
use Rattle.lus_meaning.specs.Depends.{named_in}
use Rattle.lus_meaning.specs.Faults.{if_so}
use Rattle.lus_meaning.specs.Scope.{Scope, holds_of, is_ghost_role}
use Rattle.name_table.specs.Names.{add, number_of}
use Rattle.lus_types.specs.declared.reads.Read.{Read}
use Rattle.lus_types.specs.Called.{link_of}
use Rattle.lus_types.specs.Marks.{Row, is_marked}

abbrev pub read_view : Read → Spelled
read_view r = record { text = r.text.now; at = r.at }

-- the reads are those before, and these behind them
abbrev pub ReadsOn : List Read → List Read → List Spelled → Type 0
ReadsOn old new ws = map read_view new ≡ map read_view old ++ ws

-- the names that an expression reads at its own instant
abbrev mutual
  pub read_in : Expression → List Spelled
  read_in (truth p b) = []
  read_in (number p n) = []
  read_in (name p x) = record { text = x; at = p.at } ∷ []
  read_in (negation p a) = read_in a
  read_in (minus p a) = read_in a
  read_in (pre p k a) = []
  read_in (arrow p k a b) = read_in a ++ read_in b
  read_in (binary p o a b) = read_in a ++ read_in b
  read_in (choice p a b c) = read_in a ++ (read_in b ++ read_in c)
  read_in (sampled p a b x) = read_in a ++ x ∷ []
  read_in (merged p x a b) = x ∷ read_in a ++ read_in b
  read_in (call p k f as_) = read_among as_
  read_in (condact p k a f as_ ds) = read_in a ++ (read_among as_ ++ read_among ds)
  read_in (mode_name p c m) = []

  pub read_among : Expressions → List Spelled
  read_among no_more = []
  read_among (more a as_) = read_in a ++ read_among as_

-- the name that it reads, its parts left aside
abbrev pub read_of : Expression → List Spelled
read_of (name p x) = record { text = x; at = p.at } ∷ []
read_of (sampled p a b x) = x ∷ []
read_of (merged p x a b) = x ∷ []
read_of _ = []

-- a ghost variable with what it reads
abbrev pub Reading : Type 0
Reading = Name × List Spelled

abbrev pub ghost_readings : Scope → ContractStatement → List Reading
ghost_readings s (ghost_variable v e) = cond (holds_of (λ e. is_ghost_role e.role) s v.name.text) ((v.name.text, read_in e) ∷ []) []
ghost_readings s _ = []

abbrev pub reading_row : List Name → Reading → Row
reading_row t r = (number_of t r.0, flat_map (link_of t) r.1)

-- names behind others, each once
abbrev pub added : List Name → List Name → List Name
added t [] = t
added t (x ∷ xs) = added (add t x) xs

abbrev pub names_read : List Reading → List Name
names_read rs = map (λ r. r.0) rs

-- the numbers of these are marked
abbrev pub seeded : List Name → List Bool → List Name → List Bool
seeded t marks [] = marks
seeded t marks (x ∷ xs) = seeded t (set marks (number_of t x) true) xs

abbrev pub is_given : List Name → List Bool → Name → Bool
is_given t marks x = named_in x t && is_marked marks (number_of t x)

abbrev pub read_faults : List Name → List Bool → List Spelled → List Refused
read_faults t marks ws = flat_map (λ w. if_so (is_given t marks w.text) assume_reads_output w.at) ws
