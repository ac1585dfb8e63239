-- How many properties a declaration has, by its own text and what is counted of its callees' contracts.
use Rattle.std.specs.Prelude.{◌≡◌, ℕ, suc, pred, ◌+◌, min, List, [], ◌∷◌, map, flat_map, length, slice_index_or}
use Rattle.lus_tree.specs.Tree.{Name, Statement, property, ContractStatement, assume, guarantee, ghost_variable, constant, mode, «import», Program}
use Rattle.lus_meaning.specs.Scene.{Manner, plain, while_true, as_import, Site, contract_statements}
use Rattle.lus_meaning.specs.Program.{all_sites, instance_of}
use Rattle.lus_meaning.specs.Contract.{Terms, terms}
use Rattle.lus_meaning.specs.Property.{properties}
use Rattle.lus_meaning.specs.RuleLaws.{OfEach}
use Rattle.lus_limits.specs.Instances.{instance_called_so}

-- how many assumptions, guarantees, ensures and modes a contract has, those of its imports too
pub record Counts : Type 0 where
  pub assumes : ℕ
  pub guarantees : ℕ
  pub ensures : ℕ
  pub modes : ℕ

abbrev pub none_counted : Counts
none_counted = record { assumes = 0; guarantees = 0; ensures = 0; modes = 0 }

abbrev pub with_counts : Counts → Counts → Counts
with_counts a b = record {
  assumes = a.assumes + b.assumes;
  guarantees = a.guarantees + b.guarantees;
  ensures = a.ensures + b.ensures;
  modes = a.modes + b.modes;
}

abbrev pub counted : Terms → Counts
counted t = record {
  assumes = length t.assumes;
  guarantees = length t.guarantees;
  ensures = length (flat_map (λ m. m.ensures_each) t.modes);
  modes = length t.modes;
}

abbrev pub one_assumption : Counts
one_assumption = record none_counted { assumes = 1 }

abbrev pub one_guarantee : Counts
one_guarantee = record none_counted { guarantees = 1 }

-- a mode with so many ensures
abbrev pub one_mode : ℕ → Counts
one_mode k = record none_counted { ensures = k; modes = 1 }

-- of a statement, where imports have counts by their numbers
abbrev pub statement_counts : (ℕ → Counts) → ContractStatement → Counts
statement_counts sub (assume l) = one_assumption
statement_counts sub (guarantee l) = one_guarantee
statement_counts sub (ghost_variable v e) = none_counted
statement_counts sub (constant c) = none_counted
statement_counts sub (mode m rs es) = one_mode (length es)
statement_counts sub («import» k c as_ xs) = sub k

abbrev pub contract_counts : (ℕ → Counts) → List ContractStatement → Counts
contract_counts sub [] = none_counted
contract_counts sub (c ∷ cs) = with_counts (statement_counts sub c) (contract_counts sub cs)

-- the counts of the call or import with that number
abbrev pub counts_at : (Name → Counts) → List Site → ℕ → Counts
counts_at f ss k = slice_index_or (map (λ s. f s.callee) ss) (pred k) none_counted

abbrev pub callee_counts : Program → Name → Counts
callee_counts p x = counted (terms (instance_called_so p x))

abbrev pub ContractByText : Type 0
ContractByText =
    OfEach (λ p n. counted (terms (instance_of p n))
    ≡ contract_counts (counts_at (callee_counts p) (all_sites n)) (contract_statements n))

-- how many properties stand in a body
abbrev pub body_count : List Statement → ℕ
body_count [] = 0
body_count (property l ∷ ss) = suc (body_count ss)
body_count (_ ∷ ss) = body_count ss

-- what a caller owes a callee: its assumptions; nothing to an import
abbrev pub owed_count : Manner → Counts → ℕ
owed_count (as_import xs) c = 0
owed_count plain c = c.assumes
owed_count (while_true a) c = c.assumes

abbrev pub owed_counts : (Name → Counts) → List Site → ℕ
owed_counts f [] = 0
owed_counts f (s ∷ ss) = owed_count s.manner (f s.callee) + owed_counts f ss

-- those of the body, the guarantees, the ensures, that a mode is active where there is one, and what is owed
abbrev pub property_count : List Statement → Counts → ℕ → ℕ
property_count ss c owed = body_count ss + (c.guarantees + (c.ensures + (min 1 c.modes + owed)))

abbrev pub PropertiesByText : Type 0
PropertiesByText =
    OfEach (λ p n. length (properties (instance_of p n))
    ≡ property_count n.body (counted (terms (instance_of p n))) (owed_counts (callee_counts p) (all_sites n)))

-- each count up to a bound
abbrev pub cut_counts : ℕ → Counts → Counts
cut_counts k c = record {
  assumes = min k c.assumes;
  guarantees = min k c.guarantees;
  ensures = min k c.ensures;
  modes = min k c.modes;
}

-- counts up to a bound are known from counts that are cut there
abbrev pub CountCuts : Type 0
CountCuts = (k : ℕ) (a b : Counts) → cut_counts k (with_counts a b) ≡ cut_counts k (with_counts (cut_counts k a) (cut_counts k b))

abbrev pub PropertyCuts : Type 0
PropertyCuts =
    (k : ℕ) (ss : List Statement) (c : Counts) (owed : ℕ) → min (suc k) (property_count ss c owed)
    ≡ min (suc k) (property_count ss (cut_counts (suc k) c) (min (suc k) owed))
