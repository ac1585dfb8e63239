-- A program within its limits has small systems.
use Rattle.std.proofs.Common.{◌≡◌, ℕ, zero, suc, ◌≤◌, ◌<◌, Bool, true, false, cond, List, [], ◌∷◌, ◌++◌, length, Option, Some, option_map, option_to_list, refl, sym, ap, arith}
use Rattle.std.specs.Prelude.{Contains, nat_lt, find}
use Rattle.std.specs.List.{AllByRecursion}
use Rattle.std.proofs.lemmas.Bool.{false≢true}
use Rattle.std.proofs.lemmas.Bool.Decides.{nat_tests}
use Rattle.lus_tree.specs.Tree.{Name, Spelled, Constant, Component, Declaration, declared_constant, declared_node, declared_contract, Program}
use Rattle.lus_tree.specs.Reason.{too_many}
use Rattle.lus_meaning.specs.Program.{instance_of}
use Rattle.lus_meaning.specs.Faults.{fault}
use Rattle.lus_meaning.specs.Property.{properties}
use Rattle.lus_meaning.specs.Slots.{slots, width}
use Rattle.lus_meaning.specs.Limits.{Limit, text_limits, system_limits, limit_fault, limit_faults, main_faults, size_faults}
use Rattle.lus_meaning.specs.Refusals.{IsWithinLimits}
use Rattle.lus_meaning.proofs.Exists.{length_mapped}
use Rattle.lus_meaning.proofs.NamesOnce.{not_nil, empty_of, no_parts}
use Rattle.lus_meaning.proofs.Now.{right_part}
use Rattle.sys_meaning.specs.System.{system_of, shape_of}
use Rattle.term_laws.specs.Laws.{SmallSystems}
use Rattle.term_laws.proofs.Formulas.{has_formulas}

-- no limit of these is passed
abbrev pub NonePassed : List Limit → Type 0
NonePassed ls = AllByRecursion (λ l. l.0 ≡ false) ls

none_passed : (w : Spelled) (ls : List Limit) → limit_fault w ls ≡ [] → NonePassed ls
none_passed w [] e = tt
none_passed w (l ∷ ls) e = go l.0 refl (none_passed w ls) e
  where
    go : (b : Bool) → l.0 ≡ b → (limit_fault w ls ≡ [] → NonePassed ls) →
        option_to_list (option_map (λ limit. fault (too_many limit) w.at) (option_map (λ (k : Limit). k.1) (cond b (Some l) (find (λ k. k.0) ls)))) ≡ [] →
        NonePassed (l ∷ ls)
    go true q r h = not_nil _ _ h
    go false q r h = (q, r h)

-- a number that is not past a limit
pub within : (l n : ℕ) → nat_lt l n ≡ false → n ≤ l
within l n e = grind (arith, nat_tests)

-- ---- declarations of nodes

abbrev is_node : Declaration → Bool
is_node (declared_node m) = true
is_node (declared_constant m) = false
is_node (declared_contract m) = false

pub no_constant : (c : Constant) (n : Component) → declared_constant c ≡ declared_node n → ⊥
no_constant c n q = false≢true (ap is_node q)

pub no_contract : (m n : Component) → declared_contract m ≡ declared_node n → ⊥
no_contract m n q = false≢true (ap is_node q)

abbrev node_or : Component → Declaration → Component
node_or m (declared_node n) = n
node_or m (declared_constant c) = m
node_or m (declared_contract c) = m

pub same_node : (m n : Component) → declared_node m ≡ declared_node n → m ≡ n
same_node m n q = ap (node_or m) q

-- the limits of a node's system
pub node_limits : (p : Program) (k : ℕ) (ds : List Declaration) → limit_faults p k ds ≡ [] → (n : Component) → Contains ds (declared_node n) →
    NonePassed (system_limits (instance_of p n))
node_limits p k [] e n (j, l, q) = absurd (none j l)
  where
    none : (k : ℕ) → k < 0 → ⊥
    none k l = omega arith
node_limits p k (declared_constant c ∷ ds) e n (zero, l, q) = absurd (no_constant c n q)
node_limits p k (declared_constant c ∷ ds) e n (suc j, l, q) = node_limits p k ds e n (j, omega arith, q)
node_limits p k (declared_contract m ∷ ds) e n (zero, l, q) = absurd (no_contract m n q)
node_limits p k (declared_contract m ∷ ds) e n (suc j, l, q) =
    node_limits p (suc k) ds (no_parts (limit_fault m.name (text_limits k m)) _ e).1 n (j, omega arith, q)
node_limits p k (declared_node m ∷ ds) e n (zero, l, q) =
    right_part (λ (l : Limit). l.0 ≡ false) (text_limits k n) (system_limits (instance_of p n))
    (none_passed n.name (text_limits k n ++ system_limits (instance_of p n))
    (rw (sym (same_node m n q)) (no_parts (limit_fault m.name (text_limits k m ++ system_limits (instance_of p m))) _ e).0))
node_limits p k (declared_node m ∷ ds) e n (suc j, l, q) =
    node_limits p (suc k) ds (no_parts (limit_fault m.name (text_limits k m ++ system_limits (instance_of p m))) _ e).1 n (j, omega arith, q)

pub all_limits : (p : Program) (main : Option Name) → IsWithinLimits p main → (n : Component) → Contains p (declared_node n) →
    NonePassed (system_limits (instance_of p n))
all_limits p main w n j =
    node_limits p 0 p (no_parts (main_faults p main) (limit_faults p 0 p) (empty_of (size_faults p main) w)).1 n j

pub small_systems : SmallSystems
small_systems p main w n j =
    let i = instance_of p n in
    let a = all_limits p main w n j in
    let q : length (properties i) ≤ 500 = within 500 (length (properties i)) a.0 in
    let v : length (slots i) ≤ 20000 = within 20000 (width i) a.1.0 in
    let f : length (system_of i).properties ≡ length (properties i) = has_formulas i in
    let s : length (system_of i).shapes ≡ length (slots i) = length_mapped (λ p. shape_of p.sort) (slots i) in
    record { variables = omega (arith, s, v); properties = omega (arith, f, q) }
