-- The numbers of the node that a trace names.
use Rattle.std.proofs.Common.{◌≡◌, ℕ, zero, suc, ◌+◌, ◌<◌, Bool, true, false, cond, List, [], ◌∷◌, length, Some, None, slice_get, refl, ap, arith}
use Rattle.std.specs.Prelude.{Contains}
use Rattle.std.specs.Str.{bytes_eq}
use Rattle.lus_tree.specs.Tree.{Name, Component, Program, declared_constant, declared_node, declared_contract}
use Rattle.lus_tree.specs.Lookup.{nodes_of}
use Rattle.lus_meaning.specs.ClockFaults.{components}
use Rattle.lus_meaning.specs.Fits.{first_named}
use Rattle.program_replay.specs.Named.{Numbered, numbers_from}

none_some : {A : Type 0} (x : A) → None ≡ Some x → ⊥
none_some x e = cc

some_same : {A : Type 0} (x y : A) → Some x ≡ Some y → x ≡ y
some_same x y e = cc

-- behind the first k and j, it has these numbers and is the first of that name
pub record IsFound (k j : ℕ) (x : Name) (p : Program) (m : Numbered) : Type 0 where
  pub number : ℕ
  pub place : ℕ
  pub behind_nodes : m.number ≡ k + number
  pub behind_components : m.place ≡ j + place
  pub node : slice_get (nodes_of p) number ≡ Some m.node
  pub component : slice_get (components p) place ≡ Some m.node
  pub named : first_named x (nodes_of p) ≡ Some m.node

abbrev here : ℕ → ℕ → Component → Numbered
here k j n = record { node = n; number = k; place = j }

node_found : (k j : ℕ) (x : Name) (n : Component) (ds : Program) (m : Numbered)
    → cond (bytes_eq x n.name.text) (Some (here k j n)) (numbers_from (suc k) (suc j) x ds) ≡ Some m
    → (numbers_from (suc k) (suc j) x ds ≡ Some m → IsFound (suc k) (suc j) x ds m) → IsFound k j x (declared_node n ∷ ds) m
node_found k j x n ds m e r = record {
  number = it.0;
  place = it.1;
  behind_nodes = it.2;
  behind_components = it.3;
  node = it.4;
  component = it.5;
  named = it.6;
}
  where
    Out : Bool → Type 0
    Out b = (number : ℕ) × (place : ℕ) × (m.number ≡ k + number) × (m.place ≡ j + place) × (slice_get (n ∷ nodes_of ds) number ≡ Some m.node)
        × (slice_get (n ∷ components ds) place ≡ Some m.node) × (cond b (Some n) (first_named x (nodes_of ds)) ≡ Some m.node)

    out : (b : Bool) → cond b (Some (here k j n)) (numbers_from (suc k) (suc j) x ds) ≡ Some m → Out b
    out true e =
        let h : here k j n ≡ m = some_same (here k j n) m e in
        let a : k ≡ m.number = ap (λ z. z.number) h in
        let b : j ≡ m.place = ap (λ z. z.place) h in
        let d : Some n ≡ Some m.node = ap (λ z. Some z.node) h in
        (0, 0, omega (arith, a), omega (arith, b), d, d, d)
    out false e =
        let f = r e in
        let a = f.behind_nodes in
        let b = f.behind_components in
        (suc f.number, suc f.place, omega (arith, a), omega (arith, b), f.node, f.component, f.named)

    it : Out (bytes_eq x n.name.text)
    it = out (bytes_eq x n.name.text) e

pub found_from : (k j : ℕ) (x : Name) (p : Program) (m : Numbered) → numbers_from k j x p ≡ Some m → IsFound k j x p m
found_from k j x [] m e = absurd (none_some m e)
found_from k j x (declared_constant c ∷ ds) m e = let r = found_from k j x ds m e in record {
  number = r.number;
  place = r.place;
  behind_nodes = r.behind_nodes;
  behind_components = r.behind_components;
  node = r.node;
  component = r.component;
  named = r.named;
}
found_from k j x (declared_contract n ∷ ds) m e = let r = found_from k (suc j) x ds m e in record {
  number = r.number;
  place = suc r.place;
  behind_nodes = r.behind_nodes;
  behind_components = let b = r.behind_components in omega (arith, b);
  node = r.node;
  component = r.component;
  named = r.named;
}
found_from k j x (declared_node n ∷ ds) m e = node_found k j x n ds m e (found_from (suc k) (suc j) x ds m)

pub first_none : (k j : ℕ) (x : Name) (p : Program) → None ≡ numbers_from k j x p → None ≡ first_named x (nodes_of p)
first_none k j x [] e = refl
first_none k j x (declared_constant c ∷ ds) e = first_none k j x ds e
first_none k j x (declared_contract n ∷ ds) e = first_none k (suc j) x ds e
first_none k j x (declared_node n ∷ ds) e = go (bytes_eq x n.name.text) e (first_none (suc k) (suc j) x ds)
  where
    go : (b : Bool) → None ≡ cond b (Some (here k j n)) (numbers_from (suc k) (suc j) x ds)
        → (None ≡ numbers_from (suc k) (suc j) x ds → None ≡ first_named x (nodes_of ds)) → None ≡ cond b (Some n) (first_named x (nodes_of ds))
    go true e r = absurd (none_some (here k j n) e)
    go false e r = r e

pub from_first : (a b : ℕ) → a ≡ 0 + b → a ≡ b
from_first a b e = omega (arith, e)

pub declared_there : (ns : List Component) (k : ℕ) (d : Component) → slice_get ns k ≡ Some d → Contains ns d
declared_there [] k d e = absurd (none_some d e)
declared_there (n ∷ ns) zero d e = (zero, omega arith, some_same n d e)
declared_there (n ∷ ns) (suc k) d e = let h = declared_there ns k d e in (suc h.0, omega (arith, h.1), h.2)

pub place_below : (ns : List Component) (k : ℕ) (d : Component) → slice_get ns k ≡ Some d → k < length ns
place_below [] k d e = absurd (none_some d e)
place_below (n ∷ ns) zero d e = omega arith
place_below (n ∷ ns) (suc k) d e = let h : k < length ns = place_below ns k d e in omega (arith, h)
