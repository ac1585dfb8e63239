-- A node or function of a checked program is the one that its name names, and its names are identifiers where all are.
use Rattle.std.proofs.Common.{◌≡◌, ℕ, zero, suc, ◌<◌, Bool, true, false, cond, ◌||◌, List, [], ◌∷◌, ◌++◌, map, Some, refl, sym, ap, ◌∙◌, subst, arith}
use Rattle.std.specs.Prelude.{Contains}
use Rattle.std.specs.List.{AllByRecursion}
use Rattle.std.specs.Str.{bytes_eq}
use Rattle.std.proofs.lemmas.Bool.{false≢true}
use Rattle.lus_tree.specs.Tree.{Name, text_of, Constant, Component, Declaration, declared_constant, declared_node, declared_contract, Program}
use Rattle.lus_tree.specs.Lookup.{nodes_of}
use Rattle.lus_tree.specs.Reason.{name_twice}
use Rattle.lus_meaning.specs.ClockFaults.{components}
use Rattle.lus_meaning.specs.Depends.{named_in}
use Rattle.lus_meaning.specs.Faults.{words_twice}
use Rattle.lus_meaning.specs.Fits.{first_named}
use Rattle.lus_meaning.specs.NameFaults.{declaration_word, declaration_faults, typing_faults}
use Rattle.lus_meaning.specs.Refusals.{IsTyped}
use Rattle.lus_meaning.specs.WellMade.{AreDistinct}
use Rattle.lus_meaning.proofs.Exists.{self_bytes}
use Rattle.lus_meaning.proofs.NamesOnce.{empty_of, no_parts, none_twice}
use Rattle.lus_meaning.proofs.Unique.{same_bytes}
use Rattle.source_laws.specs.Laws.{IsIdentified, IsIdentifiedDeclaration, AreIdentified}

-- ---- declarations

abbrev is_node : Declaration → Bool
is_node (declared_node m) = true
is_node (declared_constant m) = false
is_node (declared_contract m) = false

abbrev node_or : Component → Declaration → Component
node_or m (declared_node n) = n
node_or m (declared_constant c) = m
node_or m (declared_contract c) = m

no_constant : (c : Constant) (n : Component) → declared_constant c ≡ declared_node n → ⊥
no_constant c n q = false≢true (ap is_node q)

no_contract : (m n : Component) → declared_contract m ≡ declared_node n → ⊥
no_contract m n q = false≢true (ap is_node q)

same_node : (m n : Component) → declared_node m ≡ declared_node n → m ≡ n
same_node m n q = ap (node_or m) q

pub node_component : (ds : Program) (n : Component) → Contains ds (declared_node n) → Contains (components ds) n
node_component [] n (j, l, q) = absurd (omega (arith, l))
node_component (declared_constant c ∷ ds) n (zero, l, q) = absurd (no_constant c n q)
node_component (declared_constant c ∷ ds) n (suc j, l, q) = node_component ds n (j, omega (arith, l), q)
node_component (declared_contract m ∷ ds) n (zero, l, q) = absurd (no_contract m n q)
node_component (declared_contract m ∷ ds) n (suc j, l, q) =
    let r = node_component ds n (j, omega (arith, l), q) in
    let s = r.1 in
    (suc r.0, omega (arith, s), r.2)
node_component (declared_node m ∷ ds) n (zero, l, q) = (zero, omega arith, same_node m n q)
node_component (declared_node m ∷ ds) n (suc j, l, q) =
    let r = node_component ds n (j, omega (arith, l), q) in
    let s = r.1 in
    (suc r.0, omega (arith, s), r.2)

-- ---- names

other_way : (x y : Name) → bytes_eq x y ≡ false → bytes_eq y x ≡ false
other_way x y e = go (bytes_eq y x) refl
  where
    go : (b : Bool) → bytes_eq y x ≡ b → bytes_eq y x ≡ false
    go false s = s
    go true s = absurd (false≢true (sym e ∙ ap (bytes_eq x) (same_bytes y x s) ∙ self_bytes x))

no_first : (a b : Bool) → (a || b) ≡ false → a ≡ false
no_first true b e = absurd (false≢true (sym e))
no_first false b e = refl

no_second : (a b : Bool) → (a || b) ≡ false → b ≡ false
no_second true b e = absurd (false≢true (sym e))
no_second false b e = e

abbrev texts : Program → List Name
texts ds = map text_of (map declaration_word ds)

apart : (y : Name) (ds : Program) → named_in y (texts ds) ≡ false → (n : Component) → Contains ds (declared_node n) → bytes_eq y n.name.text ≡ false
apart y [] e n (j, l, q) = absurd (omega (arith, l))
apart y (d ∷ ds) e n (zero, l, q) =
    ap (λ z. bytes_eq y (declaration_word z).text) (sym q) ∙ no_first (bytes_eq y (declaration_word d).text) (named_in y (texts ds)) e
apart y (d ∷ ds) e n (suc j, l, q) =
    apart y ds (no_second (bytes_eq y (declaration_word d).text) (named_in y (texts ds)) e) n (j, omega (arith, l), q)

named_first : (ds : Program) → AreDistinct (texts ds) → (n : Component) → Contains ds (declared_node n) → first_named n.name.text (nodes_of ds) ≡ Some n
named_first [] a n (j, l, q) = absurd (omega (arith, l))
named_first (declared_constant c ∷ ds) a n (zero, l, q) = absurd (no_constant c n q)
named_first (declared_constant c ∷ ds) a n (suc j, l, q) = named_first ds a.1 n (j, omega (arith, l), q)
named_first (declared_contract m ∷ ds) a n (zero, l, q) = absurd (no_contract m n q)
named_first (declared_contract m ∷ ds) a n (suc j, l, q) = named_first ds a.1 n (j, omega (arith, l), q)
named_first (declared_node m ∷ ds) a n (zero, l, q) =
    subst (λ (z : Component). cond (bytes_eq z.name.text m.name.text) (Some m) (first_named z.name.text (nodes_of ds)) ≡ Some z) (same_node m n q)
    (ap (λ b. cond b (Some m) (first_named m.name.text (nodes_of ds))) (self_bytes m.name.text))
named_first (declared_node m ∷ ds) a n (suc j, l, q) =
    ap (λ b. cond b (Some m) (first_named n.name.text (nodes_of ds)))
    (other_way m.name.text n.name.text (apart m.name.text ds a.0 n (j, omega (arith, l), q)))
    ∙ named_first ds a.1 n (j, omega (arith, l), q)

words_once : (p : Program) → IsTyped p → AreDistinct (texts p)
words_once p t =
    let none : words_twice name_twice (map declaration_word p) ++ declaration_faults p 0 p ≡ [] =
    (no_parts _ (words_twice name_twice (map declaration_word p) ++ declaration_faults p 0 p) (empty_of (typing_faults p) t)).1 in
    none_twice name_twice (map declaration_word p) (no_parts (words_twice name_twice (map declaration_word p)) (declaration_faults p 0 p) none).0

pub node_named : (p : Program) → IsTyped p → (n : Component) → Contains p (declared_node n) → first_named n.name.text (nodes_of p) ≡ Some n
node_named p t n i = named_first p (words_once p t) n i

-- ---- what a name names

-- the named node is declared, under that name
pub named_node : (x : Name) (ds : Program) (n : Component) → first_named x (nodes_of ds) ≡ Some n → Contains ds (declared_node n) × (x ≡ n.name.text)
named_node x [] n e = absurd cc
named_node x (declared_constant c ∷ ds) n e =
    let r = named_node x ds n e in let s = r.0.1 in ((suc r.0.0, omega (arith, s), r.0.2), r.1)
named_node x (declared_contract c ∷ ds) n e =
    let r = named_node x ds n e in let s = r.0.1 in ((suc r.0.0, omega (arith, s), r.0.2), r.1)
named_node x (declared_node m ∷ ds) n e = go (bytes_eq x m.name.text) refl e (λ h. named_node x ds n h)
  where
    go : (b : Bool) → bytes_eq x m.name.text ≡ b → cond b (Some m) (first_named x (nodes_of ds)) ≡ Some n
        → (first_named x (nodes_of ds) ≡ Some n → Contains ds (declared_node n) × (x ≡ n.name.text))
        → Contains (declared_node m ∷ ds) (declared_node n) × (x ≡ n.name.text)
    go true s h r = let f : m ≡ n = cc in ((zero, omega arith, ap declared_node f), same_bytes x m.name.text s ∙ ap (λ (z : Component). z.name.text) f)
    go false s h r = let t = r h in let u = t.0.1 in ((suc t.0.0, omega (arith, u), t.0.2), t.1)

-- ---- identifiers

pub identified : (ds : Program) → AreIdentified ds → (n : Component) → Contains (components ds) n → IsIdentified n
identified [] a n (j, l, q) = absurd (omega (arith, l))
identified (declared_constant c ∷ ds) a n i = identified ds a.1 n i
identified (declared_node m ∷ ds) a n (zero, l, q) = subst IsIdentified q a.0
identified (declared_node m ∷ ds) a n (suc j, l, q) = identified ds a.1 n (j, omega (arith, l), q)
identified (declared_contract m ∷ ds) a n (zero, l, q) = subst IsIdentified q a.0
identified (declared_contract m ∷ ds) a n (suc j, l, q) = identified ds a.1 n (j, omega (arith, l), q)
