-- What stands at the place of a declaration.
use Rattle.std.proofs.Common.{◌≡◌, refl, ℕ, zero, suc, ◌<◌, Bool, true, false, cond, List, [], ◌∷◌, length, Option, Some, None, slice_get, arith}
use Rattle.std.specs.Prelude.{Contains}
use Rattle.std.specs.Str.{bytes_eq}
use Rattle.std.proofs.lemmas.Option.{none-some}
use Rattle.lus_tree.specs.Tree.{Name, Component, Program, declared_constant, declared_node, declared_contract}
use Rattle.lus_meaning.specs.ClockFaults.{components}
use Rattle.lus_meaning.specs.Program.{component_named, first_of_two}
use Rattle.name_table.specs.Names.{number_of}
use Rattle.clock_laws.proofs.Same.{some_same}
use Rattle.evaluation_parts.specs.Declares.{names_in}

found_one : (n : Component) (ns : List Component) (k : ℕ) (o : Option Component) (b : Bool)
    → slice_get ns k ≡ o → slice_get (n ∷ ns) (cond b 0 (suc k)) ≡ first_of_two (cond b (Some n) None) o
found_one n ns k o true e = refl
found_one n ns k o false e = e

pub found : (q : Program) (x : Name) → slice_get (components q) (number_of (names_in q) x) ≡ component_named q x
found [] x = refl
found (declared_constant c ∷ ds) x = found ds x
found (declared_node n ∷ ds) x =
    found_one n (components ds) (number_of (names_in ds) x) (component_named ds x) (bytes_eq x n.name.text) (found ds x)
found (declared_contract n ∷ ds) x =
    found_one n (components ds) (number_of (names_in ds) x) (component_named ds x) (bytes_eq x n.name.text) (found ds x)

pub below : (ns : List Component) (k : ℕ) (n : Component) → slice_get ns k ≡ Some n → k < length ns
below [] k n e = absurd (none-some n e)
below (m ∷ ns) zero n e = omega arith
below (m ∷ ns) (suc k) n e =
    let l : k < length ns = below ns k n e in
    omega (arith, l)

pub contained : (ns : List Component) (k : ℕ) (n : Component) → slice_get ns k ≡ Some n → Contains ns n
contained [] k n e = absurd (none-some n e)
contained (m ∷ ns) zero n e = (zero, omega arith, some_same m n e)
contained (m ∷ ns) (suc k) n e =
    let r : Contains ns n = contained ns k n e in
    (suc r.0, omega (arith, r.1), r.2)
