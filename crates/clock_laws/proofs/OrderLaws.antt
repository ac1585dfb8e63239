-- The orders of the equations of a declaration.
use Rattle.std.proofs.Common.{◌≡◌, ◌↔◌, ℕ, List, [], ◌∷◌, map, length, refl, subst}
use Rattle.std.specs.Prelude.{Contains}
use Rattle.std.specs.List.{AllByRecursion}
use Rattle.std.proofs.lemmas.Bool.{false≢true}
use Rattle.lus_tree.specs.Tree.{text_of, Spelled, Statement, equation, assertion, property, main_mark, ContractStatement, assume, guarantee, ghost_variable, constant, mode, «import», Component, Program}
use Rattle.lus_meaning.specs.Scene.{Instance, component_of, contract_statements, variables}
use Rattle.lus_meaning.specs.Program.{instance_of}
use Rattle.lus_meaning.specs.Run.{equations, ghost_equations, body_equations}
use Rattle.lus_meaning.specs.Depends.{left_names}
use Rattle.lus_meaning.specs.Cycle.{Reaches}
use Rattle.lus_meaning.specs.Order.{IsEquationOrder, IsLeastEquationOrder, NeedsEquation}
use Rattle.lus_meaning.specs.WellMade.{AreDistinct}
use Rattle.lus_meaning.specs.ClockFaults.{components}
use Rattle.lus_meaning.specs.EquationFaults.{ghost_sides, body_sides, sides, left_faults, of_equation, of_left, of_circle}
use Rattle.lus_meaning.specs.Refusals.{IsTyped, IsChecked}
use Rattle.lus_meaning.proofs.Lists.{both_parts}
use Rattle.lus_meaning.proofs.NamesOnce.{at_one, empty_of, instance_named}
use Rattle.lus_meaning.proofs.Now.{left_part, right_part}
use Rattle.lus_meaning.proofs.RulesFit.{none_mapped}
use Rattle.rule_laws.proofs.Unfolded.{component_within}
use Rattle.clock_laws.specs.Laws.{NoneOnCircle, OrderOrCircle, OneOrderOfEach}
use Rattle.clock_laws.proofs.EquationOrders.{order_never, some_order, one_least_order, none_at, none_in}
use Rattle.clock_laws.proofs.Lefts.{lefts_distinct}
use Rattle.rule_laws.proofs.Covered.{all_contained}

-- each name of a declaration stands once
pub names_distinct : (p : Program) → IsTyped p → (n : Component) → Contains (components p) n → AreDistinct (map (λ v. v.name.text) (variables n))
names_distinct p t n j = (instance_named p t n j 0).0

abbrev None : Instance → Component → Type 0
None i n = AllByRecursion (λ e. Reaches i e.names e.names → ⊥) (equations n)

orders_of : (i : Instance) (n : Component) → component_of i ≡ n → AreDistinct (left_names n) → ((ks : List ℕ) × IsEquationOrder i (equations n) ks) ↔ None i n
orders_of i n e = subst (λ k. AreDistinct (left_names k) → ((ks : List ℕ) × IsEquationOrder i (equations k) ks) ↔ None i k) e
    (λ d. (
      (λ o. none_in i (equations (component_of i)) (order_never (length (equations (component_of i))) (NeedsEquation i (equations (component_of i)))
          o.0 o.1)),
      (λ a. some_order i d (none_at i (equations (component_of i)) a)),
    ))

least_of : (i : Instance) (n : Component) → component_of i ≡ n → AreDistinct (left_names n) → None i n → (ks : List ℕ) × IsLeastEquationOrder i
    (equations n) ks × ((js : List ℕ) → IsLeastEquationOrder i (equations n) js → js ≡ ks)
least_of i n e = subst (λ k. AreDistinct (left_names k) → None i k → (ks : List ℕ) × IsLeastEquationOrder i
    (equations k) ks × ((js : List ℕ) → IsLeastEquationOrder i (equations k) js → js ≡ ks)) e
    (λ d a. one_least_order i d (none_at i (equations (component_of i)) a))

pub order_or_circle : OrderOrCircle
order_or_circle p t n j e = orders_of (instance_of p n) n (component_within _ p n) (lefts_distinct n (names_distinct p t n j) e)

-- ---- checked programs

pub no_left_fault : (p : Program) → IsChecked p → (n : Component) → Contains (components p) n → left_faults n ≡ []
no_left_fault p c n j = at_one (λ m. left_faults m ≡ []) (components p) n (none_mapped left_faults (components p)
    (empty_of _ (λ r h. c.rules.equations r (of_left h)))) j

no_circle_at : (p : Program) → IsChecked p → (n : Component) → Contains (components p) n → (xs : List Spelled) → Contains (sides n) xs
    → Reaches (instance_of p n) (map text_of xs) (map text_of xs) → ⊥
no_circle_at p c n j [] h r = false≢true r.starts
no_circle_at p c n j (w ∷ ws) h r = c.rules.equations _ (of_circle n j (of_equation w ws h r refl))

ghosts_none : (i : Instance) (cs : List ContractStatement) → AllByRecursion (λ xs. Reaches i (map text_of xs) (map text_of xs) → ⊥) (ghost_sides cs)
    → AllByRecursion (λ e. Reaches i e.names e.names → ⊥) (ghost_equations cs)
ghosts_none i [] a = tt
ghosts_none i (assume l ∷ cs) a = ghosts_none i cs a
ghosts_none i (guarantee l ∷ cs) a = ghosts_none i cs a
ghosts_none i (ghost_variable v e ∷ cs) a = (a.0, ghosts_none i cs a.1)
ghosts_none i (constant x ∷ cs) a = ghosts_none i cs a
ghosts_none i (mode m rs es ∷ cs) a = ghosts_none i cs a
ghosts_none i («import» k x as_ ws ∷ cs) a = ghosts_none i cs a

body_none : (i : Instance) (ss : List Statement) → AllByRecursion (λ xs. Reaches i (map text_of xs) (map text_of xs) → ⊥) (body_sides ss)
    → AllByRecursion (λ e. Reaches i e.names e.names → ⊥) (body_equations ss)
body_none i [] a = tt
body_none i (equation xs e ∷ ss) a = (a.0, body_none i ss a.1)
body_none i (assertion e ∷ ss) a = body_none i ss a
body_none i (property l ∷ ss) a = body_none i ss a
body_none i (main_mark q ∷ ss) a = body_none i ss a

pub none_on_circle : (p : Program) → IsChecked p → (n : Component) → Contains (components p) n → NoneOnCircle p n
none_on_circle p c n j =
    let i : Instance = instance_of p n in
    let each : AllByRecursion (λ xs. Reaches i (map text_of xs) (map text_of xs) → ⊥) (sides n) = all_contained
    (λ xs. Reaches i (map text_of xs) (map text_of xs) → ⊥) (sides n) (no_circle_at p c n j) in
    both_parts (λ e. Reaches i e.names e.names → ⊥) (ghost_equations (contract_statements n)) (body_equations n.body)
    (ghosts_none i (contract_statements n) (left_part _ (ghost_sides (contract_statements n)) (body_sides n.body) each))
    (body_none i n.body (right_part _ (ghost_sides (contract_statements n)) (body_sides n.body) each))

pub one_order : OneOrderOfEach
one_order p c n j = least_of (instance_of p n) n (component_within _ p n)
    (lefts_distinct n (names_distinct p c.rules.clocked.typed n j) (no_left_fault p c n j)) (none_on_circle p c n j)
