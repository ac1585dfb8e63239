-- What a name needs of its own frame, by what is pushed one after the other.
use Rattle.std.proofs.Common.{◌≡◌, ap, sym, ◌∙◌, List, [], ◌∷◌, ◌++◌, flat_map, append_assoc}
use Rattle.std.proofs.lemmas.Grind.{flat_map-append}
use Rattle.lus_tree.specs.Tree.{Name, Expression, Statement, ContractStatement, Component}
use Rattle.lus_meaning.specs.Cycle.{declared_needs, defined_needs, equation_step, own_needs}
use Rattle.lus_meaning.specs.Depends.{Need, ModeNeeds, needs, modes_need}
use Rattle.lus_meaning.specs.Run.{ghost_equations, body_equations}
use Rattle.lus_meaning.specs.Scene.{Clock, Instance, component_of, clock_of_names, contract_statements}
use Rattle.lus_meaning.proofs.Lists.{append_none}

pub side_is : (i : Instance) (d : Component) (ms : ModeNeeds) (k : Clock) (old mid : List Need) (xs : List Name) (e : Expression) → component_of i ≡ d → ms ≡ modes_need i
    → k ≡ clock_of_names d xs → mid ≡ old ++ flat_map (declared_needs d) xs → mid ++ needs i ms k e ≡ old ++ equation_step i record { names = xs; right = e }
side_is i d ms k old mid xs e same modes clock m =
    ap (λ z. z ++ needs i ms k e) m
    ∙ append_assoc old (flat_map (declared_needs d) xs) (needs i ms k e)
    ∙ ap (λ z. old ++ (flat_map (declared_needs d) xs ++ needs i z k e)) modes
    ∙ ap (λ z. old ++ (flat_map (declared_needs d) xs ++ needs i (modes_need i) z e)) clock
    ∙ ap (λ z. old ++ (flat_map (declared_needs z) xs ++ needs i (modes_need i) (clock_of_names z xs) e)) (sym same)

-- of one name
pub ghost_is : (i : Instance) (d : Component) (ms : ModeNeeds) (k : Clock) (old mid : List Need) (x : Name) (e : Expression) → component_of i ≡ d → ms ≡ modes_need i
    → k ≡ clock_of_names d (x ∷ []) → mid ≡ old ++ declared_needs d x → mid ++ needs i ms k e ≡ old ++ equation_step i record { names = x ∷ []; right = e }
ghost_is i d ms k old mid x e same modes clock m =
    side_is i d ms k old mid (x ∷ []) e same modes clock (m ∙ ap (λ z. old ++ z) (sym (append_none (declared_needs d x))))

pub own_is : (i : Instance) (d : Component) (x : Name) (old first second : List Need) (g : List ContractStatement) (b : List Statement) → component_of i ≡ d
    → g ≡ contract_statements d → b ≡ d.body → first ≡ old ++ declared_needs d x → second ≡ first ++ defined_needs i x (ghost_equations g)
    → second ++ defined_needs i x (body_equations b) ≡ old ++ own_needs i x
own_is i d x old first second g b same contract body m n =
    ap (λ z. z ++ defined_needs i x (body_equations b)) (n ∙ ap (λ z. z ++ defined_needs i x (ghost_equations g)) m)
    ∙ ap (λ z. z ++ defined_needs i x (body_equations b)) (append_assoc old (declared_needs d x) (defined_needs i x (ghost_equations g)))
    ∙ append_assoc old (declared_needs d x ++ defined_needs i x (ghost_equations g)) (defined_needs i x (body_equations b))
    ∙ ap (λ z. old ++ z) (append_assoc (declared_needs d x) (defined_needs i x (ghost_equations g)) (defined_needs i x (body_equations b))
    ∙ ap (λ z. declared_needs d x ++ (defined_needs i x (ghost_equations z) ++ defined_needs i x (body_equations b))) contract
    ∙ ap (λ z. declared_needs d x ++ (defined_needs i x (ghost_equations (contract_statements d)) ++ defined_needs i x (body_equations z))) body
    ∙ ap (λ z. declared_needs d x ++ z) (sym (flat_map-append _ (ghost_equations (contract_statements d)) (body_equations d.body)))
    ∙ ap (λ z. declared_needs z x ++ defined_needs i x (ghost_equations (contract_statements z) ++ body_equations z.body)) (sym same))
