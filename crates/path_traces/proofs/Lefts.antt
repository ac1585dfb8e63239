-- Tables of the names that an equation defines.
use Rattle.std.proofs.Common.{◌≡◌, Bool, true, false, ◌||◌, List, [], ◌∷◌, refl, sym, ap, ◌∙◌, Result, Ok, Err, OnOk}
use Rattle.std.proofs.lemmas.List.Folds.{list_any-append}
use Rattle.std.specs.List.{list_any}
use Rattle.std.specs.Str.{bytes_eq}
use Rattle.lus_tree.specs.Tree.{Name, Statement, equation, assertion, property, main_mark, ContractStatement, assume, guarantee, ghost_variable, constant, mode, «import», Component}
use Rattle.lus_meaning.specs.Depends.{named_in}
use Rattle.lus_meaning.specs.Run.{ghost_equations, body_equations}
use Rattle.lus_meaning.specs.Scene.{contract_statements}
use Rattle.lus_meaning.specs.Trace.{is_defined}
use Rattle.name_table.specs.Names.{add}
use Rattle.lus_limits.proofs.KnownNames.{named_added, or_false}
use Rattle.path_traces.specs.Plans.{is_left}

pub added : (old new : List Name) (y x : Name) → new ≡ add old y → named_in x new ≡ (named_in x old || bytes_eq x y)
added old new y x e = named_added old new y e x ∙ ap (λ b. named_in x old || b) (or_false (bytes_eq x y))

one_more : (a b : Bool) → (a || b) ≡ ((a || false) || b)
one_more true b = refl
one_more false b = refl

-- one more statement of a contract, and of a body
pub ghost_next : (c : ContractStatement) (cs : List ContractStatement) (x : Name)
    → is_left (ghost_equations (c ∷ cs)) x ≡ (is_left (ghost_equations (c ∷ [])) x || is_left (ghost_equations cs) x)
ghost_next (assume l) cs x = refl
ghost_next (guarantee l) cs x = refl
ghost_next (ghost_variable v e) cs x = one_more (named_in x (v.name.text ∷ [])) (is_left (ghost_equations cs) x)
ghost_next (constant c) cs x = refl
ghost_next (mode m rs es) cs x = refl
ghost_next («import» k c as_ xs) cs x = refl

pub body_next : (s : Statement) (ss : List Statement) (x : Name)
    → is_left (body_equations (s ∷ ss)) x ≡ (is_left (body_equations (s ∷ [])) x || is_left (body_equations ss) x)
body_next (equation xs e) ss x = one_more _ (is_left (body_equations ss) x)
body_next (assertion e) ss x = refl
body_next (property l) ss x = refl
body_next (main_mark p) ss x = refl

or_in_turn : (a b c : Bool) → ((a || b) || c) ≡ (a || (b || c))
or_in_turn true b c = refl
or_in_turn false b c = refl

-- both add what an equation defines
pub both_added : {V E : Type 0} (r : Result V E) (d : Component) (old mid new : List Name) (cs : List ContractStatement) (ss : List Statement)
    → ((x : Name) → named_in x mid ≡ (named_in x old || is_left (ghost_equations cs) x)) → cs ≡ contract_statements d
    → OnOk r ((x : Name) → named_in x new ≡ (named_in x mid || is_left (body_equations ss) x)) → ss ≡ d.body
    → OnOk r ((x : Name) → named_in x new ≡ (named_in x old || is_defined d x))
both_added (Ok v) d old mid new cs ss g c h s = λ x.
    let gs : Bool = is_left (ghost_equations (contract_statements d)) x in
    let bs : Bool = is_left (body_equations d.body) x in
    h x ∙ ap (λ zs. named_in x mid || is_left (body_equations zs) x) s
    ∙ ap (λ b. b || bs) (g x ∙ ap (λ zs. named_in x old || is_left (ghost_equations zs) x) c)
    ∙ or_in_turn (named_in x old) gs bs
    ∙ ap (λ b. named_in x old || b)
    (sym (list_any-append (λ e. list_any (bytes_eq x) e.names) (ghost_equations (contract_statements d)) (body_equations d.body)))
both_added (Err e) d old mid new cs ss g c h s = tt
