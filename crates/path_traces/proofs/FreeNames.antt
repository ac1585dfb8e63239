-- The names that no equation defines.
use Rattle.std.proofs.Common.{◌≡◌, ◌++◌, ◌||◌, List, [], ◌∷◌, cond, refl, sym, ap, ◌∙◌}
use Rattle.std.proofs.lemmas.Grind.{flat_map-append}
use Rattle.lus_tree.specs.Tree.{Name, Variable, ContractStatement, assume, guarantee, ghost_variable, constant, mode, «import», Component}
use Rattle.lus_meaning.specs.Depends.{named_in}
use Rattle.lus_meaning.specs.Scene.{ghosts}
use Rattle.lus_meaning.specs.Trace.{is_defined, free_names}
use Rattle.lus_meaning.proofs.Lists.{append_none}
use Rattle.path_traces.specs.Plans.{free_among, unnamed_in}

-- by a table of the names that an equation defines
free_so : (d : Component) (xs : List Name) → ((x : Name) → named_in x xs ≡ is_defined d x) → (vs : List Variable) → unnamed_in xs vs ≡ free_among d vs
free_so d xs h [] = refl
free_so d xs h (v ∷ vs) =
    ap (λ b. cond b [] (v ∷ []) ++ unnamed_in xs vs) (h v.name.text) ∙ ap (λ ws. cond (is_defined d v.name.text) [] (v ∷ []) ++ ws) (free_so d xs h vs)

-- by a table to which they were added when it was empty
pub both_free : (d : Component) (old new : List Name) → old ≡ [] → ((x : Name) → named_in x new ≡ (named_in x old || is_defined d x))
    → unnamed_in new d.outputs ++ unnamed_in new d.locals ≡ free_names d
both_free d old new e h =
    let all : (x : Name) → named_in x new ≡ is_defined d x = λ x. h x ∙ ap (λ ns. named_in x ns || is_defined d x) e in
    ap (λ ws. ws ++ unnamed_in new d.locals) (free_so d new all d.outputs) ∙ ap (λ ws. free_among d d.outputs ++ ws) (free_so d new all d.locals)
    ∙ sym (flat_map-append (λ (v : Variable). cond (is_defined d v.name.text) [] (v ∷ [])) d.outputs d.locals)

-- one variable, and those behind it
pub one_unnamed : (xs : List Name) (v : Variable) (vs : List Variable) → unnamed_in xs (v ∷ vs) ≡ unnamed_in xs (v ∷ []) ++ unnamed_in xs vs
one_unnamed xs v vs = ap (λ ws. ws ++ unnamed_in xs vs) (sym (append_none (cond (named_in v.name.text xs) [] (v ∷ []))))

-- one statement of a contract, and those behind it
pub one_ghost : (c : ContractStatement) (cs : List ContractStatement) → ghosts (c ∷ cs) ≡ ghosts (c ∷ []) ++ ghosts cs
one_ghost (assume l) cs = refl
one_ghost (guarantee l) cs = refl
one_ghost (ghost_variable v e) cs = refl
one_ghost (constant c) cs = refl
one_ghost (mode m rs es) cs = refl
one_ghost («import» k c as_ xs) cs = refl
