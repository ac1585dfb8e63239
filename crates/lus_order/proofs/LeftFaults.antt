-- The faults of left names, one declaration behind the other.
use Rattle.std.proofs.Common.{◌≡◌, ◌≤◌, ◌∙◌, ap, refl, subst, ℕ, List, [], ◌∷◌, ◌++◌, Option, flat_map, map, length}
use Rattle.lus_tree.specs.declared.declaration.Decl.{Decl}
use Rattle.lus_tree.specs.View.{decl_view}
use Rattle.lus_tree.specs.Tree.{Name, Spelled, Component, declared_constant, declared_node, declared_contract, Program}
use Rattle.lus_tree.specs.Reason.{Refused, equation_twice}
use Rattle.lus_meaning.specs.ClockFaults.{components}
use Rattle.lus_meaning.specs.EquationFaults.{body_lefts, definable, left_faults}
use Rattle.lus_meaning.specs.Faults.{words_twice}
use Rattle.lus_scopes.specs.Least.{noted_all}
use Rattle.lus_scopes.specs.Notes.{Notes}
use Rattle.lus_scopes.proofs.Loops.{OnTheWay, way_end_of_views}
use Rattle.lus_scopes.proofs.Noting.{all_noted, both_noted}
use Rattle.lus_order.specs.Lefts.{lefts_of, outside}
use Rattle.lus_order.specs.Names.{HasNames}

-- of two tables with the same names the same words are outside
same_outside : (t xs : List Name) (ws : List Spelled) → HasNames t xs → outside t ws ≡ outside xs ws
same_outside t xs [] h = refl
same_outside t xs (w ∷ ws) h = rw (h w.text, same_outside t xs ws h) refl

pub node_noted : (n : Component) (t : List Name) (ws : List Spelled) (o p q : Option Refused) → ws ≡ body_lefts n → HasNames t (definable n)
    → Notes o p (words_twice equation_twice ws) → q ≡ noted_all p (outside t ws) → Notes o q (left_faults n)
node_noted n t ws o p q e h m f = subst (λ vs. Notes o q (words_twice equation_twice vs ++ outside (definable n) vs)) e
    (both_noted o p q (words_twice equation_twice ws) (outside (definable n) ws) m
    (all_noted p q (outside (definable n) ws) (f ∙ ap (noted_all p) (same_outside t (definable n) ws h))))

of_components : (ds : Program) → flat_map lefts_of ds ≡ flat_map left_faults (components ds)
of_components [] = refl
of_components (declared_constant c ∷ ds) = of_components ds
of_components (declared_node n ∷ ds) = ap (λ fs. left_faults n ++ fs) (of_components ds)
of_components (declared_contract n ∷ ds) = ap (λ fs. left_faults n ++ fs) (of_components ds)

pub lefts_end : (ds : List Decl) (i : ℕ) (s o : Option Refused) → length ds ≤ i → OnTheWay (λ d. lefts_of (decl_view d)) ds i s o
    → Notes s o (flat_map left_faults (components (map decl_view ds)))
lefts_end ds i s o l w = subst (Notes s o) (of_components (map decl_view ds)) (way_end_of_views lefts_of decl_view ds i s o l w)
