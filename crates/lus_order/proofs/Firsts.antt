-- What is taken of a list of items is what is taken of the first, followed by what is taken of the others.
use Rattle.std.proofs.Common.{◌≡◌, refl, List, [], ◌∷◌, ◌++◌, flat_map}
use Rattle.std.proofs.lemmas.List.{append-nil}
use Rattle.lus_tree.specs.Tree.{Spelled, Statement, equation, assertion, property, main_mark, ContractStatement, assume, guarantee, ghost_variable, constant, mode, «import», Declaration, declared_constant, declared_node, declared_contract, Program}
use Rattle.lus_meaning.specs.ClockFaults.{components}
use Rattle.lus_meaning.specs.EquationFaults.{body_sides, ghost_sides}
use Rattle.lus_meaning.specs.Run.{body_equations, ghost_equations}
use Rattle.lus_meaning.specs.Scene.{ghosts}

pub equations_first : (s : Statement) (ss : List Statement) → body_equations (s ∷ ss) ≡ body_equations (s ∷ []) ++ body_equations ss
equations_first (equation xs e) ss = refl
equations_first (assertion e) ss = refl
equations_first (property l) ss = refl
equations_first (main_mark p) ss = refl

pub sides_first : (s : Statement) (ss : List Statement) → body_sides (s ∷ ss) ≡ body_sides (s ∷ []) ++ body_sides ss
sides_first (equation xs e) ss = refl
sides_first (assertion e) ss = refl
sides_first (property l) ss = refl
sides_first (main_mark p) ss = refl

-- the words of the left sides, one behind the other
abbrev pub left_words : List Statement → List Spelled
left_words ss = flat_map (λ xs. xs) (body_sides ss)

pub lefts_first : (s : Statement) (ss : List Statement) → left_words (s ∷ ss) ≡ left_words (s ∷ []) ++ left_words ss
lefts_first (equation xs e) ss = rw (append-nil xs) refl
lefts_first (assertion e) ss = refl
lefts_first (property l) ss = refl
lefts_first (main_mark p) ss = refl

pub ghost_equations_first : (c : ContractStatement) (cs : List ContractStatement) → ghost_equations (c ∷ cs) ≡ ghost_equations (c ∷ []) ++ ghost_equations cs
ghost_equations_first (assume l) cs = refl
ghost_equations_first (guarantee l) cs = refl
ghost_equations_first (ghost_variable x e) cs = refl
ghost_equations_first (constant d) cs = refl
ghost_equations_first (mode m rs es) cs = refl
ghost_equations_first («import» k w as_ xs) cs = refl

pub ghost_sides_first : (c : ContractStatement) (cs : List ContractStatement) → ghost_sides (c ∷ cs) ≡ ghost_sides (c ∷ []) ++ ghost_sides cs
ghost_sides_first (assume l) cs = refl
ghost_sides_first (guarantee l) cs = refl
ghost_sides_first (ghost_variable x e) cs = refl
ghost_sides_first (constant d) cs = refl
ghost_sides_first (mode m rs es) cs = refl
ghost_sides_first («import» k w as_ xs) cs = refl

pub ghosts_first : (c : ContractStatement) (cs : List ContractStatement) → ghosts (c ∷ cs) ≡ ghosts (c ∷ []) ++ ghosts cs
ghosts_first (assume l) cs = refl
ghosts_first (guarantee l) cs = refl
ghosts_first (ghost_variable x e) cs = refl
ghosts_first (constant d) cs = refl
ghosts_first (mode m rs es) cs = refl
ghosts_first («import» k w as_ xs) cs = refl

pub components_first : (d : Declaration) (ds : Program) → components (d ∷ ds) ≡ components (d ∷ []) ++ components ds
components_first (declared_constant c) ds = refl
components_first (declared_node n) ds = refl
components_first (declared_contract n) ds = refl
