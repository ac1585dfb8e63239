-- What the first of statements gives, and then the others.
use Rattle.std.proofs.Common.{◌≡◌, refl, ap, sym, List, [], ◌∷◌, ◌++◌}
use Rattle.std.proofs.lemmas.List.{append-nil}
use Rattle.lus_tree.specs.Tree.{Statement, equation, assertion, property, main_mark, ContractStatement, assume, guarantee, ghost_variable, constant, mode, «import»}
use Rattle.lus_meaning.specs.Property.{assertions}
use Rattle.lus_meaning.specs.Run.{body_equations, ghost_equations}
use Rattle.lus_meaning.specs.Scene.{base}
use Rattle.lus_evaluation.specs.Part.{Setting, whole_parts, wholes}
use Rattle.lus_evaluation.specs.Turn.{property_texts}

pub ghosts_first : (c : ContractStatement) (cs : List ContractStatement) → ghost_equations (c ∷ cs) ≡ ghost_equations (c ∷ []) ++ ghost_equations cs
ghosts_first (assume l) cs = refl
ghosts_first (guarantee l) cs = refl
ghosts_first (ghost_variable x e) cs = refl
ghosts_first (constant c) cs = refl
ghosts_first (mode m rs es) cs = refl
ghosts_first («import» k c as_ xs) cs = refl

pub equations_first : (s : Statement) (ss : List Statement) → body_equations (s ∷ ss) ≡ body_equations (s ∷ []) ++ body_equations ss
equations_first (equation xs e) ss = refl
equations_first (assertion e) ss = refl
equations_first (property l) ss = refl
equations_first (main_mark p) ss = refl

pub assertions_first : (g : Setting) (s : Statement) (ss : List Statement)
    → wholes g base (assertions (s ∷ ss)) ≡ wholes g base (assertions (s ∷ [])) ++ wholes g base (assertions ss)
assertions_first g (equation xs e) ss = refl
assertions_first g (assertion e) ss = ap (λ z. z ++ wholes g base (assertions ss)) (sym (append-nil (whole_parts g [] base e)))
assertions_first g (property l) ss = refl
assertions_first g (main_mark p) ss = refl

pub properties_first : (g : Setting) (s : Statement) (ss : List Statement)
    → wholes g base (property_texts (s ∷ ss)) ≡ wholes g base (property_texts (s ∷ [])) ++ wholes g base (property_texts ss)
properties_first g (equation xs e) ss = refl
properties_first g (assertion e) ss = refl
properties_first g (property l) ss = ap (λ z. z ++ wholes g base (property_texts ss)) (sym (append-nil (whole_parts g [] base l.value)))
properties_first g (main_mark p) ss = refl
