-- What modes need, one item of a contract after the other.
use Rattle.std.proofs.Common.{◌≡◌, refl, ℕ, List, [], ◌∷◌}
use Rattle.lus_tree.specs.Tree.{ContractStatement, assume, guarantee, ghost_variable, constant, mode, «import»}
use Rattle.lus_meaning.specs.Scene.{Instance}
use Rattle.lus_meaning.specs.Depends.{ModeNeeds, modes_after}

pub after_one : (i : Instance) (sub : ℕ → ModeNeeds) (ms : ModeNeeds) (c : ContractStatement) (cs : List ContractStatement)
    → modes_after i sub (modes_after i sub ms (c ∷ [])) cs ≡ modes_after i sub ms (c ∷ cs)
after_one i sub ms (assume l) cs = refl
after_one i sub ms (guarantee l) cs = refl
after_one i sub ms (ghost_variable x e) cs = refl
after_one i sub ms (constant c) cs = refl
after_one i sub ms (mode m rs es) cs = refl
after_one i sub ms («import» k c as_ xs) cs = refl
