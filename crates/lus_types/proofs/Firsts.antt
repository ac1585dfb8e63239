-- What is taken of a list of items is what is taken of the first, followed by what is taken of the others.
use Rattle.std.proofs.Common.{◌≡◌, Bool, true, false, cond, List, [], ◌∷◌, ◌++◌, map, flat_map, filter, refl, ap, sym}
use Rattle.std.proofs.lemmas.List.{append-nil}
use Rattle.lus_tree.specs.Tree.{Name, Spelled, ContractStatement, assume, guarantee, ghost_variable, constant, mode, «import», Declaration, declared_constant, declared_node, declared_contract, Program}
use Rattle.lus_meaning.specs.ClockFaults.{components}
use Rattle.lus_meaning.specs.NameFaults.{constant_words, is_declared, mode_words}
use Rattle.lus_meaning.specs.Program.{contract_statement_constants}
use Rattle.lus_meaning.specs.Scene.{ghosts}
use Rattle.lus_meaning.specs.Scope.{constants_declared, contract_named, node_named}
use Rattle.lus_types.specs.Called.{contract_links, link_of, node_links, row_of}
use Rattle.lus_types.specs.Marks.{Row}

pub modes_first : (c : ContractStatement) (cs : List ContractStatement) → mode_words (c ∷ cs) ≡ mode_words (c ∷ []) ++ mode_words cs
modes_first (assume l) cs = refl
modes_first (guarantee l) cs = refl
modes_first (ghost_variable x e) cs = refl
modes_first (constant d) cs = refl
modes_first (mode m rs es) cs = refl
modes_first («import» k w as_ xs) cs = refl

abbrev pub ghost_names : List ContractStatement → List Spelled
ghost_names cs = map (λ v. v.name) (ghosts cs)

pub ghosts_first : (c : ContractStatement) (cs : List ContractStatement) → ghost_names (c ∷ cs) ≡ ghost_names (c ∷ []) ++ ghost_names cs
ghosts_first (assume l) cs = refl
ghosts_first (guarantee l) cs = refl
ghosts_first (ghost_variable x e) cs = refl
ghosts_first (constant d) cs = refl
ghosts_first (mode m rs es) cs = refl
ghosts_first («import» k w as_ xs) cs = refl

abbrev pub constant_names : List ContractStatement → List Spelled
constant_names cs = map (λ d. d.name) (contract_statement_constants cs)

pub constants_first : (c : ContractStatement) (cs : List ContractStatement) → constant_names (c ∷ cs) ≡ constant_names (c ∷ []) ++ constant_names cs
constants_first (assume l) cs = refl
constants_first (guarantee l) cs = refl
constants_first (ghost_variable x e) cs = refl
constants_first (constant d) cs = refl
constants_first (mode m rs es) cs = refl
constants_first («import» k w as_ xs) cs = refl

pub words_first : (d : Declaration) (ds : Program) → constant_words (d ∷ ds) ≡ constant_words (d ∷ []) ++ constant_words ds
words_first (declared_constant c) ds = refl
words_first (declared_node n) ds = refl
words_first (declared_contract n) ds = refl

pub declared_first : (d : Declaration) (ds : Program) → constants_declared (d ∷ ds) ≡ constants_declared (d ∷ []) ++ constants_declared ds
declared_first (declared_constant c) ds = refl
declared_first (declared_node n) ds = refl
declared_first (declared_contract n) ds = refl

abbrev pub rows : Program → List Name → Program → List Row
rows p t ds = map (row_of p t) (components ds)

pub rows_first : (p : Program) (t : List Name) (d : Declaration) (ds : Program) → rows p t (d ∷ ds) ≡ rows p t (d ∷ []) ++ rows p t ds
rows_first p t (declared_constant c) ds = refl
rows_first p t (declared_node n) ds = refl
rows_first p t (declared_contract n) ds = refl

-- those words that pass a test
linked_first : (t : List Name) (test : Spelled → Bool) (w : Spelled) (ws : List Spelled) → flat_map (link_of t) (filter test (w ∷ ws))
    ≡ flat_map (link_of t) (filter test (w ∷ [])) ++ flat_map (link_of t) (filter test ws)
linked_first t test w ws = go (test w)
  where
    go : (b : Bool) → flat_map (link_of t) (cond b (w ∷ filter test ws) (filter test ws))
        ≡ flat_map (link_of t) (cond b (w ∷ []) []) ++ flat_map (link_of t) (filter test ws)
    go true = ap (λ ls. ls ++ flat_map (link_of t) (filter test ws)) (sym (append-nil (link_of t w)))
    go false = refl

pub nodes_first : (p : Program) (t : List Name) (w : Spelled) (ws : List Spelled) → node_links p t (w ∷ ws)
    ≡ node_links p t (w ∷ []) ++ node_links p t ws
nodes_first p t w ws = linked_first t (λ f. is_declared (node_named p f.text)) w ws

pub contracts_first : (p : Program) (t : List Name) (w : Spelled) (ws : List Spelled) → contract_links p t (w ∷ ws)
    ≡ contract_links p t (w ∷ []) ++ contract_links p t ws
contracts_first p t w ws = linked_first t (λ f. is_declared (contract_named p f.text)) w ws
