-- The names of a declaration in text order: what holds of each list of them holds of all, and its constants are those of its instance.
use Rattle.std.proofs.Common.{◌≡◌, ℕ, zero, suc, List, [], ◌∷◌, ◌++◌, map, flat_map, length, refl, ap, ◌∙◌}
use Rattle.std.specs.Prelude.{take, drop}
use Rattle.std.specs.List.{AllByRecursion, prefix_len}
use Rattle.lus_tree.specs.Tree.{Variable, Constant, ContractStatement, assume, guarantee, ghost_variable, constant, mode, «import», Component}
use Rattle.lus_meaning.specs.Scene.{ghosts, contract_statements, variables}
use Rattle.lus_meaning.specs.Program.{contract_statement_constants}
use Rattle.lus_meaning.specs.Scope.{Role, a_local, a_ghost, Declared, a_stream, a_fixed, contract_statement_names, word_of, is_before, interleaved, local_names, declared_in, an_input, an_output}
use Rattle.lus_meaning.proofs.Lists.{both_parts}
use Rattle.lus_meaning.proofs.Now.{left_part, right_part}
use Rattle.rule_laws.proofs.Constants.{fixed_of}

-- ---- a list with a name put in behind its first part

module _ (y : Declared) (zs : List Declared → List Declared) where
  abbrev pub put_in : ℕ → List Declared → List Declared
  put_in m xs = take m xs ++ (y ∷ zs (drop (length (take m xs)) xs))

  pub put_fixed : ((ws : List Declared) → fixed_of (y ∷ zs ws) ≡ fixed_of ws) → (m : ℕ) (xs : List Declared) → fixed_of (put_in m xs) ≡ fixed_of xs
  put_fixed ok zero xs = ok xs
  put_fixed ok (suc m) [] = ok []
  put_fixed ok (suc m) (a_stream r v ∷ xs) = put_fixed ok m xs
  put_fixed ok (suc m) (a_fixed c ∷ xs) = ap (λ ks. c ∷ ks) (put_fixed ok m xs)

  pub put_all : (P : Declared → Type 0) → ((ws : List Declared) → AllByRecursion P ws → AllByRecursion P (y ∷ zs ws)) → (m : ℕ)
      (xs : List Declared) → AllByRecursion P xs → AllByRecursion P (put_in m xs)
  put_all P ok zero xs a = ok xs a
  put_all P ok (suc m) [] a = ok [] a
  put_all P ok (suc m) (x ∷ xs) a = (a.0, put_all P ok m xs a.1)

  -- a predicate that counts what went before
  pub put_counted : (P : List Declared → ℕ → Type 0) → ((x : Declared) (as_ bs : List Declared) (j : ℕ) → ((i : ℕ) → P as_ i → P bs i) → P
      (x ∷ as_) j → P (x ∷ bs) j) → ((ws : List Declared) (i : ℕ) → P ws i → P (y ∷ zs ws) i) →
      (m : ℕ) (xs : List Declared) (j : ℕ) → P xs j → P (put_in m xs) j
  put_counted P more ok zero xs j a = ok xs j a
  put_counted P more ok (suc m) [] j a = ok [] j a
  put_counted P more ok (suc m) (x ∷ xs) j a = more x xs (put_in m xs) j (λ i b. put_counted P more ok m xs i b) a

-- how many stand before a name
abbrev pub before : Declared → List Declared → ℕ
before y xs = prefix_len (λ x. is_before (word_of x).at (word_of y).at) xs

abbrev pub with_locals : List Declared → List Variable → List Declared
with_locals xs vs = interleaved xs (map (a_stream a_local) vs)

local_fixed : (vs : List Variable) (xs : List Declared) → fixed_of (with_locals xs vs) ≡ fixed_of xs
local_fixed [] xs = refl
local_fixed (v ∷ vs) xs = put_fixed (a_stream a_local v) (λ ws. with_locals ws vs) (λ ws. local_fixed vs ws) (before (a_stream a_local v) xs) xs

local_all : (P : Declared → Type 0) (vs : List Variable) (xs : List Declared) → AllByRecursion (λ v. P (a_stream a_local v)) vs
    → AllByRecursion P xs → AllByRecursion P (with_locals xs vs)
local_all P [] xs a b = b
local_all P (v ∷ vs) xs a b = put_all (a_stream a_local v) (λ ws. with_locals ws vs) P (λ ws c. (a.0, local_all P vs ws a.1 c))
    (before (a_stream a_local v) xs) xs b

-- ---- the constants of a declaration

streams_fixed : (r : Role) (vs : List Variable) (xs : List Declared) → fixed_of (map (a_stream r) vs ++ xs) ≡ fixed_of xs
streams_fixed r [] xs = refl
streams_fixed r (v ∷ vs) xs = streams_fixed r vs xs

contract_statements_fixed : (cs : List ContractStatement) (xs : List Declared) → fixed_of
    (flat_map contract_statement_names cs ++ xs) ≡ contract_statement_constants cs ++ fixed_of xs
contract_statements_fixed [] xs = refl
contract_statements_fixed (assume l ∷ cs) xs = contract_statements_fixed cs xs
contract_statements_fixed (guarantee l ∷ cs) xs = contract_statements_fixed cs xs
contract_statements_fixed (ghost_variable v e ∷ cs) xs = contract_statements_fixed cs xs
contract_statements_fixed (constant c ∷ cs) xs = ap (λ ks. c ∷ ks) (contract_statements_fixed cs xs)
contract_statements_fixed (mode m rs es ∷ cs) xs = contract_statements_fixed cs xs
contract_statements_fixed («import» k c as_ ws ∷ cs) xs = contract_statements_fixed cs xs

fixed_only : (cs : List Constant) → fixed_of (map a_fixed cs) ≡ cs
fixed_only [] = refl
fixed_only (c ∷ cs) = ap (λ ks. c ∷ ks) (fixed_only cs)

pub fixed_in_order : (n : Component) → fixed_of (declared_in n) ≡ contract_statement_constants (contract_statements n) ++ n.constants
fixed_in_order n =
    streams_fixed an_input n.inputs (map (a_stream an_output) n.outputs ++ (flat_map contract_statement_names (contract_statements n) ++ local_names n))
    ∙ streams_fixed an_output n.outputs (flat_map contract_statement_names (contract_statements n) ++ local_names n)
    ∙ contract_statements_fixed (contract_statements n) (local_names n)
    ∙ ap (λ ks. contract_statement_constants (contract_statements n) ++ ks) (local_fixed n.locals (map a_fixed n.constants) ∙ fixed_only n.constants)

-- ---- the streams of a declaration

module _ (P : Declared → Type 0) (fixed : (c : Constant) → P (a_fixed c)) where
  abbrev AnyRole : Variable → Type 0
  AnyRole v = (r : Role) → P (a_stream r v)

  of_role : (r : Role) (vs : List Variable) → AllByRecursion AnyRole vs → AllByRecursion P (map (a_stream r) vs)
  of_role r [] a = tt
  of_role r (v ∷ vs) a = (a.0 r, of_role r vs a.1)

  of_local : (vs : List Variable) → AllByRecursion AnyRole vs → AllByRecursion (λ v. P (a_stream a_local v)) vs
  of_local [] a = tt
  of_local (v ∷ vs) a = (a.0 a_local, of_local vs a.1)

  of_contract_statements : (cs : List ContractStatement) → AllByRecursion AnyRole (ghosts cs) → AllByRecursion P (flat_map contract_statement_names cs)
  of_contract_statements [] a = tt
  of_contract_statements (assume l ∷ cs) a = of_contract_statements cs a
  of_contract_statements (guarantee l ∷ cs) a = of_contract_statements cs a
  of_contract_statements (ghost_variable v e ∷ cs) a = (a.0 _, of_contract_statements cs a.1)
  of_contract_statements (constant c ∷ cs) a = (fixed c, of_contract_statements cs a)
  of_contract_statements (mode m rs es ∷ cs) a = of_contract_statements cs a
  of_contract_statements («import» k c as_ ws ∷ cs) a = of_contract_statements cs a

  of_fixed : (cs : List Constant) → AllByRecursion P (map a_fixed cs)
  of_fixed [] = tt
  of_fixed (c ∷ cs) = (fixed c, of_fixed cs)

  pub of_declared : (n : Component) → AllByRecursion AnyRole (variables n) → AllByRecursion P (declared_in n)
  of_declared n a =
      let front : AllByRecursion AnyRole (n.inputs ++ n.outputs ++ n.locals) = left_part AnyRole (n.inputs ++ n.outputs ++ n.locals)
      (ghosts (contract_statements n)) a in
      let ends : AllByRecursion AnyRole (n.inputs ++ n.outputs) = left_part AnyRole (n.inputs ++ n.outputs) n.locals front in
      both_parts P (map (a_stream an_input) n.inputs) (map (a_stream an_output) n.outputs ++
      (flat_map contract_statement_names (contract_statements n) ++ local_names n))
      (of_role an_input n.inputs (left_part AnyRole n.inputs n.outputs ends))
      (both_parts P (map (a_stream an_output) n.outputs) (flat_map contract_statement_names (contract_statements n) ++ local_names n)
      (of_role an_output n.outputs (right_part AnyRole n.inputs n.outputs ends))
      (both_parts P (flat_map contract_statement_names (contract_statements n)) (local_names n)
      (of_contract_statements (contract_statements n) (right_part AnyRole (n.inputs ++ n.outputs ++ n.locals)
      (ghosts (contract_statements n)) a))
      (local_all P n.locals (map a_fixed n.constants) (of_local n.locals (right_part AnyRole (n.inputs ++ n.outputs) n.locals front)) (of_fixed n.constants))))

  all_of_role : (r : Role) → ((v : Variable) → P (a_stream r v)) → (vs : List Variable) → AllByRecursion P (map (a_stream r) vs)
  all_of_role r f [] = tt
  all_of_role r f (v ∷ vs) = (f v, all_of_role r f vs)

  all_local : ((v : Variable) → P (a_stream a_local v)) → (vs : List Variable) → AllByRecursion (λ v. P (a_stream a_local v)) vs
  all_local f [] = tt
  all_local f (v ∷ vs) = (f v, all_local f vs)

  each_output : (vs : List Variable) → AllByRecursion (λ v. P (a_stream an_output v)) vs → AllByRecursion P (map (a_stream an_output) vs)
  each_output [] a = tt
  each_output (v ∷ vs) a = (a.0, each_output vs a.1)

  all_ghosts : ((v : Variable) → P (a_stream a_ghost v)) → (cs : List ContractStatement) → AllByRecursion P (flat_map contract_statement_names cs)
  all_ghosts f [] = tt
  all_ghosts f (assume l ∷ cs) = all_ghosts f cs
  all_ghosts f (guarantee l ∷ cs) = all_ghosts f cs
  all_ghosts f (ghost_variable v e ∷ cs) = (f v, all_ghosts f cs)
  all_ghosts f (constant c ∷ cs) = (fixed c, all_ghosts f cs)
  all_ghosts f (mode m rs es ∷ cs) = all_ghosts f cs
  all_ghosts f («import» k c as_ ws ∷ cs) = all_ghosts f cs

  -- what holds of each name that is no output, and of the outputs
  pub of_outputs : (n : Component) → ((v : Variable) → P (a_stream an_input v)) → ((v : Variable) → P (a_stream a_ghost v))
      → ((v : Variable) → P (a_stream a_local v)) → AllByRecursion (λ v. P (a_stream an_output v)) n.outputs → AllByRecursion P (declared_in n)
  of_outputs n f g k a =
      both_parts P (map (a_stream an_input) n.inputs) (map (a_stream an_output) n.outputs ++
      (flat_map contract_statement_names (contract_statements n) ++ local_names n))
      (all_of_role an_input f n.inputs)
      (both_parts P (map (a_stream an_output) n.outputs) (flat_map contract_statement_names (contract_statements n) ++ local_names n)
      (each_output n.outputs a)
      (both_parts P (flat_map contract_statement_names (contract_statements n)) (local_names n) (all_ghosts g (contract_statements n))
      (local_all P n.locals (map a_fixed n.constants) (all_local k n.locals) (of_fixed n.constants))))
