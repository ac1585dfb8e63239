-- How many names a declaration has.
use Rattle.std.proofs.Common.{◌≡◌, ℕ, suc, ◌+◌, ◌-◌, ◌≤◌, Bool, List, [], ◌∷◌, ◌++◌, map, flat_map, drop, take, length, length-append, length-drop, sym, ap, ◌∙◌, arith}
use Rattle.std.specs.List.{take_while}
use Rattle.std.proofs.lemmas.List.{length-take}
use Rattle.lus_tree.specs.Tree.{Component}
use Rattle.lus_meaning.specs.Scene.{contract_statements}
use Rattle.lus_meaning.specs.Scope.{Declared, a_stream, a_fixed, an_input, an_output, a_local, contract_statement_names, declared_in, interleaved, is_before, local_names, word_of}
use Rattle.lus_meaning.proofs.Exists.{length_mapped}
use Rattle.lus_bounds.specs.Names.{cut_names}

-- a sum so far, cut, with one more, and what is to come
pub cut_on : (a x r : ℕ) → cut_names (cut_names (a + x) + r) ≡ cut_names (a + (x + r))
cut_on a x r = omega arith

pub cut_end : (a t : ℕ) → cut_names a ≡ a → cut_names (a + 0) ≡ t → a ≡ t
cut_end a t e f = omega arith

fewer : {A : Type 0} (k : ℕ) (xs : List A) → length (take k xs) ≤ length xs
fewer k xs = omega (arith, length-take k xs)

taken_fewer : {A : Type 0} (t : A → Bool) (xs : List A) → length (take_while t xs) ≤ length xs
taken_fewer t xs = fewer _ xs

all_interleaved : (xs ys : List Declared) → length (interleaved xs ys) ≡ length xs + length ys
all_interleaved xs [] = omega arith
all_interleaved xs (y ∷ ys) =
    let first : List Declared = take_while (λ x. is_before (word_of x).at (word_of y).at) xs in
    let a : length (first ++ (y ∷ interleaved (drop (length first) xs) ys)) ≡ length first + suc (length (interleaved (drop (length first) xs) ys)) =
    length-append first (y ∷ interleaved (drop (length first) xs) ys) in
    let b : length (interleaved (drop (length first) xs) ys) ≡ length (drop (length first) xs) + length ys =
    all_interleaved (drop (length first) xs) ys in
    let c : length (drop (length first) xs) ≡ length xs - length first = length-drop (length first) xs in
    let d : length first ≤ length xs = taken_fewer (λ x. is_before (word_of x).at (word_of y).at) xs in
    omega arith

many_declared : (n : Component) → length (declared_in n) ≡ length n.inputs
    + (length n.outputs + (length (flat_map contract_statement_names (contract_statements n)) + (length n.constants + length n.locals)))
many_declared n =
    let is : List Declared = map (a_stream an_input) n.inputs in
    let os : List Declared = map (a_stream an_output) n.outputs in
    let cs : List Declared = flat_map contract_statement_names (contract_statements n) in
    let a : length (is ++ (os ++ (cs ++ local_names n))) ≡ length is + length (os ++ (cs ++ local_names n)) =
    length-append is (os ++ (cs ++ local_names n)) in
    let b : length (os ++ (cs ++ local_names n)) ≡ length os + length (cs ++ local_names n) = length-append os (cs ++ local_names n) in
    let c : length (cs ++ local_names n) ≡ length cs + length (local_names n) = length-append cs (local_names n) in
    let d : length (local_names n) ≡ length (map a_fixed n.constants) + length (map (a_stream a_local) n.locals) =
    all_interleaved (map a_fixed n.constants) (map (a_stream a_local) n.locals) in
    let e : length is ≡ length n.inputs = length_mapped (a_stream an_input) n.inputs in
    let f : length os ≡ length n.outputs = length_mapped (a_stream an_output) n.outputs in
    let g : length (map a_fixed n.constants) ≡ length n.constants = length_mapped a_fixed n.constants in
    let h : length (map (a_stream a_local) n.locals) ≡ length n.locals = length_mapped (a_stream a_local) n.locals in
    omega arith

-- the names of a declaration, kind by kind, as the code has them
pub names_counted : (n : Component) (i o k l own c inner outer t : ℕ) → i ≡ length n.inputs → o ≡ length n.outputs → k ≡ length n.constants
    → l ≡ length n.locals → own ≡ cut_names (k + l) → c ≡ cut_names (length (flat_map contract_statement_names (contract_statements n)))
    → inner ≡ cut_names (c + own) → outer ≡ cut_names (o + inner) → t ≡ cut_names (i + outer) → t ≡ cut_names (length (declared_in n))
names_counted n i o k l own c inner outer t e f g h a b d q r = let m : length (declared_in n) ≡ _ = many_declared n in omega arith

pub many_seen : {A B : Type 0} (f : A → B) (xs : List A) (ys : List B) → map f xs ≡ ys → length xs ≡ length ys
many_seen f xs ys e = sym (length_mapped f xs) ∙ ap length e
