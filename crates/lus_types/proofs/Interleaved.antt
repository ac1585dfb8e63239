-- The first of a list, taken.
use Rattle.std.proofs.Common.{◌≡◌, ℕ, Bool, List, [], ◌∷◌, ◌++◌, map, flat_map, take, drop, length, refl, ap, ◌∙◌, append_assoc}
use Rattle.std.specs.Prelude.{take_while}
use Rattle.std.specs.List.{prefix_len, take-map, drop-map}
use Rattle.std.proofs.lemmas.List.{length-take-le}
use Rattle.std.proofs.lemmas.List.Sums.{prefix_len-le-length}
use Rattle.lus_tree.specs.Tree.{Component, Variable, Constant, ContractStatement}
use Rattle.lus_meaning.specs.Scene.{contract_statements}
use Rattle.lus_meaning.specs.Scope.{Declared, a_stream, a_fixed, a_local, an_input, an_output, contract_statement_names, declared_in, interleaved, is_before, local_names, word_of}

pub first_taken : {X : Type 0} (p : X → Bool) (xs : List X) → take (length (take_while p xs)) xs ≡ take_while p xs
first_taken p xs = ap (λ n. take n xs) (length-take-le (prefix_len p xs) xs (prefix_len-le-length p xs))

-- one more local, behind the constants before it
pub interleaved_step : (ns ms rs ss ys all : List Declared) (y : Declared) (k : ℕ) → ns ++ interleaved rs (y ∷ ys) ≡ all
    → k ≡ length (take_while (λ x. is_before (word_of x).at (word_of y).at) rs) → ms ≡ ns ++ (take k rs ++ y ∷ []) → ss ≡ drop k rs
    → ms ++ interleaved ss ys ≡ all
interleaved_step ns ms rs ss ys all y k i e m s =
    rw (
      m,
      s,
      append_assoc ns (take k rs ++ y ∷ []) (interleaved (drop k rs) ys),
      append_assoc (take k rs) (y ∷ []) (interleaved (drop k rs) ys),
      e,
      first_taken (λ x. is_before (word_of x).at (word_of y).at) rs,
    ) i

-- the parts of a declaration, one behind the other
pub declared_is : (n : Component) (is os ls : List Variable) (cs : List ContractStatement) (ks : List Constant) (n0 n1 n2 n3 n4 : List Declared)
    → is ≡ n.inputs → os ≡ n.outputs → cs ≡ contract_statements n → ks ≡ n.constants → ls ≡ n.locals → n0 ≡ []
    → n1 ≡ n0 ++ map (a_stream an_input) is → n2 ≡ n1 ++ map (a_stream an_output) os
    → n3 ≡ n2 ++ flat_map contract_statement_names cs → n4 ≡ n3 ++ interleaved (map a_fixed ks) (map (a_stream a_local) ls) → n4 ≡ declared_in n
declared_is n is os ls cs ks n0 n1 n2 n3 n4 i o c k l e0 e1 e2 e3 e4 =
    let a : List Declared = map (a_stream an_input) n.inputs in
    let b : List Declared = map (a_stream an_output) n.outputs in
    let d : List Declared = flat_map contract_statement_names (contract_statements n) in
    rw (e4, e3, e2, e1, e0, i, o, c, k, l, append_assoc (a ++ b) d (local_names n), append_assoc a b (d ++ local_names n)) refl

pub taken_twice : {X Y Z : Type 0} (g : Y → Z) (f : X → Y) (n : ℕ) (xs : List X) → take n (map g (map f xs)) ≡ map g (map f (take n xs))
taken_twice g f n xs = take-map g n (map f xs) ∙ ap (map g) (take-map f n xs)

pub dropped_twice : {X Y Z : Type 0} (g : Y → Z) (f : X → Y) (n : ℕ) (xs : List X) → drop n (map g (map f xs)) ≡ map g (map f (drop n xs))
dropped_twice g f n xs = drop-map g n (map f xs) ∙ ap (map g) (drop-map f n xs)
