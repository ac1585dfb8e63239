-- The clocks of a declaration's names, by a table of its streams.
use Rattle.std.proofs.Common.{◌≡◌, ℕ, zero, suc, Bool, true, false, cond, ◌||◌, List, [], ◌∷◌, ◌++◌, map, flat_map, length, get_or, refl, ap, ◌∙◌, sym, subst, Option, Some, None, option_map, unwrap_or, Bor}
use Rattle.std.specs.Prelude.{find}
use Rattle.std.specs.Str.{bytes_eq}
use Rattle.std.proofs.lemmas.Bool.{false≢true}
use Rattle.std.proofs.lemmas.List.{append-nil, length-map, map-append}
use Rattle.lus_tree.specs.Tree.{Name, Variable, Component}
use Rattle.lus_meaning.specs.Scene.{Clock, clock_from, clock_of, clock_of_names, contract_statements, ghosts, variables}
use Rattle.lus_meaning.specs.Depends.{named_in}
use Rattle.lus_meaning.specs.EquationFaults.{clock_names}
use Rattle.lus_meaning.specs.WellMade.{AreDistinct}
use Rattle.lus_meaning.proofs.Unique.{same_bytes}
use Rattle.name_table.specs.Names.{number_of}
use Rattle.name_table.proofs.Names.{in_joined}
use Rattle.way_laws.specs.OwnGraph.{Summaries, declared_reads}
use Rattle.lus_order.specs.declared.setting.Clocks.{Clocks}
use Rattle.lus_order.specs.Reads.{clock_seen, clock_at, clocks_view}
use Rattle.lus_order.specs.OwnReads.{AreClocksOf}
use Rattle.lus_order.specs.Rows.{side_clock}
use Rattle.lus_order.specs.Streams.{AreTabled, names_of, stream_clock}
use Rattle.lus_order.proofs.Stands.{or_left}

abbrev named : Name → List Variable → Clock
named x vs = clock_from (unwrap_or (option_map (λ (v : Variable). v.clock) (find (λ v. bytes_eq x v.name.text) vs)) None)

none_found : (cs : List (Option (Bor Name))) (xs : List Name) (k : ℕ) → map clock_seen cs ≡ map (λ (x : Name). []) xs → clock_seen (get_or cs k None) ≡ []
none_found [] xs k e = refl
none_found (c ∷ cs) [] k e = absurd (cc)
none_found (c ∷ cs) (x ∷ xs) zero e = cc
none_found (c ∷ cs) (x ∷ xs) (suc k) e = none_found cs xs k (cc)

found : (x : Name) (vs : List Variable) (xs : List Name) (cs : List (Option (Bor Name)))
    → map clock_seen cs ≡ map stream_clock vs ++ map (λ (y : Name). []) xs → clock_at (names_of vs ++ xs) cs x ≡ clock_names (named x vs)
found x [] xs cs e = go (named_in x xs)
  where
    go : (b : Bool) → cond b (clock_seen (get_or cs (number_of xs x) None)) [] ≡ []
    go true = none_found cs xs (number_of xs x) e
    go false = refl
found x (v ∷ vs) xs [] e = absurd (cc)
found x (v ∷ vs) xs (c ∷ cs) e = go (bytes_eq x v.name.text) (found x vs xs cs (cc))
  where
    first : clock_seen c ≡ stream_clock v
    first = cc

    go : (b : Bool) → clock_at (names_of vs ++ xs) cs x ≡ clock_names (named x vs)
        → cond (b || named_in x (names_of vs ++ xs)) (clock_seen (get_or (c ∷ cs) (cond b 0 (suc (number_of (names_of vs ++ xs) x))) None)) []
        ≡ clock_names (clock_from (unwrap_or (option_map (λ (v : Variable). v.clock) (cond b (Some v) (find (λ v. bytes_eq x v.name.text) vs))) None))
    go true r = first
    go false r = r

pub tabled_clocks : (n : Component) (s : Clocks) → AreTabled (variables n) s → AreClocksOf n (clocks_view s)
tabled_clocks n s a x = ap (λ names. clock_at names s.clocks.items x) a.names ∙ found x (variables n) a.others s.clocks.items a.clocks

-- as many clocks as names
seen_length : (vs : List Variable) (xs : List Name) → length (map stream_clock vs ++ map (λ (x : Name). []) xs) ≡ length (names_of vs ++ xs)
seen_length [] xs = length-map xs (λ (x : Name). [])
seen_length (v ∷ vs) xs = ap suc (seen_length vs xs)

pub tabled_length : (vs : List Variable) (s : Clocks) → AreTabled vs s → length (map clock_seen s.clocks.items) ≡ length s.names
tabled_length vs s a = ap length a.clocks ∙ seen_length vs a.others ∙ ap length (sym a.names)

-- where no two streams have one name, the clocks of a name are that of the first stream of the name
no_clock : (x : Name) (vs : List Variable) → named_in x (names_of vs) ≡ false
    → flat_map (λ v. cond (bytes_eq x v.name.text) (clock_names (clock_from v.clock)) []) vs ≡ []
no_clock x [] e = refl
no_clock x (v ∷ vs) e = go (bytes_eq x v.name.text) e (no_clock x vs)
  where
    go : (b : Bool) → (b || named_in x (names_of vs)) ≡ false
        → (named_in x (names_of vs) ≡ false → flat_map (λ v. cond (bytes_eq x v.name.text) (clock_names (clock_from v.clock)) []) vs ≡ [])
        → cond b (clock_names (clock_from v.clock)) [] ++ flat_map (λ v. cond (bytes_eq x v.name.text) (clock_names (clock_from v.clock)) []) vs ≡ []
    go true h f = absurd (false≢true (sym h))
    go false h f = f h

one_clock : (x : Name) (vs : List Variable) → AreDistinct (names_of vs)
    → flat_map (λ v. cond (bytes_eq x v.name.text) (clock_names (clock_from v.clock)) []) vs ≡ clock_names (named x vs)
one_clock x [] d = refl
one_clock x (v ∷ vs) d = go (bytes_eq x v.name.text) refl (one_clock x vs d.1)
  where
    go : (b : Bool) → bytes_eq x v.name.text ≡ b
        → flat_map (λ v. cond (bytes_eq x v.name.text) (clock_names (clock_from v.clock)) []) vs ≡ clock_names (named x vs)
        → cond b (clock_names (clock_from v.clock)) [] ++ flat_map (λ v. cond (bytes_eq x v.name.text) (clock_names (clock_from v.clock)) []) vs
        ≡ clock_names (clock_from (unwrap_or (option_map (λ (v : Variable). v.clock) (cond b (Some v) (find (λ v. bytes_eq x v.name.text) vs))) None))
    go true t r =
        ap (λ z. clock_names (clock_from v.clock) ++ z)
        (no_clock x vs (subst (λ y. named_in y (names_of vs) ≡ false) (sym (same_bytes x v.name.text t)) d.0))
        ∙ append-nil (clock_names (clock_from v.clock))
    go false t r = r

pub declared_clock : (n : Component) (g : Summaries) → AreDistinct (names_of (variables n)) → (x : Name)
    → declared_reads n g x ≡ clock_names (clock_of n x)
declared_clock n g d x = one_clock x (variables n) d

pub undeclared : (n : Component) (g : Summaries) (x : Name) → named_in x (names_of (variables n)) ≡ false → declared_reads n g x ≡ []
undeclared n g x e = no_clock x (variables n) e

pub tabled_side : (n : Component) (s : Clocks) → AreTabled (variables n) s → (xs : List Name) → side_clock s xs ≡ clock_names (clock_of_names n xs)
tabled_side n s a [] = refl
tabled_side n s a (x ∷ xs) = tabled_clocks n s a x

-- inputs and outputs have numbers
pub given_number : (n : Component) (s : Clocks) → AreTabled (variables n) s → (y : Name)
    → named_in y (names_of n.inputs ++ names_of n.outputs) ≡ true → named_in y s.names ≡ true
given_number n s tabled y e =
    let a : named_in y (given ++ names_of n.locals) ≡ true = in_joined y given (names_of n.locals) ∙ or_left _ _ e in
    let b : named_in y ((given ++ names_of n.locals) ++ names_of (ghosts (contract_statements n))) ≡ true =
    in_joined y (given ++ names_of n.locals) (names_of (ghosts (contract_statements n))) ∙ or_left _ _ a in
    subst (λ z. named_in y z ≡ true) (sym tabled.names)
    (in_joined y (names_of (variables n)) tabled.others ∙ or_left _ _ (subst (λ z. named_in y z ≡ true) (sym parts) b))
  where
    given : List Name
    given = names_of n.inputs ++ names_of n.outputs

    parts : names_of (variables n) ≡ (given ++ names_of n.locals) ++ names_of (ghosts (contract_statements n))
    parts =
        map-append (λ (v : Variable). v.name.text) (n.inputs ++ n.outputs ++ n.locals) (ghosts (contract_statements n))
        ∙ ap (λ z. z ++ names_of (ghosts (contract_statements n))) (map-append (λ (v : Variable). v.name.text) (n.inputs ++ n.outputs) n.locals
        ∙ ap (λ z. z ++ names_of n.locals) (map-append (λ (v : Variable). v.name.text) n.inputs n.outputs))
