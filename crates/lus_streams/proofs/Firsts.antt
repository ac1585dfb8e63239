-- The first stream of each name, by its number.
use Rattle.std.proofs.Common.{◌≡◌, ℕ, zero, suc, ◌<◌, Bool, true, false, cond, not, ◌||◌, List, [], ◌∷◌, ◌++◌, map, take, length, get_or, refl, ap, ◌∙◌, sym, subst, append_assoc, Option, Some, None, ◌+◌}
use Rattle.std.specs.Str.{bytes_eq}
use Rattle.std.specs.Option.{option_or}
use Rattle.std.proofs.Math.Logic.{◌⊎◌, inl, inr}
use Rattle.std.proofs.lemmas.Bool.{false≢true, cases_Bool}
use Rattle.std.proofs.lemmas.List.{map_more, map-append, length-map}
use Rattle.std.specs.Borrow.{Bor}
use Rattle.lus_tree.specs.declared.place.Param.{Param}
use Rattle.lus_tree.specs.View.{param_view}
use Rattle.lus_tree.specs.Tree.{Name, Variable, ContractStatement, assume, guarantee, ghost_variable, constant, mode, «import»}
use Rattle.lus_meaning.specs.Scene.{ghosts}
use Rattle.lus_meaning.specs.Depends.{named_in}
use Rattle.lus_meaning.proofs.Unique.{same_bytes}
use Rattle.name_table.specs.Names.{add, number_of}
use Rattle.name_table.proofs.Numbers.{number_below}
use Rattle.lus_streams.specs.Streams.{names_of, params_view, stream_named, AreFirst}
use Rattle.lus_streams.proofs.Behind.{found_behind}

pub or_none : {X : Type 0} (o : Option X) → option_or o None ≡ o
or_none None = refl
or_none (Some x) = refl

-- a stream of a name that is there changes nothing
behind_named : (x : Name) (vs : List Variable) (r : Option Variable) → named_in x (names_of vs) ≡ true
    → option_or (stream_named vs x) r ≡ stream_named vs x
behind_named x [] r e = absurd (false≢true e)
behind_named x (v ∷ vs) r e = go (bytes_eq x v.name.text) e (behind_named x vs r)
  where
    go : (b : Bool) → (b || named_in x (names_of vs)) ≡ true
        → (named_in x (names_of vs) ≡ true → option_or (stream_named vs x) r ≡ stream_named vs x)
        → option_or (cond b (Some v) (stream_named vs x)) r ≡ cond b (Some v) (stream_named vs x)
    go true h k = refl
    go false h k = k h

pub one_seen : (table : List Name) (firsts all : List Variable) (v : Variable) → named_in v.name.text table ≡ true
    → AreFirst table firsts all → AreFirst table firsts (all ++ v ∷ [])
one_seen table firsts all v e a = record { names = a.names; found = step }
  where
    pick : (x : Name) → (bytes_eq x v.name.text ≡ true) ⊎ (bytes_eq x v.name.text ≡ false)
        → stream_named firsts x ≡ option_or (stream_named firsts x) (stream_named (v ∷ []) x)
    pick x (inl t) =
        let there : named_in v.name.text (names_of firsts) ≡ true = subst (λ z. named_in v.name.text z ≡ true) a.names e in
        sym (behind_named x firsts (stream_named (v ∷ []) x)
        (subst (λ y. named_in y (names_of firsts) ≡ true) (sym (same_bytes x v.name.text t)) there))
    pick x (inr f) = sym (ap (λ b. option_or (stream_named firsts x) (cond b (Some v) None)) f ∙ or_none (stream_named firsts x))

    step : (x : Name) → stream_named firsts x ≡ stream_named (all ++ v ∷ []) x
    step x =
        pick x (cases_Bool (bytes_eq x v.name.text)) ∙ ap (λ o. option_or o (stream_named (v ∷ []) x)) (a.found x)
        ∙ sym (found_behind (λ w. bytes_eq x w.name.text) all (v ∷ []))

pub one_new : (table : List Name) (firsts all : List Variable) (v : Variable) → AreFirst table firsts all
    → AreFirst (table ++ v.name.text ∷ []) (firsts ++ v ∷ []) (all ++ v ∷ [])
one_new table firsts all v a = record {
  names = ap (λ t. t ++ v.name.text ∷ []) a.names ∙ sym (map-append (λ (w : Variable). w.name.text) firsts (v ∷ []));
  found = λ x. found_behind (λ w. bytes_eq x w.name.text) firsts (v ∷ []) ∙ ap (λ o. option_or o (stream_named (v ∷ []) x)) (a.found x)
      ∙ sym (found_behind (λ w. bytes_eq x w.name.text) all (v ∷ []));
}

-- what is added, and where it is new

pub add_seen : (x : Name) (old new : List Name) (b : Bool) (fs vs : List Variable) (v : Variable) → x ≡ v.name.text → b ≡ not (named_in x old)
    → new ≡ add old x → b ≡ false → AreFirst old fs vs → AreFirst new fs (vs ++ v ∷ [])
add_seen x old new b fs vs v w t n f a = go (named_in x old) refl (sym f ∙ t)
  where
    go : (c : Bool) → named_in x old ≡ c → false ≡ not c → AreFirst new fs (vs ++ v ∷ [])
    go true h k =
        subst (λ z. AreFirst z fs (vs ++ v ∷ [])) (sym (n ∙ ap (λ d. cond d old (old ++ x ∷ [])) h))
        (one_seen old fs vs v (subst (λ y. named_in y old ≡ true) w h) a)
    go false h k = absurd (false≢true k)

pub add_new : (x : Name) (old new : List Name) (b : Bool) (fs vs : List Variable) (v : Variable) → x ≡ v.name.text → b ≡ not (named_in x old)
    → new ≡ add old x → b ≡ true → AreFirst old fs vs → AreFirst new (fs ++ v ∷ []) (vs ++ v ∷ [])
add_new x old new b fs vs v w t n f a = go (named_in x old) refl (sym f ∙ t)
  where
    go : (c : Bool) → named_in x old ≡ c → true ≡ not c → AreFirst new (fs ++ v ∷ []) (vs ++ v ∷ [])
    go true h k = absurd (false≢true (sym k))
    go false h k =
        subst (λ z. AreFirst z (fs ++ v ∷ []) (vs ++ v ∷ []))
        (sym (n ∙ ap (λ d. cond d old (old ++ x ∷ [])) h ∙ ap (λ y. old ++ y ∷ []) w)) (one_new old fs vs v a)

-- ---- by number

pub found_number : (x : Name) (vs : List Variable) (d : Variable) → named_in x (names_of vs) ≡ true
    → stream_named vs x ≡ Some (get_or vs (number_of (names_of vs) x) d)
found_number x [] d e = absurd (false≢true e)
found_number x (v ∷ vs) d e = go (bytes_eq x v.name.text) e (found_number x vs d)
  where
    go : (b : Bool) → (b || named_in x (names_of vs)) ≡ true
        → (named_in x (names_of vs) ≡ true → stream_named vs x ≡ Some (get_or vs (number_of (names_of vs) x) d))
        → cond b (Some v) (stream_named vs x) ≡ Some (get_or (v ∷ vs) (cond b 0 (suc (number_of (names_of vs) x))) d)
    go true h k = refl
    go false h k = k h

pub found_nowhere : (x : Name) (vs : List Variable) → named_in x (names_of vs) ≡ false → stream_named vs x ≡ None
found_nowhere x [] e = refl
found_nowhere x (v ∷ vs) e = go (bytes_eq x v.name.text) e (found_nowhere x vs)
  where
    go : (b : Bool) → (b || named_in x (names_of vs)) ≡ false → (named_in x (names_of vs) ≡ false → stream_named vs x ≡ None)
        → cond b (Some v) (stream_named vs x) ≡ None
    go true h k = absurd (false≢true (sym h))
    go false h k = k h

get_mapped : {X Y : Type 0} (f : X → Y) (xs : List X) (i : ℕ) (d : X) → get_or (map f xs) i (f d) ≡ f (get_or xs i d)
get_mapped f [] i d = refl
get_mapped f (x ∷ xs) zero d = refl
get_mapped f (x ∷ xs) (suc i) d = get_mapped f xs i d

pub number_within : (x : Name) (table : List Name) (bs : List (Bor Param)) → table ≡ names_of (params_view bs) → named_in x table ≡ true
    → number_of table x < length bs
number_within x table bs n e =
    subst (λ k. number_of table x < k)
    (ap length n ∙ length-map (params_view bs) (λ (v : Variable). v.name.text) ∙ length-map bs (λ (v : Bor Param). param_view v.now))
    (number_below table x e)

pub stream_at : (x : Name) (table : List Name) (bs : List (Bor Param)) (b : Bor Param) → table ≡ names_of (params_view bs) → named_in x table ≡ true
    → b ≡ get_or bs (number_of table x) b → Some (param_view b.now) ≡ stream_named (params_view bs) x
stream_at x table bs b n e r =
    let view : Bor Param → Variable = λ v. param_view v.now in
    ap (λ z. Some (view z)) r ∙ ap Some (sym (get_mapped view bs (number_of table x) b))
    ∙ ap (λ t. Some (get_or (params_view bs) (number_of t x) (view b))) n
    ∙ sym (found_number x (params_view bs) (view b) (subst (λ t. named_in x t ≡ true) n e))

-- ---- one after the other

pub next_stream : {X : Type 0} (view : X → Variable) (xs : List X) (i : ℕ) (x : X) (vs : List Variable) → i < length xs → x ≡ get_or xs i x
    → vs ++ map view (take (i + 1) xs) ≡ (vs ++ map view (take i xs)) ++ view x ∷ []
next_stream view xs i x vs h e =
    ap (λ z. vs ++ z) (map_more view xs i x h ∙ ap (λ y. map view (take i xs) ++ view y ∷ []) (sym e))
    ∙ sym (append_assoc vs (map view (take i xs)) (view x ∷ []))

ghosts_append : (xs ys : List ContractStatement) → ghosts (xs ++ ys) ≡ ghosts xs ++ ghosts ys
ghosts_append [] ys = refl
ghosts_append (ghost_variable x e ∷ cs) ys = ap (λ z. x ∷ z) (ghosts_append cs ys)
ghosts_append (assume l ∷ cs) ys = ghosts_append cs ys
ghosts_append (guarantee l ∷ cs) ys = ghosts_append cs ys
ghosts_append (constant c ∷ cs) ys = ghosts_append cs ys
ghosts_append (mode m rs es ∷ cs) ys = ghosts_append cs ys
ghosts_append («import» k c as_ xs ∷ cs) ys = ghosts_append cs ys

pub next_ghosts : {X : Type 0} (view : X → ContractStatement) (xs : List X) (i : ℕ) (x : X) (vs : List Variable) → i < length xs → x ≡ get_or xs i x
    → vs ++ ghosts (map view (take (i + 1) xs)) ≡ (vs ++ ghosts (map view (take i xs))) ++ ghosts (view x ∷ [])
next_ghosts view xs i x vs h e =
    ap (λ z. vs ++ ghosts z) (map_more view xs i x h ∙ ap (λ y. map view (take i xs) ++ view y ∷ []) (sym e))
    ∙ ap (λ z. vs ++ z) (ghosts_append (map view (take i xs)) (view x ∷ []))
    ∙ sym (append_assoc vs (ghosts (map view (take i xs))) (ghosts (view x ∷ [])))
