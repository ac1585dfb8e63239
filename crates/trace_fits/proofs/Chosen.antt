-- What may be listed of a frame itself by its table is what the definition lists.
use Rattle.std.proofs.Common.{◌≡◌, ℕ, suc, Bool, true, false, cond, not, ◌&&◌, ◌||◌, List, [], ◌∷◌, ◌++◌, map, flat_map, append_assoc, Some, refl, sym, ap, ◌∙◌, subst}
use Rattle.std.specs.Prelude.{is_none}
use Rattle.std.specs.List.{AllByRecursion, list_any}
use Rattle.std.specs.Str.{bytes_eq}
use Rattle.std.proofs.lemmas.Bool.{false≢true}
use Rattle.std.proofs.lemmas.Grind.{flat_map-append}
use Rattle.lus_tree.specs.Tree.{Name, Variable, ContractStatement, assume, guarantee, ghost_variable, constant, mode, «import», Component}
use Rattle.lus_meaning.specs.Depends.{named_in}
use Rattle.lus_meaning.specs.Fits.{listable_names}
use Rattle.lus_meaning.specs.Run.{Equation, equations, ghost_equations, body_equations}
use Rattle.lus_meaning.specs.Scene.{contract_statements, ghosts, variables}
use Rattle.lus_meaning.specs.Trace.{is_defined, free_names}
use Rattle.lus_meaning.specs.WellMade.{AreDistinct}
use Rattle.lus_meaning.proofs.Exists.{self_bytes}
use Rattle.lus_meaning.proofs.Lists.{all_from, all_from_both, append_none}
use Rattle.rule_laws.proofs.Lists.{other_bytes}
use Rattle.sys_meaning.proofs.Tracing.{any_left}
use Rattle.sys_conditions.specs.Named.{place_in, right_of}
use Rattle.sys_tables.specs.Tabled.{named_stream, texts_of}
use Rattle.trace_fits.specs.Walked.{is_chosen, name_listed, streams_listed}

-- ---- truth

or_true : (b : Bool) → (b || true) ≡ true
or_true true = refl
or_true false = refl

and_false : (b : Bool) → (b && false) ≡ false
and_false true = refl
and_false false = refl

and_true : (b : Bool) → (b && true) ≡ b
and_true true = refl
and_true false = refl

pub both_false : (a b : Bool) → (a || b) ≡ false → (a ≡ false) × (b ≡ false)
both_false true b e = absurd (false≢true (sym e))
both_false false b e = (refl, e)

false_both : (a b : Bool) → a ≡ false → b ≡ false → (a || b) ≡ false
false_both a b e f = rw (e, f) refl

each_one : {A : Type 0} (P : A → Type 0) → ((x : A) → P x) → (xs : List A) → AllByRecursion P xs
each_one P h [] = tt
each_one P h (x ∷ xs) = (h x, each_one P h xs)

-- ---- names

pub named_here : (v : Variable) (vs : List Variable) → named_in v.name.text (texts_of (v ∷ vs)) ≡ true
named_here v vs = ap (λ b. b || named_in v.name.text (texts_of vs)) (self_bytes v.name.text)

all_named : (vs : List Variable) → AllByRecursion (λ v. named_in v.name.text (texts_of vs) ≡ true) vs
all_named [] = tt
all_named (v ∷ vs) = (
  named_here v vs,
  all_from (λ w. named_in w.name.text (texts_of vs) ≡ true) (λ w. named_in w.name.text (texts_of (v ∷ vs)) ≡ true)
      (λ w h. ap (λ b. bytes_eq w.name.text v.name.text || b) h ∙ or_true (bytes_eq w.name.text v.name.text)) vs (all_named vs),
)

not_among : (x : Name) (xs ys : List Variable) → named_in x (texts_of (xs ++ ys)) ≡ false → AllByRecursion (λ y. bytes_eq y.name.text x ≡ false) ys
not_among x [] [] h = tt
not_among x [] (y ∷ ys) h =
    let q = both_false (bytes_eq x y.name.text) (named_in x (texts_of ys)) h in
    (other_bytes x y.name.text q.0, not_among x [] ys q.1)
not_among x (z ∷ xs) ys h = not_among x xs ys (both_false (bytes_eq x z.name.text) (named_in x (texts_of (xs ++ ys))) h).1

-- names that are declared once are not among those before them
apart : (xs ys : List Variable) → AreDistinct (texts_of (xs ++ ys)) → AllByRecursion (λ y. named_in y.name.text (texts_of xs) ≡ false) ys
apart [] ys d = each_one (λ y. named_in y.name.text [] ≡ false) (λ y. refl) ys
apart (x ∷ xs) ys d =
    all_from_both (λ y. bytes_eq y.name.text x.name.text ≡ false) (λ y. named_in y.name.text (texts_of xs) ≡ false)
    (λ y. named_in y.name.text (texts_of (x ∷ xs)) ≡ false)
    (λ y e f. false_both (bytes_eq y.name.text x.name.text) (named_in y.name.text (texts_of xs)) e f) ys
    (not_among x.name.text xs ys d.0) (apart xs ys d.1)

-- ---- lists of names

flat_nothing : {A B : Type 0} (f : A → List B) (xs : List A) → AllByRecursion (λ x. f x ≡ []) xs → flat_map f xs ≡ []
flat_nothing f [] h = refl
flat_nothing f (x ∷ xs) h = rw (h.0, flat_nothing f xs h.1) refl

flat_same : {A B : Type 0} (f g : A → List B) (xs : List A) → AllByRecursion (λ x. f x ≡ g x) xs → flat_map f xs ≡ flat_map g xs
flat_same f g [] h = refl
flat_same f g (x ∷ xs) h = rw (h.0, flat_same f g xs h.1) refl

flat_each : {A : Type 0} (xs : List A) → flat_map (λ x. x ∷ []) xs ≡ xs
flat_each [] = refl
flat_each (x ∷ xs) = ap (λ l. x ∷ l) (flat_each xs)

joined : {A : Type 0} {xs ys us vs : List A} → xs ≡ ys → us ≡ vs → xs ++ us ≡ ys ++ vs
joined e f = rw (e, f) refl

none_right : (es : List Equation) (x : Name) → is_none (right_of es x) ≡ not (list_any (λ e. list_any (bytes_eq x) e.names) es)
none_right [] x = refl
none_right (e ∷ es) x = go (named_in x e.names) (none_right es x)
  where
    go : (b : Bool) → is_none (right_of es x) ≡ not (list_any (λ e. list_any (bytes_eq x) e.names) es)
        → is_none (cond b (Some (record { side = e.right; place = place_in e.names x })) (right_of es x)) ≡ not (b || list_any (λ e. list_any (bytes_eq x) e.names) es)
    go true h = refl
    go false h = h

ghosts_defined : (cs : List ContractStatement)
    → AllByRecursion (λ v. list_any (λ e. list_any (bytes_eq v.name.text) e.names) (ghost_equations cs) ≡ true) (ghosts cs)
ghosts_defined [] = tt
ghosts_defined (ghost_variable x e ∷ cs) = (
  ap (λ b. (b || false) || list_any (λ e. list_any (bytes_eq x.name.text) e.names) (ghost_equations cs)) (self_bytes x.name.text),
  all_from (λ v. list_any (λ e. list_any (bytes_eq v.name.text) e.names) (ghost_equations cs) ≡ true)
      (λ v. list_any (λ e. list_any (bytes_eq v.name.text) e.names) (ghost_equations (ghost_variable x e ∷ cs)) ≡ true)
      (λ v h. ap (λ b. (bytes_eq v.name.text x.name.text || false) || b) h ∙ or_true (bytes_eq v.name.text x.name.text || false)) (ghosts cs)
      (ghosts_defined cs),
)
ghosts_defined (assume l ∷ cs) = ghosts_defined cs
ghosts_defined (guarantee l ∷ cs) = ghosts_defined cs
ghosts_defined (constant c ∷ cs) = ghosts_defined cs
ghosts_defined (mode m rs es ∷ cs) = ghosts_defined cs
ghosts_defined («import» k c as_ xs ∷ cs) = ghosts_defined cs

module _ (d : Component) where
  abbrev pub chosen : Bool → Variable → List Variable
  chosen inputs v = cond (is_chosen inputs (named_stream d v)) (v ∷ []) []

  pub names_listed : (path : List ℕ) (n : ℕ) (inputs : Bool) (k : ℕ) (vs : List Variable)
      → map (λ s. s.listable) (streams_listed path n inputs k (map (named_stream d) vs)) ≡ listable_names path n inputs (flat_map (chosen inputs) vs)
  names_listed path n inputs k [] = refl
  names_listed path n inputs k (v ∷ vs) = go (is_chosen inputs (named_stream d v)) (names_listed path n inputs (suc k) vs)
    where
      go : (b : Bool) → map (λ s. s.listable) (streams_listed path n inputs (suc k) (map (named_stream d) vs)) ≡ listable_names path n inputs (flat_map (chosen inputs) vs)
          → map (λ s. s.listable) (cond b (name_listed path n inputs k v ∷ []) [] ++ streams_listed path n inputs (suc k) (map (named_stream d) vs))
          ≡ listable_names path n inputs (cond b (v ∷ []) [] ++ flat_map (chosen inputs) vs)
      go true e = ap (λ l. (name_listed path n inputs k v).listable ∷ l) e
      go false e = e

  abbrev later : List Variable
  later = d.outputs ++ (d.locals ++ ghosts (contract_statements d))

  regrouped : variables d ≡ d.inputs ++ later
  regrouped =
      append_assoc (d.inputs ++ d.outputs) d.locals (ghosts (contract_statements d))
      ∙ append_assoc d.inputs d.outputs (d.locals ++ ghosts (contract_statements d))

  abbrev kept : Variable → List Variable
  kept v = cond (is_defined d v.name.text) [] (v ∷ [])

  module _ (once : AreDistinct (texts_of (variables d))) where
    others : AllByRecursion (λ y. named_in y.name.text (texts_of d.inputs) ≡ false) later
    others = apart d.inputs later (subst (λ vs. AreDistinct (texts_of vs)) regrouped once)

    pub inputs_chosen : flat_map (chosen true) (variables d) ≡ d.inputs
    inputs_chosen =
        ap (flat_map (chosen true)) regrouped
        ∙ flat_map-append (chosen true) d.inputs later
        ∙ joined
        (flat_same (chosen true) (λ v. v ∷ []) d.inputs
        (all_from (λ v. named_in v.name.text (texts_of d.inputs) ≡ true) (λ v. chosen true v ≡ v ∷ []) (λ v h. ap (λ b. cond b (v ∷ []) []) h) d.inputs
        (all_named d.inputs)) ∙ flat_each d.inputs)
        (flat_nothing (chosen true) later
        (all_from (λ v. named_in v.name.text (texts_of d.inputs) ≡ false) (λ v. chosen true v ≡ []) (λ v h. ap (λ b. cond b (v ∷ []) []) h) later others))
        ∙ append_none d.inputs

    free_so : (v : Variable) → named_in v.name.text (texts_of d.inputs) ≡ false → chosen false v ≡ kept v
    free_so v h =
        ap (λ b. cond (is_none (right_of (equations d) v.name.text) && not b) (v ∷ []) []) h
        ∙ ap (λ b. cond b (v ∷ []) []) (and_true (is_none (right_of (equations d) v.name.text)) ∙ none_right (equations d) v.name.text)
        ∙ go (is_defined d v.name.text)
      where
        go : (b : Bool) → cond (not b) (v ∷ []) [] ≡ cond b [] (v ∷ [])
        go true = refl
        go false = refl

    no_ghosts : flat_map kept (ghosts (contract_statements d)) ≡ []
    no_ghosts =
        flat_nothing kept (ghosts (contract_statements d))
        (all_from (λ v. list_any (λ e. list_any (bytes_eq v.name.text) e.names) (ghost_equations (contract_statements d)) ≡ true) (λ v. kept v ≡ [])
        (λ v h. ap (λ b. cond b [] (v ∷ []))
        (any_left (λ e. list_any (bytes_eq v.name.text) e.names) (ghost_equations (contract_statements d)) (body_equations d.body) h))
        (ghosts (contract_statements d)) (ghosts_defined (contract_statements d)))

    pub free_chosen : flat_map (chosen false) (variables d) ≡ free_names d
    free_chosen =
        ap (flat_map (chosen false)) regrouped
        ∙ flat_map-append (chosen false) d.inputs later
        ∙ joined
        (flat_nothing (chosen false) d.inputs
        (all_from (λ v. named_in v.name.text (texts_of d.inputs) ≡ true) (λ v. chosen false v ≡ [])
        (λ v h. ap (λ b. cond (is_none (right_of (equations d) v.name.text) && not b) (v ∷ []) []) h
        ∙ ap (λ b. cond b (v ∷ []) []) (and_false (is_none (right_of (equations d) v.name.text)))) d.inputs (all_named d.inputs)))
        (flat_same (chosen false) kept later
        (all_from (λ v. named_in v.name.text (texts_of d.inputs) ≡ false) (λ v. chosen false v ≡ kept v) free_so later others))
        ∙ flat_map-append kept d.outputs (d.locals ++ ghosts (contract_statements d))
        ∙ ap (λ l. flat_map kept d.outputs ++ l)
        (flat_map-append kept d.locals (ghosts (contract_statements d))
        ∙ ap (λ l. flat_map kept d.locals ++ l) no_ghosts ∙ append_none (flat_map kept d.locals))
        ∙ sym (flat_map-append kept d.outputs d.locals)
