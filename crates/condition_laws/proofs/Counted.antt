-- There are as many resolutions as properties.
use Rattle.std.proofs.Common.{◌≡◌, ℕ, zero, suc, pred, List, [], ◌∷◌, ◌++◌, map, flat_map, length, slice_index_or, refl, ap}
use Rattle.lus_tree.specs.Tree.{Name, Component, Statement, equation, assertion, property, main_mark, ContractStatement, assume, guarantee, ghost_variable, constant, mode, «import»}
use Rattle.lus_meaning.specs.Scene.{Manner, plain, while_true, as_import, Site, Instance, Instances, instance, no_instances, with_instance, contract_statements}
use Rattle.lus_meaning.specs.Contract.{Property, ModeTerms, Terms, no_terms, mode_terms, imported, imported_mode, terms_after, terms, terms_each}
use Rattle.lus_meaning.specs.Property as p
use Rattle.sys_meaning.specs.Slot.{Place}
use Rattle.sys_meaning.specs.Items.{known, ModeItem, mode_item, imported_item, Items, no_items, items_after, items_each}
use Rattle.sys_meaning.specs.System.{number_of}
use Rattle.slot_values.specs.Resolution.{Resolution}
use Rattle.slot_values.specs.Resolved.{Numbering}
use Rattle.evaluation_laws.specs.Resolvings.{Resolving}
use Rattle.slot_sources.specs.Sources.{numbering_of}
use Rattle.condition_laws.specs.Conditions.{resolved, conditions_of, body_properties, one_mode, owed_by_site, owed_by_calls, property_resolutions}
use Rattle.condition_laws.specs.Laws.{EachPropertyHasAResolution}

-- lists of one length
abbrev pub AsMany : {A B : Type 0} → List A → List B → Type 0
AsMany [] [] = Unit {0}
AsMany (x ∷ xs) (y ∷ ys) = AsMany xs ys
AsMany [] (y ∷ ys) = ⊥
AsMany (x ∷ xs) [] = ⊥

same_length : {A B : Type 0} (xs : List A) (ys : List B) → AsMany xs ys → length ys ≡ length xs
same_length [] [] a = refl
same_length [] (y ∷ ys) a = absurd a
same_length (x ∷ xs) [] a = absurd a
same_length (x ∷ xs) (y ∷ ys) a = ap suc (same_length xs ys a)

many_both : {A B : Type 0} (xs xs' : List A) (ys ys' : List B) → AsMany xs ys → AsMany xs' ys' → AsMany (xs ++ xs') (ys ++ ys')
many_both [] xs' [] ys' a b = b
many_both [] xs' (y ∷ ys) ys' a b = absurd a
many_both (x ∷ xs) xs' [] ys' a b = absurd a
many_both (x ∷ xs) xs' (y ∷ ys) ys' a b = many_both xs xs' ys ys' a b

many_mapped : {A B X Y : Type 0} (f : A → X) (g : B → Y) (xs : List A) (ys : List B) → AsMany xs ys → AsMany (map f xs) (map g ys)
many_mapped f g [] [] a = tt
many_mapped f g [] (y ∷ ys) a = absurd a
many_mapped f g (x ∷ xs) [] a = absurd a
many_mapped f g (x ∷ xs) (y ∷ ys) a = many_mapped f g xs ys a

many_right : {A B Y : Type 0} (g : B → Y) (xs : List A) (ys : List B) → AsMany xs ys → AsMany xs (map g ys)
many_right g [] [] a = tt
many_right g [] (y ∷ ys) a = absurd a
many_right g (x ∷ xs) [] a = absurd a
many_right g (x ∷ xs) (y ∷ ys) a = many_right g xs ys a

of_one : {A X Y : Type 0} (f : A → X) (g : A → Y) (xs : List A) → AsMany (map f xs) (map g xs)
of_one f g [] = tt
of_one f g (x ∷ xs) = of_one f g xs

-- ---- contracts

abbrev ManyModes : List ModeTerms → List (ModeItem Resolving) → Type 0
ManyModes [] [] = Unit {0}
ManyModes (m ∷ ms) (q ∷ qs) = AsMany m.ensures_each q.ensures_each × ManyModes ms qs
ManyModes [] (q ∷ qs) = ⊥
ManyModes (m ∷ ms) [] = ⊥

record ManyItems (r : Terms) (q : Items Resolving) : Type 0 where
  assumes : AsMany r.assumes q.assumes
  guarantees : AsMany r.guarantees q.guarantees
  modes : ManyModes r.modes q.modes

modes_both : (ms ns : List ModeTerms) (qs rs : List (ModeItem Resolving)) → ManyModes ms qs → ManyModes ns rs → ManyModes (ms ++ ns) (qs ++ rs)
modes_both [] ns [] rs a e = e
modes_both [] ns (q ∷ qs) rs a e = absurd a
modes_both (m ∷ ms) ns [] rs a e = absurd a
modes_both (m ∷ ms) ns (q ∷ qs) rs a e = (a.0, modes_both ms ns qs rs a.1 e)

through : (k : ℕ) (c : Name) (ms : List ModeTerms) (qs : List (ModeItem Resolving)) → ManyModes ms qs →
    ManyModes (map (imported_mode k c) ms) (map (imported_item resolved k c) qs)
through k c [] [] a = tt
through k c [] (q ∷ qs) a = absurd a
through k c (m ∷ ms) [] a = absurd a
through k c (m ∷ ms) (q ∷ qs) a =
    (many_mapped (imported k) (resolved.through k) m.ensures_each q.ensures_each a.0, through k c ms qs a.1)

module _ (i : Instance) (sub : ℕ → Terms) (sub' : ℕ → Items Resolving) (same : (k : ℕ) → ManyItems (sub k) (sub' k)) where
  after : (ms : List ModeTerms) (qs : List (ModeItem Resolving)) (cs : List ContractStatement) → ManyModes ms qs →
      ManyItems (terms_after i sub ms cs) (items_after resolved i sub' qs cs)
  after ms qs [] a = record { assumes = tt; guarantees = tt; modes = a }
  after ms qs (assume l ∷ cs) a =
      let r : ManyItems (terms_after i sub ms cs) (items_after resolved i sub' qs cs) = after ms qs cs a in
      record { assumes = r.assumes; guarantees = r.guarantees; modes = r.modes }
  after ms qs (guarantee l ∷ cs) a =
      let r : ManyItems (terms_after i sub ms cs) (items_after resolved i sub' qs cs) = after ms qs cs a in
      record { assumes = r.assumes; guarantees = r.guarantees; modes = r.modes }
  after ms qs (ghost_variable x e ∷ cs) a = after ms qs cs a
  after ms qs (constant c ∷ cs) a = after ms qs cs a
  after ms qs (mode m rs es ∷ cs) a =
      let one : List ModeTerms = mode_terms i ms m.text rs es ∷ [] in
      let asked : List (ModeItem Resolving) = mode_item resolved i (known qs) m.text rs es ∷ [] in
      after (ms ++ one) (qs ++ asked) cs (modes_both ms one qs asked a (of_one _ _ es, tt))
  after ms qs («import» k c as_ xs ∷ cs) a =
      let some : List ModeTerms = map (imported_mode k c.text) (sub k).modes in
      let asked : List (ModeItem Resolving) = map (imported_item resolved k c.text) (sub' k).modes in
      let r : ManyItems (terms_after i sub (ms ++ some) cs) (items_after resolved i sub' (qs ++ asked) cs) =
      after (ms ++ some) (qs ++ asked) cs (modes_both ms some qs asked a (through k c.text (sub k).modes (sub' k).modes (same k).modes)) in
      record {
        assumes = many_both (map (imported k) (sub k).assumes) (terms_after i sub (ms ++ some) cs).assumes
            (map (resolved.through k) (sub' k).assumes) (items_after resolved i sub' (qs ++ asked) cs).assumes
            (many_mapped (imported k) (resolved.through k) (sub k).assumes (sub' k).assumes (same k).assumes) r.assumes;
        guarantees = many_both (map (imported k) (sub k).guarantees) (terms_after i sub (ms ++ some) cs).guarantees
            (map (resolved.through k) (sub' k).guarantees) (items_after resolved i sub' (qs ++ asked) cs).guarantees
            (many_mapped (imported k) (resolved.through k) (sub k).guarantees (sub' k).guarantees (same k).guarantees) r.guarantees;
        modes = r.modes;
      }

nothing : ManyItems no_terms no_items
nothing = record { assumes = tt; guarantees = tt; modes = tt }

mutual
  items_many : (i : Instance) → ManyItems (terms i) (conditions_of i)
  items_many (instance d cs is) =
      after (instance d cs is) (λ k. slice_index_or (terms_each is) (pred k) no_terms) (λ k. slice_index_or (items_each resolved is) (pred k) no_items)
      (λ k. each_many is (pred k)) [] [] (contract_statements d) tt

  each_many : (is : Instances) (p : ℕ) → ManyItems (slice_index_or (terms_each is) p no_terms) (slice_index_or (items_each resolved is) p no_items)
  each_many no_instances zero = nothing
  each_many no_instances (suc p) = nothing
  each_many (with_instance c k is) zero = items_many k
  each_many (with_instance c k is) (suc p) = each_many is p

-- ---- properties

module _ (i : Instance) (g : Numbering) where
  body_many : (ss : List Statement) → AsMany (p.body_properties i ss) (body_properties g ss)
  body_many [] = tt
  body_many (property l ∷ ss) = body_many ss
  body_many (equation xs e ∷ ss) = body_many ss
  body_many (assertion e ∷ ss) = body_many ss
  body_many (main_mark q ∷ ss) = body_many ss

  owed_many : (c : Site) (m : Manner) (k : Instance) → AsMany (p.owed_by_site i c m (terms k)) (owed_by_site g c m k)
  owed_many c (as_import xs) k = tt
  owed_many c plain k = many_mapped _ _ (terms k).assumes _ (many_right _ (terms k).assumes (conditions_of k).assumes (items_many k).assumes)
  owed_many c (while_true a) k = many_mapped _ _ (terms k).assumes _ (many_right _ (terms k).assumes (conditions_of k).assumes (items_many k).assumes)

  calls_many : (is : Instances) → AsMany (p.owed_by_calls i is) (owed_by_calls g is)
  calls_many no_instances = tt
  calls_many (with_instance c k is) =
      many_both (p.owed_by_site i c c.manner (terms k)) (p.owed_by_calls i is) (owed_by_site g c c.manner k) (owed_by_calls g is)
      (owed_many c c.manner k) (calls_many is)

ensures_many : (at : Place → ℕ) (ms : List ModeTerms) (qs : List (ModeItem Resolving)) → ManyModes ms qs →
    AsMany (flat_map (λ m. m.ensures_each) ms) (flat_map (λ m. map (λ f. f at) m.ensures_each) qs)
ensures_many at [] [] a = tt
ensures_many at [] (q ∷ qs) a = absurd a
ensures_many at (m ∷ ms) [] a = absurd a
ensures_many at (m ∷ ms) (q ∷ qs) a =
    many_both m.ensures_each (flat_map (λ m. m.ensures_each) ms) (map (λ f. f at) q.ensures_each)
    (flat_map (λ m. map (λ f. f at) m.ensures_each) qs) (many_right (λ f. f at) m.ensures_each q.ensures_each a.0) (ensures_many at ms qs a.1)

one_many : (d : Component) (at : Place → ℕ) (ms : List ModeTerms) (qs : List (ModeItem Resolving)) → ManyModes ms qs →
    AsMany (p.one_mode d ms) (one_mode qs at)
one_many d at [] [] a = tt
one_many d at [] (q ∷ qs) a = absurd a
one_many d at (m ∷ ms) [] a = absurd a
one_many d at (m ∷ ms) (q ∷ qs) a = tt

pub as_many : (i : Instance) → AsMany (p.properties i) (property_resolutions i)
as_many (instance d cs is) =
    let i : Instance = instance d cs is in
    let at : Place → ℕ = number_of i in
    let g : Numbering = numbering_of i at in
    let items : ManyItems (terms i) (conditions_of i) = items_many i in
    let qs1 : List Resolution = body_properties g d.body in
    let qs2 : List Resolution = map (λ f. f at) (conditions_of i).guarantees in
    let qs3 : List Resolution = flat_map (λ m. map (λ f. f at) m.ensures_each) (conditions_of i).modes in
    let ps1 : List Property = p.body_properties i d.body in
    let ps3 : List Property = flat_map (λ m. m.ensures_each) (terms i).modes in
    many_both (ps1 ++ (terms i).guarantees ++ ps3 ++ p.one_mode d (terms i).modes) (p.owed_by_calls i is)
    (qs1 ++ qs2 ++ qs3 ++ one_mode (conditions_of i).modes at) (owed_by_calls g is)
    (many_both (ps1 ++ (terms i).guarantees ++ ps3) (p.one_mode d (terms i).modes) (qs1 ++ qs2 ++ qs3) (one_mode (conditions_of i).modes at)
    (many_both (ps1 ++ (terms i).guarantees) ps3 (qs1 ++ qs2) qs3
    (many_both ps1 (terms i).guarantees qs1 qs2 (body_many i g d.body) (many_right (λ f. f at) (terms i).guarantees (conditions_of i).guarantees items.guarantees))
    (ensures_many at (terms i).modes (conditions_of i).modes items.modes)) (one_many d at (terms i).modes (conditions_of i).modes items.modes))
    (calls_many i g is)

pub each_property_has_a_resolution : EachPropertyHasAResolution
each_property_has_a_resolution i = same_length (p.properties i) (property_resolutions i) (as_many i)
