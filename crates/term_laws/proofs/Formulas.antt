-- A system has as many formulas as the declaration has properties.
use Rattle.std.proofs.Common.{◌≡◌, ℕ, zero, suc, pred, ◌+◌, List, [], ◌∷◌, ◌++◌, map, flat_map, length, refl, sym, ap, ◌∙◌}
use Rattle.std.specs.Prelude.{slice_index_or}
use Rattle.std.proofs.lemmas.List.{length-append}
use Rattle.lus_tree.specs.Tree.{Statement, equation, assertion, property, main_mark, Labelled, ContractStatement, assume, guarantee, ghost_variable, constant, mode, «import», Component}
use Rattle.lus_meaning.specs.Scene.{Manner, plain, while_true, as_import, Site, Instance, Instances, instance, no_instances, with_instance, contract_statements}
use Rattle.lus_meaning.specs.Contract.{ModeTerms, Terms, no_terms, terms, terms_each, terms_after, mode_terms, imported_mode, imported}
use Rattle.lus_meaning.specs.Property as meaning
use Rattle.lus_meaning.specs.Program.{instance_of}
use Rattle.lus_meaning.proofs.Exists.{length_mapped}
use Rattle.lus_meaning.proofs.Lists.{map_append}
use Rattle.sys_meaning.specs.Slot.{Place}
use Rattle.sys_meaning.specs.Items.{ModeItem, Items, no_items, known, mode_item, imported_item, items, items_each, items_after}
use Rattle.sys_meaning.specs.Translate.{Stage}
use Rattle.sys_meaning.specs.System.{Written, written, contract_of, assumed, stage, body_properties, one_mode, owed_by_site, owed_by_calls, below_call, number_of}
use Rattle.sys_meaning.specs.Verdicts.{HasFormulas}
use Rattle.term_laws.specs.Laws.{EachFormulas}

-- ---- contracts

abbrev many_here : ModeItem Written → ℕ
many_here m = length m.ensures_each

abbrev many_there : ModeTerms → ℕ
many_there m = length m.ensures_each

-- as many items of each kind, and as many ensures of each mode
pub record SameCounts (a : Items Written) (b : Terms) : Type 0 where
  pub assumes : length a.assumes ≡ length b.assumes
  pub guarantees : length a.guarantees ≡ length b.guarantees
  pub modes : map many_here a.modes ≡ map many_there b.modes

modes_after : (xs ys : List (ModeItem Written)) (us vs : List ModeTerms) → map many_here xs ≡ map many_there us →
    map many_here ys ≡ map many_there vs → map many_here (xs ++ ys) ≡ map many_there (us ++ vs)
modes_after xs ys us vs e f = map_append many_here xs ys ∙ rw (e, f) (sym (map_append many_there us vs))

own_mode : (i : Instance) (m : _) (xs : List (ModeItem Written)) (us : List ModeTerms) (rs es : List Labelled) →
    map many_here (mode_item written i (known xs) m rs es ∷ []) ≡ map many_there (mode_terms i us m rs es ∷ [])
own_mode i m xs us rs es = ap (λ n. n ∷ []) (length_mapped _ es ∙ sym (length_mapped _ es))

imported_modes : (k : ℕ) (c : _) (xs : List (ModeItem Written)) (us : List ModeTerms) → map many_here xs ≡ map many_there us →
    map many_here (map (imported_item written k c) xs) ≡ map many_there (map (imported_mode k c) us)
imported_modes k c xs us e = here xs ∙ e ∙ sym (there us)
  where
    here : (ys : List (ModeItem Written)) → map many_here (map (imported_item written k c) ys) ≡ map many_here ys
    here [] = refl
    here (y ∷ ys) = rw (length_mapped (written.through k) y.ensures_each, here ys) refl

    there : (vs : List ModeTerms) → map many_there (map (imported_mode k c) vs) ≡ map many_there vs
    there [] = refl
    there (v ∷ vs) = rw (length_mapped (imported k) v.ensures_each, there vs) refl

both_many : {A B C D : Type 0} (f : A → C) (g : B → D) (as_ : List A) (bs : List B) (cs : List C) (ds : List D) →
    length as_ ≡ length bs → length cs ≡ length ds → length (map f as_ ++ cs) ≡ length (map g bs ++ ds)
both_many f g as_ bs cs ds e h =
    length-append (map f as_) cs ∙ rw (length_mapped f as_, e, h) (sym (length-append (map g bs) ds ∙ rw (length_mapped g bs) refl))

counts_after : (i : Instance) (sub : ℕ → Items Written) (sub' : ℕ → Terms) → ((k : ℕ) → SameCounts (sub k) (sub' k)) →
    (cs : List ContractStatement) (xs : List (ModeItem Written)) (us : List ModeTerms) → map many_here xs ≡ map many_there us →
    SameCounts (items_after written i sub xs cs) (terms_after i sub' us cs)
counts_after i sub sub' h [] xs us e = record { assumes = refl; guarantees = refl; modes = e }
counts_after i sub sub' h (assume l ∷ cs) xs us e =
    let r = counts_after i sub sub' h cs xs us e in
    record { assumes = ap suc r.assumes; guarantees = r.guarantees; modes = r.modes }
counts_after i sub sub' h (guarantee l ∷ cs) xs us e =
    let r = counts_after i sub sub' h cs xs us e in
    record { assumes = r.assumes; guarantees = ap suc r.guarantees; modes = r.modes }
counts_after i sub sub' h (ghost_variable x a ∷ cs) xs us e = counts_after i sub sub' h cs xs us e
counts_after i sub sub' h (constant c ∷ cs) xs us e = counts_after i sub sub' h cs xs us e
counts_after i sub sub' h (mode m rs es ∷ cs) xs us e =
    counts_after i sub sub' h cs _ _ (modes_after xs _ us _ e (own_mode i m.text xs us rs es))
counts_after i sub sub' h («import» k c as_ ys ∷ cs) xs us e =
    let r = counts_after i sub sub' h cs _ _ (modes_after xs _ us _ e (imported_modes k c.text _ _ (h k).modes)) in
    record {
      assumes = both_many (written.through k) (imported k) _ _ _ _ (h k).assumes r.assumes;
      guarantees = both_many (written.through k) (imported k) _ _ _ _ (h k).guarantees r.guarantees;
      modes = r.modes;
    }

mutual
  pub same_counts : (i : Instance) → SameCounts (items written i) (terms i)
  same_counts (instance n cs is) = counts_after (instance n cs is) _ _ (λ k. counts_each is (pred k)) (contract_statements n) [] [] refl

  counts_each : (is : Instances) (k : ℕ) →
      SameCounts (slice_index_or (items_each written is) k no_items) (slice_index_or (terms_each is) k no_terms)
  counts_each no_instances k = record { assumes = refl; guarantees = refl; modes = refl }
  counts_each (with_instance s i is) zero = same_counts i
  counts_each (with_instance s i is) (suc k) = counts_each is k

-- ---- properties

body_many : (g : Stage) (i : Instance) (ss : List Statement) → length (body_properties g ss) ≡ length (meaning.body_properties i ss)
body_many g i [] = refl
body_many g i (equation xs e ∷ ss) = body_many g i ss
body_many g i (assertion e ∷ ss) = body_many g i ss
body_many g i (property l ∷ ss) = ap suc (body_many g i ss)
body_many g i (main_mark p ∷ ss) = body_many g i ss

ensures_many : (at : Place → ℕ) (xs : List (ModeItem Written)) (us : List ModeTerms) → map many_here xs ≡ map many_there us →
    length (flat_map (λ m. map (λ f. f at) m.ensures_each) xs) ≡ length (flat_map (λ m. m.ensures_each) us)
ensures_many at xs us e = here xs ∙ ap total e ∙ sym (there us)
  where
    total : List ℕ → ℕ
    total [] = 0
    total (k ∷ ks) = k + total ks

    here : (ys : List (ModeItem Written)) → length (flat_map (λ m. map (λ f. f at) m.ensures_each) ys) ≡ total (map many_here ys)
    here [] = refl
    here (y ∷ ys) =
        length-append (map (λ f. f at) y.ensures_each) _ ∙ rw (length_mapped (λ f. f at) y.ensures_each, here ys) refl

    there : (vs : List ModeTerms) → length (flat_map (λ m. m.ensures_each) vs) ≡ total (map many_there vs)
    there [] = refl
    there (v ∷ vs) = length-append v.ensures_each _ ∙ rw (there vs) refl

abbrev first_many : List ℕ → ℕ
first_many [] = 0
first_many (k ∷ ks) = 1

mode_many : (d : Component) (at : Place → ℕ) (xs : List (ModeItem Written)) (us : List ModeTerms) → map many_here xs ≡ map many_there us →
    length (one_mode xs at) ≡ length (meaning.one_mode d us)
mode_many d at [] [] e = refl
mode_many d at [] (u ∷ us) e = ap first_many e
mode_many d at (x ∷ xs) [] e = ap first_many e
mode_many d at (x ∷ xs) (u ∷ us) e = refl

site_many : (g : Stage) (i : Instance) (c : Site) (m : Manner) (k : Instance) →
    length (owed_by_site g c m k) ≡ length (meaning.owed_by_site i c m (terms k))
site_many g i c plain k =
    length_mapped _ (assumed k (below_call c.number g.number)) ∙ length_mapped _ (contract_of k).assumes ∙ (same_counts k).assumes
    ∙ sym (length_mapped (meaning.owed i c) (terms k).assumes)
site_many g i c (while_true a) k =
    length_mapped _ (assumed k (below_call c.number g.number)) ∙ length_mapped _ (contract_of k).assumes ∙ (same_counts k).assumes
    ∙ sym (length_mapped (meaning.owed i c) (terms k).assumes)
site_many g i c (as_import xs) k = refl

calls_many : (g : Stage) (i : Instance) (is : Instances) → length (owed_by_calls g is) ≡ length (meaning.owed_by_calls i is)
calls_many g i no_instances = refl
calls_many g i (with_instance c k is) =
    length-append (owed_by_site g c c.manner k) (owed_by_calls g is)
    ∙ rw (site_many g i c c.manner k, calls_many g i is)
    (sym (length-append (meaning.owed_by_site i c c.manner (terms k)) (meaning.owed_by_calls i is)))

joined : {A B : Type 0} (as_ cs : List A) (bs ds : List B) → length as_ ≡ length bs → length cs ≡ length ds →
    length (as_ ++ cs) ≡ length (bs ++ ds)
joined as_ cs bs ds e h = length-append as_ cs ∙ rw (e, h) (sym (length-append bs ds))

pub has_formulas : (i : Instance) → HasFormulas i
has_formulas (instance d cs is) =
    let i : Instance = instance d cs is in
    let at : Place → ℕ = number_of i in
    let s = same_counts i in
    joined _ _ _ _ (joined _ _ _ _ (joined _ _ _ _ (joined _ _ _ _
    (body_many (stage i at) i d.body)
    (length_mapped (λ f. f at) (contract_of i).guarantees ∙ s.guarantees))
    (ensures_many at (contract_of i).modes (terms i).modes s.modes))
    (mode_many d at (contract_of i).modes (terms i).modes s.modes))
    (calls_many (stage i at) i is)

pub each_formulas : EachFormulas
each_formulas p c n j = has_formulas (instance_of p n)
