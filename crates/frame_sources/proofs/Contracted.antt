-- The modes of a contract by the sight of a frame are those of the instance.
use Rattle.std.proofs.Common.{◌≡◌, ℕ, zero, suc, pred, ◌+◌, ◌≤◌, cond, List, [], ◌∷◌, ◌++◌, map, None, unwrap_or, refl, sym, ap, ◌∙◌, arith, slice_index_or}
use Rattle.std.specs.Prelude.{slice_get}
use Rattle.std.specs.List.{AllByRecursion}
use Rattle.std.proofs.lemmas.Bool.{le-leb}
use Rattle.std.proofs.lemmas.List.{map-append}
use Rattle.lus_tree.specs.Tree.{Name, Labelled, ContractStatement, assume, guarantee, ghost_variable, constant, mode, «import»}
use Rattle.lus_meaning.specs.Scene.{Instance, Instances, instance, no_instances, with_instance, calls_of, component_of, contract_statements}
use Rattle.sys_meaning.specs.Items.{Key, Known}
use Rattle.sys_meaning.specs.Slot.{Place}
use Rattle.sys_meaning.specs.System.{below_call}
use Rattle.sys_texts.specs.Laws.{IsSightOf}
use Rattle.sys_texts.specs.Sights.{Sight, Way, counted_from_one, own}
use Rattle.sys_contracts.specs.Items.{way_through}
use Rattle.sys_contracts.specs.Laws.{bare, way_of}
use Rattle.slot_values.specs.Resolution.{Resolution}
use Rattle.slot_values.specs.Resolved.{resolution}
use Rattle.evaluation_laws.specs.Resolvings.{Resolving, all_resolved, asked_resolving, at_numbers, imported_resolving, resolvings, resolvings_after, resolvings_each}
use Rattle.frame_sources.specs.Resolved.{Asked, resolved_by}
use Rattle.frame_sources.specs.Modes.{contract_modes, imported_at, imported_mode, mode_by, with_statements}
use Rattle.frame_sources.specs.Laws.{IsNumbered, asked_at, called_from, modes_at}
use Rattle.frame_sources.proofs.Sights.{resolved_as}

pub twice : {A B C : Type 0} (f : B → C) (h : A → B) (xs : List A) → map f (map h xs) ≡ map (λ x. f (h x)) xs
twice f h [] = refl
twice f h (x ∷ xs) = ap (λ l. f (h x) ∷ l) (twice f h xs)

pub each_same : {A B : Type 0} (f h : A → B) → ((x : A) → f x ≡ h x) → (xs : List A) → map f xs ≡ map h xs
each_same f h e [] = refl
each_same f h e (x ∷ xs) = ap (λ y. y ∷ map f xs) (e x) ∙ ap (λ l. h x ∷ l) (each_same f h e xs)

pub longer_way : (c : Name) (ks : List Name) → way_through c (way_of ks) ≡ way_of (c ∷ ks)
longer_way c [] = refl
longer_way c (d ∷ []) = refl
longer_way c (d ∷ e ∷ ks) = refl

-- ---- numbers of calls

counted : (xs : List (List Asked)) (k : ℕ) → counted_from_one xs (suc k) ≡ slice_get xs k
counted xs k = ap (λ b. cond b (slice_get xs k) None) (le-leb 1 (suc k) (omega arith))

called_at : (is : Instances) (j k : ℕ) (at : Place → ℕ) → unwrap_or (slice_get (called_from k is at) j) []
    ≡ map (asked_at (below_call (k + j) at)) (slice_index_or (resolvings_each is) j [])
called_at no_instances j k at = refl
called_at (with_instance s i is) zero k at =
    let e : k ≡ k + 0 = omega arith in
    ap (λ n. map (asked_at (below_call n at)) (resolvings i)) e
called_at (with_instance s i is) (suc j) k at =
    let e : suc k + j ≡ k + suc j = omega arith in
    called_at is j (suc k) at ∙ ap (λ n. map (asked_at (below_call n at)) (slice_index_or (resolvings_each is) j [])) e

imported_is : (is : Instances) (k : ℕ) (at : Place → ℕ) → 1 ≤ k → imported_at (called_from 1 is at) k
    ≡ map (asked_at (below_call k at)) (slice_index_or (resolvings_each is) (pred k) [])
imported_is is zero at l = absurd (omega arith)
imported_is is (suc k) at l =
    let e : 1 + k ≡ suc k = omega arith in
    ap (λ o. unwrap_or o []) (counted (called_from 1 is at) k)
    ∙ (called_at is k 1 at ∙ ap (λ n. map (asked_at (below_call n at)) (slice_index_or (resolvings_each is) k [])) e)

module _ (s : Sight) (i : Instance) (at : Place → ℕ) (h : IsSightOf s [] (bare i at)) where
  mode_is : (ks : Known Resolving) (x : Name) (rs : List Labelled)
      → mode_by s (map (asked_at at) ks) x rs ≡ asked_at at (([], x), asked_resolving i ks rs)
  mode_is ks x rs =
      ap (λ z. mode_asking (all_resolved z))
      (each_same (λ (l : Labelled). resolved_by s (map (asked_at at) ks) l.value) (λ (l : Labelled). resolution (record { place = i; number = at; modes = at_numbers at ks }) l.value)
      (λ l. resolved_as s i at h ks l.value) rs)
    where
      mode_asking : Resolution → Asked
      mode_asking z = record { way = own; name = x; asked = z }

  imported_mode_is : (k : ℕ) (c : Name) (m : Key × Resolving) → imported_mode c (asked_at (below_call k at) m) ≡ asked_at at (imported_resolving k c m)
  imported_mode_is k c m = ap on_way (longer_way c m.0.0)
    where
      on_way : Way → Asked
      on_way w = record { way = w; name = m.0.1; asked = m.1 (below_call k at) }

  abbrev sub : ℕ → Known Resolving
  sub k = slice_index_or (resolvings_each (calls_of i)) (pred k) []

  abbrev subs : List (List Asked)
  subs = called_from 1 (calls_of i) at

  modes_more : (ks : Known Resolving) (k : ℕ) (c : Name)
      → map (asked_at at) ks ++ map (imported_mode c) (map (asked_at (below_call k at)) (sub k))
      ≡ map (asked_at at) (ks ++ map (imported_resolving k c) (sub k))
  modes_more ks k c =
      ap (λ ns. map (asked_at at) ks ++ ns) (twice (imported_mode c) (asked_at (below_call k at)) (sub k)
      ∙ (each_same (λ m. imported_mode c (asked_at (below_call k at) m)) (λ m. asked_at at (imported_resolving k c m)) (imported_mode_is k c) (sub k)
      ∙ sym (twice (asked_at at) (imported_resolving k c) (sub k))))
      ∙ sym (map-append (asked_at at) ks (map (imported_resolving k c) (sub k)))

  after : (ks : Known Resolving) (cs : List ContractStatement) → AllByRecursion IsNumbered cs
      → with_statements s subs (map (asked_at at) ks) cs ≡ map (asked_at at) (resolvings_after i sub ks cs)
  after ks [] a = refl
  after ks (assume l ∷ cs) a = after ks cs a.1
  after ks (guarantee l ∷ cs) a = after ks cs a.1
  after ks (ghost_variable x e ∷ cs) a = after ks cs a.1
  after ks (constant c ∷ cs) a = after ks cs a.1
  after ks (mode x rs es ∷ cs) a =
      ap (λ m. with_statements s subs (map (asked_at at) ks ++ m ∷ []) cs) (mode_is ks x.text rs)
      ∙ (ap (λ ns. with_statements s subs ns cs) (sym (map-append (asked_at at) ks ((([], x.text), asked_resolving i ks rs) ∷ [])))
      ∙ after (ks ++ (([], x.text), asked_resolving i ks rs) ∷ []) cs a.1)
  after ks («import» k c as_ xs ∷ cs) a =
      ap (λ ns. with_statements s subs (map (asked_at at) ks ++ map (imported_mode c.text) ns) cs) (imported_is (calls_of i) k at a.0)
      ∙ (ap (λ ns. with_statements s subs ns cs) (modes_more ks k c.text) ∙ after (ks ++ map (imported_resolving k c.text) (sub k)) cs a.1)

pub modes_are : (s : Sight) (i : Instance) (at : Place → ℕ) → IsSightOf s [] (bare i at)
    → AllByRecursion IsNumbered (contract_statements (component_of i))
    → contract_modes s (called_from 1 (calls_of i) at) (contract_statements (component_of i)) ≡ modes_at at i
modes_are s (instance n cs is) at h a = after s (instance n cs is) at h [] (contract_statements n) a
