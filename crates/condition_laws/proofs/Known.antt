-- What the modes of a contract ask by its items is what they ask as resolutions.
use Rattle.std.proofs.Common.{◌≡◌, ℕ, zero, suc, pred, List, [], ◌∷◌, ◌++◌, map, slice_index_or, refl, ap, ◌∙◌}
use Rattle.lus_tree.specs.Tree.{Name, Labelled, ContractStatement, assume, guarantee, ghost_variable, constant, mode, «import»}
use Rattle.lus_meaning.specs.Scene.{Instance, Instances, instance, no_instances, with_instance, contract_statements}
use Rattle.lus_meaning.proofs.Lists.{map_append}
use Rattle.sys_meaning.specs.Items.{Known, known, ModeItem, mode_item, imported_item, Items, no_items, items_after, items_each}
use Rattle.evaluation_laws.specs.Resolvings.{Resolving, all_resolved, asked_resolving, imported_resolving, resolvings_after, resolvings_each}
use Rattle.condition_laws.specs.Conditions.{resolved}
use Rattle.condition_laws.specs.Laws.{ItemsAskResolvings}

-- functions with the same values are the same
same_function : {A B : Type 0} (f g : A → B) → ((x : A) → f x ≡ g x) → f ≡ g
same_function f g h = λ i x. h x i

mapped_twice : {A B C : Type 0} (f : B → C) (g : A → B) (xs : List A) → map f (map g xs) ≡ map (λ x. f (g x)) xs
mapped_twice f g [] = refl
mapped_twice f g (x ∷ xs) = ap (λ l. f (g x) ∷ l) (mapped_twice f g xs)

asked_same : (i : Instance) (ms : Known Resolving) (m : Name) (rs es : List Labelled) →
    (mode_item resolved i ms m rs es).asked ≡ asked_resolving i ms rs
asked_same i ms m rs es =
    same_function (mode_item resolved i ms m rs es).asked (asked_resolving i ms rs)
    (λ at. ap all_resolved (mapped_twice (λ (w : Resolving). w at) (λ (r : Labelled). resolved.says i ms r.value) rs))

imported_known : (k : ℕ) (c : Name) (qs : List (ModeItem Resolving)) →
    known (map (imported_item resolved k c) qs) ≡ map (imported_resolving k c) (known qs)
imported_known k c [] = refl
imported_known k c (q ∷ qs) = ap (λ l. ((c ∷ q.key.0, q.key.1), resolved.through k q.asked) ∷ l) (imported_known k c qs)

known_both : (qs rs : List (ModeItem Resolving)) → known (qs ++ rs) ≡ known qs ++ known rs
known_both qs rs = map_append (λ (m : ModeItem Resolving). (m.key, m.asked)) qs rs

module _ (i : Instance) (sub : ℕ → Items Resolving) (sub' : ℕ → Known Resolving) (same : (k : ℕ) → known (sub k).modes ≡ sub' k) where
  known_after : (qs : List (ModeItem Resolving)) (cs : List ContractStatement) →
      known (items_after resolved i sub qs cs).modes ≡ resolvings_after i sub' (known qs) cs
  known_after qs [] = refl
  known_after qs (assume l ∷ cs) = known_after qs cs
  known_after qs (guarantee l ∷ cs) = known_after qs cs
  known_after qs (ghost_variable x e ∷ cs) = known_after qs cs
  known_after qs (constant c ∷ cs) = known_after qs cs
  known_after qs (mode m rs es ∷ cs) =
      known_after (qs ++ mode_item resolved i (known qs) m.text rs es ∷ []) cs
      ∙ ap (λ l. resolvings_after i sub' l cs) (known_both qs (mode_item resolved i (known qs) m.text rs es ∷ [])
      ∙ ap (λ w. known qs ++ (([], m.text), w) ∷ []) (asked_same i (known qs) m.text rs es))
  known_after qs («import» k c as_ xs ∷ cs) =
      known_after (qs ++ map (imported_item resolved k c.text) (sub k).modes) cs
      ∙ ap (λ l. resolvings_after i sub' l cs) (known_both qs (map (imported_item resolved k c.text) (sub k).modes)
      ∙ ap (λ l. known qs ++ l) (imported_known k c.text (sub k).modes ∙ ap (λ l. map (imported_resolving k c.text) l) (same k)))

mutual
  pub items_ask_resolvings : ItemsAskResolvings
  items_ask_resolvings (instance d cs is) =
      known_after (instance d cs is) (λ k. slice_index_or (items_each resolved is) (pred k) no_items) (λ k. slice_index_or (resolvings_each is) (pred k) [])
      (λ k. each_asks is (pred k)) [] (contract_statements d)

  each_asks : (is : Instances) (p : ℕ) → known (slice_index_or (items_each resolved is) p no_items).modes ≡ slice_index_or (resolvings_each is) p []
  each_asks no_instances zero = refl
  each_asks no_instances (suc p) = refl
  each_asks (with_instance c k is) zero = items_ask_resolvings k
  each_asks (with_instance c k is) (suc p) = each_asks is p
