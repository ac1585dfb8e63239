-- The conditions of a contract by the sight of a frame are those of the instance.
use Rattle.std.proofs.Common.{◌≡◌, ℕ, zero, suc, pred, ◌+◌, ◌≤◌, cond, List, [], ◌∷◌, ◌++◌, map, append_assoc, None, unwrap_or, refl, sym, ap, ◌∙◌, subst, arith, slice_index_or}
use Rattle.std.specs.Prelude.{slice_get}
use Rattle.std.specs.List.{AllByRecursion}
use Rattle.std.proofs.lemmas.Bool.{le-leb}
use Rattle.std.proofs.lemmas.List.{append-nil, map-append}
use Rattle.lus_tree.specs.Tree.{Name, Expression, Labelled, ContractStatement, assume, guarantee, ghost_variable, constant, mode, «import»}
use Rattle.lus_meaning.specs.Scene.{Instance, Instances, instance, no_instances, with_instance, calls_of, component_of, contract_statements}
use Rattle.sys_meaning.specs.Items.{Key, ModeItem, known, items_after, items_each, no_items}
use Rattle.sys_meaning.specs.Items as m
use Rattle.sys_meaning.specs.Slot.{Place}
use Rattle.sys_meaning.specs.System.{below_call}
use Rattle.sys_texts.specs.Laws.{IsSightOf}
use Rattle.sys_texts.specs.Sights.{Sight, Way, counted_from_one, own}
use Rattle.sys_contracts.specs.Laws.{bare}
use Rattle.slot_values.specs.Resolution.{Resolution}
use Rattle.slot_values.specs.Resolved.{Numbering, resolution}
use Rattle.evaluation_laws.specs.Resolvings.{Resolving, all_resolved, at_numbers}
use Rattle.condition_laws.specs.Conditions.{conditions_of, resolved}
use Rattle.frame_sources.specs.Resolved.{Asked, resolved_by}
use Rattle.frame_sources.specs.Modes.{all_by, imported_mode, mode_by}
use Rattle.frame_sources.specs.Laws.{IsNumbered, asked_at}
use Rattle.frame_sources.proofs.Contracted.{each_same, longer_way, twice}
use Rattle.frame_sources.proofs.Sights.{resolved_as}
use Rattle.frame_conditions.specs.Conditioned.{Conditions, contract_conditions, ensured, imported_at, under, with_import, with_statements}
use Rattle.frame_conditions.specs.Laws.{all_at, called_from, conditions_at, ensured_at, mode_at}

-- ---- numbers of calls

counted : (xs : List Conditions) (k : ℕ) → counted_from_one xs (suc k) ≡ slice_get xs k
counted xs k = ap (λ b. cond b (slice_get xs k) None) (le-leb 1 (suc k) (omega arith))

called_at : (is : Instances) (j k : ℕ) (at : Place → ℕ) → unwrap_or (slice_get (called_from k is at) j) (conditions_at (below_call (k + j) at) no_items)
    ≡ conditions_at (below_call (k + j) at) (slice_index_or (items_each resolved is) j no_items)
called_at no_instances j k at = refl
called_at (with_instance s i is) zero k at =
    let e : k ≡ k + 0 = omega arith in
    subst (λ n. conditions_at (below_call k at) (conditions_of i) ≡ conditions_at (below_call n at) (conditions_of i)) e refl
called_at (with_instance s i is) (suc j) k at =
    let e : suc k + j ≡ k + suc j = omega arith in
    subst (λ n. unwrap_or (slice_get (called_from (suc k) is at) j) (conditions_at (below_call n at) no_items)
    ≡ conditions_at (below_call n at) (slice_index_or (items_each resolved is) j no_items)) e (called_at is j (suc k) at)

imported_is : (is : Instances) (k : ℕ) (at : Place → ℕ) → 1 ≤ k → imported_at (called_from 1 is at) k
    ≡ conditions_at (below_call k at) (slice_index_or (items_each resolved is) (pred k) no_items)
imported_is is zero at l = absurd (omega arith)
imported_is is (suc k) at l =
    let e : 1 + k ≡ suc k = omega arith in
    ap (λ o. unwrap_or o (conditions_at (below_call (suc k) at) no_items)) (counted (called_from 1 is at) k)
    ∙ subst (λ n. unwrap_or (slice_get (called_from 1 is at) k) (conditions_at (below_call n at) no_items)
    ≡ conditions_at (below_call n at) (slice_index_or (items_each resolved is) k no_items)) e (called_at is k 1 at)

module _ (s : Sight) (i : Instance) (at : Place → ℕ) (h : IsSightOf s [] (bare i at)) where
  abbrev modes : List (ModeItem Resolving) → List Asked
  modes ms = map (mode_at at) ms

  abbrev with_known : List (ModeItem Resolving) → Numbering
  with_known ms = record { place = i; number = at; modes = at_numbers at (known ms) }

  said : (ms : List (ModeItem Resolving)) (e : Expression) → resolved_by s (modes ms) e ≡ resolution (with_known ms) e
  said ms e =
      ap (λ ks. resolved_by s ks e) (sym (twice (asked_at at) (λ (n : ModeItem Resolving). let z : Key × Resolving = (n.key, n.asked) in z) ms))
      ∙ resolved_as s i at h (known ms) e

  -- ---- a mode of the contract itself

  abbrev asked : List (ModeItem Resolving) → List Labelled → Resolving
  asked ms rs = resolved.all_of (map (λ r. resolved.says i (known ms) r.value) rs)

  abbrev item : List (ModeItem Resolving) → Name → List Labelled → List Labelled → ModeItem Resolving
  item ms x rs es = m.mode_item resolved i (known ms) x rs es

  asked_is : (ms : List (ModeItem Resolving)) (rs : List Labelled) → all_by s (modes ms) rs ≡ asked ms rs at
  asked_is ms rs =
      ap all_resolved (each_same (λ (l : Labelled). resolved_by s (modes ms) l.value) (λ (l : Labelled). resolution (with_known ms) l.value) (λ l. said ms l.value) rs
      ∙ sym (twice (λ (f : Resolving). f at) (λ (l : Labelled). resolved.says i (known ms) l.value) rs))

  mode_is : (ms : List (ModeItem Resolving)) (x : Name) (rs es : List Labelled) → mode_by s (modes ms) x rs ≡ mode_at at (item ms x rs es)
  mode_is ms x rs es = ap asking (asked_is ms rs)
    where
      asking : Resolution → Asked
      asking z = record { way = own; name = x; asked = z }

  ensured_is : (ms : List (ModeItem Resolving)) (x : Name) (rs es : List Labelled)
      → ensured s (modes ms) (all_by s (modes ms) rs) es ≡ all_at at (item ms x rs es).ensures_each
  ensured_is ms x rs es =
      ap (λ z. ensured s (modes ms) z es) (asked_is ms rs)
      ∙ (each_same (λ (l : Labelled). under (asked ms rs at) (resolved_by s (modes ms) l.value)) (λ (l : Labelled). under (asked ms rs at) (resolution (with_known ms) l.value))
      (λ l. ap (under (asked ms rs at)) (said ms l.value)) es
      ∙ sym (twice (λ (f : Resolving). f at) (λ (l : Labelled). resolved.under (asked ms rs) (resolved.says i (known ms) l.value)) es))

  -- ---- modes behind others

  modes_joined : (ms ns : List (ModeItem Resolving)) → modes ms ++ modes ns ≡ modes (ms ++ ns)
  modes_joined ms ns = sym (map-append (mode_at at) ms ns)

  ensured_joined : (ms ns : List (ModeItem Resolving)) → ensured_at at ms ++ ensured_at at ns ≡ ensured_at at (ms ++ ns)
  ensured_joined [] ns = refl
  ensured_joined (n ∷ ms) ns =
      append_assoc (all_at at n.ensures_each) (ensured_at at ms) (ensured_at at ns)
      ∙ ap (λ l. all_at at n.ensures_each ++ l) (ensured_joined ms ns)

  ensured_more : (ms : List (ModeItem Resolving)) (n : ModeItem Resolving) → ensured_at at ms ++ all_at at n.ensures_each ≡ ensured_at at (ms ++ n ∷ [])
  ensured_more ms n = ap (λ l. ensured_at at ms ++ l) (sym (append-nil (all_at at n.ensures_each))) ∙ ensured_joined ms (n ∷ [])

  -- ---- imports

  imported_mode_is : (k : ℕ) (c : Name) (n : ModeItem Resolving) → imported_mode c (mode_at (below_call k at) n) ≡ mode_at at (m.imported_item resolved k c n)
  imported_mode_is k c n = ap on_way (longer_way c n.key.0)
    where
      on_way : Way → Asked
      on_way w = record { way = w; name = n.key.1; asked = n.asked (below_call k at) }

  imported_modes : (k : ℕ) (c : Name) (ns : List (ModeItem Resolving))
      → map (imported_mode c) (map (mode_at (below_call k at)) ns) ≡ modes (map (m.imported_item resolved k c) ns)
  imported_modes k c ns =
      twice (imported_mode c) (mode_at (below_call k at)) ns
      ∙ (each_same (λ n. imported_mode c (mode_at (below_call k at) n)) (λ n. mode_at at (m.imported_item resolved k c n)) (imported_mode_is k c) ns
      ∙ sym (twice (mode_at at) (m.imported_item resolved k c) ns))

  imported_ensured : (k : ℕ) (c : Name) (ns : List (ModeItem Resolving))
      → ensured_at (below_call k at) ns ≡ ensured_at at (map (m.imported_item resolved k c) ns)
  imported_ensured k c [] = refl
  imported_ensured k c (n ∷ ns) =
      ap (λ l. l ++ ensured_at (below_call k at) ns) (sym (twice (λ (f : Resolving). f at) (resolved.through k) n.ensures_each))
      ∙ ap (λ l. all_at at (m.imported_item resolved k c n).ensures_each ++ l) (imported_ensured k c ns)

  -- ---- statements

  abbrev made : List Resolution → List Resolution → List Asked → List Resolution → Conditions
  made as_ gs ms es = record { assumes = as_; guarantees = gs; modes = ms; ensured = es }

  abbrev so_far : List Resolution → List Resolution → List (ModeItem Resolving) → Conditions
  so_far as_ gs ms = made as_ gs (modes ms) (ensured_at at ms)

  abbrev joined : List Resolution → List Resolution → m.Items Resolving → Conditions
  joined as_ gs r = made (as_ ++ all_at at r.assumes) (gs ++ all_at at r.guarantees) (modes r.modes) (ensured_at at r.modes)

  abbrev sub : ℕ → m.Items Resolving
  sub k = slice_index_or (items_each resolved (calls_of i)) (pred k) no_items

  abbrev subs : List Conditions
  subs = called_from 1 (calls_of i) at

  abbrev with_modes : List (ModeItem Resolving) → ℕ → Name → List (ModeItem Resolving)
  with_modes ms k c = ms ++ map (m.imported_item resolved k c) (sub k).modes

  brought : (k : ℕ) (xs : List Resolution) (fs gs : List Resolving)
      → (xs ++ all_at (below_call k at) fs) ++ all_at at gs ≡ xs ++ all_at at (map (resolved.through k) fs ++ gs)
  brought k xs fs gs =
      append_assoc xs (all_at (below_call k at) fs) (all_at at gs)
      ∙ ap (λ l. xs ++ l) (ap (λ l. l ++ all_at at gs) (sym (twice (λ (f : Resolving). f at) (resolved.through k) fs))
      ∙ sym (map-append (λ (f : Resolving). f at) (map (resolved.through k) fs) gs))

  moved : (xs : List Resolution) (x : Resolution) (ys : List Resolution) → (xs ++ x ∷ []) ++ ys ≡ xs ++ x ∷ ys
  moved xs x ys = append_assoc xs (x ∷ []) ys

  after : (as_ gs : List Resolution) (ms : List (ModeItem Resolving)) (cs : List ContractStatement) → AllByRecursion IsNumbered cs
      → with_statements s subs (so_far as_ gs ms) cs ≡ joined as_ gs (items_after resolved i sub ms cs)
  after as_ gs ms [] a =
      ap (λ l. made l gs (modes ms) (ensured_at at ms)) (sym (append-nil as_))
      ∙ ap (λ l. made (as_ ++ []) l (modes ms) (ensured_at at ms)) (sym (append-nil gs))
  after as_ gs ms (assume l ∷ cs) a =
      let r : m.Items Resolving = items_after resolved i sub ms cs in
      ap (λ z. with_statements s subs (so_far (as_ ++ z ∷ []) gs ms) cs) (said ms l.value)
      ∙ (after (as_ ++ resolution (with_known ms) l.value ∷ []) gs ms cs a.1
      ∙ ap (λ z. made z (gs ++ all_at at r.guarantees) (modes r.modes) (ensured_at at r.modes))
      (moved as_ (resolution (with_known ms) l.value) (all_at at r.assumes)))
  after as_ gs ms (guarantee l ∷ cs) a =
      let r : m.Items Resolving = items_after resolved i sub ms cs in
      ap (λ z. with_statements s subs (so_far as_ (gs ++ z ∷ []) ms) cs) (said ms l.value)
      ∙ (after as_ (gs ++ resolution (with_known ms) l.value ∷ []) ms cs a.1
      ∙ ap (λ z. made (as_ ++ all_at at r.assumes) z (modes r.modes) (ensured_at at r.modes))
      (moved gs (resolution (with_known ms) l.value) (all_at at r.guarantees)))
  after as_ gs ms (ghost_variable x e ∷ cs) a = after as_ gs ms cs a.1
  after as_ gs ms (constant c ∷ cs) a = after as_ gs ms cs a.1
  after as_ gs ms (mode x rs es ∷ cs) a =
      let n : ModeItem Resolving = item ms x.text rs es in
      ap (λ z. with_statements s subs (made as_ gs (modes ms ++ z ∷ []) (ensured_at at ms ++ ensured s (modes ms) (all_by s (modes ms) rs) es)) cs)
      (mode_is ms x.text rs es)
      ∙ (ap (λ z. with_statements s subs (made as_ gs z (ensured_at at ms ++ ensured s (modes ms) (all_by s (modes ms) rs) es)) cs) (modes_joined ms (n ∷ []))
      ∙ (ap (λ z. with_statements s subs (made as_ gs (modes (ms ++ n ∷ [])) (ensured_at at ms ++ z)) cs) (ensured_is ms x.text rs es)
      ∙ (ap (λ z. with_statements s subs (made as_ gs (modes (ms ++ n ∷ [])) z) cs) (ensured_more ms n)
      ∙ after as_ gs (ms ++ n ∷ []) cs a.1)))
  after as_ gs ms («import» k c as' xs ∷ cs) a =
      let q : m.Items Resolving = sub k in
      let ns : List (ModeItem Resolving) = with_modes ms k c.text in
      let r : m.Items Resolving = items_after resolved i sub ns cs in
      let bs : List Resolution = as_ ++ all_at (below_call k at) q.assumes in
      let hs : List Resolution = gs ++ all_at (below_call k at) q.guarantees in
      ap (λ z. with_statements s subs (with_import (so_far as_ gs ms) c.text z) cs) (imported_is (calls_of i) k at a.0)
      ∙ (ap (λ z. with_statements s subs (made bs hs (modes ms ++ z) (ensured_at at ms ++ ensured_at (below_call k at) q.modes)) cs) (imported_modes k c.text q.modes)
      ∙ (ap (λ z. with_statements s subs (made bs hs z (ensured_at at ms ++ ensured_at (below_call k at) q.modes)) cs)
      (modes_joined ms (map (m.imported_item resolved k c.text) q.modes))
      ∙ (ap (λ z. with_statements s subs (made bs hs (modes ns) (ensured_at at ms ++ z)) cs) (imported_ensured k c.text q.modes)
      ∙ (ap (λ z. with_statements s subs (made bs hs (modes ns) z) cs) (ensured_joined ms (map (m.imported_item resolved k c.text) q.modes))
      ∙ (after bs hs ns cs a.1
      ∙ (ap (λ z. made z (hs ++ all_at at r.guarantees) (modes r.modes) (ensured_at at r.modes)) (brought k as_ q.assumes r.assumes)
      ∙ ap (λ z. made (as_ ++ all_at at (map (resolved.through k) q.assumes ++ r.assumes)) z (modes r.modes) (ensured_at at r.modes))
      (brought k gs q.guarantees r.guarantees)))))))

pub conditions_are : (s : Sight) (i : Instance) (at : Place → ℕ) → IsSightOf s [] (bare i at)
    → AllByRecursion IsNumbered (contract_statements (component_of i))
    → contract_conditions s (called_from 1 (calls_of i) at) (contract_statements (component_of i)) ≡ conditions_at at (conditions_of i)
conditions_are s (instance n cs is) at h a = after s (instance n cs is) at h [] [] [] (contract_statements n) a
