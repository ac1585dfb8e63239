-- The resolutions of modes have the keys of the modes, and those of the first items of a contract come first.
use Rattle.std.proofs.Common.{◌≡◌, ℕ, zero, suc, pred, Bool, true, false, cond, ◌||◌, List, [], ◌∷◌, ◌++◌, map, slice_index_or, refl, ap, ◌∙◌, sym, Some}
use Rattle.std.specs.List.{list_any}
use Rattle.std.specs.Map.{lookup}
use Rattle.std.proofs.lemmas.Bool.{false≢true}
use Rattle.lus_tree.specs.Tree.{Name, ContractStatement, assume, guarantee, ghost_variable, constant, mode, «import»}
use Rattle.lus_meaning.specs.Scene.{Instance, Instances, instance, no_instances, with_instance, contract_statements}
use Rattle.lus_meaning.specs.Meaning.{mode_key}
use Rattle.lus_meaning.specs.Contract.{ModeTerms, Terms, no_terms, mode_terms, imported_mode, terms_after, terms, terms_each}
use Rattle.lus_meaning.proofs.Lists.{append_none, map_append}
use Rattle.sys_meaning.specs.Items.{Key, Known}
use Rattle.sys_meaning.specs.WellTyped.{IsAmong, IsKnown}
use Rattle.evaluation_laws.specs.Resolvings.{Resolving, asked_resolving, imported_resolving, resolvings_after, resolvings, resolvings_each}
use Rattle.order_laws.proofs.Lists.{grouped}

abbrev pub keys : {A : Type 0} → List (Key × A) → List Key
keys qs = map (λ q. q.0) qs

abbrev mode_keys : List ModeTerms → List Key
mode_keys ms = map (λ m. m.key) ms

abbrev under : Name → Key → Key
under c z = (c ∷ z.0, z.1)

pub imported_keys : (k : ℕ) (c : Name) (qs : Known Resolving) → keys (map (imported_resolving k c) qs) ≡ map (λ (z : Key). (c ∷ z.0, z.1)) (keys qs)
imported_keys k c [] = refl
imported_keys k c (q ∷ qs) = ap (λ l. (c ∷ q.0.0, q.0.1) ∷ l) (imported_keys k c qs)

imported_modes : (k : ℕ) (c : Name) (ms : List ModeTerms) → mode_keys (map (imported_mode k c) ms) ≡ map (λ (z : Key). (c ∷ z.0, z.1)) (mode_keys ms)
imported_modes k c [] = refl
imported_modes k c (m ∷ ms) = ap (λ l. (c ∷ m.key.0, m.key.1) ∷ l) (imported_modes k c ms)

module _ (i : Instance) (subt : ℕ → Terms) (subr : ℕ → Known Resolving) (same : (k : ℕ) → keys (subr k) ≡ mode_keys (subt k).modes) where
  keys_after : (ts : List ModeTerms) (qs : Known Resolving) (cs : List ContractStatement) → keys qs ≡ mode_keys ts →
      keys (resolvings_after i subr qs cs) ≡ mode_keys (terms_after i subt ts cs).modes
  keys_after ts qs [] e = e
  keys_after ts qs (assume l ∷ cs) e = keys_after ts qs cs e
  keys_after ts qs (guarantee l ∷ cs) e = keys_after ts qs cs e
  keys_after ts qs (ghost_variable x d ∷ cs) e = keys_after ts qs cs e
  keys_after ts qs (constant c ∷ cs) e = keys_after ts qs cs e
  keys_after ts qs (mode m rs es ∷ cs) e =
      keys_after (ts ++ mode_terms i ts m.text rs es ∷ []) (qs ++ (([], m.text), asked_resolving i qs rs) ∷ []) cs
      (map_append (λ q. q.0) qs ((([], m.text), asked_resolving i qs rs) ∷ []) ∙ ap (λ l. l ++ ([], m.text) ∷ []) e
      ∙ sym (map_append (λ m. m.key) ts (mode_terms i ts m.text rs es ∷ [])))
  keys_after ts qs («import» k c as_ xs ∷ cs) e =
      keys_after (ts ++ map (imported_mode k c.text) (subt k).modes) (qs ++ map (imported_resolving k c.text) (subr k)) cs
      (map_append (λ q. q.0) qs (map (imported_resolving k c.text) (subr k)) ∙ ap (λ l. l ++ keys (map (imported_resolving k c.text) (subr k))) e
      ∙ ap (λ l. mode_keys ts ++ l) (imported_keys k c.text (subr k) ∙ ap (λ l. map (λ (z : Key). (c.text ∷ z.0, z.1)) l) (same k)
      ∙ sym (imported_modes k c.text (subt k).modes))
      ∙ sym (map_append (λ m. m.key) ts (map (imported_mode k c.text) (subt k).modes)))

mutual
  pub resolving_keys : (i : Instance) → keys (resolvings i) ≡ mode_keys (terms i).modes
  resolving_keys (instance d cs is) =
      keys_after (instance d cs is) (λ k. slice_index_or (terms_each is) (pred k) no_terms) (λ k. slice_index_or (resolvings_each is) (pred k) [])
      (λ k. keys_each is (pred k)) [] [] (contract_statements d) refl

  keys_each : (is : Instances) (p : ℕ) → keys (slice_index_or (resolvings_each is) p []) ≡ mode_keys (slice_index_or (terms_each is) p no_terms).modes
  keys_each no_instances zero = refl
  keys_each no_instances (suc p) = refl
  keys_each (with_instance c k is) zero = resolving_keys k
  keys_each (with_instance c k is) (suc p) = keys_each is p

-- ---- first ones

pub resolvings_more : (i : Instance) (subr : ℕ → Known Resolving) (qs : Known Resolving) (cs : List ContractStatement) →
    (more : Known Resolving) × (resolvings_after i subr qs cs ≡ qs ++ more)
resolvings_more i subr qs [] = ([], sym (append_none qs))
resolvings_more i subr qs (assume l ∷ cs) = resolvings_more i subr qs cs
resolvings_more i subr qs (guarantee l ∷ cs) = resolvings_more i subr qs cs
resolvings_more i subr qs (ghost_variable x e ∷ cs) = resolvings_more i subr qs cs
resolvings_more i subr qs (constant c ∷ cs) = resolvings_more i subr qs cs
resolvings_more i subr qs (mode m rs es ∷ cs) =
    let one : Known Resolving = (([], m.text), asked_resolving i qs rs) ∷ [] in
    let r = resolvings_more i subr (qs ++ one) cs in
    (one ++ r.0, r.1 ∙ grouped qs one r.0)
resolvings_more i subr qs («import» k c as_ xs ∷ cs) =
    let some : Known Resolving = map (imported_resolving k c.text) (subr k) in
    let r = resolvings_more i subr (qs ++ some) cs in
    (some ++ r.0, r.1 ∙ grouped qs some r.0)

-- what is found among the first is found among all
pub found_first : {A B : Type 0} (w : A → B) (key : Key) (qs more : Known A) → IsAmong (keys qs) key →
    lookup (mode_key key) (map (λ q. (q.0, w q.1)) (qs ++ more)) ≡ lookup (mode_key key) (map (λ q. (q.0, w q.1)) qs)
found_first w key [] more h = absurd (false≢true h)
found_first {A} {B} w key (q ∷ qs) more h = go (mode_key key q.0) h (found_first w key qs more)
  where
    go : (c : Bool) → (c || list_any (mode_key key) (keys qs)) ≡ true →
        (IsAmong (keys qs) key → lookup (mode_key key) (map (λ q. (q.0, w q.1)) (qs ++ more)) ≡ lookup (mode_key key) (map (λ q. (q.0, w q.1)) qs)) →
        cond c (Some (w q.1)) (lookup (mode_key key) (map (λ q. (q.0, w q.1)) (qs ++ more)))
        ≡ cond c (Some (w q.1)) (lookup (mode_key key) (map (λ q. (q.0, w q.1)) qs))
    go true k r = refl
    go false k r = r k

among_all : (key : Key) (ks js : List Key) → IsAmong ks key → IsAmong (ks ++ js) key
among_all key [] js h = absurd (false≢true h)
among_all key (k ∷ ks) js h = go (mode_key key k) h (among_all key ks js)
  where
    go : (c : Bool) → (c || list_any (mode_key key) ks) ≡ true → (IsAmong ks key → IsAmong (ks ++ js) key) →
        (c || list_any (mode_key key) (ks ++ js)) ≡ true
    go true h r = refl
    go false h r = r h

pub keys_any : (key : Key) (ms : List ModeTerms) → list_any (mode_key key) (mode_keys ms) ≡ list_any (λ m. mode_key key m.key) ms
keys_any key [] = refl
keys_any key (m ∷ ms) = ap (λ z. mode_key key m.key || z) (keys_any key ms)

-- a mode of the first ones is a mode of the contract
pub known_first : (i : Instance) (qs more : Known Resolving) → resolvings i ≡ qs ++ more → (key : Key) → IsAmong (keys qs) key → IsKnown i key
known_first i qs more e key h =
    sym (keys_any key (terms i).modes)
    ∙ ap (λ l. list_any (mode_key key) l) (sym (resolving_keys i) ∙ ap keys e ∙ map_append (λ q. q.0) qs more)
    ∙ among_all key (keys qs) (keys more) h
