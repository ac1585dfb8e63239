-- The items of the contracts of frames by tables are those of the translation.
use Rattle.std.proofs.Common.{◌≡◌, ℕ, zero, suc, pred, Bool, true, false, cond, ◌&&◌, List, [], ◌∷◌, map, Option, Some, None, unwrap_or, refl, sym, ap, ◌∙◌}
use Rattle.std.specs.Prelude.{option_to_list, slice_get, nat_le}
use Rattle.std.specs.List.{AllByRecursion}
use Rattle.std.specs.Map.{lookup}
use Rattle.std.specs.Str.{bytes_eq}
use Rattle.lus_tree.specs.Tree.{Name, ContractStatement, assume, guarantee, ghost_variable, constant, mode, «import»}
use Rattle.lus_meaning.specs.Meaning.{mode_key, same_path}
use Rattle.lus_meaning.specs.Scene.{Manner, plain, as_import, Instance, Instances, instance, no_instances, with_instance, contract_statements}
use Rattle.lus_limits.specs.Calls.{way_of}
use Rattle.lus_limits.specs.declared.calls.Way.{Way}
use Rattle.lus_limits.specs.declared.calls.Way.TheVariants.{Import}
use Rattle.sys_terms.specs.View.{truth}
use Rattle.sys_meaning.specs.Defaults.{site_at}
use Rattle.sys_meaning.specs.Items.{ModeItem, known}
use Rattle.sys_meaning.specs.Slot.{Place}
use Rattle.sys_meaning.specs.System.{Written, at_numbers, below_call, contract_of, stage}
use Rattle.sys_texts.specs.Sights.{Sight, is_way, asked_of}
use Rattle.sys_texts.specs.Laws.{IsSightOf}
use Rattle.sys_contracts.specs.Items.{Items, no_items, imported_at, with_import, with_statement, with_statements, contract_items}
use Rattle.sys_contracts.specs.Laws.{bare, way_of as way_of_key, mode_at, items_at, called_from}
use Rattle.sys_contracts.proofs.Itemized.{items_are}
use Rattle.sys_tables.specs.Tabled.{Linked, Tabled}
use Rattle.sys_tables.specs.Numbers.{behind_own, frame_base, sight_at}
use Rattle.sys_frames.specs.Walked.{called_item, items_below, items_or_none, items_within}
use Rattle.sys_frames.proofs.Seen.{IsImportAt, Seen, CallsSeen}

-- ---- modes

and_true : (b : Bool) → (b && true) ≡ b
and_true true = refl
and_true false = refl

and_false : (b : Bool) → (b && false) ≡ false
and_false true = refl
and_false false = refl

same_way : (c : Option Name) (ks : List Name) → is_way c (way_of_key ks) ≡ same_path (option_to_list c) ks
same_way None [] = refl
same_way None (d ∷ []) = refl
same_way None (d ∷ e ∷ ks) = refl
same_way (Some c) [] = refl
same_way (Some c) (d ∷ []) = sym (and_true (bytes_eq c d))
same_way (Some c) (d ∷ e ∷ ks) = sym (and_false (bytes_eq c d))

asked_is : (at : Place → ℕ) (ms : List (ModeItem Written)) (c : Option Name) (x : Name) → asked_of (map (mode_at at) ms) c x
    ≡ unwrap_or (lookup (mode_key (option_to_list c, x)) (at_numbers at (known ms))) (truth false)
asked_is at [] c x = refl
asked_is at (n ∷ ms) c x =
    ap (λ b. cond (b && bytes_eq x n.key.1) (n.asked at) (asked_of (map (mode_at at) ms) c x)) (same_way c n.key.0)
    ∙ pick (mode_key (option_to_list c, x) n.key) (asked_is at ms c x)
  where
    pick : (b : Bool) → asked_of (map (mode_at at) ms) c x ≡ unwrap_or (lookup (mode_key (option_to_list c, x)) (at_numbers at (known ms))) (truth false)
        → cond b (n.asked at) (asked_of (map (mode_at at) ms) c x)
        ≡ unwrap_or (cond b (Some (n.asked at)) (lookup (mode_key (option_to_list c, x)) (at_numbers at (known ms)))) (truth false)
    pick true e = refl
    pick false e = e

-- a sight where no mode is known is one where the contract's are
pub sees_modes : (s : Sight) (i : Instance) (at : Place → ℕ) → IsSightOf s [] (bare i at)
    → IsSightOf s (map (mode_at at) (contract_of i).modes) (stage i at)
sees_modes s i at h = record {
  beats = h.beats;
  streams = h.streams;
  constants = h.constants;
  sorts = h.sorts;
  numbers = h.numbers;
  clocks = h.clocks;
  memories = h.memories;
  starts = h.starts;
  callees = h.callees;
  outputs = h.outputs;
  latest = h.latest;
  modes = asked_is at (contract_of i).modes;
}

-- ---- a contract looks at imports alone

abbrev IsSame : List Items → List Items → ContractStatement → Type 0
IsSame a b («import» k c as_ xs) = imported_at a k ≡ imported_at b k
IsSame a b (assume l) = Unit {0}
IsSame a b (guarantee l) = Unit {0}
IsSame a b (ghost_variable x e) = Unit {0}
IsSame a b (constant c) = Unit {0}
IsSame a b (mode m rs es) = Unit {0}

one_same : (s : Sight) (a b : List Items) (r : Items) (c : ContractStatement) → IsSame a b c → with_statement s a r c ≡ with_statement s b r c
one_same s a b r («import» k c as_ xs) e = ap (with_import r c.text) e
one_same s a b r (assume l) e = refl
one_same s a b r (guarantee l) e = refl
one_same s a b r (ghost_variable x e') e = refl
one_same s a b r (constant c) e = refl
one_same s a b r (mode m rs es) e = refl

all_same : (s : Sight) (a b : List Items) (r : Items) (cs : List ContractStatement) → AllByRecursion (IsSame a b) cs
    → with_statements s a r cs ≡ with_statements s b r cs
all_same s a b r [] h = refl
all_same s a b r (c ∷ cs) h =
    ap (λ z. with_statements s a z cs) (one_same s a b r c h.0) ∙ all_same s a b (with_statement s b r c) cs h.1

-- ---- frames

-- the item of a call that runs as an import
module _ (missing : ℕ) (ts : List Tabled) where
  abbrev frame_items : ℕ → Tabled → Way → ℕ → Items
  frame_items d t w b = items_within d ts missing t w b

  called_so : (d : ℕ) (q : Linked) (from : ℕ) (m : Manner) (xs : List Name) (u : Tabled) (r : Items) → m ≡ as_import xs → slice_get ts q.place ≡ Some u
      → frame_items d u (way_of m) (frame_base from q) ≡ r → called_item (frame_items d) ts q.place (frame_base from q) m ≡ r
  called_so d q from m xs u r e there h =
      ap (called_item (frame_items d) ts q.place (frame_base from q)) e
      ∙ (ap (λ o. items_or_none (frame_items d) o Import (frame_base from q)) there
      ∙ (ap (λ n. frame_items d u (way_of n) (frame_base from q)) (sym e) ∙ h))

  never_import : (xs : List Name) {A : Type 0} → plain ≡ as_import xs → A
  never_import xs e = cc

  mutual
    pub items_so : (d : ℕ) (t : Tabled) (w : Way) (b : ℕ) (m : Manner) (i : Instance) (at : Place → ℕ) → Seen missing ts d t w b m i at
        → items_within d ts missing t w b ≡ items_at at (contract_of i)
    items_so d t w b m (instance n cs is) at h =
        ap (λ z. contract_items (sight_at t w b missing) (items_below d ts missing (behind_own w t b) t.calls) (contract_statements z)) h.0.text
        ∙ (all_same (sight_at t w b missing) (items_below d ts missing (behind_own w t b) t.calls) (called_from 1 is at) no_items (contract_statements n)
        (each (contract_statements n) h.0.imports
        (imports_so d (instance n cs is) at (sight_at t w b missing) (behind_own w t b) 0 t.calls is h.1))
        ∙ items_are (sight_at t w b missing) (instance n cs is) at h.0.sight h.0.steady.statements)
      where
        each : (ss : List ContractStatement) → AllByRecursion (IsImportAt (instance n cs is)) ss
            → ((j : ℕ) (xs : List Name) → (site_at is j).manner ≡ as_import xs
            → slice_get (items_below d ts missing (behind_own w t b) t.calls) j ≡ slice_get (called_from 1 is at) j)
            → AllByRecursion (IsSame (items_below d ts missing (behind_own w t b) t.calls) (called_from 1 is at)) ss
        each [] a f = tt
        each («import» k c as_ xs ∷ ss) a f = (ap (λ o. unwrap_or (cond (nat_le 1 k) o None) no_items) (f (pred k) a.0.0 a.0.1), each ss a.1 f)
        each (assume l ∷ ss) a f = (tt, each ss a.1 f)
        each (guarantee l ∷ ss) a f = (tt, each ss a.1 f)
        each (ghost_variable x e ∷ ss) a f = (tt, each ss a.1 f)
        each (constant c ∷ ss) a f = (tt, each ss a.1 f)
        each (mode x rs es ∷ ss) a f = (tt, each ss a.1 f)

    imports_so : (d : ℕ) (i : Instance) (at : Place → ℕ) (s : Sight) (from j : ℕ) (qs : List Linked) (is : Instances)
        → CallsSeen missing ts d i at s from j qs is → (k : ℕ) (xs : List Name) → (site_at is k).manner ≡ as_import xs
        → slice_get (items_below d ts missing from qs) k ≡ slice_get (called_from (suc j) is at) k
    imports_so d i at s from j [] no_instances h k xs e = never_import xs e
    imports_so d i at s from j (q ∷ qs) no_instances h k xs e = absurd h
    imports_so d i at s from j [] (with_instance c f is) h k xs e = absurd h
    imports_so zero i at s from j (q ∷ qs) (with_instance c f is) h k xs e = absurd h
    imports_so (suc d) i at s from j (q ∷ qs) (with_instance c f is) h zero xs e =
        ap Some (called_so d q from q.site.manner xs h.1.0 (items_at (below_call (suc j) at) (contract_of f)) (ap (λ z. z.manner) h.0.site ∙ e) h.1.1
        (items_so d h.1.0 (way_of q.site.manner) (frame_base from q) c.manner f (below_call c.number at) h.1.2
        ∙ ap (λ n. items_at (below_call n at) (contract_of f)) h.0.number))
    imports_so (suc d) i at s from j (q ∷ qs) (with_instance c f is) h (suc k) xs e = imports_so (suc d) i at s from (suc j) qs is h.2 k xs e
