-- The conditions of the contracts of frames by tables are those of the instances.
use Rattle.std.proofs.Common.{◌≡◌, ℕ, zero, suc, pred, cond, List, [], ◌∷◌, Some, None, unwrap_or, refl, sym, ap, ◌∙◌}
use Rattle.std.specs.Prelude.{slice_get, nat_le}
use Rattle.std.specs.List.{AllByRecursion}
use Rattle.lus_tree.specs.Tree.{Name, ContractStatement, assume, guarantee, ghost_variable, constant, mode, «import»}
use Rattle.lus_meaning.specs.Value.{Value}
use Rattle.lus_meaning.specs.Scene.{Manner, plain, as_import, Instance, Instances, instance, no_instances, with_instance, contract_statements}
use Rattle.lus_limits.specs.Calls.{way_of}
use Rattle.lus_limits.specs.declared.calls.Way.{Way}
use Rattle.lus_limits.specs.declared.calls.Way.TheVariants.{Import}
use Rattle.sys_meaning.specs.Defaults.{site_at}
use Rattle.sys_meaning.specs.Slot.{Place}
use Rattle.sys_meaning.specs.System.{below_call}
use Rattle.sys_texts.specs.Sights.{Sight}
use Rattle.sys_contracts.specs.Laws.{IsSteadyStatement}
use Rattle.sys_tables.specs.Tabled.{Linked, Tabled}
use Rattle.sys_tables.specs.Numbers.{behind_own, frame_base, sight_at}
use Rattle.sys_frames.proofs.Seen.{IsImportAt, Seen, CallsSeen}
use Rattle.condition_laws.specs.Conditions.{conditions_of}
use Rattle.frame_sources.specs.Laws.{IsNumbered}
use Rattle.frame_conditions.specs.Conditioned.{Conditions, contract_conditions, imported_at, no_conditions, with_import, with_statement, with_statements}
use Rattle.frame_conditions.specs.Laws.{called_from, conditions_at}
use Rattle.frame_conditions.specs.Walked.{called_one, conditions_below, conditions_or_none, conditions_within}
use Rattle.frame_conditions.proofs.Contracted.{conditions_are}

-- ---- a contract looks at imports alone

abbrev IsSame : List Conditions → List Conditions → ContractStatement → Type 0
IsSame a b («import» k c as_ xs) = imported_at a k ≡ imported_at b k
IsSame a b (assume l) = Unit {0}
IsSame a b (guarantee l) = Unit {0}
IsSame a b (ghost_variable x e) = Unit {0}
IsSame a b (constant c) = Unit {0}
IsSame a b (mode m rs es) = Unit {0}

one_same : (s : Sight) (a b : List Conditions) (r : Conditions) (c : ContractStatement) → IsSame a b c → with_statement s a r c ≡ with_statement s b r c
one_same s a b r («import» k c as_ xs) e = ap (with_import r c.text) e
one_same s a b r (assume l) e = refl
one_same s a b r (guarantee l) e = refl
one_same s a b r (ghost_variable x e') e = refl
one_same s a b r (constant c) e = refl
one_same s a b r (mode m rs es) e = refl

all_same : (s : Sight) (a b : List Conditions) (r : Conditions) (cs : List ContractStatement) → AllByRecursion (IsSame a b) cs
    → with_statements s a r cs ≡ with_statements s b r cs
all_same s a b r [] h = refl
all_same s a b r (c ∷ cs) h =
    ap (λ z. with_statements s a z cs) (one_same s a b r c h.0) ∙ all_same s a b (with_statement s b r c) cs h.1

-- an import has a number
numbered : (cs : List (Name × Value)) (ss : List ContractStatement) → AllByRecursion (IsSteadyStatement cs) ss → AllByRecursion IsNumbered ss
numbered cs [] a = tt
numbered cs («import» k c as_ xs ∷ ss) a = (a.0, numbered cs ss a.1)
numbered cs (assume l ∷ ss) a = (tt, numbered cs ss a.1)
numbered cs (guarantee l ∷ ss) a = (tt, numbered cs ss a.1)
numbered cs (ghost_variable x e ∷ ss) a = (tt, numbered cs ss a.1)
numbered cs (constant c ∷ ss) a = (tt, numbered cs ss a.1)
numbered cs (mode m rs es ∷ ss) a = (tt, numbered cs ss a.1)

-- ---- frames

module _ (missing : ℕ) (ts : List Tabled) where
  abbrev frame_conditions : ℕ → Tabled → Way → ℕ → Conditions
  frame_conditions d t w b = conditions_within d ts missing t w b

  called_so : (d : ℕ) (q : Linked) (from : ℕ) (m : Manner) (xs : List Name) (u : Tabled) (r : Conditions) → m ≡ as_import xs → slice_get ts q.place ≡ Some u
      → frame_conditions d u (way_of m) (frame_base from q) ≡ r → called_one (frame_conditions d) ts q.place (frame_base from q) m ≡ r
  called_so d q from m xs u r e there h =
      ap (called_one (frame_conditions d) ts q.place (frame_base from q)) e
      ∙ (ap (λ o. conditions_or_none (frame_conditions d) o Import (frame_base from q)) there
      ∙ (ap (λ n. frame_conditions d u (way_of n) (frame_base from q)) (sym e) ∙ h))

  never_import : (xs : List Name) {A : Type 0} → plain ≡ as_import xs → A
  never_import xs e = cc

  mutual
    pub conditions_so : (d : ℕ) (t : Tabled) (w : Way) (b : ℕ) (m : Manner) (i : Instance) (at : Place → ℕ) → Seen missing ts d t w b m i at
        → conditions_within d ts missing t w b ≡ conditions_at at (conditions_of i)
    conditions_so d t w b m (instance n cs is) at h =
        ap (λ z. contract_conditions (sight_at t w b missing) (conditions_below d ts missing (behind_own w t b) t.calls) (contract_statements z)) h.0.text
        ∙ (all_same (sight_at t w b missing) (conditions_below d ts missing (behind_own w t b) t.calls) (called_from 1 is at) no_conditions (contract_statements n)
        (each (contract_statements n) h.0.imports
        (imports_so d (instance n cs is) at (sight_at t w b missing) (behind_own w t b) 0 t.calls is h.1))
        ∙ conditions_are (sight_at t w b missing) (instance n cs is) at h.0.sight (numbered cs (contract_statements n) h.0.steady.statements))
      where
        each : (ss : List ContractStatement) → AllByRecursion (IsImportAt (instance n cs is)) ss
            → ((j : ℕ) (xs : List Name) → (site_at is j).manner ≡ as_import xs
            → slice_get (conditions_below d ts missing (behind_own w t b) t.calls) j ≡ slice_get (called_from 1 is at) j)
            → AllByRecursion (IsSame (conditions_below d ts missing (behind_own w t b) t.calls) (called_from 1 is at)) ss
        each [] a f = tt
        each («import» k c as_ xs ∷ ss) a f = (ap (λ o. unwrap_or (cond (nat_le 1 k) o None) no_conditions) (f (pred k) a.0.0 a.0.1), each ss a.1 f)
        each (assume l ∷ ss) a f = (tt, each ss a.1 f)
        each (guarantee l ∷ ss) a f = (tt, each ss a.1 f)
        each (ghost_variable x e ∷ ss) a f = (tt, each ss a.1 f)
        each (constant c ∷ ss) a f = (tt, each ss a.1 f)
        each (mode x rs es ∷ ss) a f = (tt, each ss a.1 f)

    imports_so : (d : ℕ) (i : Instance) (at : Place → ℕ) (s : Sight) (from j : ℕ) (qs : List Linked) (is : Instances)
        → CallsSeen missing ts d i at s from j qs is → (k : ℕ) (xs : List Name) → (site_at is k).manner ≡ as_import xs
        → slice_get (conditions_below d ts missing from qs) k ≡ slice_get (called_from (suc j) is at) k
    imports_so d i at s from j [] no_instances h k xs e = never_import xs e
    imports_so d i at s from j (q ∷ qs) no_instances h k xs e = absurd h
    imports_so d i at s from j [] (with_instance c f is) h k xs e = absurd h
    imports_so zero i at s from j (q ∷ qs) (with_instance c f is) h k xs e = absurd h
    imports_so (suc d) i at s from j (q ∷ qs) (with_instance c f is) h zero xs e =
        ap Some (called_so d q from q.site.manner xs h.1.0 (conditions_at (below_call (suc j) at) (conditions_of f)) (ap (λ z. z.manner) h.0.site ∙ e) h.1.1
        (conditions_so d h.1.0 (way_of q.site.manner) (frame_base from q) c.manner f (below_call c.number at) h.1.2
        ∙ ap (λ n. conditions_at (below_call n at) (conditions_of f)) h.0.number))
    imports_so (suc d) i at s from j (q ∷ qs) (with_instance c f is) h (suc k) xs e = imports_so (suc d) i at s from (suc j) qs is h.2 k xs e
