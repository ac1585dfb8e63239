-- A place by a table is the place by the list.
use Rattle.std.proofs.Common.{◌≡◌, ◌≤◌, ◌<◌, ℕ, zero, suc, ◌+◌, Bool, true, false, cond, List, [], ◌∷◌, length, map, Option, Some, None, refl, sym, ap, ◌∙◌, slice_get, get_or, arith}
use Rattle.std.specs.Prelude.{find, option_map, unwrap_or}
use Rattle.std.specs.Borrow.{Bor}
use Rattle.std.specs.Map.{lookup}
use Rattle.std.specs.Option.{option_or}
use Rattle.std.specs.Str.{bytes_eq}
use Rattle.indexmap.specs.IndexMap.{IndexMap}
use Rattle.std.proofs.lemmas.Option.{slice_get-map, slice_get-get_or, slice_get_past}
use Rattle.lus_tree.specs.declared.place.Param.{Param}
use Rattle.lus_tree.specs.Tree.{Name, Variable}
use Rattle.lus_tree.specs.View.{param_view}
use Rattle.lus_meaning.specs.Scene.{Clock, base, clock_from, no_component}
use Rattle.lus_meaning.proofs.Exists.{length_mapped}
use Rattle.lus_streams.specs.Streams.{names_of, params_view}
use Rattle.name_table.specs.Names.{number_of}
use Rattle.path_traces.specs.declared.plan.Plan.{Plan as PlanCode}
use Rattle.path_traces.specs.Indexed.{IsIndex, by_name, place_from}
use Rattle.path_traces.specs.Numbered.{place_in, clock_in}
use Rattle.path_traces.specs.Plans.{Plan, plan_of, plan_view, plan_named, plan_names}

-- where all is noted in a table without entries
pub index_so : {S : Type 0} (old new : IndexMap (Bor (List ℕ)) ℕ S) (ys : List Name) → old.entries ≡ []
    → ((x : Name) → by_name new x ≡ option_or (by_name old x) (place_from 0 ys x)) → IsIndex new ys
index_so old new ys e h = λ x. h x ∙ ap (λ es. option_or (lookup (λ k. bytes_eq x k.now) es) (place_from 0 ys x)) e

-- in a list of which the first has the place k
from_so : (ys : List Name) (x : Name) (k : ℕ) → unwrap_or (place_from k ys x) (k + length ys) ≡ k + number_of ys x
from_so [] x k = refl
from_so (y ∷ ys) x k = go (bytes_eq x y) (from_so ys x (suc k)) where
  go : (b : Bool) → unwrap_or (place_from (suc k) ys x) (suc k + length ys) ≡ suc k + number_of ys x
      → unwrap_or (cond b (Some k) (place_from (suc k) ys x)) (k + suc (length ys)) ≡ k + cond b zero (suc (number_of ys x))
  go true e = omega arith
  go false e =
      let l : k + suc (length ys) ≡ suc k + length ys = omega arith in
      let r : suc k + number_of ys x ≡ k + suc (number_of ys x) = omega arith in
      ap (λ m. unwrap_or (place_from (suc k) ys x) m) l ∙ e ∙ r

place_so : (ys : List Name) (x : Name) (o : Option ℕ) (m : ℕ) → o ≡ place_from 0 ys x → m ≡ length ys → unwrap_or o m ≡ number_of ys x
place_so ys x o m e l =
    let h : unwrap_or (place_from 0 ys x) (0 + length ys) ≡ 0 + number_of ys x = from_so ys x 0 in
    let n : m ≡ 0 + length ys = omega (arith, l) in
    let z : 0 + number_of ys x ≡ number_of ys x = omega arith in
    ap (λ p. unwrap_or p m) e ∙ ap (λ k. unwrap_or (place_from 0 ys x) k) n ∙ h ∙ z

-- ---- streams

number_so : (vs : List Variable) (x : Name) → number_of (names_of vs) x ≡ place_in vs x
number_so [] x = refl
number_so (v ∷ vs) x = ap (λ k. cond (bytes_eq x v.name.text) zero (suc k)) (number_so vs x)

pub stream_so : (ps : List (Bor Param)) (x : Name) (o : Option ℕ) (m : ℕ) → o ≡ place_from 0 (names_of (params_view ps)) x → m ≡ length ps
    → unwrap_or o m ≡ place_in (params_view ps) x
stream_so ps x o m e l =
    place_so (names_of (params_view ps)) x o m e
    (l ∙ sym (length_mapped (λ v. v.name.text) (params_view ps) ∙ length_mapped (λ v. param_view v.now) ps))
    ∙ number_so (params_view ps) x

pub place_within : (ps : List (Bor Param)) (x : Name) → place_in (params_view ps) x ≤ length ps
place_within [] x = omega arith
place_within (p ∷ ps) x = go (bytes_eq x (param_view p.now).name.text) (place_within ps x) where
  go : (b : Bool) → place_in (params_view ps) x ≤ length ps → cond b zero (suc (place_in (params_view ps) x)) ≤ suc (length ps)
  go true l = omega arith
  go false l = omega arith

-- the first of a name is the one at its place
found_so : (vs : List Variable) (x : Name) → find (λ v. bytes_eq x v.name.text) vs ≡ slice_get vs (place_in vs x)
found_so [] x = refl
found_so (v ∷ vs) x = go (bytes_eq x v.name.text) (found_so vs x) where
  go : (b : Bool) → find (λ v. bytes_eq x v.name.text) vs ≡ slice_get vs (place_in vs x)
      → cond b (Some v) (find (λ v. bytes_eq x v.name.text) vs) ≡ slice_get (v ∷ vs) (cond b zero (suc (place_in vs x)))
  go true e = refl
  go false e = e

abbrev clock_or : Option Variable → Clock
clock_or o = clock_from (unwrap_or (option_map (λ v. v.clock) o) None)

stream_found : (ps : List (Bor Param)) (x : Name) (k : ℕ) → k ≡ place_in (params_view ps) x
    → find (λ v. bytes_eq x v.name.text) (params_view ps) ≡ option_map (λ v. param_view v.now) (slice_get ps k)
stream_found ps x k e = found_so (params_view ps) x ∙ ap (slice_get (params_view ps)) (sym e) ∙ slice_get-map (λ v. param_view v.now) ps k

pub clock_some : (ps : List (Bor Param)) (x : Name) (k : ℕ) (p : Bor Param) → k ≡ place_in (params_view ps) x → k < length ps → p ≡ get_or ps k p
    → clock_in (params_view ps) x ≡ clock_from (param_view p.now).clock
clock_some ps x k p e l h = ap clock_or (stream_found ps x k e ∙ ap (option_map (λ v. param_view v.now)) (slice_get-get_or ps k p l ∙ ap Some (sym h)))

pub clock_none : (ps : List (Bor Param)) (x : Name) (k : ℕ) → k ≡ place_in (params_view ps) x → length ps ≤ k → clock_in (params_view ps) x ≡ base
clock_none ps x k e l = ap clock_or (stream_found ps x k e ∙ ap (option_map (λ v. param_view v.now)) (slice_get_past ps k l))

-- ---- plans

plan_at : (ps : List Plan) (x : Name) → plan_named ps x ≡ unwrap_or (slice_get ps (number_of (plan_names ps) x)) (plan_of no_component)
plan_at [] x = refl
plan_at (p ∷ ps) x = go (bytes_eq x p.name) (plan_at ps x) where
  go : (b : Bool) → plan_named ps x ≡ unwrap_or (slice_get ps (number_of (plan_names ps) x)) (plan_of no_component)
      → cond b p (plan_named ps x) ≡ unwrap_or (slice_get (p ∷ ps) (cond b zero (suc (number_of (plan_names ps) x)))) (plan_of no_component)
  go true e = refl
  go false e = e

plan_found : (ps : List PlanCode) (x : Name) (o : Option ℕ) (m k : ℕ) → o ≡ place_from 0 (plan_names (map plan_view ps)) x → m ≡ length ps
    → k ≡ unwrap_or o m → plan_named (map plan_view ps) x ≡ unwrap_or (option_map plan_view (slice_get ps k)) (plan_of no_component)
plan_found ps x o m k e l f =
    plan_at (map plan_view ps) x
    ∙ ap (λ j. unwrap_or (slice_get (map plan_view ps) j) (plan_of no_component))
    (sym (f ∙ place_so (plan_names (map plan_view ps)) x o m e
    (l ∙ sym (length_mapped (λ p. p.name) (map plan_view ps) ∙ length_mapped plan_view ps))))
    ∙ ap (λ q. unwrap_or q (plan_of no_component)) (slice_get-map plan_view ps k)

pub plan_some : (ps : List PlanCode) (x : Name) (o : Option ℕ) (m k : ℕ) (p : PlanCode) → o ≡ place_from 0 (plan_names (map plan_view ps)) x
    → m ≡ length ps → k ≡ unwrap_or o m → k < length ps → p ≡ get_or ps k p → plan_view p ≡ plan_named (map plan_view ps) x
plan_some ps x o m k p e l f w h =
    sym (plan_found ps x o m k e l f
    ∙ ap (λ q. unwrap_or (option_map plan_view q) (plan_of no_component)) (slice_get-get_or ps k p w ∙ ap Some (sym h)))

pub plan_none : (ps : List PlanCode) (x : Name) (o : Option ℕ) (m k : ℕ) → o ≡ place_from 0 (plan_names (map plan_view ps)) x → m ≡ length ps
    → k ≡ unwrap_or o m → length ps ≤ k → plan_of no_component ≡ plan_named (map plan_view ps) x
plan_none ps x o m k e l f w =
    sym (plan_found ps x o m k e l f ∙ ap (λ q. unwrap_or (option_map plan_view q) (plan_of no_component)) (slice_get_past ps k w))
