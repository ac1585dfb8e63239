-- The items of a contract are those of the translation.
use Rattle.std.proofs.Common.{◌≡◌, ℕ, zero, suc, pred, ◌+◌, ◌≤◌, Bool, true, false, cond, ◌&&◌, List, [], ◌∷◌, ◌++◌, map, Option, Some, None, unwrap_or, refl, sym, ap, ◌∙◌, subst, arith, append_assoc, slice_index_or}
use Rattle.std.specs.Prelude.{option_to_list, slice_get}
use Rattle.std.specs.List.{AllByRecursion}
use Rattle.std.specs.Map.{lookup}
use Rattle.std.specs.Str.{bytes_eq}
use Rattle.std.proofs.lemmas.Bool.{le-leb}
use Rattle.std.proofs.lemmas.List.{append-nil, map-append}
use Rattle.lus_tree.specs.Tree.{Name, Expression, Labelled, ContractStatement, assume, guarantee, ghost_variable, constant, mode, «import»}
use Rattle.lus_meaning.specs.Value.{Value}
use Rattle.lus_meaning.specs.Scene.{Instance, Instances, instance, no_instances, with_instance, component_of, constants_of, calls_of, contract_statements}
use Rattle.lus_meaning.specs.Meaning.{mode_key, same_path}
use Rattle.sys_terms.specs.View.{Formula, truth}
use Rattle.sys_meaning.specs.Slot.{Place}
use Rattle.sys_meaning.specs.Part.{all_of, implies, formula_of}
use Rattle.sys_meaning.specs.Items.{ModeItem, known, items_after, items_each, no_items}
use Rattle.sys_meaning.specs.Items as m
use Rattle.sys_meaning.specs.Translate.{Stage}
use Rattle.sys_meaning.specs.Translate as t
use Rattle.sys_meaning.specs.System.{Written, written, contract_of, below_call, at_numbers}
use Rattle.sys_texts.specs.Sights.{Sight, Mode, own, is_way, asked_of, counted_from_one}
use Rattle.sys_texts.specs.Texts.{formula}
use Rattle.sys_texts.specs.Laws.{IsSightOf, IsSteady}
use Rattle.sys_texts.proofs.Terms.{parts_are}
use Rattle.sys_contracts.specs.Items.{Items, required, mode_item, mode_asking, way_through, imported_mode, with_import, imported_at, with_statements, contract_items}
use Rattle.sys_contracts.specs.Laws.{bare, way_of, mode_at, items_at, called_from, IsSteadyStatement}

-- ---- lists

twice : {A B C : Type 0} (f : B → C) (h : A → B) (xs : List A) → map f (map h xs) ≡ map (λ x. f (h x)) xs
twice f h [] = refl
twice f h (x ∷ xs) = ap (λ l. f (h x) ∷ l) (twice f h xs)

each_same : {A B : Type 0} (f h : A → B) → ((x : A) → f x ≡ h x) → (xs : List A) → map f xs ≡ map h xs
each_same f h e [] = refl
each_same f h e (x ∷ xs) = ap (λ y. y ∷ map f xs) (e x) ∙ ap (λ l. h x ∷ l) (each_same f h e xs)

each_of_all : {A B : Type 0} (P : A → Type 0) (f h : A → B) → ((x : A) → P x → f x ≡ h x) → (xs : List A) → AllByRecursion P xs → map f xs ≡ map h xs
each_of_all P f h e [] a = refl
each_of_all P f h e (x ∷ xs) a = ap (λ y. y ∷ map f xs) (e x a.0) ∙ ap (λ l. h x ∷ l) (each_of_all P f h e xs a.1)

-- ---- keys

and_true : (b : Bool) → (b && true) ≡ b
and_true true = refl
and_true false = refl

and_false : (b : Bool) → (b && false) ≡ false
and_false true = refl
and_false false = refl

same_way : (c : Option Name) (ks : List Name) → is_way c (way_of ks) ≡ same_path (option_to_list c) ks
same_way None [] = refl
same_way None (d ∷ []) = refl
same_way None (d ∷ e ∷ ks) = refl
same_way (Some c) [] = refl
same_way (Some c) (d ∷ []) = sym (and_true (bytes_eq c d))
same_way (Some c) (d ∷ e ∷ ks) = sym (and_false (bytes_eq c d))

longer_way : (c : Name) (ks : List Name) → way_through c (way_of ks) ≡ way_of (c ∷ ks)
longer_way c [] = refl
longer_way c (d ∷ []) = refl
longer_way c (d ∷ e ∷ ks) = refl

-- ---- numbers of calls

counted : (xs : List Items) (k : ℕ) → counted_from_one xs (suc k) ≡ slice_get xs k
counted xs k = ap (λ b. cond b (slice_get xs k) None) (le-leb 1 (suc k) (omega arith))

called_at : (is : Instances) (j k : ℕ) (at : Place → ℕ) → unwrap_or (slice_get (called_from k is at) j) (items_at (below_call (k + j) at) no_items)
    ≡ items_at (below_call (k + j) at) (slice_index_or (items_each written is) j no_items)
called_at no_instances j k at = refl
called_at (with_instance s i is) zero k at =
    let e : k ≡ k + 0 = omega arith in
    subst (λ n. items_at (below_call k at) (contract_of i) ≡ items_at (below_call n at) (contract_of i)) e refl
called_at (with_instance s i is) (suc j) k at =
    let e : suc k + j ≡ k + suc j = omega arith in
    subst (λ n. unwrap_or (slice_get (called_from (suc k) is at) j) (items_at (below_call n at) no_items)
    ≡ items_at (below_call n at) (slice_index_or (items_each written is) j no_items)) e (called_at is j (suc k) at)

imported_is : (is : Instances) (k : ℕ) (at : Place → ℕ) → 1 ≤ k → imported_at (called_from 1 is at) k
    ≡ items_at (below_call k at) (slice_index_or (items_each written is) (pred k) no_items)
imported_is is zero at l = absurd (omega arith)
imported_is is (suc k) at l =
    let e : 1 + k ≡ suc k = omega arith in
    ap (λ o. unwrap_or o (items_at (below_call (suc k) at) no_items)) (counted (called_from 1 is at) k)
    ∙ subst (λ n. unwrap_or (slice_get (called_from 1 is at) k) (items_at (below_call n at) no_items)
    ≡ items_at (below_call n at) (slice_index_or (items_each written is) k no_items)) e (called_at is k 1 at)

module _ (s : Sight) (i : Instance) (at : Place → ℕ) (h : IsSightOf s [] (bare i at)) where
  abbrev cs : List (Name × Value)
  cs = constants_of i

  abbrev stage_with : List (ModeItem Written) → Stage
  stage_with ms = record { place = i; number = at; modes = at_numbers at (known ms) }

  asked_is : (ms : List (ModeItem Written)) (c : Option Name) (x : Name) → asked_of (map (mode_at at) ms) c x
      ≡ unwrap_or (lookup (mode_key (option_to_list c, x)) (at_numbers at (known ms))) (truth false)
  asked_is [] c x = refl
  asked_is (n ∷ ms) c x =
      ap (λ b. cond (b && bytes_eq x n.key.1) (n.asked at) (asked_of (map (mode_at at) ms) c x)) (same_way c n.key.0)
      ∙ pick (mode_key (option_to_list c, x) n.key) (asked_is ms c x)
    where
      pick : (b : Bool) → asked_of (map (mode_at at) ms) c x ≡ unwrap_or (lookup (mode_key (option_to_list c, x)) (at_numbers at (known ms))) (truth false)
          → cond b (n.asked at) (asked_of (map (mode_at at) ms) c x)
          ≡ unwrap_or (cond b (Some (n.asked at)) (lookup (mode_key (option_to_list c, x)) (at_numbers at (known ms)))) (truth false)
      pick true e = refl
      pick false e = e

  sees : (ms : List (ModeItem Written)) → IsSightOf s (map (mode_at at) ms) (stage_with ms)
  sees ms = record {
    beats = h.beats;
    streams = h.streams;
    constants = h.constants;
    sorts = h.sorts;
    numbers = h.numbers;
    clocks = h.clocks;
    memories = h.memories;
    starts = h.starts;
    callees = h.callees;
    outputs = h.outputs;
    latest = h.latest;
    modes = asked_is ms;
  }

  said : (ms : List (ModeItem Written)) (e : Expression) → IsSteady cs e → formula s (map (mode_at at) ms) e ≡ t.formula (stage_with ms) e
  said ms e u = ap formula_of (parts_are s (map (mode_at at) ms) (stage_with ms) (sees ms) e u)

  required_is : (ms : List (ModeItem Written)) (rs : List Labelled) → AllByRecursion (λ l. IsSteady cs l.value) rs
      → required s (map (mode_at at) ms) rs ≡ map (λ f. f at) (map (λ r. written.says i (known ms) r.value) rs)
  required_is ms rs a =
      each_of_all (λ (l : Labelled). IsSteady cs l.value) (λ (l : Labelled). formula s (map (mode_at at) ms) l.value)
      (λ (l : Labelled). t.formula (stage_with ms) l.value) (λ l u. said ms l.value u) rs a
      ∙ sym (twice (λ (f : Written). f at) (λ (r : Labelled). written.says i (known ms) r.value) rs)

  abbrev asked_by : List (ModeItem Written) → List Labelled → Written
  asked_by ms rs = written.all_of (map (λ r. written.says i (known ms) r.value) rs)

  mode_is : (ms : List (ModeItem Written)) (x : Name) (rs es : List Labelled) → AllByRecursion (λ l. IsSteady cs l.value) rs
      → AllByRecursion (λ l. IsSteady cs l.value) es
      → mode_item s (map (mode_at at) ms) x rs es ≡ mode_at at (m.mode_item written i (known ms) x rs es)
  mode_is ms x rs es a b =
      ap (λ f. mode_asking s (map (mode_at at) ms) x (all_of f) es) (required_is ms rs a)
      ∙ ap (λ fs. let z : Mode = record { way = own; name = x; asked = asked_by ms rs at; ensures_each = fs } in z)
      (each_of_all (λ (l : Labelled). IsSteady cs l.value) (λ (l : Labelled). implies (asked_by ms rs at) (formula s (map (mode_at at) ms) l.value))
      (λ (l : Labelled). implies (asked_by ms rs at) (t.formula (stage_with ms) l.value)) (λ l u. ap (implies (asked_by ms rs at)) (said ms l.value u)) es b
      ∙ sym (twice (λ (f : Written). f at) (λ (l : Labelled). written.under (asked_by ms rs) (written.says i (known ms) l.value)) es))

  imported_mode_is : (k : ℕ) (c : Name) (n : ModeItem Written) → imported_mode c (mode_at (below_call k at) n) ≡ mode_at at (m.imported_item written k c n)
  imported_mode_is k c n =
      ap (λ w. let z : Mode = record {
        way = w;
        name = n.key.1;
        asked = n.asked (below_call k at);
        ensures_each = map (λ f. f (below_call k at)) n.ensures_each;
      } in z)
      (longer_way c n.key.0)
      ∙ ap (λ fs. let z : Mode = record { way = way_of (c ∷ n.key.0); name = n.key.1; asked = n.asked (below_call k at); ensures_each = fs } in z)
      (sym (twice (λ (f : Written). f at) (written.through k) n.ensures_each))

  abbrev made : List Formula → List Formula → List (ModeItem Written) → Items
  made as_ gs ms = record { assumes = as_; guarantees = gs; modes = map (mode_at at) ms }

  abbrev now : List Written → List Formula
  now fs = map (λ f. f at) fs

  abbrev joined : List Formula → List Formula → m.Items Written → Items
  joined as_ gs r = record { assumes = as_ ++ now r.assumes; guarantees = gs ++ now r.guarantees; modes = map (mode_at at) r.modes }

  abbrev sub : ℕ → m.Items Written
  sub k = slice_index_or (items_each written (calls_of i)) (pred k) no_items

  abbrev subs : List Items
  subs = called_from 1 (calls_of i) at

  abbrev with_modes : List (ModeItem Written) → ℕ → Name → List (ModeItem Written)
  with_modes ms k c = ms ++ map (m.imported_item written k c) (sub k).modes

  abbrev rest : List (ModeItem Written) → ℕ → Name → List ContractStatement → m.Items Written
  rest ms k c cs' = items_after written i sub (with_modes ms k c) cs'

  abbrev below : ℕ → List Written → List Formula
  below k fs = map (λ f. f (below_call k at)) fs

  abbrev given : List Formula → List Formula → ℕ → List Mode → Items
  given as_ gs k ns = record { assumes = as_ ++ below k (sub k).assumes; guarantees = gs ++ below k (sub k).guarantees; modes = ns }

  modes_more : (ms : List (ModeItem Written)) (k : ℕ) (c : Name)
      → map (mode_at at) ms ++ map (imported_mode c) (map (mode_at (below_call k at)) (sub k).modes) ≡ map (mode_at at) (with_modes ms k c)
  modes_more ms k c =
      ap (λ ns. map (mode_at at) ms ++ ns) (twice (imported_mode c) (mode_at (below_call k at)) (sub k).modes
      ∙ (each_same (λ n. imported_mode c (mode_at (below_call k at) n)) (λ n. mode_at at (m.imported_item written k c n))
      (imported_mode_is k c) (sub k).modes ∙ sym (twice (mode_at at) (m.imported_item written k c) (sub k).modes)))
      ∙ sym (map-append (mode_at at) ms (map (m.imported_item written k c) (sub k).modes))

  brought : (k : ℕ) (xs : List Formula) (fs gs : List Written) → (xs ++ below k fs) ++ now gs ≡ xs ++ now (map (written.through k) fs ++ gs)
  brought k xs fs gs =
      append_assoc xs (below k fs) (now gs)
      ∙ ap (λ l. xs ++ l) (ap (λ l. l ++ now gs) (sym (twice (λ (f : Written). f at) (written.through k) fs))
      ∙ sym (map-append (λ (f : Written). f at) (map (written.through k) fs) gs))

  moved : (xs : List Formula) (x : Formula) (ys : List Formula) → (xs ++ x ∷ []) ++ ys ≡ xs ++ x ∷ ys
  moved xs x ys = append_assoc xs (x ∷ []) ys

  after : (as_ gs : List Formula) (ms : List (ModeItem Written)) (cs' : List ContractStatement) → AllByRecursion (IsSteadyStatement cs) cs'
      → with_statements s subs (made as_ gs ms) cs' ≡ joined as_ gs (items_after written i sub ms cs')
  after as_ gs ms [] a = ap (λ l. made l gs ms) (sym (append-nil as_)) ∙ ap (λ l. made (as_ ++ []) l ms) (sym (append-nil gs))
  after as_ gs ms (assume l ∷ cs') a =
      ap (λ f. with_statements s subs (made (as_ ++ f ∷ []) gs ms) cs') (said ms l.value a.0)
      ∙ after (as_ ++ t.formula (stage_with ms) l.value ∷ []) gs ms cs' a.1
      ∙ ap (λ fs. let r : m.Items Written = items_after written i sub ms cs' in
      let z : Items = record { assumes = fs; guarantees = gs ++ now r.guarantees; modes = map (mode_at at) r.modes } in z)
      (moved as_ (t.formula (stage_with ms) l.value) (now (items_after written i sub ms cs').assumes))
  after as_ gs ms (guarantee l ∷ cs') a =
      ap (λ f. with_statements s subs (made as_ (gs ++ f ∷ []) ms) cs') (said ms l.value a.0)
      ∙ after as_ (gs ++ t.formula (stage_with ms) l.value ∷ []) ms cs' a.1
      ∙ ap (λ fs. let r : m.Items Written = items_after written i sub ms cs' in
      let z : Items = record { assumes = as_ ++ now r.assumes; guarantees = fs; modes = map (mode_at at) r.modes } in z)
      (moved gs (t.formula (stage_with ms) l.value) (now (items_after written i sub ms cs').guarantees))
  after as_ gs ms (ghost_variable x e ∷ cs') a = after as_ gs ms cs' a.1
  after as_ gs ms (constant c ∷ cs') a = after as_ gs ms cs' a.1
  after as_ gs ms (mode x rs es ∷ cs') a =
      ap (λ n. let z : Items = record { assumes = as_; guarantees = gs; modes = map (mode_at at) ms ++ n ∷ [] } in with_statements s subs z cs')
      (mode_is ms x.text rs es a.0.0 a.0.1)
      ∙ ap (λ ns. let z : Items = record { assumes = as_; guarantees = gs; modes = ns } in with_statements s subs z cs')
      (sym (map-append (mode_at at) ms (m.mode_item written i (known ms) x.text rs es ∷ [])))
      ∙ after as_ gs (ms ++ m.mode_item written i (known ms) x.text rs es ∷ []) cs' a.1
  after as_ gs ms («import» k c as' xs ∷ cs') a =
      ap (λ r. with_statements s subs (with_import (made as_ gs ms) c.text r) cs') (imported_is (calls_of i) k at a.0)
      ∙ ap (λ ns. with_statements s subs (given as_ gs k ns) cs') (modes_more ms k c.text)
      ∙ after (as_ ++ below k (sub k).assumes) (gs ++ below k (sub k).guarantees) (with_modes ms k c.text) cs' a.1
      ∙ ap (λ fs. let z : Items = record {
        assumes = fs;
        guarantees = (gs ++ below k (sub k).guarantees) ++ now (rest ms k c.text cs').guarantees;
        modes = map (mode_at at) (rest ms k c.text cs').modes;
      } in z) (brought k as_ (sub k).assumes (rest ms k c.text cs').assumes)
      ∙ ap (λ fs. let z : Items = record {
        assumes = as_ ++ now (map (written.through k) (sub k).assumes ++ (rest ms k c.text cs').assumes);
        guarantees = fs;
        modes = map (mode_at at) (rest ms k c.text cs').modes;
      } in z) (brought k gs (sub k).guarantees (rest ms k c.text cs').guarantees)

pub items_are : (s : Sight) (i : Instance) (at : Place → ℕ) → IsSightOf s [] (bare i at)
    → AllByRecursion (IsSteadyStatement (constants_of i)) (contract_statements (component_of i))
    → contract_items s (called_from 1 (calls_of i) at) (contract_statements (component_of i)) ≡ items_at at (contract_of i)
items_are s (instance n cs is) at h a = after s (instance n cs is) at h [] [] [] (contract_statements n) a
