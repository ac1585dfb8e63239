-- The formulas of a contract have the levels and parts that are counted of them, those of its imports included.
use Rattle.std.proofs.Common.{◌≡◌, ℕ, zero, suc, pred, List, [], ◌∷◌, ◌++◌, map, refl, sym, ap, ◌∙◌, subst}
use Rattle.std.specs.Prelude.{slice_index_or}
use Rattle.std.specs.List.{AllByRecursion}
use Rattle.lus_tree.specs.Tree.{Name, Labelled, ContractStatement, assume, guarantee, ghost_variable, constant, mode, «import», Component}
use Rattle.lus_meaning.specs.Scene.{base, Instance, Instances, instance, no_instances, with_instance, component_of, contract_statements, variables}
use Rattle.lus_meaning.specs.Sizes.{Size, one, two, ModeSizes, size_in, sizes_of, imported_size, ContractSizes, no_sizes, asked_size, sizes_after, contract_sizes, contract_sizes_each}
use Rattle.lus_meaning.specs.Sizes as sizes
use Rattle.lus_meaning.proofs.Lists.{append_none, both_parts, map_append}
use Rattle.lus_meaning.proofs.Now.{left_part, right_part}
use Rattle.sys_meaning.specs.Slot.{Place}
use Rattle.sys_meaning.specs.Items.{ModeItem, Items, no_items, known, mode_item, imported_item, items_each, items_after}
use Rattle.sys_meaning.specs.Translate.{Stage}
use Rattle.sys_meaning.specs.System.{Written, written, at_numbers, below_call, contract_of}
use Rattle.sys_meaning.specs.WellTyped.{IsKnown, StreamFits, CallsFit, TreeFits}
use Rattle.term_laws.proofs.Lights.{LightFlag, LightStatement, LightTree, LightCalls}
use Rattle.term_laws.proofs.Sized.{formula_size, mode_sizes, all_of_size, flag_size}

abbrev pub written_size : (Place → ℕ) → Written → Size
written_size at f = formula_size (f at)

-- the modes, with the sizes of what they ask
abbrev pub sizes_asked : (Place → ℕ) → List (ModeItem Written) → ModeSizes
sizes_asked at ms = mode_sizes (at_numbers at (known ms))

asked_append : (at : Place → ℕ) (xs ys : List (ModeItem Written)) → sizes_asked at (xs ++ ys) ≡ sizes_asked at xs ++ sizes_asked at ys
asked_append at [] ys = refl
asked_append at (x ∷ xs) ys = ap (λ l. (x.key, formula_size (x.asked at)) ∷ l) (asked_append at xs ys)

pub same_after : {X : Type 0} (xs ys zs : List X) → (xs ++ ys) ++ zs ≡ xs ++ (ys ++ zs)
same_after [] ys zs = refl
same_after (x ∷ xs) ys zs = ap (λ l. x ∷ l) (same_after xs ys zs)

-- P holds of the sizes of formulas
module _ (P : Size → Type 0) where
  abbrev pub HasSize : (Place → ℕ) → Written → Type 0
  HasSize at f = P (formula_size (f at))

  abbrev pub EnsuresHave : (Place → ℕ) → List (ModeItem Written) → Type 0
  EnsuresHave at ms = AllByRecursion (λ (m : ModeItem Written). AllByRecursion (HasSize at) m.ensures_each) ms

  -- what is counted of a contract, where its promises have P exactly where its guarantees and ensures do
  pub record SizedItems (at : Place → ℕ) (r : Items Written) (s : ContractSizes) : Type 0 where
    pub assumes : map (written_size at) r.assumes ≡ s.assumes
    pub modes : sizes_asked at r.modes ≡ s.modes
    pub kept : AllByRecursion P s.promises → AllByRecursion (HasSize at) r.guarantees × EnsuresHave at r.modes
    pub made : AllByRecursion (HasSize at) r.guarantees → EnsuresHave at r.modes → AllByRecursion P s.promises

  module _ (at : Place → ℕ) where
    through_sizes : (k : ℕ) (fs : List Written) → map (written_size at) (map (written.through k) fs) ≡ map (written_size (below_call k at)) fs
    through_sizes k [] = refl
    through_sizes k (f ∷ fs) = ap (λ l. formula_size (f (below_call k at)) ∷ l) (through_sizes k fs)

    through_asked : (k : ℕ) (c : Name) (ms : List (ModeItem Written)) →
        sizes_asked at (map (imported_item written k c) ms) ≡ map (imported_size c) (sizes_asked (below_call k at) ms)
    through_asked k c [] = refl
    through_asked k c (m ∷ ms) = ap (λ l. ((c ∷ m.key.0, m.key.1), formula_size (m.asked (below_call k at))) ∷ l) (through_asked k c ms)

    through_have : (k : ℕ) (fs : List Written) → AllByRecursion (HasSize (below_call k at)) fs → AllByRecursion (HasSize at) (map (written.through k) fs)
    through_have k [] a = tt
    through_have k (f ∷ fs) a = (a.0, through_have k fs a.1)

    back_through : (k : ℕ) (fs : List Written) → AllByRecursion (HasSize at) (map (written.through k) fs) → AllByRecursion (HasSize (below_call k at)) fs
    back_through k [] a = tt
    back_through k (f ∷ fs) a = (a.0, back_through k fs a.1)

    modes_have : (k : ℕ) (c : Name) (ms : List (ModeItem Written)) → EnsuresHave (below_call k at) ms → EnsuresHave at (map (imported_item written k c) ms)
    modes_have k c [] a = tt
    modes_have k c (m ∷ ms) a = (through_have k m.ensures_each a.0, modes_have k c ms a.1)

    modes_back : (k : ℕ) (c : Name) (ms : List (ModeItem Written)) → EnsuresHave at (map (imported_item written k c) ms) → EnsuresHave (below_call k at) ms
    modes_back k c [] a = tt
    modes_back k c (m ∷ ms) a = (back_through k m.ensures_each a.0, modes_back k c ms a.1)

  module _ (i : Instance) (at : Place → ℕ) (streams : AllByRecursion (StreamFits i (IsKnown i)) (variables (component_of i))) where
    abbrev n : Component
    n = component_of i

    abbrev stage_with : List (ModeItem Written) → Stage
    stage_with ms = record { place = i; number = at; modes = at_numbers at (known ms) }

    says_size : (ms : List (ModeItem Written)) (qs : ModeSizes) → sizes_asked at ms ≡ qs → (l : Labelled) → LightFlag i l →
        written_size at (written.says i (known ms) l.value) ≡ size_in (component_of i) qs l.value
    says_size ms qs e l h = flag_size (stage_with ms) streams l.value base h.0 h.1 ∙ ap (λ q. size_in n q l.value) e

    each_says : (ms : List (ModeItem Written)) (qs : ModeSizes) → sizes_asked at ms ≡ qs → (ls : List Labelled) → AllByRecursion (LightFlag i) ls →
        map formula_size (map (λ f. f at) (map (λ r. written.says i (known ms) r.value) ls)) ≡ sizes_of (component_of i) qs ls
    each_says ms qs e [] h = refl
    each_says ms qs e (l ∷ ls) h = rw (says_size ms qs e l h.0, each_says ms qs e ls h.1) refl

    asked_is : (ms : List (ModeItem Written)) (qs : ModeSizes) → sizes_asked at ms ≡ qs → (rs : List Labelled) → AllByRecursion (LightFlag i) rs →
        written_size at (written.all_of (map (λ r. written.says i (known ms) r.value) rs)) ≡ sizes.all_of (sizes_of (component_of i) qs rs)
    asked_is ms qs e rs h = all_of_size (map (λ f. f at) (map (λ r. written.says i (known ms) r.value) rs)) ∙ ap sizes.all_of (each_says ms qs e rs h)

    ensure_size : (ms : List (ModeItem Written)) (qs : ModeSizes) → sizes_asked at ms ≡ qs → (w : Written) (a : Size) → written_size at w ≡ a →
        (l : Labelled) → LightFlag i l →
        written_size at (written.under w (written.says i (known ms) l.value)) ≡ asked_size a (size_in (component_of i) qs l.value)
    ensure_size ms qs e w a d l h =
        ap (λ s. one (two s (one (written_size at (written.says i (known ms) l.value))))) d ∙ ap (λ s. one (two a (one s))) (says_size ms qs e l h)

    ensures_have : (ms : List (ModeItem Written)) (qs : ModeSizes) → sizes_asked at ms ≡ qs → (w : Written) (a : Size) → written_size at w ≡ a →
        (es : List Labelled) → AllByRecursion (LightFlag i) es → AllByRecursion P (map (asked_size a) (sizes_of (component_of i) qs es)) →
        AllByRecursion (HasSize at) (map (λ e. written.under w (written.says i (known ms) e.value)) es)
    ensures_have ms qs e w a d [] h b = tt
    ensures_have ms qs e w a d (l ∷ es) h b = (subst P (sym (ensure_size ms qs e w a d l h.0)) b.0, ensures_have ms qs e w a d es h.1 b.1)

    ensures_back : (ms : List (ModeItem Written)) (qs : ModeSizes) → sizes_asked at ms ≡ qs → (w : Written) (a : Size) → written_size at w ≡ a →
        (es : List Labelled) → AllByRecursion (LightFlag i) es →
        AllByRecursion (HasSize at) (map (λ e. written.under w (written.says i (known ms) e.value)) es) →
        AllByRecursion P (map (asked_size a) (sizes_of (component_of i) qs es))
    ensures_back ms qs e w a d [] h b = tt
    ensures_back ms qs e w a d (l ∷ es) h b = (subst P (ensure_size ms qs e w a d l h.0) b.0, ensures_back ms qs e w a d es h.1 b.1)

    -- the modes that stand before are among all
    first_modes : (R : ModeItem Written → Type 0) (sub : ℕ → Items Written) (cs : List ContractStatement) (ms : List (ModeItem Written)) →
        AllByRecursion R (items_after written i sub ms cs).modes → AllByRecursion R ms
    first_modes R sub [] ms a = a
    first_modes R sub (assume l ∷ cs) ms a = first_modes R sub cs ms a
    first_modes R sub (guarantee l ∷ cs) ms a = first_modes R sub cs ms a
    first_modes R sub (ghost_variable x e ∷ cs) ms a = first_modes R sub cs ms a
    first_modes R sub (constant c ∷ cs) ms a = first_modes R sub cs ms a
    first_modes R sub (mode m rs es ∷ cs) ms a = left_part R ms _ (first_modes R sub cs (ms ++ mode_item written i (known ms) m.text rs es ∷ []) a)
    first_modes R sub («import» k c as_ ys ∷ cs) ms a =
        left_part R ms _ (first_modes R sub cs (ms ++ map (imported_item written k c.text) (sub k).modes) a)

    -- the rest of a contract, where r is counted of what stands before it
    record SizedAfter (ms : List (ModeItem Written)) (q : Items Written) (r s : ContractSizes) : Type 0 where
      assumes : s.assumes ≡ r.assumes ++ map (written_size at) q.assumes
      modes : sizes_asked at q.modes ≡ s.modes
      kept : (AllByRecursion P r.promises → EnsuresHave at ms) → AllByRecursion P s.promises →
          AllByRecursion P r.promises × AllByRecursion (HasSize at) q.guarantees × EnsuresHave at q.modes
      made : AllByRecursion P r.promises → AllByRecursion (HasSize at) q.guarantees → EnsuresHave at q.modes → AllByRecursion P s.promises

    module _ (sub : ℕ → Items Written) (subs : ℕ → ContractSizes) (each : (k : ℕ) → SizedItems (below_call k at) (sub k) (subs k)) where
      sized_after : (cs : List ContractStatement) → AllByRecursion (LightStatement i) cs → (ms : List (ModeItem Written)) (r : ContractSizes) →
          sizes_asked at ms ≡ r.modes → SizedAfter ms (items_after written i sub ms cs) r (sizes_after (component_of i) subs r cs)
      sized_after [] l ms r e = record { assumes = sym (append_none r.assumes); modes = e; kept = λ h a. (a, tt, h a); made = λ a b c. a }
      sized_after (assume x ∷ cs) l ms r e =
          let s : Size = size_in n r.modes x.value in
          let z = sized_after cs l.1 ms (record r { assumes = r.assumes ++ s ∷ [] }) e in
          record {
            assumes = z.assumes ∙ same_after r.assumes (s ∷ []) _
                ∙ ap (λ k. r.assumes ++ (k ∷ map (written_size at) (items_after written i sub ms cs).assumes)) (sym (says_size ms r.modes e x l.0));
            modes = z.modes;
            kept = z.kept;
            made = z.made;
          }
      sized_after (guarantee x ∷ cs) l ms r e =
          let s : Size = size_in n r.modes x.value in
          let z = sized_after cs l.1 ms (record r { promises = r.promises ++ s ∷ [] }) e in
          let same : written_size at (written.says i (known ms) x.value) ≡ s = says_size ms r.modes e x l.0 in
          record {
            assumes = z.assumes;
            modes = z.modes;
            kept = λ h a. let y = z.kept (λ b. h (left_part P r.promises (s ∷ []) b)) a in
                (left_part P r.promises (s ∷ []) y.0, (subst P (sym same) (right_part P r.promises (s ∷ []) y.0).0, y.1), y.2);
            made = λ a b c. z.made (both_parts P r.promises (s ∷ []) a (subst P same b.0, tt)) b.1 c;
          }
      sized_after (ghost_variable x a ∷ cs) l ms r e =
          let z = sized_after cs l.1 ms r e in record { assumes = z.assumes; modes = z.modes; kept = z.kept; made = z.made }
      sized_after (constant x ∷ cs) l ms r e =
          let z = sized_after cs l.1 ms r e in record { assumes = z.assumes; modes = z.modes; kept = z.kept; made = z.made }
      sized_after (mode x rs es ∷ cs) l ms r e =
          let asked : Size = sizes.all_of (sizes_of n r.modes rs) in
          let w : Written = written.all_of (map (λ q. written.says i (known ms) q.value) rs) in
          let same : written_size at w ≡ asked = asked_is ms r.modes e rs l.0.0 in
          let more : List Size = map (asked_size asked) (sizes_of n r.modes es) in
          let item : ModeItem Written = mode_item written i (known ms) x.text rs es in
          let z = sized_after cs l.1 (ms ++ item ∷ []) (record r { promises = r.promises ++ more; modes = r.modes ++ (([], x.text), asked) ∷ [] })
          (asked_append at ms (item ∷ []) ∙ ap (λ k. k ++ (([], x.text), written_size at w) ∷ []) e ∙ ap (λ k. r.modes ++ (([], x.text), k) ∷ []) same) in
          record {
            assumes = z.assumes;
            modes = z.modes;
            kept = λ h a. let y = z.kept (λ b. both_parts (λ (m : ModeItem Written). AllByRecursion (HasSize at) m.ensures_each) ms (item ∷ [])
                (h (left_part P r.promises more b)) (ensures_have ms r.modes e w asked same es l.0.1 (right_part P r.promises more b), tt)) a in
                (left_part P r.promises more y.0, y.1, y.2);
            made = λ a b c. z.made (both_parts P r.promises more a (ensures_back ms r.modes e w asked same es l.0.1
                (right_part (λ (m : ModeItem Written). AllByRecursion (HasSize at) m.ensures_each) ms (item ∷ [])
                (first_modes (λ (m : ModeItem Written). AllByRecursion (HasSize at) m.ensures_each) sub cs (ms ++ item ∷ []) c)).0)) b c;
          }
      sized_after («import» k x as_ ys ∷ cs) l ms r e =
          let u = each k in
          let items_in : List (ModeItem Written) = map (imported_item written k x.text) (sub k).modes in
          let z = sized_after cs l.1 (ms ++ items_in) record {
            assumes = r.assumes ++ (subs k).assumes;
            promises = r.promises ++ (subs k).promises;
            modes = r.modes ++ map (imported_size x.text) (subs k).modes;
          } (asked_append at ms items_in ∙ ap (λ q. q ++ sizes_asked at items_in) e
          ∙ ap (λ q. r.modes ++ q) (through_asked at k x.text (sub k).modes ∙ ap (map (imported_size x.text)) u.modes)) in
          record {
            assumes = z.assumes ∙ same_after r.assumes (subs k).assumes _
                ∙ ap (λ q. r.assumes ++ (q ++ map (written_size at) (items_after written i sub (ms ++ items_in) cs).assumes))
                (sym (through_sizes at k (sub k).assumes ∙ u.assumes))
                ∙ ap (λ q. r.assumes ++ q) (sym (map_append (written_size at) (map (written.through k) (sub k).assumes) _));
            modes = z.modes;
            kept = λ h a. let y = z.kept (λ b. both_parts (λ (m : ModeItem Written). AllByRecursion (HasSize at) m.ensures_each) ms items_in
                (h (left_part P r.promises (subs k).promises b))
                (modes_have at k x.text (sub k).modes (u.kept (right_part P r.promises (subs k).promises b)).1)) a in (
                  left_part P r.promises (subs k).promises y.0,
                  both_parts (HasSize at) (map (written.through k) (sub k).guarantees) _
                      (through_have at k (sub k).guarantees (u.kept (right_part P r.promises (subs k).promises y.0)).0) y.1,
                  y.2,
                );
            made = λ a b c. z.made (both_parts P r.promises (subs k).promises a (u.made
                (back_through at k (sub k).guarantees (left_part (HasSize at) (map (written.through k) (sub k).guarantees) _ b))
                (modes_back at k x.text (sub k).modes (right_part (λ (m : ModeItem Written). AllByRecursion (HasSize at) m.ensures_each) ms items_in
                (first_modes (λ (m : ModeItem Written). AllByRecursion (HasSize at) m.ensures_each) sub cs (ms ++ items_in) c)))))
                (right_part (HasSize at) (map (written.through k) (sub k).guarantees) _ b) c;
          }

  mutual
    pub contract_sized : (i : Instance) → TreeFits IsKnown i → LightTree i → (at : Place → ℕ) → SizedItems at (contract_of i) (contract_sizes i)
    contract_sized (instance d cs is) fits light at =
        let i : Instance = instance d cs is in
        let z = sized_after i at fits.0.streams (λ k. slice_index_or (items_each written is) (pred k) no_items)
        (λ k. slice_index_or (contract_sizes_each is) (pred k) no_sizes) (λ k. each_sized is i 0 fits.1 light.1 (below_call k at) (pred k))
        (contract_statements d)
        light.0.contract [] no_sizes refl in
        record {
          assumes = sym z.assumes;
          modes = z.modes;
          kept = λ a. let y = z.kept (λ b. tt) a in (y.1, y.2);
          made = λ a b. z.made tt a b;
        }

    each_sized : (is : Instances) (i : Instance) (p : ℕ) → CallsFit IsKnown i is p → LightCalls i is → (at : Place → ℕ) (k : ℕ) →
        SizedItems at (slice_index_or (items_each written is) k no_items) (slice_index_or (contract_sizes_each is) k no_sizes)
    each_sized no_instances i p f l at k = record { assumes = refl; modes = refl; kept = λ a. (tt, tt); made = λ a b. tt }
    each_sized (with_instance c k is) i p f l at zero = contract_sized k f.1 l.1 at
    each_sized (with_instance c k is) i p f l at (suc j) = each_sized is i (suc p) f.2 l.2 at j
