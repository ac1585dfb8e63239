-- The resolutions of conditions read slots of places, and none that nothing is to read.
use Rattle.std.proofs.Common.{◌≡◌, ℕ, zero, suc, pred, ◌<◌, Bool, true, false, cond, List, [], ◌∷◌, ◌++◌, map, flat_map, slice_index_or, refl, ap, ◌∙◌, sym, subst, arith, Option, Some, None, option_map, option_to_list, unwrap_or}
use Rattle.std.specs.List.{AllByRecursion}
use Rattle.std.specs.Map.{lookup}
use Rattle.std.specs.Str.{bytes_eq}
use Rattle.lus_tree.specs.declared.place.Sort.{Sort}
use Rattle.lus_tree.specs.declared.place.Sort.TheVariants.{Bool as Flags}
use Rattle.lus_tree.specs.Tree.{Name, text_of, Variable, Expression, Expressions, truth, number, name, negation, minus, pre, arrow, binary, choice, sampled, merged, call, condact, mode_name, Labelled, Statement, equation, assertion, property, main_mark, ContractStatement, assume, guarantee, ghost_variable, constant, mode, «import»}
use Rattle.lus_meaning.specs.Value.{Value, flag}
use Rattle.lus_meaning.specs.Scene.{Clock, base, sampled_by, Manner, plain, while_true, as_import, Site, Instance, Instances, instance, no_instances, with_instance, no_instance, instance_at, component_of, calls_of, constants_of, outputs_of, call_instance, clock_of, contract_statements}
use Rattle.lus_meaning.specs.Meaning.{mode_key}
use Rattle.lus_meaning.specs.Run.{sort_of, sort_of_name}
use Rattle.lus_meaning.specs.Depends.{named_in}
use Rattle.lus_meaning.specs.Property.{assertions}
use Rattle.lus_meaning.proofs.Lists.{both_parts, mapped_all}
use Rattle.lus_meaning.proofs.Ranked.{all_named}
use Rattle.sys_meaning.specs.Slot.{Spot, beat, named, memory, starting, held, Place, own, in_call}
use Rattle.sys_meaning.specs.Items.{Key, Known, known, ModeItem, mode_item, imported_item, Items, no_items, items_after, items_each}
use Rattle.sys_meaning.specs.Defaults.{site_of}
use Rattle.sys_meaning.specs.System.{below_call}
use Rattle.sys_meaning.specs.WellTyped.{IsKnown, IsAmong, IsCall, IsHeldCall, IsImport, OutputFits, NameFits, FlagFits, StatementsFit, own_keys, count_of, Stands, no_constant, is_declared, checked, CallFits, CallsFit, TreeFits, HasPlaceIn}
use Rattle.sys_meaning.proofs.Forward.{drop_calls, first_instance, instance_dropped, calls_later, later_calls, own_fits, calls_fit}
use Rattle.sys_meaning.proofs.Shows.{in_any}
use Rattle.sys_meaning.proofs.Whole.{fits_called}
use Rattle.slot_values.specs.Resolution.{Resolution}
use Rattle.slot_values.specs.Resolution as res
use Rattle.slot_values.specs.Resolved.{Numbering, resolution, output_resolution, latest_resolution, constant_or_slot, slot_of, first_resolution}
use Rattle.evaluation_laws.specs.Resolvings.{Resolving, at_numbers, all_resolved, resolvings}
use Rattle.slot_sources.specs.Rows.{slots_read}
use Rattle.slot_sources.specs.Sources.{numbering_of, call_beat}
use Rattle.row_laws.proofs.Ranking.{spot_read}
use Rattle.condition_laws.specs.Conditions.{resolved, conditions_of, assumed, some_resolved, where_active, asserts_of, asserts_in, calls_asserts, legal_in, body_properties, one_mode, owed_by_site, owed_by_calls, properties_in}
use Rattle.condition_laws.proofs.ContractItems.{by_number, items_called}
use Rattle.condition_laws.proofs.Known.{items_ask_resolvings}

module _ (R : ℕ → Type 0) where
  abbrev Reads : Resolution → Type 0
  Reads e = AllByRecursion R (slots_read e)

  abbrev pub AllRead : List Resolution → Type 0
  AllRead es = AllByRecursion Reads es

  -- the slots of a frame's places are such
  pub record Placed (i : Instance) : Type 0 where
    pub at : Place → ℕ
    pub fits : TreeFits IsKnown i
    pub read : (ks : List ℕ) (p : Spot) (z : Sort) → spot_read p ≡ true → HasPlaceIn IsKnown (as_import []) ks i p z → R (at (ks, p))

  abbrev called : (i : Instance) → Placed i → (k : ℕ) → IsCall i (IsKnown i) k → Placed (call_instance i k)
  called i v k c = record {
    at = below_call k v.at;
    fits = fits_called IsKnown i k c.counted c.listed (calls_fit IsKnown i v.fits);
    read = λ ks p z q h. v.read (k ∷ ks) p z q (c, in_any IsKnown (site_of i k).manner ks (call_instance i k) p z h);
  }

  -- ---- an expression, with these modes

  module _ (i : Instance) (v : Placed i) (ModeAt : Key → Type 0) (modes : Known Resolution) (asked : AllByRecursion (λ m. Reads m.1) modes) where
    abbrev g : Numbering
    g = record { place = i; number = v.at; modes = modes }

    as_call : (k : ℕ) → IsCall i ModeAt k → IsCall i (IsKnown i) k
    as_call k h = record { number = h.number; counted = h.counted; listed = h.listed; named = h.named }

    as_held : (k : ℕ) (c : Clock) (a : Expression) (ds : Expressions) → IsHeldCall i ModeAt k c a ds → IsHeldCall i (IsKnown i) k c a ds
    as_held k c a ds h =
        record { call = as_call k h.call; outputs = h.outputs; clock = h.clock; manner = h.manner; defaults = h.defaults }

    name_read : (x : Name) → no_constant i (IsKnown i) x → is_declared i (IsKnown i) x → R (v.at (own (named x)))
    name_read x e d = v.read [] (named x) (sort_of_name i x) refl (d, e, refl)

    first_read : (es : List Resolution) → AllRead es → Reads (first_resolution es)
    first_read [] a = tt
    first_read (e ∷ es) a = a.0

    output_read : (k : ℕ) → IsCall i (IsKnown i) k → (x : Variable) → OutputFits i (IsKnown i) k x → R (v.at (in_call k (own (named x.name.text))))
    output_read k c x o = v.read (k ∷ []) (named x.name.text) x.sort refl (c, (o.2, o.3, o.1))

    outputs_read : (k : ℕ) → IsCall i (IsKnown i) k → (vs : List Variable) → AllByRecursion (OutputFits i (IsKnown i) k) vs →
        AllRead (map (output_resolution g k) (map (λ x. x.name.text) vs))
    outputs_read k c [] o = tt
    outputs_read k c (x ∷ vs) o = ((output_read k c x o.0, tt), outputs_read k c vs o.1)

    helds_read : (k : ℕ) (c : Clock) (a : Expression) (ds : Expressions) → IsHeldCall i (IsKnown i) k c a ds → (e : Resolution) → Reads e →
        (vs : List Variable) → AllByRecursion (OutputFits i (IsKnown i) k) vs →
        AllByRecursion (λ x. named_in x.name.text (outputs_of (call_instance i k)) ≡ true) vs →
        AllRead (map (latest_resolution g k e) (map (λ x. x.name.text) vs))
    helds_read k c a ds h e y [] o w = tt
    helds_read k c a ds h e y (x ∷ vs) o w = (
      both_parts R (slots_read e) _ y (
        v.read (k ∷ []) beat Flags refl (h.call, refl),
        (output_read k h.call x o.0, (v.read [] (held k x.name.text) x.sort refl (c, a, ds, h, w.0, o.0.1), tt)),
      ),
      helds_read k c a ds h e y vs o.1 w.1,
    )

    callee_named : (k : ℕ) → AllByRecursion (λ x. named_in x.name.text (outputs_of (call_instance i k)) ≡ true) (component_of (call_instance i k)).outputs
    callee_named k =
        mapped_all (λ y. named_in y (outputs_of (call_instance i k)) ≡ true) (λ x. x.name.text) (component_of (call_instance i k)).outputs
        (all_named (λ y. named_in y (outputs_of (call_instance i k)) ≡ true) (outputs_of (call_instance i k)) (λ y q. q))

    mode_read : (key : Key) (ms : Known Resolution) → AllByRecursion (λ m. Reads m.1) ms →
        Reads (unwrap_or (lookup (mode_key key) ms) (res.known (flag false)))
    mode_read key [] a = tt
    mode_read key (m ∷ ms) a = go (mode_key key m.0) (mode_read key ms a.1)
      where
        go : (c : Bool) → Reads (unwrap_or (lookup (mode_key key) ms) (res.known (flag false))) →
            Reads (unwrap_or (cond c (Some m.1) (lookup (mode_key key) ms)) (res.known (flag false)))
        go true r = a.0
        go false r = r

    pub expression_read : (e : Expression) (c : Clock) → Stands i ModeAt c e → Reads (resolution g e)
    expression_read (truth p x) c h = tt
    expression_read (number p x) c h = tt
    expression_read (name p x) c h = go (lookup (bytes_eq x) (constants_of i)) refl h
      where
        go : (o : Option Value) → lookup (bytes_eq x) (constants_of i) ≡ o → NameFits i ModeAt o c x →
            Reads (constant_or_slot o (slot_of g (own (named x))))
        go None e w = (name_read x e w.0, tt)
        go (Some z) e w = tt
    expression_read (negation p x) c h = expression_read x c h.1
    expression_read (minus p x) c h = expression_read x c h.1
    expression_read (pre p k x) c h = (v.read [] (memory k) (sort_of i x) refl (c, x, h.0, refl), tt)
    expression_read (arrow p k x y) c h = (
      v.read [] (starting k) Flags refl (c, h.0, refl),
      both_parts R (slots_read (resolution g x)) (slots_read (resolution g y)) (expression_read x c h.2) (expression_read y c h.3),
    )
    expression_read (binary p o x y) c h =
        both_parts R (slots_read (resolution g x)) (slots_read (resolution g y)) (expression_read x c h.3) (expression_read y c h.4)
    expression_read (choice p x y z) c h =
        both_parts R (slots_read (resolution g x) ++ slots_read (resolution g y)) (slots_read (resolution g z))
        (both_parts R (slots_read (resolution g x)) (slots_read (resolution g y)) (expression_read x c h.2) (expression_read y c h.3))
        (expression_read z c h.4)
    expression_read (sampled p x q y) c h =
        (name_read y.text h.1.stream h.1.declared, expression_read x (clock_of (component_of i) y.text) h.2)
    expression_read (merged p y x z) c h = (
      name_read y.text h.0.stream h.0.declared,
      both_parts R (slots_read (resolution g x)) (slots_read (resolution g z)) (expression_read x (sampled_by true y.text) h.3)
          (expression_read z (sampled_by false y.text) h.4),
    )
    expression_read (call p k f as_) c h =
        let w : IsCall i (IsKnown i) k = as_call k h.0.call in
        first_read (map (output_resolution g k) (outputs_of (call_instance i k))) (outputs_read k w (component_of (call_instance i k)).outputs w.named)
    expression_read (condact p k x f as_ ds) c h =
        let w : IsHeldCall i (IsKnown i) k c x ds = as_held k c x ds h.0 in
        first_read (map (latest_resolution g k (resolution g x)) (outputs_of (call_instance i k)))
        (helds_read k c x ds w (resolution g x) (expression_read x c h.2) (component_of (call_instance i k)).outputs w.call.named (callee_named k))
    expression_read (mode_name p d m) c h = mode_read (option_to_list (option_map text_of d), m.text) modes asked

  -- ---- contracts

  abbrev ListRead : (Place → ℕ) → List Resolving → Type 0
  ListRead at ws = AllByRecursion (λ (w : Resolving). Reads (w at)) ws

  abbrev ModesRead : (Place → ℕ) → List (ModeItem Resolving) → Type 0
  ModesRead at qs = AllByRecursion (λ (q : ModeItem Resolving). Reads (q.asked at) × ListRead at q.ensures_each) qs

  pub record ItemsRead (at : Place → ℕ) (q : Items Resolving) : Type 0 where
    pub assumes : ListRead at q.assumes
    pub guarantees : ListRead at q.guarantees
    pub modes : ModesRead at q.modes

  asked_read : (at : Place → ℕ) (qs : List (ModeItem Resolving)) → ModesRead at qs → AllByRecursion (λ m. Reads m.1) (at_numbers at (known qs))
  asked_read at [] a = tt
  asked_read at (q ∷ qs) a = (a.0.0, asked_read at qs a.1)

  through_list : (at : Place → ℕ) (k : ℕ) (ws : List Resolving) → ListRead (below_call k at) ws → ListRead at (map (resolved.through k) ws)
  through_list at k [] a = tt
  through_list at k (w ∷ ws) a = (a.0, through_list at k ws a.1)

  through_modes : (at : Place → ℕ) (k : ℕ) (x : Name) (qs : List (ModeItem Resolving)) → ModesRead (below_call k at) qs →
      ModesRead at (map (imported_item resolved k x) qs)
  through_modes at k x [] a = tt
  through_modes at k x (q ∷ qs) a = ((a.0.0, through_list at k q.ensures_each a.0.1), through_modes at k x qs a.1)

  module _ (i : Instance) (v : Placed i) (sub : ℕ → Items Resolving) (below : (k : ℕ) → IsImport i k → ItemsRead (below_call k v.at) (sub k)) where
    module _ (ks : List Key) (qs : List (ModeItem Resolving)) (a : ModesRead v.at qs) where
      item_read : (l : Labelled) → FlagFits i ks l → Reads (resolved.says i (known qs) l.value v.at)
      item_read l w = expression_read i v (IsAmong ks) (at_numbers v.at (known qs)) (asked_read v.at qs a) l.value base w.0

      requires_read : (rs : List Labelled) → AllByRecursion (FlagFits i ks) rs →
          Reads (all_resolved (map (λ r. r v.at) (map (λ r. resolved.says i (known qs) r.value) rs)))
      requires_read [] w = tt
      requires_read (l ∷ []) w = item_read l w.0
      requires_read (l ∷ m ∷ rs) w = both_parts R (slots_read (resolved.says i (known qs) l.value v.at)) _ (item_read l w.0) (requires_read (m ∷ rs) w.1)

      ensures_read : (m : Name) (rs es fs : List Labelled) → AllByRecursion (FlagFits i ks) rs → AllByRecursion (FlagFits i ks) es →
          ListRead v.at (map (λ e. resolved.under (mode_item resolved i (known qs) m rs fs).asked (resolved.says i (known qs) e.value)) es)
      ensures_read m rs [] fs w u = tt
      ensures_read m rs (e ∷ es) fs w u = (
        both_parts R (slots_read ((mode_item resolved i (known qs) m rs fs).asked v.at)) _ (requires_read rs w) (item_read e u.0),
        ensures_read m rs es fs w u.1,
      )

    after : (ks : List Key) (qs : List (ModeItem Resolving)) (cs : List ContractStatement) → StatementsFit i ks cs → ModesRead v.at qs →
        ItemsRead v.at (items_after resolved i sub qs cs)
    after ks qs [] w a = record { assumes = tt; guarantees = tt; modes = a }
    after ks qs (assume l ∷ cs) w a =
        let r : ItemsRead v.at (items_after resolved i sub qs cs) = after (ks ++ []) qs cs w.1 a in
        record { assumes = (item_read ks qs a l w.0, r.assumes); guarantees = r.guarantees; modes = r.modes }
    after ks qs (guarantee l ∷ cs) w a =
        let r : ItemsRead v.at (items_after resolved i sub qs cs) = after (ks ++ []) qs cs w.1 a in
        record { assumes = r.assumes; guarantees = (item_read ks qs a l w.0, r.guarantees); modes = r.modes }
    after ks qs (ghost_variable x d ∷ cs) w a = after (ks ++ []) qs cs w.1 a
    after ks qs (constant c ∷ cs) w a = after (ks ++ []) qs cs w.1 a
    after ks qs (mode m rs es ∷ cs) w a =
        let one : List (ModeItem Resolving) = mode_item resolved i (known qs) m.text rs es ∷ [] in
        after (ks ++ ([], m.text) ∷ []) (qs ++ one) cs w.1
        (both_parts (λ (q : ModeItem Resolving). Reads (q.asked v.at) × ListRead v.at q.ensures_each) qs one a
        ((requires_read ks qs a rs w.0.0, ensures_read ks qs a m.text rs es es w.0.0 w.0.1), tt))
    after ks qs («import» j c as_ xs ∷ cs) w a =
        let there : ItemsRead (below_call j v.at) (sub j) = below j w.0 in
        let some : List (ModeItem Resolving) = map (imported_item resolved j c.text) (sub j).modes in
        let r : ItemsRead v.at (items_after resolved i sub (qs ++ some) cs) =
        after (ks ++ own_keys i («import» j c as_ xs)) (qs ++ some) cs w.1
        (both_parts (λ (q : ModeItem Resolving). Reads (q.asked v.at) × ListRead v.at q.ensures_each) qs some a
        (through_modes v.at j c.text (sub j).modes there.modes)) in
        record {
          assumes = both_parts (λ (w : Resolving). Reads (w v.at)) (map (resolved.through j) (sub j).assumes)
              (items_after resolved i sub (qs ++ some) cs).assumes (through_list v.at j (sub j).assumes there.assumes) r.assumes;
          guarantees = both_parts (λ (w : Resolving). Reads (w v.at)) (map (resolved.through j) (sub j).guarantees)
              (items_after resolved i sub (qs ++ some) cs).guarantees (through_list v.at j (sub j).guarantees there.guarantees) r.guarantees;
          modes = r.modes;
        }

  abbrev AllItems : Instance → Type 0
  AllItems i = (v : Placed i) → ItemsRead v.at (conditions_of i)

  items_from : (i : Instance) → ((k : ℕ) → 0 < k → pred k < count_of (calls_of i) → AllItems (call_instance i k)) → AllItems i
  items_from (instance d cs is) h v =
      after (instance d cs is) v (λ k. slice_index_or (items_each resolved is) (pred k) no_items) below [] [] (contract_statements d)
      (own_fits IsKnown (instance d cs is) v.fits).contract tt
    where
      below : (k : ℕ) → IsImport (instance d cs is) k → ItemsRead (below_call k v.at) (slice_index_or (items_each resolved is) (pred k) no_items)
      below k im =
          subst (λ q. ItemsRead (below_call k v.at) q) (sym (items_called (instance d cs is) k im.call.counted im.call.listed))
          (h k im.call.counted im.call.listed (called (instance d cs is) v k im.call))

  mutual
    items_read : (i : Instance) → AllItems i
    items_read (instance d cs is) = items_from (instance d cs is) (by_number AllItems (instance d cs is) (each_read is))

    each_read : (is : Instances) (p : ℕ) → p < count_of is → AllItems (instance_at is p)
    each_read no_instances p l = absurd (omega (arith, l))
    each_read (with_instance c k is) zero l = items_read k
    each_read (with_instance c k is) (suc p) l = each_read is p (omega (arith, l))

  -- ---- frames

  where_read : (k : ℕ) → R k → (e : Resolution) → Reads e → Reads (where_active k e)
  where_read k h e a = (h, both_parts R (slots_read e) [] a tt)

  all_where : (k : ℕ) → R k → (es : List Resolution) → AllRead es → AllRead (map (where_active k) es)
  all_where k h [] a = tt
  all_where k h (e ∷ es) a = (where_read k h e a.0, all_where k h es a.1)

  at_frame : (at : Place → ℕ) (ws : List Resolving) → ListRead at ws → AllRead (map (λ w. w at) ws)
  at_frame at [] a = tt
  at_frame at (w ∷ ws) a = (a.0, at_frame at ws a.1)

  module _ (i : Instance) (v : Placed i) where
    text_read : (e : Expression) → Stands i (IsKnown i) base e → Reads (resolution (numbering_of i v.at) e)
    text_read e h =
        expression_read i v (IsKnown i) (at_numbers v.at (resolvings i))
        (subst (λ ms. AllByRecursion (λ m. Reads m.1) (at_numbers v.at ms)) (items_ask_resolvings i)
        (asked_read v.at (conditions_of i).modes (items_read i v).modes)) e base h

    beat_read : R (v.at (own beat))
    beat_read = v.read [] beat Flags refl refl

    asserts_read : (es : List Expression) → AllByRecursion (λ e. Stands i (IsKnown i) base e × (sort_of i e ≡ Flags)) es →
        AllRead (map (λ e. where_active (v.at (own beat)) (resolution (numbering_of i v.at) e)) es)
    asserts_read [] a = tt
    asserts_read (e ∷ es) a =
        (where_read (v.at (own beat)) beat_read (resolution (numbering_of i v.at) e) (text_read e a.0.0), asserts_read es a.1)

    -- the frame of a call
    module _ (c : Site) (k : Instance) (is : Instances) (q : ℕ) (fit : CallFits IsKnown i c k q) (e : drop_calls q (calls_of i) ≡ with_instance c k is) where
      instance_here : call_instance i (suc q) ≡ k
      instance_here = instance_dropped (calls_of i) q ∙ ap (λ z. first_instance z no_instance) e

      read_below : (ks : List ℕ) (p : Spot) (z : Sort) → spot_read p ≡ true → HasPlaceIn IsKnown (as_import []) ks k p z →
          R (below_call c.number v.at (ks, p))
      read_below ks p z y h =
          subst (λ n. R (v.at (n ∷ ks, p))) (sym fit.number)
          (v.read (suc q ∷ ks) p z y (
            fit.call,
            in_any IsKnown (site_of i (suc q)).manner ks (call_instance i (suc q)) p z
                (subst (λ j. HasPlaceIn IsKnown (as_import []) ks j p z) (sym instance_here) h),
          ))

      abbrev below : TreeFits IsKnown k → Placed k
      below w = record { at = below_call c.number v.at; fits = w; read = read_below }

  mutual
    all_asserts : (i : Instance) (v : Placed i) → AllRead (asserts_in i v.at)
    all_asserts (instance d cs is) v =
        let i : Instance = instance d cs is in
        both_parts Reads (asserts_of (numbering_of i v.at)) (calls_asserts (numbering_of i v.at) is)
        (asserts_read i v (assertions d.body) (own_fits IsKnown i v.fits).asserts) (below_asserts i v is 0 refl v.fits.1)

    below_asserts : (i : Instance) (v : Placed i) (is : Instances) (q : ℕ) → drop_calls q (calls_of i) ≡ is → CallsFit IsKnown i is q →
        AllRead (calls_asserts (numbering_of i v.at) is)
    below_asserts i v no_instances q e fits = tt
    below_asserts i v (with_instance c k is) q e fits =
        both_parts Reads (asserts_in k (below_call c.number v.at)) (calls_asserts (numbering_of i v.at) is)
        (all_asserts k (below i v c k is q fits.0 e fits.1))
        (below_asserts i v is (suc q) (calls_later q (calls_of i) ∙ ap later_calls e) fits.2)

  -- ---- properties

  body_read : (i : Instance) (v : Placed i) (ss : List Statement) →
      AllByRecursion (λ e. Stands i (IsKnown i) base e × (sort_of i e ≡ Flags)) (checked ss) → AllRead (body_properties (numbering_of i v.at) ss)
  body_read i v [] a = tt
  body_read i v (property l ∷ ss) a = (text_read i v l.value a.0.0, body_read i v ss a.1)
  body_read i v (equation xs e ∷ ss) a = body_read i v ss a
  body_read i v (assertion e ∷ ss) a = body_read i v ss a
  body_read i v (main_mark q ∷ ss) a = body_read i v ss a

  ensures_of_modes : (at : Place → ℕ) (qs : List (ModeItem Resolving)) → ModesRead at qs →
      AllRead (flat_map (λ m. map (λ f. f at) m.ensures_each) qs)
  ensures_of_modes at [] a = tt
  ensures_of_modes at (q ∷ qs) a =
      both_parts Reads (map (λ f. f at) q.ensures_each) (flat_map (λ m. map (λ f. f at) m.ensures_each) qs) (at_frame at q.ensures_each a.0.1)
      (ensures_of_modes at qs a.1)

  some_read : (at : Place → ℕ) (qs : List (ModeItem Resolving)) → ModesRead at qs → Reads (some_resolved (map (λ m. m.asked at) qs))
  some_read at [] a = tt
  some_read at (q ∷ []) a = a.0.0
  some_read at (q ∷ r ∷ qs) a = both_parts R (slots_read (q.asked at)) _ a.0.0 (some_read at (r ∷ qs) a.1)

  one_read : (at : Place → ℕ) (qs : List (ModeItem Resolving)) → ModesRead at qs → AllRead (one_mode qs at)
  one_read at [] a = tt
  one_read at (q ∷ qs) a = (some_read at (q ∷ qs) a, tt)

  owed_read : (g : Numbering) (c : Site) (m : Manner) (k : Instance) → R (call_beat g c) → ListRead (below_call c.number g.number) (conditions_of k).assumes →
      AllRead (owed_by_site g c m k)
  owed_read g c (as_import xs) k h a = tt
  owed_read g c plain k h a =
      all_where (call_beat g c) h (assumed k (below_call c.number g.number)) (at_frame (below_call c.number g.number) (conditions_of k).assumes a)
  owed_read g c (while_true w) k h a =
      all_where (call_beat g c) h (assumed k (below_call c.number g.number)) (at_frame (below_call c.number g.number) (conditions_of k).assumes a)

  all_owed : (i : Instance) (v : Placed i) (is : Instances) (q : ℕ) → drop_calls q (calls_of i) ≡ is → CallsFit IsKnown i is q →
      AllRead (owed_by_calls (numbering_of i v.at) is)
  all_owed i v no_instances q e fits = tt
  all_owed i v (with_instance c k is) q e fits =
      let u : Placed k = below i v c k is q fits.0 e fits.1 in
      both_parts Reads (owed_by_site (numbering_of i v.at) c c.manner k) (owed_by_calls (numbering_of i v.at) is)
      (owed_read (numbering_of i v.at) c c.manner k (beat_read k u) (items_read k u).assumes)
      (all_owed i v is (suc q) (calls_later q (calls_of i) ∙ ap later_calls e) fits.2)

  -- ---- of a declaration

  pub legal_read : (i : Instance) (v : Placed i) → AllRead (legal_in i v.at)
  legal_read i v =
      both_parts Reads (assumed i v.at) (asserts_in i v.at) (at_frame v.at (conditions_of i).assumes (items_read i v).assumes) (all_asserts i v)

  pub properties_read : (i : Instance) (v : Placed i) → AllRead (properties_in i v.at)
  properties_read (instance d cs is) v =
      let i : Instance = instance d cs is in
      let items : ItemsRead v.at (conditions_of i) = items_read i v in
      let es1 : List Resolution = body_properties (numbering_of i v.at) d.body in
      let es2 : List Resolution = map (λ f. f v.at) (conditions_of i).guarantees in
      let es3 : List Resolution = flat_map (λ m. map (λ f. f v.at) m.ensures_each) (conditions_of i).modes in
      let es4 : List Resolution = one_mode (conditions_of i).modes v.at in
      both_parts Reads (es1 ++ es2 ++ es3 ++ es4) (owed_by_calls (numbering_of i v.at) is)
      (both_parts Reads (es1 ++ es2 ++ es3) es4
      (both_parts Reads (es1 ++ es2) es3
      (both_parts Reads es1 es2 (body_read i v d.body v.fits.0.body_properties) (at_frame v.at (conditions_of i).guarantees items.guarantees))
      (ensures_of_modes v.at (conditions_of i).modes items.modes)) (one_read v.at (conditions_of i).modes items.modes))
      (all_owed i v is 0 refl v.fits.1)
