-- What the checks give, put together.
use Rattle.std.proofs.Common.{◌≡◌, ℕ, zero, suc, ◌<◌, Bool, true, false, cond, List, [], ◌∷◌, length, map, Vec, Global, Option, Some, None, refl, sym, subst, ap, ◌∙◌, arith}
use Rattle.std.specs.Prelude.{◌==◌, Contains, slice_get, is_none, option_map}
use Rattle.std.specs.Str.{bytes_eq}
use Rattle.lus_tree.specs.Tree.{Name, Component, Program}
use Rattle.lus_tree.specs.Lookup.{nodes_of, place_of}
use Rattle.lus_tree.specs.Reason.{Refused, no_node, main_unknown}
use Rattle.lus_meaning.specs.ClockFaults.{components}
use Rattle.lus_meaning.specs.EquationFaults.{IsEquationFault}
use Rattle.lus_meaning.specs.Faults.{fault, if_so}
use Rattle.lus_meaning.specs.Grammatical.{IsGrammatical}
use Rattle.lus_meaning.specs.Limits.{main_faults, limit_faults, size_faults}
use Rattle.lus_meaning.specs.NameFaults.{start_of_text, typing_faults}
use Rattle.lus_meaning.specs.Order.{IsLeastEquationOrder}
use Rattle.lus_meaning.specs.Program.{instance_of}
use Rattle.lus_meaning.specs.Refusals.{HasNone, IsTyped, IsClocked, IsChecked, IsWithinLimits}
use Rattle.lus_meaning.specs.Run.{equations}
use Rattle.lus_meaning.proofs.NamesOnce.{not_nil, no_parts, empty_of}
use Rattle.lus_order.specs.Checked.{AreLeastOrders}
use Rattle.lus_checked.specs.Main.{is_marked, first_marked, last_number, unless_found, main_node}
use Rattle.lus_meaning.specs.Slots.{width}
use Rattle.lus_bounds.specs.Widths.{widths}
use Rattle.lus_checked.specs.declared.kept.Kept.{Kept}
use Rattle.lus_checked.specs.Program.{IsCheckedWith, width_of}
use Rattle.std.proofs.lemmas.List.{length-map}
use Rattle.std.proofs.lemmas.Option.{slice_get-map}
use Rattle.std.proofs.lemmas.Simd.{map-map}
use Rattle.std.proofs.Common.{IfOk, Result, Ok, Err}
use Rattle.std.specs.declared.alloc.AllocError.{AllocError}
use Rattle.lus_meaning.specs.Property.{properties}
use Rattle.lus_properties.specs.Marks.{Mark, mark_of}
use Rattle.lus_checked.specs.declared.property.Property.{Property}
use Rattle.lus_order.specs.OutputReads.{AreAllReads}
use Rattle.lus_checked.specs.Reads.{kept_reads}
use Rattle.lus_checked.specs.Properties.{listed_in, listed_mark, listed_of, lists_seen, property_seen}

none_some : {A : Type 0} (x : A) → None ≡ Some x → ⊥
none_some x e = cc

-- ---- orders

pub as_many_orders : (p : Program) (ns : List Component) (kss : List (List ℕ)) → AreLeastOrders p ns kss → length kss ≡ length ns
as_many_orders p [] [] o = refl
as_many_orders p [] (ks ∷ kss) o = absurd o
as_many_orders p (n ∷ ns) [] o = absurd o
as_many_orders p (n ∷ ns) (ks ∷ kss) o = ap suc (as_many_orders p ns kss o.1)

pub order_at : (p : Program) (ns : List Component) (kss : List (List ℕ)) → AreLeastOrders p ns kss → (k : ℕ) (ks : List ℕ)
    → slice_get kss k ≡ Some ks → (n : Component) → slice_get ns k ≡ Some n → IsLeastEquationOrder (instance_of p n) (equations n) ks
order_at p [] [] o k ks e n h = cc
order_at p [] (js ∷ kss) o k ks e n h = absurd o
order_at p (m ∷ ns) [] o k ks e n h = absurd o
order_at p (m ∷ ns) (js ∷ kss) o zero ks e n h =
    subst (λ a. IsLeastEquationOrder (instance_of p a) (equations a) ks) (let a = h in cc) (subst (λ js. IsLeastEquationOrder (instance_of p m) (equations m) js) (let a = e in cc) o.0)
order_at p (m ∷ ns) (js ∷ kss) o (suc k) ks e n h = order_at p ns kss o.1 k ks e n h

pub as_many : (vs : List (Vec ℕ Global)) → length (map (λ v. v.items) vs) ≡ length vs
as_many [] = refl
as_many (v ∷ vs) = ap suc (as_many vs)

items_at : (vs : List (Vec ℕ Global)) (k : ℕ) (v : Vec ℕ Global) → slice_get vs k ≡ Some v → slice_get (map (λ x. x.items) vs) k ≡ Some v.items
items_at [] k v e = cc
items_at (u ∷ us) zero v e = let same : u ≡ v = cc in ap (λ (x : Vec ℕ Global). Some x.items) same
items_at (u ∷ us) (suc k) v e = items_at us k v e

pub order_of : (p : Program) (ns : List Component) (vs : List (Vec ℕ Global)) → AreLeastOrders p ns (map (λ v. v.items) vs) → (k : ℕ) (v : Vec ℕ Global)
    → slice_get vs k ≡ Some v → (n : Component) → slice_get ns k ≡ Some n → IsLeastEquationOrder (instance_of p n) (equations n) v.items
order_of p ns vs o k v e = order_at p ns (map (λ x. x.items) vs) o k v.items (items_at vs k v e)

-- ---- widths

pub as_many_widths : (p : Program) (ws : List ℕ) → ws ≡ widths p → length ws ≡ length (nodes_of p)
as_many_widths p ws e = ap length e ∙ length-map (nodes_of p) (λ n. width (instance_of p n))

pub width_at : (p : Program) (ws : List ℕ) → ws ≡ widths p → (k : ℕ) → width_of p k ≡ slice_get ws k
width_at p ws e k = sym (slice_get-map (λ n. width (instance_of p n)) (nodes_of p) k) ∙ ap (λ vs. slice_get vs k) (sym e)

-- ---- properties

pub as_many_lists : (p : Program) (vs : List (Vec Property Global)) → lists_seen vs ≡ map (listed_in p) (nodes_of p) → length vs ≡ length (nodes_of p)
as_many_lists p vs e = sym (length-map vs (λ v. map property_seen v.items)) ∙ ap length e ∙ length-map (nodes_of p) (listed_in p)

pub list_at : (p : Program) (vs : List (Vec Property Global)) → lists_seen vs ≡ map (listed_in p) (nodes_of p) → (k : ℕ)
    → listed_of p k ≡ option_map (λ v. map property_seen v.items) (slice_get vs k)
list_at p vs e k =
    sym (slice_get-map (listed_in p) (nodes_of p) k) ∙ ap (λ ls. slice_get ls k) (sym e) ∙ slice_get-map (λ v. map property_seen v.items) vs k

-- by all of them but their truth
pub listed_by : (p : Program) (n : Component) (r : Result (Vec Property Global) AllocError) (ms : List Mark) → IfOk r (λ v. map property_seen v.items ≡ map listed_mark ms)
    → ms ≡ map mark_of (properties (instance_of p n)) → IfOk r (λ v. map property_seen v.items ≡ listed_in p n)
listed_by p n (Ok v) ms h e = h ∙ ap (map listed_mark) e ∙ map-map listed_mark mark_of (properties (instance_of p n))
listed_by p n (Err x) ms h e = tt

-- ---- the main node

place_below : (x : Name) (ns : List Component) (k : ℕ) → place_of x ns ≡ Some k → k < length ns
place_below x [] k e = absurd (none_some k e)
place_below x (n ∷ ns) k e = go (place_below x ns) (bytes_eq x n.name.text) (place_of x ns) refl e
  where
    go : ((j : ℕ) → place_of x ns ≡ Some j → j < length ns) → (b : Bool) (o : Option ℕ) → place_of x ns ≡ o → cond b (Some 0) (option_map suc o) ≡ Some k → k < suc (length ns)
    go r true o t q = let same : 0 ≡ k = cc in omega arith
    go r false None t q = absurd (none_some k q)
    go r false (Some j) t q = let same : suc j ≡ k = cc in let h : j < length ns = r j t in omega arith

marked_below : (ns : List Component) (k : ℕ) → first_marked ns ≡ Some k → k < length ns
marked_below [] k e = absurd (none_some k e)
marked_below (n ∷ ns) k e = go (marked_below ns) (is_marked n) (first_marked ns) refl e
  where
    go : ((j : ℕ) → first_marked ns ≡ Some j → j < length ns) → (b : Bool) (o : Option ℕ) → first_marked ns ≡ o → cond b (Some 0) (option_map suc o) ≡ Some k → k < suc (length ns)
    go r true o t q = let same : 0 ≡ k = cc in omega arith
    go r false None t q = absurd (none_some k q)
    go r false (Some j) t q = let same : suc j ≡ k = cc in let h : j < length ns = r j t in omega arith

last_below : (ns : List Component) (k : ℕ) → last_number ns ≡ Some k → k < length ns
last_below [] k e = absurd (none_some k e)
last_below (n ∷ ns) k e = let same : length ns ≡ k = cc in omega arith

pub main_below : (p : Program) (main : Option Name) (k : ℕ) → main_node p main ≡ Some k → k < length (nodes_of p)
main_below p (Some x) k e = place_below x (nodes_of p) k e
main_below p None k e = go (first_marked (nodes_of p)) refl e
  where
    go : (o : Option ℕ) → first_marked (nodes_of p) ≡ o → unless_found o (last_number (nodes_of p)) ≡ Some k → k < length (nodes_of p)
    go None t h = last_below (nodes_of p) k h
    go (Some j) t h = marked_below (nodes_of p) k (t ∙ h)

-- a program without a fault of names has a node
nodes_there : (p : Program) → IsTyped p → (nodes_of p ≡ []) → ⊥
nodes_there p h e =
    let faults : if_so (length (nodes_of p) == 0) no_node start_of_text ≡ [] =
    (no_parts (if_so (length (nodes_of p) == 0) no_node start_of_text) _ (empty_of (typing_faults p) h)).0 in
    not_nil _ _ (subst (λ ns. if_so (length ns == 0) no_node start_of_text ≡ []) e faults)

last_there : (ns : List Component) → ((ns ≡ []) → ⊥) → last_number ns ≡ None → ⊥
last_there [] h e = h refl
last_there (n ∷ ns) h e = none_some (length ns) (sym e)

-- where the named node is known, or none is named, there is a main node
pub main_there : (p : Program) (main : Option Name) → IsTyped p → IsWithinLimits p main → main_node p main ≡ None → ⊥
main_there p (Some x) t h e =
    let faults : main_faults p (Some x) ≡ [] = (no_parts (main_faults p (Some x)) (limit_faults p 0 p) (empty_of (size_faults p (Some x)) h)).0 in
    not_nil _ _ (subst (λ o. cond (is_none o) (fault main_unknown start_of_text ∷ []) [] ≡ []) e faults)
main_there p None t h e = go (first_marked (nodes_of p)) e
  where
    go : (o : Option ℕ) → unless_found o (last_number (nodes_of p)) ≡ None → ⊥
    go None q = last_there (nodes_of p) (nodes_there p t) q
    go (Some j) q = none_some j (sym q)

-- ---- limits

-- what is within the limits with a main node that is named is so without
pub within_unnamed : (p : Program) (main : Option Name) → IsWithinLimits p main → IsWithinLimits p None
within_unnamed p main h =
    let faults : limit_faults p 0 p ≡ [] = (no_parts (main_faults p main) (limit_faults p 0 p) (empty_of (size_faults p main) h)).1 in
    λ r c. let none : Contains [] r = subst (λ (fs : List Refused). Contains fs r) faults c in let (k, l, q) = none in absurd (omega (arith, l))

pub checked_with : (p : Program) (main : Option Name) (k : Kept) → IsChecked p → IsWithinLimits p main → main_node p main ≡ Some k.main
    → AreLeastOrders p (components p) (map (λ o. o.items) k.orders.items) → k.widths.items ≡ widths p
    → lists_seen k.properties.items ≡ map (listed_in p) (nodes_of p) → AreAllReads p (nodes_of p) (kept_reads k.reads.items) → IsCheckedWith p k
checked_with p main k c w m o ws qs rs = record {
  checked = c;
  within = within_unnamed p main w;
  node = main_below p main k.main m;
  ordered = o;
  counted = ws;
  listed = qs;
  read = rs;
}

-- a tree of the grammar without faults of clocks and equations is checked
pub followed : (p : Program) → IsGrammatical p → IsClocked p → HasNone (IsEquationFault p) → IsChecked p
followed p g c e = record { grammatical = g; rules = record { clocked = c; equations = e } }

pub whole : (p : Program) → IsClocked p → IsTyped p
whole p c = c.typed
