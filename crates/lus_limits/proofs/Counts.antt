-- The counts of contracts and properties by those of callees.
use Rattle.std.proofs.Common.{◌≡◌, ℕ, zero, suc, pred, ◌+◌, List, [], ◌∷◌, ◌++◌, map, flat_map, length, length-append, slice_index_or, refl, sym, ap, ◌∙◌, arith}
use Rattle.std.specs.Prelude.{min}
use Rattle.std.proofs.lemmas.Grind.{flat_map-append}
use Rattle.lus_tree.specs.Tree.{Name, Statement, equation, assertion, property, main_mark, ContractStatement, assume, guarantee, ghost_variable, constant, mode, «import», Component, Program}
use Rattle.lus_meaning.specs.Scene.{Manner, plain, while_true, as_import, Site, Instance, Instances, instance, contract_statements}
use Rattle.lus_meaning.specs.Program.{all_sites, constants_in, instances_with, instance_of}
use Rattle.lus_meaning.specs.Contract.{Property, ModeTerms, Terms, no_terms, imported, imported_mode, mode_terms, terms_after, terms, terms_each}
use Rattle.lus_meaning.specs.Property.{body_properties, one_mode, owed, owed_by_site, owed_by_calls, properties}
use Rattle.lus_meaning.proofs.Exists.{length_mapped}
use Rattle.lus_limits.specs.Instances.{instance_called_so}
use Rattle.lus_limits.specs.Counts.{Counts, none_counted, with_counts, counted, contract_counts, counts_at, callee_counts, ContractByText, body_count, owed_count, owed_counts, property_count, PropertiesByText, cut_counts, CountCuts, PropertyCuts}
use Rattle.lus_limits.proofs.Instances.{made_of_callees}

same_counts : (a b : Counts) → a.assumes ≡ b.assumes → a.guarantees ≡ b.guarantees → a.ensures ≡ b.ensures → a.modes ≡ b.modes → a ≡ b
same_counts a b e f g h =
    ap (λ x. record { assumes = x; guarantees = a.guarantees; ensures = a.ensures; modes = a.modes }) e
    ∙ ap (λ x. record { assumes = b.assumes; guarantees = x; ensures = a.ensures; modes = a.modes }) f
    ∙ ap (λ x. record { assumes = b.assumes; guarantees = b.guarantees; ensures = x; modes = a.modes }) g
    ∙ ap (λ x. record { assumes = b.assumes; guarantees = b.guarantees; ensures = b.ensures; modes = x }) h

-- ---- a contract

none_more : {x : ℕ} (y : ℕ) → x ≡ y → x ≡ 0 + y
none_more y e = omega arith

none_less : {x : ℕ} (y : ℕ) → x ≡ 0 + y → x ≡ y
none_less y e = omega arith

none_between : {x : ℕ} (y z : ℕ) → x ≡ y + z → x ≡ y + (0 + z)
none_between y z e = omega arith

abbrev ensures_of : List ModeTerms → List Property
ensures_of ms = flat_map (λ m. m.ensures_each) ms

imported_ensures : (k : ℕ) (c : Name) (ms : List ModeTerms) → length (ensures_of (map (imported_mode k c) ms)) ≡ length (ensures_of ms)
imported_ensures k c [] = refl
imported_ensures k c (m ∷ ms) =
    let r : length (ensures_of (map (imported_mode k c) ms)) ≡ length (ensures_of ms) = imported_ensures k c ms in
    length-append (map (imported k) m.ensures_each) (ensures_of (map (imported_mode k c) ms))
    ∙ rw (length_mapped (imported k) m.ensures_each, r) (sym (length-append m.ensures_each (ensures_of ms)))

module _ (i : Instance) (sub : ℕ → Terms) where
  abbrev sides : List ContractStatement → Counts
  sides cs = contract_counts (λ k. counted (sub k)) cs

  assumes_after : (ms : List ModeTerms) (cs : List ContractStatement) → length (terms_after i sub ms cs).assumes ≡ (sides cs).assumes
  assumes_after ms [] = refl
  assumes_after ms (assume l ∷ cs) = let r : length (terms_after i sub ms cs).assumes ≡ (sides cs).assumes = assumes_after ms cs in omega arith
  assumes_after ms (guarantee l ∷ cs) = none_more (sides cs).assumes (assumes_after ms cs)
  assumes_after ms (ghost_variable v e ∷ cs) = none_more (sides cs).assumes (assumes_after ms cs)
  assumes_after ms (constant c ∷ cs) = none_more (sides cs).assumes (assumes_after ms cs)
  assumes_after ms (mode m rs es ∷ cs) = none_more (sides cs).assumes (assumes_after (ms ++ mode_terms i ms m.text rs es ∷ []) cs)
  assumes_after ms («import» k c as_ xs ∷ cs) =
      let ns : List ModeTerms = ms ++ map (imported_mode k c.text) (sub k).modes in
      length-append (map (imported k) (sub k).assumes) (terms_after i sub ns cs).assumes
      ∙ rw (length_mapped (imported k) (sub k).assumes, assumes_after ns cs) refl

  guarantees_after : (ms : List ModeTerms) (cs : List ContractStatement) → length (terms_after i sub ms cs).guarantees ≡ (sides cs).guarantees
  guarantees_after ms [] = refl
  guarantees_after ms (assume l ∷ cs) = none_more (sides cs).guarantees (guarantees_after ms cs)
  guarantees_after ms (guarantee l ∷ cs) =
      let r : length (terms_after i sub ms cs).guarantees ≡ (sides cs).guarantees = guarantees_after ms cs in omega arith
  guarantees_after ms (ghost_variable v e ∷ cs) = none_more (sides cs).guarantees (guarantees_after ms cs)
  guarantees_after ms (constant c ∷ cs) = none_more (sides cs).guarantees (guarantees_after ms cs)
  guarantees_after ms (mode m rs es ∷ cs) = none_more (sides cs).guarantees (guarantees_after (ms ++ mode_terms i ms m.text rs es ∷ []) cs)
  guarantees_after ms («import» k c as_ xs ∷ cs) =
      let ns : List ModeTerms = ms ++ map (imported_mode k c.text) (sub k).modes in
      length-append (map (imported k) (sub k).guarantees) (terms_after i sub ns cs).guarantees
      ∙ rw (length_mapped (imported k) (sub k).guarantees, guarantees_after ns cs) refl

  modes_after : (ms : List ModeTerms) (cs : List ContractStatement) → length (terms_after i sub ms cs).modes ≡ length ms + (sides cs).modes
  modes_after ms [] = omega arith
  modes_after ms (assume l ∷ cs) = none_between (length ms) (sides cs).modes (modes_after ms cs)
  modes_after ms (guarantee l ∷ cs) = none_between (length ms) (sides cs).modes (modes_after ms cs)
  modes_after ms (ghost_variable v e ∷ cs) = none_between (length ms) (sides cs).modes (modes_after ms cs)
  modes_after ms (constant c ∷ cs) = none_between (length ms) (sides cs).modes (modes_after ms cs)
  modes_after ms (mode m rs es ∷ cs) =
      let ns : List ModeTerms = mode_terms i ms m.text rs es ∷ [] in
      let r : length (terms_after i sub (ms ++ ns) cs).modes ≡ length (ms ++ ns) + (sides cs).modes = modes_after (ms ++ ns) cs in
      let a : length (ms ++ ns) ≡ length ms + 1 = length-append ms ns in
      omega arith
  modes_after ms («import» k c as_ xs ∷ cs) =
      let ns : List ModeTerms = map (imported_mode k c.text) (sub k).modes in
      let r : length (terms_after i sub (ms ++ ns) cs).modes ≡ length (ms ++ ns) + (sides cs).modes = modes_after (ms ++ ns) cs in
      let a : length (ms ++ ns) ≡ length ms + length ns = length-append ms ns in
      let b : length ns ≡ length (sub k).modes = length_mapped (imported_mode k c.text) (sub k).modes in
      omega arith

  many_ensures : (ms ns : List ModeTerms) → length (ensures_of (ms ++ ns)) ≡ length (ensures_of ms) + length (ensures_of ns)
  many_ensures ms ns = rw (flat_map-append (λ (m : ModeTerms). m.ensures_each) ms ns) (length-append (ensures_of ms) (ensures_of ns))

  ensures_after : (ms : List ModeTerms) (cs : List ContractStatement) → length (ensures_of (terms_after i sub ms cs).modes)
      ≡ length (ensures_of ms) + (sides cs).ensures
  ensures_after ms [] = omega arith
  ensures_after ms (assume l ∷ cs) = none_between (length (ensures_of ms)) (sides cs).ensures (ensures_after ms cs)
  ensures_after ms (guarantee l ∷ cs) = none_between (length (ensures_of ms)) (sides cs).ensures (ensures_after ms cs)
  ensures_after ms (ghost_variable v e ∷ cs) = none_between (length (ensures_of ms)) (sides cs).ensures (ensures_after ms cs)
  ensures_after ms (constant c ∷ cs) = none_between (length (ensures_of ms)) (sides cs).ensures (ensures_after ms cs)
  ensures_after ms (mode m rs es ∷ cs) =
      let t : ModeTerms = mode_terms i ms m.text rs es in
      let r : length (ensures_of (terms_after i sub (ms ++ t ∷ []) cs).modes) ≡ length (ensures_of (ms ++ t ∷ [])) + (sides cs).ensures =
      ensures_after (ms ++ t ∷ []) cs in
      let a : length (ensures_of (ms ++ t ∷ [])) ≡ length (ensures_of ms) + length (ensures_of (t ∷ [])) = many_ensures ms (t ∷ []) in
      let b : length (t.ensures_each ++ []) ≡ length t.ensures_each + 0 = length-append t.ensures_each [] in
      let d : length t.ensures_each ≡ length es = length_mapped _ es in
      omega arith
  ensures_after ms («import» k c as_ xs ∷ cs) =
      let ns : List ModeTerms = map (imported_mode k c.text) (sub k).modes in
      let r : length (ensures_of (terms_after i sub (ms ++ ns) cs).modes) ≡ length (ensures_of (ms ++ ns)) + (sides cs).ensures =
      ensures_after (ms ++ ns) cs in
      let a : length (ensures_of (ms ++ ns)) ≡ length (ensures_of ms) + length (ensures_of ns) = many_ensures ms ns in
      let b : length (ensures_of ns) ≡ length (ensures_of (sub k).modes) = imported_ensures k c.text (sub k).modes in
      omega arith

  counted_after : (cs : List ContractStatement) → counted (terms_after i sub [] cs) ≡ sides cs
  counted_after cs = same_counts (counted (terms_after i sub [] cs)) (sides cs) (assumes_after [] cs) (guarantees_after [] cs)
      (none_less (sides cs).ensures (ensures_after [] cs)) (none_less (sides cs).modes (modes_after [] cs))

-- ---- by number

alike_counts : (f g : ℕ → Counts) → ((k : ℕ) → f k ≡ g k) → (cs : List ContractStatement) → contract_counts f cs ≡ contract_counts g cs
alike_counts f g h [] = refl
alike_counts f g h (c ∷ cs) = go c (alike_counts f g h cs)
  where
    go : (c : ContractStatement) → contract_counts f cs ≡ contract_counts g cs → contract_counts f (c ∷ cs) ≡ contract_counts g (c ∷ cs)
    go (assume l) r = rw r refl
    go (guarantee l) r = rw r refl
    go (ghost_variable v e) r = rw r refl
    go (constant c) r = rw r refl
    go (mode m rs es) r = rw r refl
    go («import» k c as_ xs) r = rw (h k, r) refl

terms_at : (g : Name → Instance) (ss : List Site) (j : ℕ) → counted (slice_index_or (terms_each (instances_with g ss)) j no_terms)
    ≡ slice_index_or (map (λ s. counted (terms (g s.callee))) ss) j none_counted
terms_at g [] j = refl
terms_at g (s ∷ ss) zero = refl
terms_at g (s ∷ ss) (suc j) = terms_at g ss j

counts_made : (p : Program) (n : Component) → counted (terms (instance n (constants_in p n) (instances_with (instance_called_so p) (all_sites n))))
    ≡ contract_counts (counts_at (callee_counts p) (all_sites n)) (contract_statements n)
counts_made p n =
    let is : Instances = instances_with (instance_called_so p) (all_sites n) in
    let sub : (ℕ → Terms) = λ k. slice_index_or (terms_each is) (pred k) no_terms in
    counted_after (instance n (constants_in p n) is) sub (contract_statements n)
    ∙ alike_counts (λ k. counted (sub k)) (counts_at (callee_counts p) (all_sites n))
    (λ k. terms_at (instance_called_so p) (all_sites n) (pred k)) (contract_statements n)

pub contract_by_text : ContractByText
contract_by_text p c n i = ap (λ k. counted (terms k)) (made_of_callees p c n i) ∙ counts_made p n

-- ---- properties

body_counted : (i : Instance) (ss : List Statement) → length (body_properties i ss) ≡ body_count ss
body_counted i [] = refl
body_counted i (equation xs e ∷ ss) = body_counted i ss
body_counted i (assertion e ∷ ss) = body_counted i ss
body_counted i (property l ∷ ss) = ap suc (body_counted i ss)
body_counted i (main_mark q ∷ ss) = body_counted i ss

one_counted : (d : Component) (ms : List ModeTerms) → length (one_mode d ms) ≡ min 1 (length ms)
one_counted d [] = refl
one_counted d (m ∷ ms) = omega arith

owed_counted : (i : Instance) (p : Program) (ss : List Site) → length (owed_by_calls i (instances_with (instance_called_so p) ss))
    ≡ owed_counts (callee_counts p) ss
owed_counted i p [] = refl
owed_counted i p (s ∷ ss) =
    let r : Terms = terms (instance_called_so p s.callee) in
    length-append (owed_by_site i s s.manner r) (owed_by_calls i (instances_with (instance_called_so p) ss))
    ∙ rw (site s.manner r, owed_counted i p ss) refl
  where
    site : (m : Manner) (r : Terms) → length (owed_by_site i s m r) ≡ owed_count m (counted r)
    site (as_import xs) r = refl
    site plain r = length_mapped (owed i s) r.assumes
    site (while_true a) r = length_mapped (owed i s) r.assumes

properties_made : (p : Program) (n : Component) (j : Instance) → j ≡ instance n (constants_in p n) (instances_with (instance_called_so p) (all_sites n))
    → length (properties j) ≡ property_count n.body (counted (terms j)) (owed_counts (callee_counts p) (all_sites n))
properties_made p n j e = rw e go
  where
    i : Instance
    i = instance n (constants_in p n) (instances_with (instance_called_so p) (all_sites n))

    go : length (properties i) ≡ property_count n.body (counted (terms i)) (owed_counts (callee_counts p) (all_sites n))
    go =
        let os : List Property = owed_by_calls i (instances_with (instance_called_so p) (all_sites n)) in
        let es : List Property = ensures_of (terms i).modes in
        let one : List Property = one_mode n (terms i).modes in
        let gs : List Property = (terms i).guarantees in
        let bs : List Property = body_properties i n.body in
        let a : length ((((bs ++ gs) ++ es) ++ one) ++ os) ≡ length (((bs ++ gs) ++ es) ++ one) + length os =
        length-append (((bs ++ gs) ++ es) ++ one) os in
        let b : length (((bs ++ gs) ++ es) ++ one) ≡ length ((bs ++ gs) ++ es) + length one = length-append ((bs ++ gs) ++ es) one in
        let d : length ((bs ++ gs) ++ es) ≡ length (bs ++ gs) + length es = length-append (bs ++ gs) es in
        let f : length (bs ++ gs) ≡ length bs + length gs = length-append bs gs in
        let h : length bs ≡ body_count n.body = body_counted i n.body in
        let k : length one ≡ min 1 (length (terms i).modes) = one_counted n (terms i).modes in
        let o : length os ≡ owed_counts (callee_counts p) (all_sites n) = owed_counted i p (all_sites n) in
        a ∙ rw (b, d, f, h, k, o)
        (in_turn (body_count n.body) (length gs) (length es) (min 1 (length (terms i).modes)) (owed_counts (callee_counts p) (all_sites n)))
      where
        in_turn : (q r s t u : ℕ) → (((q + r) + s) + t) + u ≡ q + (r + (s + (t + u)))
        in_turn q r s t u = omega arith

pub properties_by_text : PropertiesByText
properties_by_text p c n i = properties_made p n (instance_of p n) (made_of_callees p c n i)

-- ---- cuts

cut_sum : (k a b : ℕ) → min k (a + b) ≡ min k (min k a + min k b)
cut_sum k a b = omega arith

pub count_cuts : CountCuts
count_cuts k a b =
    same_counts (cut_counts k (with_counts a b)) (cut_counts k (with_counts (cut_counts k a) (cut_counts k b)))
    (cut_sum k a.assumes b.assumes) (cut_sum k a.guarantees b.guarantees) (cut_sum k a.ensures b.ensures) (cut_sum k a.modes b.modes)

pub property_cuts : PropertyCuts
property_cuts k ss c owed = go (body_count ss) c.guarantees c.ensures c.modes
  where
    go : (b g e m : ℕ) → min (suc k) (b + (g + (e + (min 1 m + owed))))
        ≡ min (suc k) (b + (min (suc k) g + (min (suc k) e + (min 1 (min (suc k) m) + min (suc k) owed))))
    go b g e m = omega arith
