-- In the evaluation of an instant a part's own operands come before it.
use Rattle.std.proofs.Common.{◌≡◌, ℕ, zero, suc, pred, ◌<◌, ◌≤◌, Bool, true, false, eqb, List, [], ◌∷◌, ◌++◌, map, length, get_or, Some, slice_get, refl, ap, ◌∙◌, sym, subst, arith}
use Rattle.std.specs.Prelude.{position}
use Rattle.std.proofs.lemmas.Grind.{common_steps}
use Rattle.std.specs.List.{AllByRecursion, position_or_len}
use Rattle.std.proofs.Math.Logic.{◌⊎◌, inl, inr}
use Rattle.std.proofs.lemmas.Bool.{false≢true, true≢false, cases_Bool, cases_order, eqb-true, eq-eqb}
use Rattle.std.proofs.lemmas.List.Quantifiers.{position-Some}
use Rattle.std.proofs.lemmas.Option.{none-some, same_Some}
use Rattle.lus_tree.specs.Tree.{Name, Expression}
use Rattle.lus_meaning.specs.Frame.{Frame}
use Rattle.lus_meaning.specs.Scene.{Clock, Instance, component_of}
use Rattle.lus_meaning.specs.Run.{equations}
use Rattle.lus_meaning.specs.Depends.{named_in, left_names}
use Rattle.lus_meaning.specs.Trace.{same_numbers}
use Rattle.lus_meaning.specs.Cycle.{Place, next_places, IsAt, IsWay, last_place, Lowers}
use Rattle.lus_meaning.specs.Order.{is_listed, IsLeastOrder, AreNext}
use Rattle.lus_meaning.proofs.Members.{IsIn, at_some}
use Rattle.lus_meaning.proofs.Lists.{append_none}
use Rattle.clock_laws.proofs.Reaching.{at_in}
use Rattle.sys_meaning.proofs.Shows.{same_ways}
use Rattle.lus_evaluation.specs.Part.{Part, needs_of}
use Rattle.lus_evaluation.proofs.Turns.{next_at}
use Rattle.lus_evaluation.specs.Evaluation.{is_above, gives_name, NeedsPlace, place_named, Waits}
use Rattle.evaluation_laws.proofs.Wholes.{NeedsItsWhole}
use Rattle.evaluation_laws.proofs.Waiting.{both_true, both, Passing, first_passes}
use Rattle.order_laws.specs.Own.{own_setting}
use Rattle.order_laws.specs.Rows.{place_there}
use Rattle.order_laws.specs.Needed.{IsSide}
use Rattle.order_laws.proofs.Lists.{grouped}
use Rattle.order_laws.proofs.Earlier.{listed_first}
use Rattle.order_laws.proofs.Covers.{further, Covers, covers_all}
use Rattle.order_laws.proofs.Placed.{above_further, Giver, Settled, Within, WholeIn, OwnIn, Placed, EachPlaced}
use Rattle.order_laws.proofs.Bodies.{in_all, slice_in, slice_below, each_given}

-- ---- those before a number

abbrev pub firsts : {A : Type 0} → ℕ → List A → List A
firsts zero xs = []
firsts (suc k) [] = []
firsts (suc k) (x ∷ xs) = x ∷ firsts k xs

pub first_at : {A : Type 0} (k : ℕ) (xs : List A) (x : A) → IsIn x (firsts k xs) → (j : ℕ) × (j < k) × (slice_get xs j ≡ Some x)
first_at zero xs x h = absurd h
first_at (suc k) [] x h = absurd h
first_at (suc k) (y ∷ xs) x (inl e) = (zero, omega arith, ap Some (sym e))
first_at (suc k) (y ∷ xs) x (inr h) = let r = first_at k xs x h in let l : r.0 < k = r.1 in (suc r.0, omega (arith, l), r.2)

-- the first that passes stands no later than another that does
not_later : (test : Part → Bool) (xs : List Part) (j k : ℕ) (x : Part) → position test xs ≡ Some j → slice_get xs k ≡ Some x → test x ≡ true → j ≤ k
not_later test [] j k x e h p = absurd (none-some x h)
not_later test (y ∷ xs) j k x e h p = go (cases_order j k)
  where
    r : (j < length (y ∷ xs)) × (test (get_or (y ∷ xs) j y) ≡ true) × ((k : ℕ) → k < j → test (get_or (y ∷ xs) k y) ≡ false)
    r = position-Some test (y ∷ xs) j y e

    got : (zs : List Part) (k : ℕ) → slice_get zs k ≡ Some x → get_or zs k y ≡ x
    got [] k h = absurd (none-some x h)
    got (z ∷ zs) zero h = same_Some z x h
    got (z ∷ zs) (suc k) h = got zs k h

    go : (j ≡ k) ⊎ ((j < k) ⊎ (k < j)) → j ≤ k
    go (inl q) = omega arith
    go (inr (inl q)) = omega arith
    go (inr (inr q)) = absurd (true≢false (sym p ∙ ap test (sym (got (y ∷ xs) k h)) ∙ r.2 k q))

pub above_itself : (w : List ℕ) → is_above w w ≡ true
above_itself [] = refl
above_itself (k ∷ w) = both (eqb k k) (is_above w w) (eq-eqb k k refl) (above_itself w)

pub above_both : (v w u : List ℕ) → is_above v w ≡ true → is_above w u ≡ true → is_above v u ≡ true
above_both [] w u a b = refl
above_both (k ∷ v) [] u a b = absurd (false≢true a)
above_both (k ∷ v) (j ∷ w) [] a b = absurd (false≢true b)
above_both (k ∷ v) (j ∷ w) (m ∷ u) a b =
    let q : (eqb k j ≡ true) × (is_above v w ≡ true) = both_true (eqb k j) (is_above v w) a in
    let r : (eqb j m ≡ true) × (is_above w u ≡ true) = both_true (eqb j m) (is_above w u) b in
    both (eqb k m) (is_above v u) (eq-eqb k m (eqb-true k j q.0 ∙ eqb-true j m r.0)) (above_both v w u q.1 r.1)

-- a right side gives left names
pub side_left : (j : Instance) (xs : List Name) (c : Clock) (e : Expression) → IsSide j xs c e → (x : Name) → named_in x xs ≡ true →
    named_in x (left_names (component_of j)) ≡ true
side_left j xs c e s x h =
    in_all (λ q. (x : Name) → named_in x q.names ≡ true → named_in x (left_names (component_of j)) ≡ true) (equations (component_of j)) s.equation
    (each_given (equations (component_of j))) (slice_in (equations (component_of j)) s.there.0 s.equation s.there.1) x
    (subst (λ l. named_in x l ≡ true) s.names h)

-- one that passes is the first or stands behind it
passes_below : (test : Part → Bool) (xs : List Part) (x : Part) → IsIn x xs → test x ≡ true → position_or_len test xs < length xs
passes_below test [] x h p = absurd h
passes_below test (y ∷ xs) x h p = go (cases_Bool (test y)) h (λ k. passes_below test xs x k p)
  where
    go : (test y ≡ true) ⊎ (test y ≡ false) → IsIn x (y ∷ xs) → (IsIn x xs → position_or_len test xs < length xs) →
        position_or_len test (y ∷ xs) < length (y ∷ xs)
    go (inl e) h again = rw e (omega arith)
    go (inr e) (inl k) again = absurd (true≢false (sym p ∙ ap test k ∙ e))
    go (inr e) (inr k) again = let l : position_or_len test xs < length xs = again k in rw e (omega (arith, l))

some_passes : (test : Part → Bool) (xs : List Part) (x : Part) → IsIn x xs → test x ≡ true → (j : ℕ) × (position test xs ≡ Some j)
some_passes test xs x h p =
    let l : position_or_len test xs < length xs = passes_below test xs x h p in (position_or_len test xs, grind (arith, common_steps))

-- ---- ways of needs

module _ (i : Instance) where
  module _ (rank : Place → ℕ) (lowers : Lowers i rank) where
    way_lowers : (s : Place) (rest : List (ℕ × Place)) → IsWay i s rest → rank (last_place s rest) ≤ rank s
    way_lowers s [] w = omega arith
    way_lowers s (q ∷ rest) w =
        let l : rank q.1 < rank s = lowers s q.1 q.0 w.0 in let m : rank (last_place q.1 rest) ≤ rank q.1 = way_lowers q.1 rest w.1 in omega (arith, l, m)

    module _ (f : Frame) (t : ℕ) (ps : List Part) (laid : EachPlaced i f t ps [] ps) (whole : AllByRecursion (NeedsItsWhole i) ps) (ks : List ℕ)
        (o : IsLeastOrder (length ps) (Waits i ps) ks) where
      placed_from : (b xs : List Part) (m : ℕ) (q : Part) → EachPlaced i f t ps b xs → slice_get xs m ≡ Some q → Placed i f t ps (b ++ firsts m xs) q
      placed_from b [] m q a e = absurd (none-some q e)
      placed_from b (x ∷ xs) zero q a e = subst (λ z. Placed i f t ps z q) (sym (append_none b)) (subst (Placed i f t ps b) (same_Some x q e) a.0)
      placed_from b (x ∷ xs) (suc m) q a e =
          subst (λ z. Placed i f t ps z q) (grouped b (x ∷ []) (firsts m xs)) (placed_from (b ++ x ∷ []) xs m q a.1 e)

      pub placed_at : (m : ℕ) (q : Part) → slice_get ps m ≡ Some q → Placed i f t ps (firsts m ps) q
      placed_at m q e = placed_from [] ps m q laid e

      -- ---- before one part

      module _ (n : ℕ) (q : Part) (at : slice_get ps n ≡ Some q) (before after : List ℕ) (d : ks ≡ before ++ n ∷ after) where
        abbrev b : List Part
        b = firsts n ps

        abbrev Early : ℕ → Part → Type 0
        Early fuel r = Covers i q.needs r.needs × Within i f t q.way b r.way × ((z : Place) → IsIn z r.needs → rank z < fuel)

        -- what a settled frame's equation waits for comes first
        giver_early : (j : ℕ) (v : List ℕ) (x : Name) → position (gives_name v x) ps ≡ Some j → Settled i f t v b → NeedsPlace i q.needs (place_named v x) →
            ((y : List ℕ) → is_above y v ≡ true → (is_above y q.way ≡ true) ⊎ Settled i f t y b) → (fuel : ℕ) → rank (place_named v x) ≤ fuel →
            (y : Part) × (j < n) × (slice_get ps j ≡ Some y) × Early fuel y
        giver_early j v x e s needed inside fuel l = (y, early, g.is_there, (reached, inner, lower))
          where
            g : Passing (gives_name v x) ps j
            g = first_passes (gives_name v x) ps j e

            y : Part
            y = g.item

            named : (same_numbers v y.way ≡ true) × (named_in x y.gives ≡ true)
            named = both_true (same_numbers v y.way) (named_in x y.gives) g.passes

            same : v ≡ y.way
            same = same_ways v y.way named.0

            given : named_in x (left_names (component_of (place_there i f v))) ≡ true
            given = subst (λ z. named_in x (left_names (component_of (place_there i f z))) ≡ true) (sym same)
                (side_left (place_there i f y.way) y.gives y.clock y.expression ((placed_at j y g.is_there).gives x named.1) x named.1)

            giver : Giver i f t v x b
            giver = s x given

            early : j < n
            early =
                let r = first_at n ps giver.part giver.listed in
                let below : r.0 < n = r.1 in
                let h : j ≤ r.0 = not_later (gives_name v x) ps j r.0 giver.part e r.2 giver.gives in omega (arith, below, h)

            next : (z : Place) → IsIn z y.needs → IsIn z (next_places i (map pred v) (Some x))
            next z h =
                subst (λ u. IsIn z (next_places i (map pred u) (Some x))) (sym same)
                (in_all (NeedsItsWhole i) ps y whole (slice_in ps j y g.is_there) x named.1 z h)

            reached : Covers i q.needs y.needs
            reached = covers_all i q.needs y.needs (λ z h.
                let a : (k : ℕ) × IsAt k z (next_places i (map pred v) (Some x)) = at_some z (next_places i (map pred v) (Some x)) (next z h) in
                further i q.needs (place_named v x) z needed ((a.0, z) ∷ []) (a.1, tt) refl)

            inner : Within i f t q.way b y.way
            inner = subst (Within i f t q.way b) same inside

            lower : (z : Place) → IsIn z y.needs → rank z < fuel
            lower z h =
                let a : (k : ℕ) × IsAt k z (next_places i (map pred v) (Some x)) = at_some z (next_places i (map pred v) (Some x)) (next z h) in
                let r : rank z < rank (place_named v x) = lowers (place_named v x) z a.0 a.1 in omega (arith, r, l)

        comes_early : (fuel : ℕ) (m : ℕ) (r : Part) → m < n → slice_get ps m ≡ Some r → Early fuel r → is_listed before m ≡ true
        comes_early zero m r l e a =
            listed_first (length ps) (Waits i ps) ks o m n l before after d (λ j bj w. absurd (none j w))
          where
            none : (j : ℕ) → Waits i ps m j → ⊥
            none j w =
                let same : w.waiting ≡ r = same_Some w.waiting r (sym w.is_there ∙ e) in
                let need : NeedsPlace i r.needs (place_named w.way w.name) =
                subst (λ y. NeedsPlace i y.needs (place_named w.way w.name)) same w.needed in
                let h : rank need.start < zero = a.2 need.start (at_in need.number need.start r.needs need.starts) in omega (arith, h)
        comes_early (suc fuel) m r l e a =
            listed_first (length ps) (Waits i ps) ks o m n l before after d
            (λ j bj w. by j w (comes_early fuel))
          where
            by : (j : ℕ) → Waits i ps m j →
                ((m : ℕ) (r : Part) → m < n → slice_get ps m ≡ Some r → Early fuel r → is_listed before m ≡ true) →
                Waits i ps n j ⊎ (is_listed before j ≡ true)
            by j w again = go (a.1 w.way above)
              where
                same : w.waiting ≡ r
                same = same_Some w.waiting r (sym w.is_there ∙ e)

                above : is_above w.way r.way ≡ true
                above = subst (λ y. is_above w.way y.way ≡ true) same w.above

                need : NeedsPlace i r.needs (place_named w.way w.name)
                need = subst (λ y. NeedsPlace i y.needs (place_named w.way w.name)) same w.needed

                here : IsIn need.start r.needs
                here = at_in need.number need.start r.needs need.starts

                needed : NeedsPlace i q.needs (place_named w.way w.name)
                needed = a.0 w.way w.name need

                low : rank (place_named w.way w.name) ≤ fuel
                low =
                    let h : rank need.start < suc fuel = a.2 need.start here in
                    let k : rank (last_place need.start need.rest) ≤ rank need.start = way_lowers need.start need.rest need.way in
                    let g : rank (place_named w.way w.name) ≤ rank need.start = subst (λ z. rank z ≤ rank need.start) need.last k in omega (arith, h, g)

                go : (is_above w.way q.way ≡ true) ⊎ Settled i f t w.way b → Waits i ps n j ⊎ (is_listed before j ≡ true)
                go (inl u) = inl record {
                  waiting = q;
                  is_there = at;
                  way = w.way;
                  name = w.name;
                  above = u;
                  given = w.given;
                  needed = needed;
                }
                go (inr u) =
                    let y = giver_early j w.way w.name w.given u needed (λ v h. a.1 v (above_both v w.way r.way h above)) fuel low in
                    inr (again j y.0 y.1 y.2 y.3)

        module _ (bound : ℕ) (bounded : (z : Place) → rank z < bound) where
          -- own operands are listed before
          pub operand_listed : (r : Part) → OwnIn i f t q.way b b q.needs r → (m : ℕ) × (slice_get ps m ≡ Some r) × (is_listed before m ≡ true)
          operand_listed r a =
              let h = first_at n ps r a.there in
              (h.0, h.2, comes_early bound h.0 r h.1 h.2 (ready r a))
            where
              ready : (r : Part) → OwnIn i f t q.way b b q.needs r → Early bound r
              ready r a = (a.needs, a.within, (λ z h. bounded z))

          -- so are wholes of its frame, or of one on the way there, that stand before it in turn and need no more
          pub whole_listed : (w : List ℕ) → is_above w q.way ≡ true → (c : Clock) (a : Expression) → (r : WholeIn i f t w b c a) →
              AllByRecursion (λ z. NeedsPlace i q.needs z) (needs_of (own_setting (place_there i f w) w []) c a) →
              (m : ℕ) × (slice_get ps m ≡ Some r.part) × (is_listed before m ≡ true)
          whole_listed w u c a r needed =
              let h = first_at n ps r.part r.there in (
                h.0,
                h.2,
                comes_early bound h.0 r.part h.1 h.2 (
                  covers_all i q.needs r.part.needs (λ z y. in_all (λ z. NeedsPlace i q.needs z)
                      (needs_of (own_setting (place_there i f w) w []) c a) z needed (subst (λ ns. IsIn z ns) r.needs y)),
                  subst (λ v. Within i f t q.way b v) (sym r.way) (λ v y. inl (above_both v w q.way y u)),
                  (λ z y. bounded z),
                ),
              )

          -- what this part waits for is listed before it
          waited : (j : ℕ) → j < length ps → Waits i ps n j → is_listed before j ≡ true
          waited j l w = (next_at (length ps) (Waits i ps) [] before n after (subst (AreNext (length ps) (Waits i ps) []) d o.next)).ready j l w

          abbrev pub Listed : List ℕ → Name → Type 0
          Listed v x = (m : ℕ) × (y : Part) × (slice_get ps m ≡ Some y) × (is_listed before m ≡ true) × (gives_name v x y ≡ true)

          listed_at : (v : List ℕ) (x : Name) (j : ℕ) → position (gives_name v x) ps ≡ Some j → is_listed before j ≡ true → Listed v x
          listed_at v x j e h =
              let g : Passing (gives_name v x) ps j = first_passes (gives_name v x) ps j e in (j, g.item, g.is_there, h, g.passes)

          -- of a frame on the way
          pub above_listed : (v : List ℕ) (x : Name) → is_above v q.way ≡ true → Settled i f t v ps →
              named_in x (left_names (component_of (place_there i f v))) ≡ true → NeedsPlace i q.needs (place_named v x) → Listed v x
          above_listed v x a s h needed =
              let g : Giver i f t v x ps = s x h in
              let k : (j : ℕ) × (position (gives_name v x) ps ≡ Some j) = some_passes (gives_name v x) ps g.part g.listed g.gives in
              let r : Passing (gives_name v x) ps k.0 = first_passes (gives_name v x) ps k.0 k.1 in
              listed_at v x k.0 k.1 (waited k.0 (slice_below ps k.0 r.item r.is_there) record {
                waiting = q;
                is_there = at;
                way = v;
                name = x;
                above = a;
                given = k.1;
                needed = needed;
              })

          -- of the frame that is called
          pub called_listed : (k : ℕ) (x : Name) → Settled i f t (q.way ++ k ∷ []) b →
              named_in x (left_names (component_of (place_there i f (q.way ++ k ∷ [])))) ≡ true →
              NeedsPlace i q.needs (place_named (q.way ++ k ∷ []) x) → Listed (q.way ++ k ∷ []) x
          called_listed k x s h needed =
              let v : List ℕ = q.way ++ k ∷ [] in
              let g : Giver i f t v x b = s x h in
              let z = first_at n ps g.part g.listed in
              let y : (j : ℕ) × (position (gives_name v x) ps ≡ Some j) =
              some_passes (gives_name v x) ps g.part (slice_in ps z.0 g.part z.2) g.gives in
              let l : rank (place_named v x) < bound = bounded (place_named v x) in
              let e = giver_early y.0 v x y.1 s needed (inside s) bound (omega (arith, l)) in
              listed_at v x y.0 y.1 (comes_early bound y.0 e.0 e.1 e.2 e.3)
            where
              inside : Settled i f t (q.way ++ k ∷ []) b → (y : List ℕ) → is_above y (q.way ++ k ∷ []) ≡ true →
                  (is_above y q.way ≡ true) ⊎ Settled i f t y b
              inside s y a = go (above_further y q.way k a)
                where
                  go : (is_above y q.way ≡ true) ⊎ (y ≡ q.way ++ k ∷ []) → (is_above y q.way ≡ true) ⊎ Settled i f t y b
                  go (inl m) = inl m
                  go (inr m) = inr (subst (λ z. Settled i f t z b) (sym m) s)
