-- The parts that are found for a part are those for which it waits.
use Rattle.std.proofs.Common.{◌≡◌, ◌∙◌, ℕ, zero, suc, ◌<◌, ◌+◌, Bool, true, false, cond, ◌&&◌, ◌||◌, List, [], ◌∷◌, map, length, Option, Some, None, option_to_list, slice_get, refl, ap, sym, subst, arith, length-append}
use Rattle.std.specs.Prelude.{position}
use Rattle.std.specs.List.{position_from}
use Rattle.std.specs.Str.{bytes_eq}
use Rattle.std.proofs.Math.Logic.{◌⊎◌, inl, inr}
use Rattle.std.proofs.lemmas.Bool.{false≢true, cases_Bool, eqb-true, eq-eqb}
use Rattle.std.proofs.lemmas.Iterator.Adapters.{position_from-zero}
use Rattle.std.proofs.lemmas.Option.{none-some, same_Some}
use Rattle.lus_tree.specs.Tree.{Name}
use Rattle.lus_meaning.specs.Cycle.{Place}
use Rattle.lus_meaning.specs.Depends.{named_in}
use Rattle.lus_meaning.specs.Order.{is_listed}
use Rattle.lus_meaning.specs.Scene.{Instance}
use Rattle.lus_meaning.specs.Trace.{same_numbers}
use Rattle.lus_meaning.proofs.Members.{IsIn, in_left, in_right}
use Rattle.lus_meaning.proofs.Exists.{self_bytes, length_mapped}
use Rattle.lus_meaning.proofs.Unique.{same_bytes}
use Rattle.clock_laws.proofs.Reaching.{in_either}
use Rattle.sys_meaning.proofs.Shows.{same_ways}
use Rattle.lus_evaluation.specs.Part.{Part}
use Rattle.lus_evaluation.specs.Evaluation.{is_above, gives_name, place_named, NeedsPlace, Waits}
use Rattle.evaluation_laws.proofs.Waiting.{both, both_true}
use Rattle.number_graphs.specs.Graphs.{is_marked, LeadsTo, AreReached}
use Rattle.evaluation_order.specs.Numbered.{number_of, HaveAll, place_rows, part_rows, need_rows, numbers_of, next_of}
use Rattle.evaluation_order.specs.Givers.{Giver, is_number, is_first, giver, giver_of, givers_of, givers_from, given_above, AreWaited}
use Rattle.evaluation_order.proofs.Lists.{Found, found_at, listed_in, in_listed, in_flat, flat_in}
use Rattle.evaluation_order.proofs.Numbered.{place_at, led_needed, needed_led, needed_numbered}

-- ---- lists

number_is : (j : ℕ) (o : Option ℕ) → is_number j o ≡ true → o ≡ Some j
number_is j None e = absurd (false≢true e)
number_is j (Some k) e = ap Some (eqb-true k j e)

number_there : (j : ℕ) (o : Option ℕ) → o ≡ Some j → is_number j o ≡ true
number_there j o e = subst (λ q. is_number j q ≡ true) (sym e) (eq-eqb j j refl)

named : (x : Name) (ys : List Name) → IsIn x ys → named_in x ys ≡ true
named x [] h = absurd h
named x (y ∷ ys) (inl e) = subst (λ z. (bytes_eq x z || named_in x ys) ≡ true) e (left (bytes_eq x x) (self_bytes x))
  where
    left : (b : Bool) → b ≡ true → (b || named_in x ys) ≡ true
    left b e = rw e refl
named x (y ∷ ys) (inr h) = right (bytes_eq x y) (named x ys h)
  where
    right : (b : Bool) → named_in x ys ≡ true → (b || named_in x ys) ≡ true
    right true e = refl
    right false e = e

in_named : (x : Name) (ys : List Name) → named_in x ys ≡ true → IsIn x ys
in_named x [] e = absurd (false≢true e)
in_named x (y ∷ ys) e = go (cases_Bool (bytes_eq x y)) (in_named x ys)
  where
    go : (bytes_eq x y ≡ true) ⊎ (bytes_eq x y ≡ false) → (named_in x ys ≡ true → IsIn x ys) → (x ≡ y) ⊎ IsIn x ys
    go (inl t) r = inl (same_bytes x y t)
    go (inr f) r = inr (r (rw f at e))

in_mapped_option : {A B : Type 0} (f : A → B) (o : Option A) (y : B) → IsIn y (map f (option_to_list o)) → (x : A) × (o ≡ Some x) × (y ≡ f x)
in_mapped_option f None y h = absurd h
in_mapped_option f (Some x) y (inl e) = (x, refl, e)
in_mapped_option f (Some x) y (inr h) = absurd h

mapped_option_in : {A B : Type 0} (f : A → B) (o : Option A) (x : A) → o ≡ Some x → IsIn (f x) (map f (option_to_list o))
mapped_option_in f o x e = subst (λ z. IsIn (f x) (map f (option_to_list z))) (sym e) (inl refl)

in_chosen : {A : Type 0} (b : Bool) (xs : List A) (y : A) → IsIn y (cond b xs []) → (b ≡ true) × IsIn y xs
in_chosen true xs y h = (refl, h)
in_chosen false xs y h = absurd h

chosen_in : {A : Type 0} (b : Bool) (xs : List A) (y : A) → b ≡ true → IsIn y xs → IsIn y (cond b xs [])
chosen_in b xs y e h = rw e h

within : {A : Type 0} (xs : List A) (k : ℕ) (x : A) → slice_get xs k ≡ Some x → k < length xs
within [] k x e = absurd (none-some x e)
within (y ∷ xs) zero x e = omega arith
within (y ∷ xs) (suc k) x e = let l : k < length xs = within xs k x e in omega (arith, l)

-- ---- those who give

module _ (ps : List Place) (qs : List Part) where
  pub record IsGiver (g : Giver) (j : ℕ) (rs : List Part) : Type 0 where
    pub index : ℕ
    pub counted : g.part ≡ j + index
    pub part : Part
    pub is_there : slice_get rs index ≡ Some part
    pub name : Name
    pub among : IsIn name part.gives
    pub first : is_first qs g.part part.way name ≡ true
    pub way : g.way ≡ part.way
    pub place : number_of ps (place_named part.way name) ≡ Some g.place

  one_giver : (g : Giver) (j : ℕ) (r : Part) (rs : List Part) → IsIn g (givers_of ps qs j r.way r.gives) → IsGiver g j (r ∷ rs)
  one_giver g j r rs h =
      let a : (x : Name) × IsIn x r.gives × IsIn g (giver_of ps qs j r.way x) = in_flat (giver_of ps qs j r.way) r.gives g h in
      let b : (is_first qs j r.way a.0 ≡ true) × IsIn g (map (giver j r.way) (option_to_list (number_of ps (place_named r.way a.0)))) =
      in_chosen (is_first qs j r.way a.0) (map (giver j r.way) (option_to_list (number_of ps (place_named r.way a.0)))) g a.2 in
      let c : (n : ℕ) × (number_of ps (place_named r.way a.0) ≡ Some n) × (g ≡ giver j r.way n) =
      in_mapped_option (giver j r.way) (number_of ps (place_named r.way a.0)) g b.1 in
      let same : g.part ≡ j = ap (λ z. z.part) c.2 in
      record {
        index = 0;
        counted = omega (arith, same);
        part = r;
        is_there = refl;
        name = a.0;
        among = a.1;
        first = subst (λ z. is_first qs z r.way a.0 ≡ true) (sym same) b.0;
        way = ap (λ z. z.way) c.2;
        place = c.1 ∙ ap Some (sym (ap (λ z. z.place) c.2));
      }

  later_giver : (g : Giver) (j : ℕ) (r : Part) (rs : List Part) → IsGiver g (j + 1) rs → IsGiver g j (r ∷ rs)
  later_giver g j r rs d =
      let c : g.part ≡ (j + 1) + d.index = d.counted in record {
        index = suc d.index;
        counted = omega (arith, c);
        part = d.part;
        is_there = d.is_there;
        name = d.name;
        among = d.among;
        first = d.first;
        way = d.way;
        place = d.place;
      }

  in_givers : (g : Giver) (j : ℕ) (rs : List Part) → IsIn g (givers_from ps qs j rs) → IsGiver g j rs
  in_givers g j [] h = absurd h
  in_givers g j (r ∷ rs) h = go (in_either g (givers_of ps qs j r.way r.gives) (givers_from ps qs (j + 1) rs) h) (in_givers g (j + 1) rs)
    where
      go : IsIn g (givers_of ps qs j r.way r.gives) ⊎ IsIn g (givers_from ps qs (j + 1) rs) →
          (IsIn g (givers_from ps qs (j + 1) rs) → IsGiver g (j + 1) rs) → IsGiver g j (r ∷ rs)
      go (inl a) f = one_giver g j r rs a
      go (inr b) f = later_giver g j r rs (f b)

  giver_in : (j l m n : ℕ) (rs : List Part) (q : Part) (x : Name) → l ≡ j + m → slice_get rs m ≡ Some q → IsIn x q.gives → is_first qs l q.way x ≡ true →
      number_of ps (place_named q.way x) ≡ Some n → IsIn (giver l q.way n) (givers_from ps qs j rs)
  giver_in j l m n [] q x e s h f p = absurd (none-some q s)
  giver_in j l zero n (r ∷ rs) q x e s h f p =
      let same : l ≡ j = omega (arith, e) in
      let t : r ≡ q = same_Some r q s in
      let here : IsIn (giver l q.way n) (giver_of ps qs l q.way x) = chosen_in (is_first qs l q.way x)
      (map (giver l q.way) (option_to_list (number_of ps (place_named q.way x)))) (giver l q.way n) f
      (mapped_option_in (giver l q.way) (number_of ps (place_named q.way x)) n p) in
      let all : IsIn (giver l q.way n) (givers_of ps qs l q.way q.gives) = flat_in (giver_of ps qs l q.way) q.gives x (giver l q.way n) h here in
      in_left (giver l q.way n) (givers_of ps qs j r.way r.gives) (givers_from ps qs (j + 1) rs)
      (subst (λ z. IsIn (giver l q.way n) (givers_of ps qs j z.way z.gives)) (sym t)
      (subst (λ z. IsIn (giver l q.way n) (givers_of ps qs z q.way q.gives)) same all))
  giver_in j l (suc m) n (r ∷ rs) q x e s h f p =
      in_right (giver l q.way n) (givers_of ps qs j r.way r.gives) (givers_from ps qs (j + 1) rs)
      (giver_in (j + 1) l m n rs q x (omega (arith, e)) s h f p)

-- ---- the parts for which one waits

first_is : (test : Part → Bool) (qs : List Part) (j : ℕ) → position_from test 0 qs ≡ Some j → position test qs ≡ Some j
first_is test qs j e = position_from-zero test qs ∙ e

is_first_of : (test : Part → Bool) (qs : List Part) (j : ℕ) → position test qs ≡ Some j → position_from test 0 qs ≡ Some j
is_first_of test qs j e = sym (position_from-zero test qs) ∙ e

module _ (i : Instance) (ps : List Place) (qs : List Part) (have : HaveAll i qs ps) (k : ℕ) (r : Part) (here : slice_get qs k ≡ Some r)
    (marks : List Bool) (reach : AreReached (need_rows i ps qs) (length ps + k) marks) where
  abbrev all_givers : List Giver
  all_givers = givers_from ps qs 0 qs

  abbrev one : Giver → List ℕ
  one g = cond (is_above g.way r.way && is_marked marks g.place) (g.part ∷ []) []

  waits_for : (j : ℕ) → is_listed (given_above marks r.way all_givers) j ≡ true → Waits i qs k j
  waits_for j e =
      let a : (g : Giver) × IsIn g all_givers × IsIn j (one g) = in_flat one all_givers j (listed_in j (given_above marks r.way all_givers) e) in
      let b : ((is_above a.0.way r.way && is_marked marks a.0.place) ≡ true) × IsIn j (a.0.part ∷ []) =
      in_chosen (is_above a.0.way r.way && is_marked marks a.0.place) (a.0.part ∷ []) j a.2 in
      let c : (is_above a.0.way r.way ≡ true) × (is_marked marks a.0.place ≡ true) = both_true (is_above a.0.way r.way) (is_marked marks a.0.place) b.0 in
      let d : IsGiver ps qs a.0 0 qs = in_givers ps qs a.0 0 qs a.1 in
      let same : j ≡ a.0.part = only j a.0.part b.1 in
      let first : position_from (gives_name d.part.way d.name) 0 qs ≡ Some a.0.part =
      number_is a.0.part (position_from (gives_name d.part.way d.name) 0 qs) d.first in
      record {
        waiting = r;
        is_there = here;
        way = d.part.way;
        name = d.name;
        above = subst (λ w. is_above w r.way ≡ true) d.way c.0;
        given = first_is (gives_name d.part.way d.name) qs j (first ∙ ap Some (sym same));
        needed = led_needed i ps qs k a.0.place r (place_named d.part.way d.name) here (reach.led a.0.place c.1) d.place;
      }
    where
      only : (j m : ℕ) → IsIn j (m ∷ []) → j ≡ m
      only j m (inl e) = e
      only j m (inr h) = absurd h

  waited_for : (j : ℕ) → Waits i qs k j → is_listed (given_above marks r.way all_givers) j ≡ true
  waited_for j a =
      let t : a.waiting ≡ r = same_Some a.waiting r (sym a.is_there ∙ here) in
      let needed : NeedsPlace i r.needs (place_named a.way a.name) = subst (λ z. NeedsPlace i z.needs (place_named a.way a.name)) t a.needed in
      let above : is_above a.way r.way ≡ true = subst (λ z. is_above a.way z.way ≡ true) t a.above in
      let first : position_from (gives_name a.way a.name) 0 qs ≡ Some j = is_first_of (gives_name a.way a.name) qs j a.given in
      let f : Found (gives_name a.way a.name) qs 0 j = found_at (gives_name a.way a.name) 0 qs j first in
      let h : (same_numbers a.way f.item.way ≡ true) × (named_in a.name f.item.gives ≡ true) =
      both_true (same_numbers a.way f.item.way) (named_in a.name f.item.gives) f.passes in
      let w : a.way ≡ f.item.way = same_ways a.way f.item.way h.0 in
      let n : (m : ℕ) × (number_of ps (place_named a.way a.name) ≡ Some m) = needed_numbered i ps qs have k r (place_named a.way a.name) here needed in
      let led : LeadsTo (need_rows i ps qs) (length ps + k) n.0 = needed_led i ps qs have k n.0 r (place_named a.way a.name) here needed n.1 in
      let inside : n.0 < length ps = within ps n.0 (place_named a.way a.name) (place_at ps (place_named a.way a.name) n.0 n.1) in
      let many : length (need_rows i ps qs) ≡ length (place_rows i ps ps) + length (part_rows ps qs) =
      length-append (place_rows i ps ps) (part_rows ps qs) in
      let places : length (place_rows i ps ps) ≡ length ps = length_mapped (λ q. numbers_of ps (next_of i q)) ps in
      let marked : is_marked marks n.0 ≡ true = reach.all n.0 (omega (arith, inside, many, places)) led in
      let there : IsIn (giver j f.item.way n.0) all_givers = giver_in ps qs 0 j f.index n.0 qs f.item a.name f.counted f.is_there
      (in_named a.name f.item.gives h.1) (subst (λ v. is_first qs j v a.name ≡ true) w
      (number_there j (position_from (gives_name a.way a.name) 0 qs) first))
      (subst (λ v. number_of ps (place_named v a.name) ≡ Some n.0) w n.1) in
      let listed : IsIn j (one (giver j f.item.way n.0)) = chosen_in (is_above f.item.way r.way && is_marked marks n.0) (j ∷ []) j
      (both (is_above f.item.way r.way) (is_marked marks n.0) (subst (λ v. is_above v r.way ≡ true) w above) marked) (inl refl) in
      in_listed j (given_above marks r.way all_givers) (flat_in one all_givers (giver j f.item.way n.0) j there listed)

  pub waited : AreWaited i qs k (given_above marks r.way all_givers)
  waited = record { each = waits_for; all = waited_for }
