-- Values that stay as a check begins.
use Rattle.std.specs.Prelude.{ℕ, zero, suc, ◌≡◌, ◌≢◌, ◌⊎◌, ◌<◌, ◌≤◌, ◌+◌, ◌++◌, Bool, true, false, List, [], ◌∷◌, length, take, All, Contains, Option, None, Some, slice_get, slice_set, get_or, replicate}
use Rattle.std.specs.Option.{option_map}
use Rattle.std.proofs.Common.{sym, ◌∙◌, ap, subst, arith, refl, inl, inr}
use Rattle.std.proofs.lemmas.List.{length-set, length-map, get_or-set_same, get_or-set_other, take_more}
use Rattle.std.proofs.lemmas.Option.{slice_get_within, slice_get-get_or, slice_get-map}
use Rattle.std.proofs.lemmas.Int.{ints, by_lt_z}
use Rattle.std.proofs.Math.Nat.{eq-one_of_dvd-one}
use lib.IntN.{ℤ, pos, ◌+ℤ◌, ◌*ℤ◌, *ℤ-zero}
use Rattle.proof_steps.specs.Rows.{entry, rest_below}
use Rattle.int_simplex.specs.State.{places_of, top_of, is_in}
use Rattle.int_simplex.specs.Holding.{holders, AreListed}
use Rattle.int_simplex.specs.Valued.{place_at, place_of, AreValuesBut, IsQuotient, IsRowValue}
use Rattle.int_simplex.specs.Running.{IsReady, IsKept}
use Rattle.int_simplex.specs.Marks.{tops, AreOwnValues, AreMarked, ArePlaced, is_marked}
use Rattle.int_simplex.proofs.Places.{same_some, listed_at}
use Rattle.int_simplex.proofs.Starts.{in_yes, in_no}
use Rattle.int_simplex.proofs.Nexts.{set_same, set_other, eq_or}
use Rattle.int_simplex.proofs.Checks.{rest-places, no-product, stands_at}
use Rattle.int_simplex.proofs.Begun.{rest-zero, zeros, length_same, in_same}

-- nothing is to be marked
pub marked_none : (marks : List Bool) → AreMarked [] marks marks
marked_none marks = record { count = refl; stays = λ k e. e; comes = λ k i. absurd (none k i) } where
  none : (k : ℕ) → Contains {X = ℕ} [] k → ⊥
  none k (j, h, e) = absurd (omega arith)

pub marked_less : (list : List ℕ) (old new : List Bool) → AreMarked list old new → AreMarked [] old new
marked_less list old new m = record { count = m.count; stays = m.stays; comes = λ k i. absurd (none k i) } where
  none : (k : ℕ) → Contains {X = ℕ} [] k → ⊥
  none k (j, h, e) = absurd (omega arith)

in-either : (xs : List ℕ) (x k : ℕ) → Contains (xs ++ x ∷ []) k → Contains xs k ⊎ (k ≡ x)
in-either [] x k (zero, h, e) = inr (sym e)
in-either [] x k (suc j, h, e) = absurd (omega arith)
in-either (y ∷ xs) x k (zero, h, e) = inl (zero, omega arith, e)
in-either (y ∷ xs) x k (suc j, h, e) = elim (in-either xs x k (j, omega arith, e)) [
  | inl w ↦ inl (suc w.0, (let b = w.1 in omega arith), w.2)
  | inr q ↦ inr q
]

-- a further place of the list is marked
pub marked_more : (list : List ℕ) (old new : List Bool) (i d : ℕ) → i < length list → get_or list i d < length new
    → AreMarked (take i list) old new → AreMarked (take (i + 1) list) old (slice_set new (get_or list i d) true)
marked_more list old new i d h l m = record {
  count = length-set new (get_or list i d) true ∙ m.count;
  stays = λ k e. on k (λ n. m.stays k e);
  comes = λ k w. elim (in-either (take i list) (get_or list i d) k (subst (λ (xs : List ℕ). Contains xs k) (take_more list i d h) w)) [
    | inl a ↦ on k (λ n. m.comes k a)
    | inr e ↦ subst (λ (x : ℕ). is_marked (slice_set new (get_or list i d) true) x ≡ true) (sym e) here
  ];
} where
  here : is_marked (slice_set new (get_or list i d) true) (get_or list i d) ≡ true
  here = get_or-set_same new (get_or list i d) true false l

  on : (k : ℕ) → (k ≢ get_or list i d → is_marked new k ≡ true) → is_marked (slice_set new (get_or list i d) true) k ≡ true
  on k f = elim (eq_or k (get_or list i d)) [
    | inl e ↦ subst (λ (x : ℕ). is_marked (slice_set new (get_or list i d) true) x ≡ true) (sym e) here
    | inr n ↦ get_or-set_other new (get_or list i d) k true false n ∙ f n
  ]

-- the marked places that were found
pub record AreFound (marks : List Bool) (found : List ℕ) (i : ℕ) : Type 0 where
  pub within : (k : ℕ) → Contains found k → k < length marks
  pub all : (k : ℕ) → k < i → is_marked marks k ≡ true → Contains found k

pub found_none : (marks : List Bool) → AreFound marks [] 0
found_none marks = record { within = λ k i. absurd (none k i); all = λ k h. absurd (omega arith) } where
  none : (k : ℕ) → Contains {X = ℕ} [] k → ⊥
  none k (j, h, e) = absurd (omega arith)

split : (k i : ℕ) → k < i + 1 → (k < i) ⊎ (k ≡ i)
split k i h = grind arith

in-front : (xs : List ℕ) (x k : ℕ) → Contains xs k → Contains (xs ++ x ∷ []) k
in-front [] x k (j, h, e) = absurd (omega arith)
in-front (y ∷ xs) x k (zero, h, e) = (zero, omega arith, e)
in-front (y ∷ xs) x k (suc j, h, e) = let w = in-front xs x k (j, omega arith, e) in (suc w.0, (let b = w.1 in omega arith), w.2)

at-end : (xs : List ℕ) (x : ℕ) → Contains (xs ++ x ∷ []) x
at-end [] x = (zero, omega arith, refl)
at-end (y ∷ xs) x = let w = at-end xs x in (suc w.0, (let b = w.1 in omega arith), w.2)

pub found_more : (marks : List Bool) (found : List ℕ) (i : ℕ) → i < length marks → AreFound marks found i → AreFound marks (found ++ i ∷ []) (i + 1)
found_more marks found i h f = record {
  within = λ k w. elim (in-either found i k w) [
    | inl a ↦ f.within k a
    | inr e ↦ let q = e in omega arith
  ];
  all = λ k l m. elim (split k i l) [
    | inl b ↦ in-front found i k (f.all k b m)
    | inr e ↦ subst (λ (x : ℕ). Contains (found ++ i ∷ []) x) (sym e) (at-end found i)
  ];
}

pub found_same : (marks : List Bool) (found : List ℕ) (i : ℕ) → is_marked marks i ≡ false → AreFound marks found i → AreFound marks found (i + 1)
found_same marks found i e f = record {
  within = f.within;
  all = λ k l m. elim (split k i l) [
    | inl b ↦ f.all k b m
    | inr q ↦ absurd (both (is_marked marks i) e (ap (is_marked marks) (sym q) ∙ m))
  ];
} where
  both : (b : Bool) → b ≡ false → b ≡ true → ⊥
  both true e f = absurd cc
  both false e f = absurd cc

pub found_all : (marks : List Bool) (found : List ℕ) (i : ℕ) → length marks ≤ i → AreFound marks found i
    → (k : ℕ) → is_marked marks k ≡ true → Contains found k
found_all marks found i h f k m = f.all k (let l = inside marks k m in omega arith) m where
  inside : (marks : List Bool) (k : ℕ) → is_marked marks k ≡ true → k < length marks
  inside [] k e = absurd cc
  inside (b ∷ marks) zero e = omega arith
  inside (b ∷ marks) (suc k) e = let l = inside marks k e in omega arith

-- no column is placed yet
pub placed_none : (basis : List ℕ) (lists : List (List ℕ)) (places : List ℤ) (values : List (ℤ × ℤ)) (stale : List Bool)
    → ArePlaced basis lists places values values stale 0
placed_none basis lists places values stale = record {
  inside = λ c i. refl;
  outside = λ c h. absurd (omega arith);
  told = λ c k h. absurd (omega arith);
  ahead = λ c h. refl;
}

pub placed_in : (basis : List ℕ) (lists : List (List ℕ)) (places : List ℤ) (old new : List (ℤ × ℤ)) (stale : List Bool) (i : ℕ) → Contains basis i
    → ArePlaced basis lists places old new stale i → ArePlaced basis lists places old new stale (i + 1)
placed_in basis lists places old new stale i w p = record {
  inside = p.inside;
  outside = λ c h n. p.outside c (less c h n) n;
  told = λ c k h n m l. p.told c k (less c h n) n m l;
  ahead = λ c h. p.ahead c (omega arith);
} where
  less : (c : ℕ) → c < i + 1 → (Contains basis c → ⊥) → c < i
  less c h n = elim (split c i h) [
    | inl b ↦ b
    | inr e ↦ absurd (n (subst (λ (x : ℕ). Contains basis x) (sym e) w))
  ]

pub placed_out : (basis : List ℕ) (lists : List (List ℕ)) (places : List ℤ) (old new : List (ℤ × ℤ)) (stale stale1 : List Bool) (i : ℕ) (z : ℤ)
    → (Contains basis i → ⊥) → i < length new → z ≡ place_at places i → AreMarked [] stale stale1
    → (places_of new i ≢ z → AreMarked (holders lists i) stale stale1)
    → ArePlaced basis lists places old new stale i → ArePlaced basis lists places old (slice_set new i (z, pos 1)) stale1 (i + 1)
placed_out basis lists places old new stale stale1 i z w l ez m f p = record {
  inside = λ c n. set_other new i c (z, pos 1) (λ e. w (subst (λ (x : ℕ). Contains basis x) e n)) ∙ p.inside c n;
  outside = λ c h n. elim (eq_or c i) [
    | inl e ↦
        subst (λ (x : ℕ). slice_get (slice_set new i (z, pos 1)) x ≡ Some (place_at places x, pos 1)) (sym e)
        (set_same new i (z, pos 1) l ∙ ap (λ (y : ℤ). Some (y, pos 1)) ez)
    | inr e ↦ set_other new i c (z, pos 1) e ∙ p.outside c (omega arith) n
  ];
  told = λ c k h n d a. elim (eq_or c i) [
    | inl e ↦
        (f (λ q. d (ap (places_of old) e ∙ ap top_of (sym (p.ahead i (omega arith))) ∙ q ∙ ez ∙ ap (place_at places) (sym e)))).comes k
        (subst (λ (x : ℕ). Contains (holders lists x) k) e a)
    | inr e ↦ m.stays k (p.told c k (omega arith) n d a)
  ];
  ahead = λ c h. set_other new i c (z, pos 1) (λ e. absurd (omega arith)) ∙ p.ahead c (omega arith);
}

top-place : (values : List (ℤ × ℤ)) (c : ℕ) → place_at (tops values) c ≡ places_of values c
top-place values c = ap place_of (slice_get-map (λ (v : ℤ × ℤ). v.0) values c) ∙ by (slice_get values c) where
  by : (o : Option (ℤ × ℤ)) → place_of (option_map (λ (v : ℤ × ℤ). v.0) o) ≡ top_of o
  by None = refl
  by (Some v) = refl

same-z : (a b : ℤ) → (a ≡ b) ⊎ (a ≢ b)
same-z a b = by_lt_z a b
    (λ l. inr (λ e. absurd (omega (arith, ints))))
    (λ l. by_lt_z b a (λ m. inr (λ e. absurd (omega (arith, ints)))) (λ m. inl (omega (arith, ints))))

module _ (given : List (List (ℕ × ℤ))) (columns : ℕ) (basis : List ℕ) (rows : List (List (ℕ × ℤ))) where
  -- where the columns outside the basis stand at the same places, the row gives the same value
  same-value : (p q : List ℤ) (k x : ℕ) (r : List (ℕ × ℤ)) (v : ℤ × ℤ) → IsReady given columns basis rows → length p ≡ columns → length q ≡ columns
      → slice_get basis k ≡ Some x → slice_get rows k ≡ Some r
      → ((c : ℕ) → c < columns → (Contains basis c → ⊥) → entry r c ≢ pos 0 → place_at p c ≡ place_at q c)
      → IsRowValue (length p) x (place_at p) r v → IsRowValue (length q) x (place_at q) r v
  same-value p q k x r v ready lp lq ex er h w =
      let a = ready.are_rows.each k x r ex er in
      let s : rest_below (entry r) (place_at p) x (length p) ≡ rest_below (entry r) (place_at q) x (length q) =
      ap (rest_below (entry r) (place_at p) x) lp
      ∙ rest-places (entry r) (place_at p) (place_at q) x columns (λ c l n. product c l (λ b. a.alone c b n) (is_in basis c) refl)
      ∙ ap (rest_below (entry r) (place_at q) x) (sym lq) in
      record { fraction = w.fraction; quotient = subst (λ (y : ℤ). IsQuotient y (entry r x) v) s w.quotient } where
        product : (c : ℕ) → c < columns → (Contains basis c → entry r c ≡ pos 0) → (b : Bool) → is_in basis c ≡ b
            → entry r c *ℤ place_at p c ≡ entry r c *ℤ place_at q c
        product c l z true e = no-product (entry r c) (place_at p c) (place_at q c) (z (in_yes basis c e))
        product c l z false e = elim (same-z (entry r c) (pos 0)) [
          | inl y ↦ no-product (entry r c) (place_at p c) (place_at q c) y
          | inr y ↦ ap (λ (w : ℤ). entry r c *ℤ w) (h c l (in_no basis c e) y)
        ]

  -- what no row that is told holds, stays
  pub stale_but : (lists : List (List ℕ)) (places : List ℤ) (old new : List (ℤ × ℤ)) (stale : List Bool) (touched : List ℕ)
      → IsReady given columns basis rows → AreListed columns rows lists → length places ≡ columns → length old ≡ columns → length new ≡ columns
      → AreOwnValues basis rows old → ArePlaced basis lists places old new stale (length places)
      → ((k : ℕ) → is_marked stale k ≡ true → Contains touched k) → AreValuesBut basis rows places new touched
  stale_but lists places old new stale touched ready listed lp lo ln own p f = record {
    count = ln ∙ sym lp;
    outside = λ c z n e.
        p.outside c (slice_get_within places c z e) n ∙ ap (λ (o : Option ℤ). Some (place_of o, pos 1)) e;
    inside = λ k x r n ex er.
        let w = own.inside k x r ex er in (
          w.0,
          p.inside x (listed_at basis k x ex) ∙ w.1,
          same-value (tops old) places k x r w.0 ready (length-map old (λ (v : ℤ × ℤ). v.0) ∙ lo) lp ex er
              (λ c l m d. top-place old c ∙ stood k r c n er l m d (same-z (places_of old c) (place_at places c))) w.2,
        );
  } where
    stood : (k : ℕ) (r : List (ℕ × ℤ)) (c : ℕ) → (Contains touched k → ⊥) → slice_get rows k ≡ Some r → c < columns → (Contains basis c → ⊥)
        → entry r c ≢ pos 0 → (places_of old c ≡ place_at places c) ⊎ (places_of old c ≢ place_at places c) → places_of old c ≡ place_at places c
    stood k r c n er l m d (inl e) = e
    stood k r c n er l m d (inr e) = absurd (n (f k (p.told c k (omega arith) m e (listed.held k r er c d))))

  -- what a check leaves
  pub own_kept : (places : List ℤ) (values : List (ℤ × ℤ)) → IsKept given columns basis rows places values → AreOwnValues basis rows values
  own_kept places values kept = record {
    count = sym (length-map values (λ (v : ℤ × ℤ). v.0));
    outside = λ c z n e.
        let h = slice_get_within (tops values) c z e in
        let l : length (tops values) ≡ length values = length-map values (λ (v : ℤ × ℤ). v.0) in
        let s = stands c (omega arith) n in
        let t : z ≡ place_at places c =
        same_some z (place_at places c) (sym e ∙ slice_get-map (λ (v : ℤ × ℤ). v.0) values c ∙ ap (option_map (λ (v : ℤ × ℤ). v.0)) s) in
        s ∙ ap (λ (y : ℤ). Some (y, pos 1)) (sym t);
    inside = λ k x r ex er.
        let w = kept.are_values.inside k x r ex er in (
          w.0,
          w.1,
          same-value places (tops values) k x r w.0 kept.ready kept.width
              (length-map values (λ (v : ℤ × ℤ). v.0) ∙ kept.are_values.count ∙ kept.width) ex er
              (λ c l m d. sym (top-place values c ∙ ap top_of (stands-at c l m))) w.2,
        );
  } where
    stands-at : (c : ℕ) → c < columns → (Contains basis c → ⊥) → slice_get values c ≡ Some (place_at places c, pos 1)
    stands-at c l m = stands_at given columns basis rows places values kept c l m

    stands : (c : ℕ) → c < length values → (Contains basis c → ⊥) → slice_get values c ≡ Some (place_at places c, pos 1)
    stands c l m = let n = kept.are_values.count in let w = kept.width in stands-at c (omega arith) m

abbrev all-zero : ℕ → List (ℤ × ℤ)
all-zero n = replicate n (pos 0, pos 1)

below : (n c : ℕ) → c < length (tops (all-zero n)) → c < n
below n c h = subst (λ (m : ℕ). c < m) (length-map (all-zero n) (λ (v : ℤ × ℤ). v.0) ∙ length_same n (pos 0, pos 1)) h

-- all values are 0
pub own_first : (columns : ℕ) (basis : List ℕ) (rows : List (List (ℕ × ℤ))) → ((k x : ℕ) → slice_get basis k ≡ Some x → x < columns)
    → AreOwnValues basis rows (replicate columns (pos 0, pos 1))
own_first columns basis rows h = record {
  count = sym (length-map (all-zero columns) (λ (v : ℤ × ℤ). v.0));
  outside = λ c z n e.
      let s = in_same columns c (pos 0, pos 1) (below columns c (slice_get_within (tops (all-zero columns)) c z e)) in
      let t : z ≡ pos 0 = same_some z (pos 0) (sym e ∙ slice_get-map (λ (v : ℤ × ℤ). v.0) (all-zero columns) c
      ∙ ap (option_map (λ (v : ℤ × ℤ). v.0)) s) in
      s ∙ ap (λ (y : ℤ). Some (y, pos 1)) (sym t);
  inside = λ k x r ex er. (
    (pos 0, pos 1),
    in_same columns x (pos 0, pos 1) (h k x ex),
    record {
      fraction = record { positive = omega (arith, ints); lowest = λ m a b. eq-one_of_dvd-one b };
      quotient = λ n. sum (rest_below (entry r) (place_at (tops (all-zero columns))) x (length (tops (all-zero columns)))) (entry r x)
          (rest-zero (entry r) (place_at (tops (all-zero columns))) x (λ c. top-place (all-zero columns) c ∙ zeros columns c)
          (length (tops (all-zero columns))));
    },
  );
} where
  sum : (a b : ℤ) → a ≡ pos 0 → (a *ℤ pos 1) +ℤ (b *ℤ pos 0) ≡ pos 0
  sum a b e = let z : b *ℤ pos 0 ≡ pos 0 = *ℤ-zero b in let y : a *ℤ pos 1 ≡ pos 0 = ap (λ (w : ℤ). w *ℤ pos 1) e in omega (arith, ints)

pub column_below : (n : ℕ) (basis : List ℕ) (k x : ℕ) → All (λ c. c < n) basis → slice_get basis k ≡ Some x → x < n
column_below n basis k x a e =
    let h = slice_get_within basis k x e in
    subst (λ (y : ℕ). y < n) (same_some (get_or basis k 0) x (sym (slice_get-get_or basis k 0 h) ∙ e)) (a k 0 h)
