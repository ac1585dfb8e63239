-- The point at which the columns stand: those outside the basis at their places, and those of the basis where the rows
-- put them, all over one denominator.
use Rattle.std.specs.Prelude.{ℕ, zero, suc, ◌≡◌, ◌≢◌, ◌<◌, ◌==◌, cond, List, [], ◌∷◌, length, Contains}
use Rattle.std.proofs.Common.{sym, ◌∙◌, ap, subst, arith, refl, inl, inr}
use Rattle.std.proofs.lemmas.Int.{ints}
use lib.IntN.{ℤ, pos, negsuc, ◌+ℤ◌, ◌-ℤ◌, ◌*ℤ◌, neg_ℤ, *ℤ-zero, zero-*ℤ, *ℤ_comm}
use lib.Signed.{◌≤ℤ◌, ◌<ℤ◌}
use Rattle.kind_num.proofs.Ring.{times_times, times_le, neg_times}
use Rattle.proof_steps.specs.Rows.{combined, AllDiffer, HasValue, rest_below}
use Rattle.bland_laws.proofs.Combos.{null_factor, swapped_less, both_gone, crossed, length-crossed, combined-crossed}
use Rattle.bland_laws.proofs.Listed.{same-or, tests-same, tests-other, in-head, in-tail, head-or, in-nothing, listed-or}
use Rattle.bland_laws.proofs.Free.{IsOwn, free}
use Rattle.bland_laws.proofs.Sums.{sum_below, sum_apart, rest_scaled, sum_scaled, sum_nothing, sum_crossed}

pub record IsPoint (given : List (List (ℕ × ℤ))) (columns : ℕ) (basis : List ℕ) (places : ℕ → ℤ) : Type 0 where
  pub scale : ℤ
  pub tops : ℕ → ℤ
  pub positive : pos 0 <ℤ scale
  pub outside : (c : ℕ) → (¬ Contains basis c) → tops c ≡ scale *ℤ places c
  pub on_rows : (ms : List ℤ) → length ms ≡ length given → sum_below (combined ms given) tops columns ≡ pos 0

-- the product of positive numbers
pub positive_product : (a b : ℤ) → pos 0 <ℤ a → pos 0 <ℤ b → pos 0 <ℤ (a *ℤ b)
positive_product (pos zero) b h k = absurd (omega (arith, ints))
positive_product (pos (suc n)) b h k =
    let one : pos 1 ≤ℤ b = omega (arith, ints) in
    let m : (pos (suc n) *ℤ pos 1) ≤ℤ (pos (suc n) *ℤ b) = times_le (suc n) (pos 1) b one in
    let e : pos (suc n) *ℤ pos 1 ≡ pos (suc n) = one-times n in
    omega (arith, ints) where
      one-times : (d : ℕ) → pos (suc d) *ℤ pos 1 ≡ pos (suc d)
      one-times d = ap pos (grind arith)
positive_product (negsuc n) b h k = absurd (omega (arith, ints))

-- the row of a column of the basis, with a negative entry there
abbrev pub HaveTurned : List (List (ℕ × ℤ)) → List ℕ → Type 0
HaveTurned given basis =
    (x : ℕ) → Contains basis x
    → (ms : List ℤ) × (bottom : ℤ) × IsOwn given basis x ms × (pos 0 <ℤ bottom) × (combined ms given x ≡ neg_ℤ bottom)

-- some columns of the basis stand where their rows put them, and the others at their places
record IsPartly (given : List (List (ℕ × ℤ))) (columns : ℕ) (basis : List ℕ) (places : ℕ → ℤ) (bs : List ℕ) : Type 0 where
  scale : ℤ
  tops : ℕ → ℤ
  positive : pos 0 <ℤ scale
  outside : (c : ℕ) → (¬ Contains bs c) → tops c ≡ scale *ℤ places c
  rows : (b : ℕ) → Contains bs b → (ms : List ℤ) × IsOwn given basis b ms × (sum_below (combined ms given) tops columns ≡ pos 0)

abbrev moved : ℕ → ℤ → ℤ → (ℕ → ℤ) → ℕ → ℤ
moved b top d tops c = cond (c == b) top (d *ℤ tops c)

moved-at : (b c : ℕ) (top d : ℤ) (tops : ℕ → ℤ) → c ≡ b → moved b top d tops c ≡ top
moved-at b c top d tops e = ap (λ w. cond w top (d *ℤ tops c)) (ap (λ z. c == z) (sym e) ∙ tests-same c)

moved-off : (b c : ℕ) (top d : ℤ) (tops : ℕ → ℤ) → c ≢ b → moved b top d tops c ≡ d *ℤ tops c
moved-off b c top d tops n = ap (λ w. cond w top (d *ℤ tops c)) (tests-other c b n)

pulled : (e d t : ℤ) → e *ℤ (d *ℤ t) ≡ d *ℤ (e *ℤ t)
pulled e d t = sym (times_times e d t) ∙ ap (λ z. z *ℤ t) (*ℤ_comm e d) ∙ times_times d e t

moved-product : (b c : ℕ) (top d e : ℤ) (tops : ℕ → ℤ) → c ≢ b → e *ℤ moved b top d tops c ≡ d *ℤ (e *ℤ tops c)
moved-product b c top d e tops n = ap (λ z. e *ℤ z) (moved-off b c top d tops n) ∙ pulled e d (tops c)

-- by its row a column is put where the row's sum is 0
own-null : (e tops : ℕ → ℤ) (b columns : ℕ) (d : ℤ) → b < columns → e b ≡ neg_ℤ d
    → sum_below e (moved b (rest_below e tops b columns) d tops) columns ≡ pos 0
own-null e tops b columns d l q =
    let top : ℤ = rest_below e tops b columns in
    let s : sum_below e (moved b (rest_below e tops b columns) d tops) columns
    ≡ e b *ℤ moved b (rest_below e tops b columns) d tops b +ℤ rest_below e (moved b (rest_below e tops b columns) d tops) b columns =
    sum_apart e (moved b (rest_below e tops b columns) d tops) b columns l in
    let r : rest_below e (moved b (rest_below e tops b columns) d tops) b columns ≡ d *ℤ rest_below e tops b columns =
    rest_scaled e e tops (moved b (rest_below e tops b columns) d tops) d b columns
    (λ c k n. moved-product b c (rest_below e tops b columns) d (e c) tops n) in
    let f : e b *ℤ moved b (rest_below e tops b columns) d tops b ≡ neg_ℤ (d *ℤ rest_below e tops b columns) =
    ap (λ z. e b *ℤ z) (moved-at b b (rest_below e tops b columns) d tops refl)
    ∙ ap (λ z. z *ℤ rest_below e tops b columns) q ∙ neg_times d (rest_below e tops b columns) in
    omega (arith, ints)

-- where a row has no entry in a column, its sum stays 0 when that column is put elsewhere
other-null : (f tops : ℕ → ℤ) (b columns : ℕ) (top d : ℤ) → f b ≡ pos 0 → sum_below f tops columns ≡ pos 0
    → sum_below f (moved b top d tops) columns ≡ pos 0
other-null f tops b columns top d z s =
    sum_scaled f f tops (moved b top d tops) d columns each ∙ ap (λ w. d *ℤ w) s ∙ *ℤ-zero d where
      each : (c : ℕ) → c < columns → f c *ℤ moved b top d tops c ≡ d *ℤ (f c *ℤ tops c)
      each c l = elim (same-or c b) [
        | inl e ↦ let h : f c ≡ pos 0 = ap f e ∙ z in
            ap (λ w. w *ℤ moved b top d tops c) h ∙ zero-*ℤ (moved b top d tops c)
            ∙ sym (ap (λ w. d *ℤ (w *ℤ tops c)) h ∙ ap (λ w. d *ℤ w) (zero-*ℤ (tops c)) ∙ *ℤ-zero d)
        | inr n ↦ moved-product b c top d (f c) tops n
      ]

module _ (given : List (List (ℕ × ℤ))) (columns : ℕ) (basis : List ℕ) (places : ℕ → ℤ) (range : (c : ℕ) → Contains basis c → c < columns)
    (turned : HaveTurned given basis) where
  one-more : (b : ℕ) (rest : List ℕ) → (¬ Contains rest b) → ((c : ℕ) → Contains (b ∷ rest) c → Contains basis c)
      → IsPartly given columns basis places rest → IsPartly given columns basis places (b ∷ rest)
  one-more b rest fresh inside h =
      let i : Contains basis b = inside b (in-head b rest) in
      let w = turned b i in
      let top : ℤ = rest_below (combined w.0 given) h.tops b columns in
      record {
        scale = w.1 *ℤ h.scale;
        tops = moved b (rest_below (combined w.0 given) h.tops b columns) w.1 h.tops;
        positive = positive_product w.1 h.scale w.3 h.positive;
        outside = λ c n.
            let m : c ≢ b = λ e. n (subst (λ (z : ℕ). Contains (z ∷ rest) c) e (in-head c rest)) in
            moved-off b c (rest_below (combined w.0 given) h.tops b columns) w.1 h.tops m
            ∙ ap (λ z. w.1 *ℤ z) (h.outside c (λ j. n (in-tail b c rest j))) ∙ sym (times_times w.1 h.scale (places c));
        rows = λ y j. elim (head-or b y rest j) [
          | inl e ↦ subst (λ (z : ℕ). (ms : List ℤ) × IsOwn given basis z ms
              × (sum_below (combined ms given) (moved b (rest_below (combined w.0 given) h.tops b columns) w.1 h.tops) columns ≡ pos 0))
              (sym e) (w.0, w.2, own-null (combined w.0 given) h.tops b columns w.1 (range b i) w.4)
          | inr k ↦ let r = h.rows y k in
              let m : b ≢ y = λ e. fresh (subst (λ (z : ℕ). Contains rest z) (sym e) k) in (
                r.0,
                r.1,
                other-null (combined r.0 given) h.tops b columns (rest_below (combined w.0 given) h.tops b columns) w.1
                    (r.1.alone b i m) r.2,
              )
        ];
      }

  all-put : (bs : List ℕ) → AllDiffer bs → ((c : ℕ) → Contains bs c → Contains basis c) → IsPartly given columns basis places bs
  all-put [] d inside = record {
    scale = pos 1;
    tops = λ c. pos 1 *ℤ places c;
    positive = omega (arith, ints);
    outside = λ c n. refl;
    rows = λ b i. absurd (in-nothing b i);
  }
  all-put (b ∷ rest) d inside = one-more b rest d.0 inside (all-put rest d.1 (λ c i. inside c (in-tail b c rest i)))

  -- a combination that is cleared of some columns of the basis, up to a factor
  record IsCleared (tops : ℕ → ℤ) (bs : List ℕ) (ms : List ℤ) : Type 0 where
    left : List ℤ
    factor : ℤ
    not_zero : factor ≢ pos 0
    count : length left ≡ length given
    gone : (b : ℕ) → Contains bs b → combined left given b ≡ pos 0
    sum : sum_below (combined left given) tops columns ≡ factor *ℤ sum_below (combined ms given) tops columns

  one-cleared : (tops : ℕ → ℤ) (b : ℕ) (rest : List ℕ) (ms es : List ℤ) → ((c : ℕ) → Contains (b ∷ rest) c → Contains basis c)
      → (¬ Contains rest b) → IsOwn given basis b es → sum_below (combined es given) tops columns ≡ pos 0
      → IsCleared tops rest ms → IsCleared tops (b ∷ rest) ms
  one-cleared tops b rest ms es inside fresh o z h =
      let p : ℤ = combined es given b in
      let q : ℤ = combined h.left given b in
      let eq : (c : ℕ) → combined (crossed (combined es given b) (combined h.left given b) h.left es) given c
      ≡ combined es given b *ℤ combined h.left given c -ℤ combined h.left given b *ℤ combined es given c =
      λ c. combined-crossed (combined es given b) (combined h.left given b) h.left es given c h.count o.multipliers in
      record {
        left = crossed (combined es given b) (combined h.left given b) h.left es;
        factor = combined es given b *ℤ h.factor;
        not_zero = λ e. h.not_zero (null_factor (combined es given b) h.factor o.has_entry e);
        count = length-crossed (combined es given b) (combined h.left given b) h.left es (length given) h.count o.multipliers;
        gone = λ y j. eq y ∙ elim (head-or b y rest j) [
          | inl e ↦ ap (λ c. combined es given b *ℤ combined h.left given c -ℤ combined h.left given b *ℤ combined es given c) e
              ∙ swapped_less (combined es given b) (combined h.left given b)
          | inr k ↦ both_gone (combined es given b) (combined h.left given b) (combined h.left given y) (combined es given y) (h.gone y k)
              (o.alone y (inside y j) (λ e. fresh (subst (λ (c : ℕ). Contains rest c) e k)))
        ];
        sum =
            let s = sum_crossed (combined es given b) (combined h.left given b) (combined h.left given) (combined es given)
            (combined (crossed (combined es given b) (combined h.left given b) h.left es) given) tops columns eq in
            let k : combined h.left given b *ℤ sum_below (combined es given) tops columns ≡ pos 0 =
            ap (λ w. combined h.left given b *ℤ w) z ∙ *ℤ-zero (combined h.left given b) in
            let f : combined es given b *ℤ sum_below (combined h.left given) tops columns
            ≡ (combined es given b *ℤ h.factor) *ℤ sum_below (combined ms given) tops columns =
            ap (λ w. combined es given b *ℤ w) h.sum
            ∙ sym (times_times (combined es given b) h.factor (sum_below (combined ms given) tops columns)) in
            omega (arith, ints);
      }

  cleared : (tops : ℕ → ℤ) (bs : List ℕ) (ms : List ℤ) → length ms ≡ length given → AllDiffer bs
      → ((c : ℕ) → Contains bs c → Contains basis c)
      → ((b : ℕ) → Contains bs b → (es : List ℤ) × IsOwn given basis b es × (sum_below (combined es given) tops columns ≡ pos 0))
      → IsCleared tops bs ms
  cleared tops [] ms l d inside r = record {
    left = ms;
    factor = pos 1;
    not_zero = λ e. absurd (omega (arith, ints));
    count = l;
    gone = λ b i. absurd (in-nothing b i);
    sum = omega (arith, ints);
  }
  cleared tops (b ∷ rest) ms l d inside r =
      let w = r b (in-head b rest) in
      one-cleared tops b rest ms w.0 inside d.0 w.1 w.2
      (cleared tops rest ms l d.1 (λ c i. inside c (in-tail b c rest i)) (λ c i. r c (in-tail b c rest i)))

  pub point_of : length basis ≡ length given → AllDiffer basis → IsPoint given columns basis places
  point_of l d =
      let h : IsPartly given columns basis places basis = all-put basis d (λ c i. i) in
      record {
        scale = h.scale;
        tops = h.tops;
        positive = h.positive;
        outside = h.outside;
        on_rows = λ ms k.
            let w : IsCleared h.tops basis ms = cleared h.tops basis ms k d (λ c i. i) h.rows in
            let z : sum_below (combined w.left given) h.tops columns ≡ pos 0 =
            sum_nothing (combined w.left given) h.tops columns
            (free given basis l d (λ x i. let t = turned x i in (t.0, t.2)) w.left w.count w.gone) in
            null_factor w.factor (sum_below (combined ms given) h.tops columns) w.not_zero (sym w.sum ∙ z);
      }

-- a column of the basis stands at its value
pub value_there : (given : List (List (ℕ × ℤ))) (columns : ℕ) (basis : List ℕ) (places : ℕ → ℤ) (x : ℕ) (ms : List ℤ) (top bottom : ℤ)
    → x < columns → (p : IsPoint given columns basis places) → HasValue given columns basis places x ms top bottom
    → bottom *ℤ p.tops x ≡ p.scale *ℤ top
value_there given columns basis places x ms top bottom l p v =
    let s : sum_below (combined ms given) p.tops columns
    ≡ combined ms given x *ℤ p.tops x +ℤ rest_below (combined ms given) p.tops x columns = sum_apart (combined ms given) p.tops x columns l in
    let z : sum_below (combined ms given) p.tops columns ≡ pos 0 = p.on_rows ms v.row.multipliers in
    let r : rest_below (combined ms given) p.tops x columns ≡ p.scale *ℤ top =
    rest_scaled (combined ms given) (combined ms given) places p.tops p.scale x columns each ∙ ap (λ w. p.scale *ℤ w) v.numerator in
    let e : combined ms given x *ℤ p.tops x ≡ neg_ℤ (bottom *ℤ p.tops x) =
    ap (λ w. w *ℤ p.tops x) v.denominator ∙ neg_times bottom (p.tops x) in
    omega (arith, ints) where
      each : (c : ℕ) → c < columns → c ≢ x → combined ms given c *ℤ p.tops c ≡ p.scale *ℤ (combined ms given c *ℤ places c)
      each c k n = elim (listed-or basis c) [
        | inl i ↦ let h : combined ms given c ≡ pos 0 = v.row.alone c i n in
            ap (λ w. w *ℤ p.tops c) h ∙ zero-*ℤ (p.tops c)
            ∙ sym (ap (λ w. p.scale *ℤ (w *ℤ places c)) h ∙ ap (λ w. p.scale *ℤ w) (zero-*ℤ (places c)) ∙ *ℤ-zero p.scale)
        | inr f ↦ ap (λ w. combined ms given c *ℤ w) (p.outside c f) ∙ pulled (combined ms given c) p.scale (places c)
      ]
