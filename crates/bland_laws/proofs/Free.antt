-- The rows of a basis determine each combination.
use Rattle.std.specs.Prelude.{ℕ, suc, ◌≡◌, ◌≢◌, ◌≤◌, List, [], ◌∷◌, length, Contains}
use Rattle.std.proofs.Common.{sym, ◌∙◌, ap, subst, arith, inl, inr}
use lib.IntN.{ℤ, pos, ◌-ℤ◌, ◌*ℤ◌}
use Rattle.proof_steps.specs.Rows.{combined, AllDiffer, IsRow, IsBasis}
use Rattle.bland_laws.proofs.Combos.{zero-or, swapped_less, still_there, both_gone, crossed, length-crossed, combined-crossed, Fewer, fewer_rows}
use Rattle.bland_laws.proofs.Listed.{in-head, in-tail, head-or}

-- of these columns x alone has an entry in the combination
pub record IsOwn (given : List (List (ℕ × ℤ))) (bs : List ℕ) (x : ℕ) (ms : List ℤ) : Type 0 where
  pub multipliers : length ms ≡ length given
  pub has_entry : combined ms given x ≢ pos 0
  pub alone : (b : ℕ) → Contains bs b → b ≢ x → combined ms given b ≡ pos 0

abbrev pub HaveOwn : List (List (ℕ × ℤ)) → List ℕ → Type 0
HaveOwn given bs = (x : ℕ) → Contains bs x → (ms : List ℤ) × IsOwn given bs x ms

pub own_row : (given : List (List (ℕ × ℤ))) (basis : List ℕ) (x : ℕ) (ms : List ℤ) → IsRow given basis x ms → IsOwn given basis x ms
own_row given basis x ms r = record { multipliers = r.multipliers; has_entry = r.has_entry; alone = r.alone }

pub own_rows : (given : List (List (ℕ × ℤ))) (columns : ℕ) (basis : List ℕ) → IsBasis given columns basis → HaveOwn given basis
own_rows given columns basis h x i = let r = h.rows x i in (r.0, own_row given basis x r.0 r.1)

other-there : (xs : List ℕ) (x y : ℕ) → (¬ Contains xs x) → Contains xs y → y ≢ x
other-there xs x y n i e = n (subst (λ (z : ℕ). Contains xs z) e i)

-- as many columns as have rows of their own are at most as many as the rows
pub not_more : (given : List (List (ℕ × ℤ))) (bs : List ℕ) → AllDiffer bs → HaveOwn given bs → length bs ≤ length given
not_more given [] d h = omega arith
not_more given (x ∷ rest) d h =
    let r = h x (in-head x rest) in
    let f : Fewer given r.0 = fewer_rows given r.0 x r.1.multipliers r.1.has_entry in
    let n : length rest ≤ length f.left = not_more f.left rest d.1 (left-own r.0 r.1 f) in
    let c : suc (length f.left) ≡ length given = f.count in
    omega arith where
      left-own : (ms : List ℤ) → IsOwn given (x ∷ rest) x ms → (f : Fewer given ms) → HaveOwn f.left rest
      left-own ms o f y i =
          let w = h y (in-tail x y rest i) in
          let k = f.others w.0 w.1.multipliers in
          let n : y ≢ x = other-there rest x y d.0 i in (
            k.0,
            record {
              multipliers = k.2;
              has_entry = λ z. still_there f.factor k.1 (combined w.0 given y) (combined ms given y) f.not_zero w.1.has_entry
                  (o.alone y (in-tail x y rest i) n) (sym (k.3 y) ∙ z);
              alone = λ b j m. k.3 b ∙ both_gone f.factor k.1 (combined w.0 given b) (combined ms given b)
                  (w.1.alone b (in-tail x b rest j) m) (o.alone b (in-tail x b rest j) (other-there rest x b d.0 j));
            },
          )

-- a combination without an entry in the basis is 0
pub free : (given : List (List (ℕ × ℤ))) (bs : List ℕ) → length bs ≡ length given → AllDiffer bs → HaveOwn given bs
    → (ms : List ℤ) → length ms ≡ length given → ((b : ℕ) → Contains bs b → combined ms given b ≡ pos 0)
    → (c : ℕ) → combined ms given c ≡ pos 0
free given bs l d h ms k z c = elim (zero-or (combined ms given c)) [
  | inl e ↦ e
  | inr n ↦ let m : suc (length bs) ≤ length given = not_more given (c ∷ bs) (λ i. n (z c i), d) (more-own n) in absurd (omega arith)
] where
  own-of : combined ms given c ≢ pos 0 → (y : ℕ) → Contains bs y → (ns : List ℤ) × IsOwn given (c ∷ bs) y ns
  own-of n y i =
      let w = h y i in
      let ks = crossed (combined ms given c) (combined w.0 given c) w.0 ms in
      let eq : (b : ℕ) → combined ks given b ≡ combined ms given c *ℤ combined w.0 given b -ℤ combined w.0 given c *ℤ combined ms given b =
      λ b. combined-crossed (combined ms given c) (combined w.0 given c) w.0 ms given b w.1.multipliers k in (
        ks,
        record {
          multipliers = length-crossed (combined ms given c) (combined w.0 given c) w.0 ms (length given) w.1.multipliers k;
          has_entry = λ e. still_there (combined ms given c) (combined w.0 given c) (combined w.0 given y) (combined ms given y)
              n w.1.has_entry (z y i) (sym (eq y) ∙ e);
          alone = λ b j m. eq b ∙ elim (head-or c b bs j) [
            | inl e ↦ ap (λ x. combined ms given c *ℤ combined w.0 given x -ℤ combined w.0 given c *ℤ combined ms given x) e
                ∙ swapped_less (combined ms given c) (combined w.0 given c)
            | inr q ↦ both_gone (combined ms given c) (combined w.0 given c) (combined w.0 given b) (combined ms given b)
                (w.1.alone b q m) (z b q)
          ];
        },
      )

  more-own : combined ms given c ≢ pos 0 → HaveOwn given (c ∷ bs)
  more-own n y i = elim (head-or c y bs i) [
    | inl e ↦ subst (λ (x : ℕ). (ns : List ℤ) × IsOwn given (c ∷ bs) x ns) (sym e) (
      ms,
      record {
        multipliers = k;
        has_entry = n;
        alone = λ b j m. elim (head-or c b bs j) [ inl q ↦ absurd (m q) | inr q ↦ z b q ];
      },
    )
    | inr j ↦ own-of n y j
  ]
