-- What a run begins with holds after a pivot.
use Rattle.std.specs.Prelude.{ℕ, zero, suc, ◌≡◌, ◌≢◌, ◌<◌, Bool, true, false, List, map, length, Some, Contains}
use Rattle.std.proofs.Common.{sym, ◌∙◌, ap, subst, arith, inl, inr}
use Rattle.std.proofs.lemmas.List.{length-map}
use Rattle.std.proofs.lemmas.Int.{ints}
use lib.IntN.{ℤ, pos, ◌-ℤ◌, ◌*ℤ◌}
use Rattle.proof_steps.specs.Rows.{combined, IsRow, IsBasis}
use Rattle.proof_steps.specs.Pivots.{Position, Pivots, HasRoom, exchanged, bound_on}
use Rattle.bland_laws.specs.Laws.{LeaveRoom, IsWithin, CanBegin, PremisesPassOn}
use Rattle.bland_laws.proofs.Combos.{swapped_less, still_there, both_gone, crossed, length-crossed, combined-crossed}
use Rattle.bland_laws.proofs.Listed.{same-or, kept-in, entered, after-or, still-differ, all-after}
use Rattle.bland_laws.proofs.Coprime.{coprime_row}

-- what can enter has an entry in the row
pub entry_there : (bounds : List (ℕ × Bool × ℤ)) (s : Position) (side : Bool) (e : ℤ) (c : ℕ) → HasRoom bounds s side e c → e ≢ pos 0
entry_there bounds s true e c (inl h) z = let l = h.0 in absurd (omega (arith, ints))
entry_there bounds s true e c (inr h) z = let l = h.0 in absurd (omega (arith, ints))
entry_there bounds s false e c (inl h) z = let l = h.0 in absurd (omega (arith, ints))
entry_there bounds s false e c (inr h) z = let l = h.0 in absurd (omega (arith, ints))

module _ (given : List (List (ℕ × ℤ))) (columns : ℕ) (basis : List ℕ) (x c : ℕ) (ms : List ℤ) (row : IsRow given basis x ms)
    (there : combined ms given c ≢ pos 0) where
  entering-row : IsRow given (map (exchanged x c) basis) c ms
  entering-row = record {
    multipliers = row.multipliers;
    in_basis = entered x c basis row.in_basis;
    has_entry = there;
    alone = λ b i n. elim (after-or x c basis b i) [ inl e ↦ absurd (n e) | inr t ↦ row.alone b t.0 t.1 ];
    coprime = row.coprime;
  }

  other-row : (y : ℕ) (ns : List ℤ) → Contains basis y → y ≢ x → IsRow given basis y ns
      → (ks : List ℤ) × IsRow given (map (exchanged x c) basis) y ks
  other-row y ns i n r =
      let eq : (b : ℕ) → combined (crossed (combined ms given c) (combined ns given c) ns ms) given b
      ≡ combined ms given c *ℤ combined ns given b -ℤ combined ns given c *ℤ combined ms given b =
      λ b. combined-crossed (combined ms given c) (combined ns given c) ns ms given b r.multipliers row.multipliers in
      coprime_row given (map (exchanged x c) basis) y (crossed (combined ms given c) (combined ns given c) ns ms) (kept-in x c basis y i n) (record {
        multipliers = length-crossed (combined ms given c) (combined ns given c) ns ms (length given) r.multipliers row.multipliers;
        has_entry = λ z. still_there (combined ms given c) (combined ns given c) (combined ns given y) (combined ms given y) there
            r.has_entry (row.alone y i n) (sym (eq y) ∙ z);
        alone = λ b j m. eq b ∙ elim (after-or x c basis b j) [
          | inl e ↦ ap (λ z. combined ms given c *ℤ combined ns given z -ℤ combined ns given c *ℤ combined ms given z) e
              ∙ swapped_less (combined ms given c) (combined ns given c)
          | inr t ↦ both_gone (combined ms given c) (combined ns given c) (combined ns given b) (combined ms given b)
              (r.alone b t.0 m) (row.alone b t.0 t.1)
        ];
      })

  pub basis_after : IsBasis given columns basis → c < columns → (¬ Contains basis c) → IsBasis given columns (map (exchanged x c) basis)
  basis_after h l out = record {
    count = length-map basis (exchanged x c) ∙ h.count;
    different = still-differ x c basis h.different out;
    in_range = all-after (λ k. k < columns) x c basis h.in_range l;
    rows = λ y i. elim (after-or x c basis y i) [
      | inl e ↦ subst (λ (z : ℕ). (ks : List ℤ) × IsRow given (map (exchanged x c) basis) z ks) (sym e) (ms, entering-row)
      | inr t ↦ let r = h.rows y t.0 in other-row y r.0 t.0 t.1 r.1
    ];
  }

-- a bound is within the bounds
at-limit : (bounds : List (ℕ × Bool × ℤ)) → LeaveRoom bounds → (side : Bool) (x : ℕ) (limit : ℤ) → bound_on side bounds x ≡ Some limit
    → IsWithin bounds x limit
at-limit bounds room true x limit h = record {
  from_below = λ l e. room x l limit e h;
  from_above = λ u e. let q : limit ≡ u = same-some limit u (sym h ∙ e) in omega (arith, ints);
} where
  same-some : (a b : ℤ) → Some a ≡ Some b → a ≡ b
  same-some a b e = cc
at-limit bounds room false x limit h = record {
  from_below = λ l e. let q : limit ≡ l = same-some limit l (sym h ∙ e) in omega (arith, ints);
  from_above = λ u e. room x limit u h e;
} where
  same-some : (a b : ℤ) → Some a ≡ Some b → a ≡ b
  same-some a b e = cc

pub begun_after : (given : List (List (ℕ × ℤ))) (columns : ℕ) (bounds : List (ℕ × Bool × ℤ)) (s t : Position) → LeaveRoom bounds
    → CanBegin given columns bounds s → Pivots given columns bounds s t → CanBegin given columns bounds t
begun_after given columns bounds s t room h p = record {
  basis = subst (λ (b : List ℕ). IsBasis given columns b) (sym p.basis)
      (basis_after given columns s.basis p.leaving p.entering p.multipliers p.misses.value.row
      (entry_there bounds s p.side (combined p.multipliers given p.entering) p.entering p.enters.room) h.basis
      p.enters.in_range p.enters.outside);
  within = λ c l out. elim (same-or c p.leaving) [
    | inl e ↦ let P : ℤ → Type 0 = λ z. IsWithin bounds c z in
        let Q : ℕ → Type 0 = λ k. IsWithin bounds k p.limit in
        subst P (sym (ap t.places e ∙ p.left)) (subst Q (sym e) (at-limit bounds room p.side p.leaving p.limit p.misses.bounded))
    | inr n ↦ let P : ℤ → Type 0 = λ z. IsWithin bounds c z in
        subst P (sym (p.others c n)) (h.within c l
        (λ i. out (subst (λ (b : List ℕ). Contains b c) (sym p.basis) (kept-in p.leaving p.entering s.basis c i n))))
  ];
}

pub premises_pass_on : PremisesPassOn
premises_pass_on given columns bounds room zero s t h e = subst (λ (u : Position). CanBegin given columns bounds u) e h
premises_pass_on given columns bounds room (suc n) s t h run =
    premises_pass_on given columns bounds room n run.0 t (begun_after given columns bounds s run.0 room h run.1) run.2
