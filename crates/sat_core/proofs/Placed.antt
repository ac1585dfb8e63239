-- Up to where an added clause has two open literals.
use Rattle.std.specs.Prelude.{ℕ, ◌≡◌, ◌⊎◌, ◌+◌, ◌-◌, ◌<◌, ◌≤◌, Bool, true, false, List, [], Option, Some, None, All, Contains, length, take, slice_get}
use Rattle.std.proofs.Common.{sym, ◌∙◌, ap, subst, arith, inl, inr}
use Rattle.std.proofs.lemmas.Bool.{cases_lt}
use Rattle.std.proofs.lemmas.List.{take_all}
use Rattle.std.proofs.lemmas.List.Elements.{All-contains}
use Rattle.proof_steps.specs.declared.Literal.{Literal}
use Rattle.proof_steps.specs.Meaning.{opposite}
use Rattle.proof_checker.specs.Derived.{has}
use Rattle.sat_core.specs.declared.assigned.Assigned.{Assigned}
use Rattle.sat_core.specs.Trail.{falses, IsApart}
use Rattle.sat_core.specs.Visiting.{CanStand}
use Rattle.sat_core.specs.Analysis.{SomeMarked, NoneMarked, IsLow, IsBelow, IsChosen, IsNext, IsDecisionAt, paired}
use Rattle.sat_core.specs.Placing.{IsPlaced}
use Rattle.sat_core.proofs.Places.{some_is, within, from_map, to_map, to_map_take}
use Rattle.proof_checker.proofs.Sets.{has-contains, contains-has, has-not}
use Rattle.sat_core.proofs.Sets.{one-or-other}
use Rattle.sat_core.proofs.Fresh.{falses-take}
use Rattle.sat_core.proofs.Tracing.{falses-new}
use Rattle.sat_core.proofs.Backjump.{each, settled_before, can_watch, unseen, rest}

pub low_here : (trail : List Assigned) (marked : List Literal) (n i : ℕ) → i ≤ n → 0 < i → SomeMarked trail marked (i - 1) i
    → NoneMarked trail marked i n → IsLow trail marked n i
low_here trail marked n i h p (j, a, l, m, s, q) r = record {
  within = h;
  top = λ k e. let f : j ≡ k = omega arith in (a, subst (λ x. slice_get trail x ≡ Some a) f s, q);
  rest = r;
}

pub low_none : (trail : List Assigned) (marked : List Literal) (n i : ℕ) → i ≡ 0 → NoneMarked trail marked i n → IsLow trail marked n 0
low_none trail marked n i e r = record {
  within = omega arith;
  top = λ k f. absurd (omega arith);
  rest = subst (λ x. NoneMarked trail marked x n) e r;
}

pub low_less : (trail : List Assigned) (marked : List Literal) (n i : ℕ) → NoneMarked trail marked (i - 1) i → NoneMarked trail marked i n
    → NoneMarked trail marked (i - 1) n
low_less trail marked n i p q = λ j a l m s. elim (cases_lt j i) as (λ _. has marked (opposite a.literal) ≡ false)
    [ inl x ↦ p j a l x s | inr x ↦ q j a x m s ]

module _ (trail : List Assigned) (apart : IsApart trail) (clause : List Literal) where
  -- two literals that are not false
  pub two_open : (f s : Literal) → Contains clause f → has (falses trail) f ≡ false → Contains clause s → CanStand trail s f true
      → IsPlaced trail clause (Some (f, s)) (length trail) false
  two_open f s fc fo sc st = record {
    within = omega arith;
    can_watch = record { first = fc; second = sc; apart = λ e. st.0 (sym e) };
    settled = λ i h. record {
      not_false = λ x. has-not (falses trail) f fo (falses-take trail i f (All-contains (Contains (falses (take i trail))) clause f x fc));
      not_unit = λ l o. absurd (st.0 (o.others s sc (λ x. has-not (falses trail) s st.1 (falses-take trail i s x))
          ∙ sym (o.others f fc (λ x. has-not (falses trail) f fo (falses-take trail i f x)))));
    };
    unseen = λ i a g l o e. absurd (elim o [
      | inl q ↦ has-not (falses trail) f fo (subst (Contains (falses trail)) (e ∙ sym q) (to_map (λ (x : Assigned). opposite x.literal) trail i a g))
      | inr q ↦ has-not (falses trail) s st.1 (subst (Contains (falses trail)) (e ∙ sym q) (to_map (λ (x : Assigned). opposite x.literal) trail i a g))
    ]);
    rest = λ e. absurd cc;
    unfalse = λ z i a g l o e. elim o [
      | inl q ↦ has-not (falses trail) f fo (subst (Contains (falses trail)) (e ∙ sym q) (to_map (λ (x : Assigned). opposite x.literal) trail i a g))
      | inr q ↦ has-not (falses trail) s st.1 (subst (Contains (falses trail)) (e ∙ sym q) (to_map (λ (x : Assigned). opposite x.literal) trail i a g))
    ];
  }

  -- the others of its literals were false before place n, where one was not
  module _ (n : ℕ) (last : Literal) (less : n ≤ length trail) (c : IsChosen trail clause n last clause)
      (late : ¬ Contains (falses (take n trail)) last) where
    pub chosen_placed : (low : ℕ) (second : Option Literal) → IsLow trail clause n low → IsBelow trail low second
        → IsPlaced trail clause (paired last second) low true
    chosen_placed low second lo be = record {
      within = (let w = lo.within in omega arith);
      can_watch = can_watch trail apart clause clause n last c late low second lo be;
      settled = λ i h. settled_before trail apart clause clause n last c late i (let w = lo.within in omega arith) (each trail clause n low i lo h);
      unseen = unseen trail apart clause clause n last c late low second lo be;
      rest = λ e. rest trail apart clause clause n last c late low second lo (λ l k. k);
      unfalse = λ e. absurd cc;
    }

  -- one literal that is not false
  pub one_open : (u : Literal) → Contains clause u → has (falses trail) u ≡ false → All (λ m. CanStand trail m u false) clause
      → (n low : ℕ) (second : Option Literal) (watched : Option (Literal × Literal)) → n ≡ length trail → IsLow trail clause n low
      → IsBelow trail low second → watched ≡ paired u second → IsPlaced trail clause watched low true
  one_open u uc uo others n low second watched e lo be q = subst (λ x. IsPlaced trail clause x low true) (sym q)
      (chosen_placed n u (omega arith) record {
        has_last = uc;
        has_marked = λ l m f. m;
        only = λ l k. one-or-other l u (λ z. inl (sym z)) (λ ne. inr (
          k,
          subst (λ t. Contains (falses t) l) (sym (take_all n trail (omega arith)))
              (has-contains (falses trail) l (All-contains (λ m. CanStand trail m u false) clause l others k ne)),
        ));
      } (λ f. has-not (falses trail) u uo (falses-take trail n u f)) low second lo be)

  module _ (all : All (λ l. has (falses trail) l ≡ true) clause) where
    at-place : (l : Literal) → Contains clause l → (j : ℕ) × (a : Assigned) × (slice_get trail j ≡ Some a) × (opposite a.literal ≡ l)
    at-place l k =
        let r = from_map (λ (x : Assigned). opposite x.literal) trail l
        (has-contains (falses trail) l (All-contains (λ m. has (falses trail) m ≡ true) clause l all k)) in
        (r.place, r.element, r.is_there, r.gives)

    clash : (m n : ℕ) → NoneMarked trail clause m n → (j : ℕ) (a : Assigned) (l : Literal) → m ≤ j → j < n → slice_get trail j ≡ Some a
        → opposite a.literal ≡ l → Contains clause l → ⊥
    clash m n none j a l h b g e k =
        let t : has clause (opposite a.literal) ≡ true = contains-has clause (opposite a.literal) (subst (Contains clause) (sym e) k) in
        let f : has clause (opposite a.literal) ≡ false = none j a h b g in absurd cc

    -- a clause with no literal
    pub none_placed : (n last : ℕ) → n ≡ length trail → last ≡ 0 → IsLow trail clause n last → IsPlaced trail clause None 0 true
    none_placed n last e z lo = record {
      within = omega arith;
      can_watch = λ l m k q. absurd (let r = at-place l k in let w = within trail r.0 r.1 r.2 in
          clash last n lo.rest r.0 r.1 l (omega arith) (omega arith) r.2 r.3 k);
      settled = λ i h. absurd (omega arith);
      unseen = λ i a g l o q. absurd o;
      rest = λ e. tt;
      unfalse = λ e. absurd cc;
    }

    -- what became false last, and before it
    pub latest_placed : (n last i : ℕ) (a : Assigned) (latest : Literal) → n ≡ length trail → IsLow trail clause n last → last ≡ i + 1
        → slice_get trail i ≡ Some a → latest ≡ opposite a.literal → (m low : ℕ) (second : Option Literal) (watched : Option (Literal × Literal))
        → m ≡ i → IsLow trail clause m low → IsBelow trail low second → watched ≡ paired latest second → IsPlaced trail clause watched low true
    latest_placed n last i a latest e lo s here q m low second watched mi lo2 be w = subst (λ x. IsPlaced trail clause x low true) (sym w)
        (chosen_placed m latest (let z = within trail i a here in omega arith) record {
          has_last = subst (Contains clause) (sym q) (has-contains clause (opposite a.literal)
              (let t = lo.top i s in subst (λ (x : Assigned). has clause (opposite x.literal) ≡ true) (some_is t.0 a (sym t.1 ∙ here)) t.2));
          has_marked = λ l k f. k;
          only = λ l k. let r = at-place l k in elim (cases_lt r.0 i) as (λ _. (latest ≡ l) ⊎ (Contains clause l × Contains (falses (take m trail)) l)) [
            | inl x ↦ inr (
              k,
              subst (λ y. Contains (falses (take m trail)) y) r.3
                  (to_map_take (λ (y : Assigned). opposite y.literal) trail m r.0 r.1 r.2 (omega arith)),
            )
            | inr x ↦ elim (cases_lt i r.0) as (λ _. (latest ≡ l) ⊎ (Contains clause l × Contains (falses (take m trail)) l)) [
              | inl y ↦ absurd (let z = within trail r.0 r.1 r.2 in
                  clash last n lo.rest r.0 r.1 l (omega arith) (omega arith) r.2 r.3 k)
              | inr y ↦ inl (q ∙ ap (λ (z : Assigned). opposite z.literal)
                  (some_is a r.1 (sym here ∙ ap (slice_get trail) (let v : i ≡ r.0 = omega arith in v) ∙ r.2)) ∙ r.3)
            ]
          ];
        } (λ f. falses-new [] trail apart i a here (subst (λ x. Contains (falses (take x trail)) (opposite a.literal)) mi
        (subst (Contains (falses (take m trail))) q f))) low second lo2 be)

pub placed_as : {trail : List Assigned} {clause slice : List Literal} {watched : Option (Literal × Literal)} {low : ℕ} {waits : Bool} → slice ≡ clause
    → IsPlaced trail slice watched low waits → IsPlaced trail clause watched low waits
placed_as {trail} {clause} {slice} {watched} {low} {waits} e p = subst (λ x. IsPlaced trail x watched low waits) e p

pub decided_end : {trail : List Assigned} {low n m k : ℕ} → IsNext trail low n k → n ≡ m → (k ≡ m) ⊎ IsDecisionAt trail k
decided_end {trail} {low} {n} {m} {k} nx e = subst (λ x. (k ≡ x) ⊎ IsDecisionAt trail k) e nx.decided
