-- What may be left out of a clause that is learnt.
use Rattle.std.specs.Prelude.{ℕ, ◌≡◌, ◌≢◌, ◌⊎◌, ◌+◌, ◌<◌, ◌≤◌, true, false, List, [], ◌∷◌, ◌++◌, zero, suc, length, Some, Contains, take, slice_get, refl}
use Rattle.std.proofs.Common.{sym, ◌∙◌, ap, subst, arith, inl, inr}
use Rattle.std.proofs.lemmas.List.Elements.{All-contains, Contains-push, Contains-push_cases, Contains-append_left}
use Rattle.proof_steps.specs.declared.Literal.{Literal}
use Rattle.proof_steps.specs.Meaning.{at, opposite}
use Rattle.proof_checker.specs.Derived.{has}
use Rattle.sat_core.specs.declared.assigned.Assigned.{Assigned}
use Rattle.sat_core.specs.Trail.{falses, IsTrail}
use Rattle.sat_core.specs.Analysis.{IsTraced, IsChosen}
use Rattle.sat_core.specs.Reduction.{AreMarkedBut, IsSpareAt, IsReduced}
use Rattle.sat_core.proofs.Places.{some_is, to_map_take}
use Rattle.proof_checker.proofs.Sets.{has-contains, contains-has, has-not}
use Rattle.proof_checker.proofs.Sound.{either}
use Rattle.sat_core.proofs.Consistent.{entry_once, opposite-opposite}
use Rattle.sat_core.proofs.Watched.{at-within}
use Rattle.sat_core.proofs.Tracing.{pass, keep, resolve}

alone : (last l : Literal) → Contains (last ∷ []) l → last ≡ l
alone last l (zero, h, e) = e
alone last l (suc k, h, e) = absurd (omega arith)

-- at the last decision the literal of the last level is kept alone
pub reduced_first : (known : List (List Literal)) (trail : List Assigned) (marked : List Literal) (n : ℕ) (last : Literal) (literals : List Literal)
    (hints hints' : List ℕ) → literals ≡ last ∷ [] → hints' ≡ hints → IsTraced known trail marked (last ∷ []) n hints
    → IsReduced known trail marked n last literals 0 n hints'
reduced_first known trail marked n last literals hints hints' e f t =
    subst (λ h. IsReduced known trail marked n last literals 0 n h) (sym f)
    (subst (λ x. IsReduced known trail marked n last x 0 n hints) (sym e) record {
      traced = t;
      has_last = first;
      late = late;
      only = λ l c. inl (alone last l c);
      is_low = record {
        within = omega arith;
        top = λ k z. absurd (omega arith);
        rest = λ j a h m s. either (has (last ∷ []) (opposite a.literal))
            (λ y. absurd (late (subst (Contains (falses (take n trail)))
            (sym (alone last (opposite a.literal) (has-contains (last ∷ []) (opposite a.literal) y)))
            (to_map_take (λ (x : Assigned). opposite x.literal) trail n j a s m))))
            (λ z. z);
      };
      above = λ h. absurd (omega arith);
    }) where
      first : Contains (last ∷ []) last
      first = (0, omega arith, refl)

      late : ¬ Contains (falses (take n trail)) last
      late = t.kept_late last first

module _ (known : List (List Literal)) (trail : List Assigned) (t : IsTrail known trail) (marked : List Literal) (n : ℕ) (last : Literal)
    (literals : List Literal) (low i : ℕ) (hints : List ℕ) (a : Assigned) (here : slice_get trail i ≡ Some a) (before : i < n)
    (r : IsReduced known trail marked n last literals low (i + 1) hints) where
  pub left : has marked (opposite a.literal) ≡ false → IsReduced known trail marked n last literals low i hints
  left u = record {
    traced = pass known trail t.apart i a here marked literals hints r.traced (has-not marked (opposite a.literal) u);
    has_last = r.has_last;
    late = r.late;
    only = r.only;
    is_low = r.is_low;
    above = λ h. let q = r.above h in omega arith;
  }

  pub spared : IsSpareAt known trail marked i → IsReduced known trail marked n last literals low i (a.reason ∷ hints)
  spared s = let q = s a here in let c = t.implied i a here q.0 in record {
    traced = resolve known trail t.apart i a here marked literals hints r.traced c marked record {
      kept = λ l m. m;
      of_clause = λ l m ne. All-contains (λ x. x ≢ a.literal → Contains marked x) c.clause l (q.1 c.clause c.is_reason) m ne;
      nothing_else = λ l m. inl m;
    };
    has_last = r.has_last;
    late = r.late;
    only = r.only;
    is_low = r.is_low;
    above = λ h. let q = r.above h in omega arith;
  }

  there : Contains (literals ++ opposite a.literal ∷ []) (opposite a.literal)
  there = Contains-push literals (opposite a.literal)

  more : (l : Literal) → Contains literals l → Contains (literals ++ opposite a.literal ∷ []) l
  more l c = Contains-append_left literals (opposite a.literal ∷ []) l c

  only_more : (l : Literal) → Contains (literals ++ opposite a.literal ∷ []) l → (last ≡ l) ⊎ Contains (falses (take n trail)) l
  only_more l c = elim (Contains-push_cases literals (opposite a.literal) l c) as (λ _. (last ≡ l) ⊎ Contains (falses (take n trail)) l) [
    | inl k ↦ r.only l k
    | inr e ↦ inr (subst (Contains (falses (take n trail))) e (to_map_take (λ (x : Assigned). opposite x.literal) trail n i a here before))
  ]

  -- another entry made another literal false
  none_more : (j : ℕ) (b : Assigned) → j ≢ i → slice_get trail j ≡ Some b → has literals (opposite b.literal) ≡ false
      → has (literals ++ opposite a.literal ∷ []) (opposite b.literal) ≡ false
  none_more j b ne s u = either (has (literals ++ opposite a.literal ∷ []) (opposite b.literal))
      (λ y. absurd (elim (Contains-push_cases literals (opposite a.literal) (opposite b.literal)
      (has-contains (literals ++ opposite a.literal ∷ []) (opposite b.literal) y)) [
        | inl k ↦ has-not literals (opposite b.literal) u k
        | inr e ↦ ne (entry_once trail t.apart j i b a s here
            (sym (opposite-opposite b.literal) ∙ ap opposite (sym e) ∙ opposite-opposite a.literal))
      ]))
      (λ z. z)

  module _ (m : has marked (opposite a.literal) ≡ true) where
    kept_trace : IsTraced known trail marked (literals ++ opposite a.literal ∷ []) i hints
    kept_trace = keep known trail t.apart i a here marked literals hints r.traced (has-contains marked (opposite a.literal) m)

    pub kept_first : low ≡ 0 → IsReduced known trail marked n last (literals ++ opposite a.literal ∷ []) (i + 1) i hints
    kept_first z = record {
      traced = kept_trace;
      has_last = more last r.has_last;
      late = r.late;
      only = only_more;
      is_low = record {
        within = omega arith;
        top = λ k e. let q : i ≡ k = omega arith in
            (a, subst (λ x. slice_get trail x ≡ Some a) q here, contains-has (literals ++ opposite a.literal ∷ []) (opposite a.literal) there);
        rest = λ j b h w s. none_more j b (λ q. let x : i + 1 ≤ j = h in omega arith) s (r.is_low.rest j b (omega arith) w s);
      };
      above = λ h. omega arith;
    }

    pub kept_next : low ≢ 0 → IsReduced known trail marked n last (literals ++ opposite a.literal ∷ []) low i hints
    kept_next nz = record {
      traced = kept_trace;
      has_last = more last r.has_last;
      late = r.late;
      only = only_more;
      is_low = record {
        within = r.is_low.within;
        top = λ k e. let q = r.is_low.top k e in (
          q.0,
          q.1,
          contains-has (literals ++ opposite a.literal ∷ []) (opposite q.0.literal)
              (more (opposite q.0.literal) (has-contains literals (opposite q.0.literal) q.2)),
        );
        rest = λ j b h w s. none_more j b (λ q. let x : low ≤ j = h in let y = r.above positive in omega arith) s (r.is_low.rest j b h w s);
      };
      above = λ h. let q = r.above h in omega arith;
    } where
      some_low : (x : ℕ) → x ≢ 0 → 0 < x
      some_low zero ne = absurd (ne refl)
      some_low (suc x) ne = omega arith

      positive : 0 < low
      positive = some_low low nz

-- an entry with a reason has one among the known clauses
pub reason_at : (known : List (List Literal)) (trail : List Assigned) → IsTrail known trail → (i : ℕ) (a : Assigned) → slice_get trail i ≡ Some a
    → a.reason ≢ 0 → (0 < a.reason) × (a.reason ≤ length known)
reason_at known trail t i a here ne = let c = t.implied i a here ne in at-within known a.reason c.clause c.is_reason

pub spare : (known : List (List Literal)) (trail : List Assigned) (marked : List Literal) (i : ℕ) (clause slice : List Literal) (a : Assigned)
    → slice_get trail i ≡ Some a → a.reason ≢ 0 → at known a.reason ≡ Some clause → slice ≡ clause → AreMarkedBut marked a.literal slice
    → IsSpareAt known trail marked i
spare known trail marked i clause slice a here ne e s m = λ b p.
    let q : a ≡ b = some_is a b (sym here ∙ p) in
    subst (λ (x : Assigned). (x.reason ≢ 0) × ((c : List Literal) → at known x.reason ≡ Some c → AreMarkedBut marked x.literal c)) q
    (ne, λ c k. subst (AreMarkedBut marked a.literal) (s ∙ some_is clause c (sym e ∙ k)) m)

-- what was kept is chosen
pub chosen_of : (known : List (List Literal)) (trail : List Assigned) (marked clause : List Literal) (n low : ℕ) (last : Literal) (hints : List ℕ)
    → IsReduced known trail marked n last clause low 0 hints → IsChosen trail clause n last clause
chosen_of known trail marked clause n low last hints r = record {
  has_last = r.has_last;
  has_marked = λ l c f. c;
  only = λ l c. elim (r.only l c) as (λ _. (last ≡ l) ⊎ (Contains clause l × Contains (falses (take n trail)) l))
      [ inl e ↦ inl e | inr f ↦ inr (c, f) ];
}

pub low_within : {known : List (List Literal)} {trail : List Assigned} {marked clause : List Literal} {n low i : ℕ} {last : Literal} {hints : List ℕ}
    → IsReduced known trail marked n last clause low i hints → low ≤ n
low_within r = r.is_low.within
