-- Parts that wait for the same are evaluated in turn, and a part that comes out of turn waits for the one before it.
use Rattle.std.proofs.Common.{◌≡◌, ℕ, Bool, true, false, ◌||◌, eqb, List, [], ◌∷◌, ◌++◌, length, Some, slice_get, refl, ap, ◌∙◌, sym, subst, append_assoc}
use Rattle.std.proofs.Math.Logic.{◌⊎◌, inl, inr}
use Rattle.std.proofs.lemmas.Bool.{true≢false, false≢true, cases_Bool, eqb-true}
use Rattle.std.proofs.lemmas.List.Folds.{list_any-append}
use Rattle.lus_meaning.specs.Order.{is_listed, IsReady, IsNext, AreNext}
use Rattle.lus_meaning.specs.Scene.{Instance}
use Rattle.lus_evaluation.specs.Part.{Part}
use Rattle.lus_evaluation.specs.Evaluation.{is_above, NeedsPlace, place_named, Waits}
use Rattle.lus_evaluation.specs.Laws.{TurnKept, LateComesBehind}

module _ (count : ℕ) (Needs : ℕ → ℕ → Type 0) where
  -- each number is the next behind those before it
  pub next_at : (done before : List ℕ) (k : ℕ) (after : List ℕ) → AreNext count Needs done (before ++ k ∷ after) →
      IsNext count Needs (done ++ before) k
  next_at done [] k after a = subst (λ d. IsNext count Needs d k) (sym (nothing done)) a.0
    where
      nothing : (d : List ℕ) → d ++ [] ≡ d
      nothing [] = refl
      nothing (x ∷ d) = rw (nothing d) refl
  next_at done (j ∷ before) k after a =
      subst (λ d. IsNext count Needs d k) (append_assoc done (j ∷ []) before) (next_at (done ++ j ∷ []) before k after a.1)

-- ---- in turn

same_part : (p q : Part) → Some p ≡ Some q → p ≡ q
same_part p q e = cc

waits_as : (i : Instance) (ps : List Part) (first second j : ℕ) (p q : Part) → slice_get ps first ≡ Some p → slice_get ps second ≡ Some q →
    p.way ≡ q.way → p.needs ≡ q.needs → Waits i ps first j → Waits i ps second j
waits_as i ps first second j p q e h w n r =
    let s : r.waiting ≡ p = same_part r.waiting p (sym r.is_there ∙ e) in
    record {
      waiting = q;
      is_there = h;
      way = r.way;
      name = r.name;
      above = subst (λ v. is_above r.way v ≡ true) (ap (λ x. x.way) s ∙ w) r.above;
      given = r.given;
      needed = subst (λ v. NeedsPlace i v (place_named r.way r.name)) (ap (λ x. x.needs) s ∙ n) r.needed;
    }

pub turn_kept : TurnKept
turn_kept i ps ks o first second p q e h l w n before after d = go (cases_Bool (is_listed before first))
  where
    next : IsNext (length ps) (Waits i ps) before second
    next = next_at (length ps) (Waits i ps) [] before second after (subst (AreNext (length ps) (Waits i ps) []) d o.next)

    ready : IsReady (length ps) (Waits i ps) before first
    ready j b r = next.ready j b (waits_as i ps first second j p q e h w n r)

    go : (is_listed before first ≡ true) ⊎ (is_listed before first ≡ false) → is_listed before first ≡ true
    go (inl t) = t
    go (inr f) = absurd (next.least first l f ready)

-- ---- out of turn

pub late_comes_behind : LateComesBehind
late_comes_behind i ps ks o late given before after d l none = given_next.least late l new ready
  where
    all : AreNext (length ps) (Waits i ps) [] (before ++ given ∷ late ∷ after)
    all = subst (AreNext (length ps) (Waits i ps) []) d o.next

    given_next : IsNext (length ps) (Waits i ps) before given
    given_next = next_at (length ps) (Waits i ps) [] before given (late ∷ after) all

    late_next : IsNext (length ps) (Waits i ps) (before ++ given ∷ []) late
    late_next = next_at (length ps) (Waits i ps) [] (before ++ given ∷ []) late after
        (subst (AreNext (length ps) (Waits i ps) []) (sym (append_assoc before (given ∷ []) (late ∷ after))) all)

    first_false : (a b : Bool) → (a || b) ≡ false → a ≡ false
    first_false true b e = absurd (true≢false e)
    first_false false b e = refl

    new : is_listed before late ≡ false
    new = first_false (is_listed before late) (is_listed (given ∷ []) late) (sym (list_any-append (eqb late) before (given ∷ [])) ∙ late_next.new)

    split : (j : ℕ) → Waits i ps late j → (is_listed before j ≡ true) ⊎ (is_listed before j ≡ false) →
        is_listed (before ++ given ∷ []) j ≡ true →
        is_listed before j ≡ true
    split j w (inl t) e = t
    split j w (inr f) e =
        let same : j ≡ given =
        eqb-true j given (last (is_listed before j) (eqb j given) f (sym (list_any-append (eqb j) before (given ∷ [])) ∙ e)) in
        absurd (none (subst (Waits i ps late) same w))
      where
        last : (a b : Bool) → a ≡ false → (a || (b || false)) ≡ true → b ≡ true
        last true b h e = absurd (true≢false h)
        last false true h e = refl
        last false false h e = absurd (false≢true e)

    ready : IsReady (length ps) (Waits i ps) before late
    ready j b w = split j w (cases_Bool (is_listed before j)) (late_next.ready j b w)
