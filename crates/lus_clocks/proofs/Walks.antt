-- The faults that are noted of an expression are those of the definition: the same are in both lists.
use Rattle.std.proofs.Common.{◌≡◌, ℕ, ◌+◌, Bool, true, false, List, [], ◌∷◌, ◌++◌, flat_map, refl, ap, sym, ◌∙◌, arith, Option, Some, None}
use Rattle.std.proofs.lemmas.List.{append-nil}
use Rattle.lus_tree.specs.Tree.{Component, Expression, Expressions, truth, number, name, negation, minus, pre, arrow, binary, choice, sampled, merged, call, condact, mode_name, no_more, more}
use Rattle.lus_tree.specs.Reason.{Refused}
use Rattle.lus_meaning.specs.Scene.{Clock, sampled_by, clock_of}
use Rattle.lus_meaning.specs.Program.{listed}
use Rattle.lus_meaning.specs.Occurrences.{Standing, on_clock, within, before, moved, Occurrence, occurs, occurrences, occurrences_among}
use Rattle.lus_meaning.specs.ClockFaults.{clock_in, clock_among, or_else, stands_on, all_on, clock_form_faults, clock_faults_of}
use Rattle.lus_scopes.proofs.Walks.{failing, failing_append}
use Rattle.lus_clocks.specs.Parts.{fits_on}
use Rattle.lus_clocks.specs.Walk.{pair_own, triple_own, pair_clock, triple_clock, branches_own, condition_own, walk, walk_among, walk_each}

module _ (p : Refused → Bool) (n : Component) where
  -- those of the definition, counted
  abbrev own : Occurrence → List Refused
  own o = clock_form_faults n o.expression

  abbrev counted : List Occurrence → ℕ
  counted os = failing p (flat_map own os)

  counted_append : (xs ys : List Occurrence) → counted (xs ++ ys) ≡ counted xs + counted ys
  counted_append [] ys = omega arith
  counted_append (x ∷ xs) ys =
      let a : failing p (own x ++ flat_map own (xs ++ ys)) ≡ failing p (own x) + counted (xs ++ ys) = failing_append p (own x) (flat_map own (xs ++ ys)) in
      let b : failing p (own x ++ flat_map own xs) ≡ failing p (own x) + counted xs = failing_append p (own x) (flat_map own xs) in
      omega (arith, a, b, counted_append xs ys)

  counted_first : (t : Standing) (e : Expression) (os : List Occurrence) → counted (occurs t e ∷ os) ≡ failing p (clock_form_faults n e) + counted os
  counted_first t e os = failing_append p (clock_form_faults n e) (flat_map own os)

  -- ---- a part's own

  pair_same : (o : Option Clock) (a b : Expression) → failing p (pair_own n o a b) ≡ failing p (all_on n o (a ∷ b ∷ []))
  pair_same None a b = refl
  pair_same (Some c) a b = ap (λ z. failing p (stands_on n c a ++ z)) (sym (append-nil (stands_on n c b)))

  triple_same : (o : Option Clock) (a b c : Expression) → failing p (triple_own n o a b c) ≡ failing p (all_on n o (a ∷ b ∷ c ∷ []))
  triple_same None a b c = refl
  triple_same (Some k) a b c = ap (λ z. failing p (stands_on n k a ++ (stands_on n k b ++ z))) (sym (append-nil (stands_on n k c)))

  on_first : (o k d : Option Clock) (a : Expression) (es : List Expression) → k ≡ clock_in n a → failing p (all_on n (or_else o (or_else k d)) (a ∷ es))
      ≡ failing p (fits_on n (or_else o k) a) + failing p (all_on n (or_else (or_else o k) d) es)
  on_first (Some c) k d a es e = failing_append p (stands_on n c a) (flat_map (stands_on n c) es)
  on_first None (Some c) d a es e = failing_append p (stands_on n c a) (flat_map (stands_on n c) es)
  on_first None None None a es e = refl
  on_first None None (Some c) a es e = rw (sym e) (omega arith)

  -- ---- sums

  two_parts : (w a b m E F : ℕ) (x : ℕ) → w ≡ a + (b + m) → a ≡ E → b ≡ F → x ≡ E + (m + F) → w ≡ x
  two_parts w a b m E F x e i j g = omega arith

  three_append : (xs ys zs : List Refused) → failing p (xs ++ (ys ++ zs)) ≡ failing p xs + (failing p ys + failing p zs)
  three_append xs ys zs = failing_append p xs (ys ++ zs) ∙ ap (λ z. failing p xs + z) (failing_append p ys zs)

  four_append : (xs ys zs us : List Refused) → failing p (xs ++ (ys ++ (zs ++ us))) ≡ failing p xs + (failing p ys + (failing p zs + failing p us))
  four_append xs ys zs us = failing_append p xs (ys ++ (zs ++ us)) ∙ ap (λ z. failing p xs + z) (three_append ys zs us)

  mutual
    pub walked : (t : Standing) (e : Expression) → failing p (walk n e) ≡ failing p (flat_map (λ o. clock_form_faults n o.expression) (occurrences n t e))
    walked t (truth q b) = refl
    walked t (number q k) = refl
    walked t (name q x) = refl
    walked t (negation q a) = walked (within t) a
    walked t (minus q a) = walked (within t) a
    walked t (pre q k a) = walked (before t) a
    walked t (arrow q k a b) =
        two_parts (failing p (walk n (arrow q k a b))) (failing p (walk n a)) (failing p (walk n b)) (failing p (all_on n (pair_clock n a b) (a ∷ b ∷ [])))
        (counted (occurrences n (within t) a)) (counted (occurrences n (within t) b)) (counted (occurrences n t (arrow q k a b)))
        (three_append (walk n a) (walk n b) (pair_own n (pair_clock n a b) a b)
        ∙ ap (λ z. failing p (walk n a) + (failing p (walk n b) + z)) (pair_same (pair_clock n a b) a b))
        (walked (within t) a) (walked (within t) b)
        (counted_append (occurrences n (within t) a) (occurs t (arrow q k a b) ∷ occurrences n (within t) b)
        ∙ ap (λ z. counted (occurrences n (within t) a) + z) (counted_first t (arrow q k a b) (occurrences n (within t) b)))
    walked t (binary q o a b) =
        two_parts (failing p (walk n (binary q o a b))) (failing p (walk n a)) (failing p (walk n b)) (failing p (all_on n (pair_clock n a b) (a ∷ b ∷ [])))
        (counted (occurrences n (within t) a)) (counted (occurrences n (within t) b)) (counted (occurrences n t (binary q o a b)))
        (three_append (walk n a) (walk n b) (pair_own n (pair_clock n a b) a b)
        ∙ ap (λ z. failing p (walk n a) + (failing p (walk n b) + z)) (pair_same (pair_clock n a b) a b))
        (walked (within t) a) (walked (within t) b)
        (counted_append (occurrences n (within t) a) (occurs t (binary q o a b) ∷ occurrences n (within t) b)
        ∙ ap (λ z. counted (occurrences n (within t) a) + z) (counted_first t (binary q o a b) (occurrences n (within t) b)))
    walked t (choice q a b c) = omega (
      arith,
      four_append (walk n a) (walk n b) (walk n c) (triple_own n (triple_clock n a b c) a b c),
      triple_same (triple_clock n a b c) a b c,
      walked (within t) a,
      walked (within t) b,
      walked (within t) c,
      counted_first t (choice q a b c) (occurrences n (within t) a ++ (occurrences n (within t) b ++ occurrences n (within t) c)),
      counted_append (occurrences n (within t) a) (occurrences n (within t) b ++ occurrences n (within t) c),
      counted_append (occurrences n (within t) b) (occurrences n (within t) c),
    )
    walked t (sampled q a b x) =
        let k : Clock = clock_of n x.text in
        omega (
          arith,
          failing_append p (walk n a) (stands_on n k a),
          walked (moved k t) a,
          counted_append (occurrences n (moved k t) a) (occurs t (sampled q a b x) ∷ []),
          counted_first t (sampled q a b x) [],
        )
    walked t (merged q x a b) =
        let k : Standing = moved (sampled_by true x.text) t in
        let l : Standing = moved (sampled_by false x.text) t in
        omega (
          arith,
          three_append (walk n a) (walk n b) (branches_own n x a b),
          walked k a,
          walked l b,
          counted_first t (merged q x a b) (occurrences n k a ++ occurrences n l b),
          counted_append (occurrences n k a) (occurrences n l b),
        )
    walked t (call q k f as_) =
        walked_among (within t) None as_ ∙ sym (counted_first t (call q k f as_) (occurrences_among n (within t) as_))
    walked t (condact q k a f as_ ds) = omega (
      arith,
      four_append (walk n a) (walk_among n None as_) (walk_each n ds) (condition_own n a as_),
      walked (within t) a,
      walked_among (within t) None as_,
      walked_each (within t) ds,
      failing_append p (all_on n (clock_among n as_) (listed as_)) (condition_own n a as_),
      counted_first t (condact q k a f as_ ds) (occurrences n (within t) a ++ (occurrences_among n (within t) as_ ++ occurrences_among n (within t) ds)),
      counted_append (occurrences n (within t) a) (occurrences_among n (within t) as_ ++ occurrences_among n (within t) ds),
      counted_append (occurrences_among n (within t) as_) (occurrences_among n (within t) ds),
    )
    walked t (mode_name q d m) = refl

    walked_among : (t : Standing) (o : Option Clock) (as_ : Expressions) → failing p (walk_among n o as_)
        ≡ failing p (all_on n (or_else o (clock_among n as_)) (listed as_)) + counted (occurrences_among n t as_)
    walked_among t None no_more = refl
    walked_among t (Some c) no_more = refl
    walked_among t o (more a as_) =
        let k : Option Clock = or_else o (clock_in n a) in
        omega (
          arith,
          failing_append p (walk n a ++ fits_on n k a) (walk_among n k as_),
          failing_append p (walk n a) (fits_on n k a),
          walked t a,
          walked_among t k as_,
          on_first o (clock_in n a) (clock_among n as_) a (listed as_) refl,
          counted_append (occurrences n t a) (occurrences_among n t as_),
        )

    walked_each : (t : Standing) (as_ : Expressions) → failing p (walk_each n as_) ≡ counted (occurrences_among n t as_)
    walked_each t no_more = refl
    walked_each t (more a as_) = omega (
      arith,
      failing_append p (walk n a) (walk_each n as_),
      walked t a,
      walked_each t as_,
      counted_append (occurrences n t a) (occurrences_among n t as_),
    )

  -- an expression at a place of that clock
  pub placed : (c : Clock) (e : Expression) → failing p (walk n e ++ stands_on n c e) ≡ failing p (clock_faults_of n c e)
  placed c e = omega (
    arith,
    failing_append p (walk n e) (stands_on n c e),
    failing_append p (stands_on n c e) (flat_map own (occurrences n (on_clock c) e)),
    walked (on_clock c) e,
  )
