-- Each form by its parts: its faults are noted behind those of its parts.
use Rattle.std.proofs.Common.{◌≡◌, ℕ, suc, ◌+◌, ◌<◌, arith, drop, get_or, drop-cons, true, false, List, ◌∷◌, ◌++◌, map, length, refl, ap, sym, ◌∙◌, Option, Some, None}
use Rattle.std.specs.Prelude.{unwrap_or}
use Rattle.lus_tree.specs.declared.expression.Expr.{Expr}
use Rattle.lus_tree.specs.Tree.{Spelled, Component, Expression, Expressions}
use Rattle.lus_tree.specs.View.{expr_view, joined}
use Rattle.lus_tree.specs.Reason.{Refused}
use Rattle.lus_meaning.specs.Scene.{Clock, base, sampled_by}
use Rattle.lus_meaning.specs.ClockFaults.{clock_in, clock_among, or_else, stands_on}
use Rattle.lus_scopes.specs.Least.{noted_all}
use Rattle.lus_scopes.proofs.Leasts.{noted_append}
use Rattle.lus_clocks.specs.declared.found.Part.{Part}
use Rattle.lus_streams.specs.Clocks.{clocks_seen}
use Rattle.lus_clocks.specs.Parts.{IsPart, stand_notes, fit_notes, fits_on}
use Rattle.lus_clocks.specs.Walk.{pair_own, triple_own, pair_clock, triple_clock, branches_own, condition_own, walk, walk_among, walk_each}
use Rattle.lus_clocks.proofs.Elses.{or_else_of_three}

-- ---- lists noted one behind the other

pub two : (o o1 q : Option Refused) (fs gs : List Refused) → o1 ≡ noted_all o fs → q ≡ noted_all o1 gs → q ≡ noted_all o (fs ++ gs)
two o o1 q fs gs d e = e ∙ ap (λ z. noted_all z gs) d ∙ sym (noted_append o fs gs)

pub three : (o o1 o2 q : Option Refused) (fs gs hs : List Refused) → o1 ≡ noted_all o fs → o2 ≡ noted_all o1 gs → q ≡ noted_all o2 hs
    → q ≡ noted_all o (fs ++ (gs ++ hs))
three o o1 o2 q fs gs hs d e f = two o o1 q fs (gs ++ hs) d (two o1 o2 q gs hs e f)

pub four : (o o1 o2 o3 q : Option Refused) (fs gs hs is : List Refused) → o1 ≡ noted_all o fs → o2 ≡ noted_all o1 gs → o3 ≡ noted_all o2 hs
    → q ≡ noted_all o3 is → q ≡ noted_all o (fs ++ (gs ++ (hs ++ is)))
four o o1 o2 o3 q fs gs hs is d e f g = two o o1 q fs (gs ++ (hs ++ is)) d (three o1 o2 o3 q gs hs is e f g)

-- ---- own faults

module _ (n : Component) where
  pub stand_noted : (c : Clock) (e : Expression) (p : Part) → IsPart n e p → stand_notes c p ≡ stands_on n c e
  stand_noted c e p i = rw (i.clock, i.from) refl

  pub fit_noted : (o : Option Clock) (e : Expression) (p : Part) → IsPart n e p → fit_notes o p ≡ fits_on n o e
  fit_noted None e p i = refl
  fit_noted (Some c) e p i = stand_noted c e p i

  pub pair_is : (a b : Expression) (p q : Part) (k : Option Clock) → IsPart n a p → IsPart n b q
      → k ≡ or_else (clocks_seen p.clock) (clocks_seen q.clock) → k ≡ pair_clock n a b
  pair_is a b p q k i j d = d ∙ ap (λ z. or_else z (clocks_seen q.clock)) i.clock ∙ ap (or_else (clock_in n a)) j.clock

  pub pair_noted : (a b : Expression) (p q : Part) (k : Option Clock) → IsPart n a p → IsPart n b q
      → k ≡ or_else (clocks_seen p.clock) (clocks_seen q.clock) → fit_notes k p ++ fit_notes k q ≡ pair_own n (pair_clock n a b) a b
  pair_noted a b p q k i j d =
      ap (λ z. z ++ fit_notes k q) (fit_noted k a p i) ∙ ap (λ z. fits_on n k a ++ z) (fit_noted k b q j)
      ∙ ap (λ z. pair_own n z a b) (pair_is a b p q k i j d)

  pub triple_is : (a b c : Expression) (p q r : Part) (k : Option Clock) → IsPart n a p → IsPart n b q → IsPart n c r
      → k ≡ or_else (clocks_seen p.clock) (or_else (clocks_seen q.clock) (clocks_seen r.clock)) → k ≡ triple_clock n a b c
  triple_is a b c p q r k i j h d =
      d ∙ ap (λ z. or_else z (or_else (clocks_seen q.clock) (clocks_seen r.clock))) i.clock
      ∙ ap (λ z. or_else (clock_in n a) (or_else z (clocks_seen r.clock))) j.clock
      ∙ ap (λ z. or_else (clock_in n a) (or_else (clock_in n b) z)) h.clock

  pub triple_noted : (a b c : Expression) (p q r : Part) (k : Option Clock) → IsPart n a p → IsPart n b q → IsPart n c r
      → k ≡ or_else (clocks_seen p.clock) (or_else (clocks_seen q.clock) (clocks_seen r.clock))
      → fit_notes k p ++ (fit_notes k q ++ fit_notes k r) ≡ triple_own n (triple_clock n a b c) a b c
  triple_noted a b c p q r k i j h d =
      ap (λ z. z ++ (fit_notes k q ++ fit_notes k r)) (fit_noted k a p i)
      ∙ ap (λ z. fits_on n k a ++ (z ++ fit_notes k r)) (fit_noted k b q j)
      ∙ ap (λ z. fits_on n k a ++ (fits_on n k b ++ z)) (fit_noted k c r h)
      ∙ ap (λ z. triple_own n z a b c) (triple_is a b c p q r k i j h d)

  -- ---- behind the walk of a part

  pub walk_of : (x y : Expression) (o q : Option Refused) → x ≡ y → q ≡ noted_all o (walk n y) → q ≡ noted_all o (walk n x)
  walk_of x y o q e i = rw e i

  pub clock_is : (x y : Expression) (k : Option Clock) → x ≡ y → k ≡ clock_in n y → k ≡ clock_in n x
  clock_is x y k e i = rw e i

  pub pair_behind : (a b : Expression) (p q : Part) (k : Option Clock) (o o1 o2 r : Option Refused) → IsPart n a p → IsPart n b q
      → k ≡ or_else (clocks_seen p.clock) (clocks_seen q.clock) → o1 ≡ noted_all o (walk n a) → o2 ≡ noted_all o1 (walk n b)
      → r ≡ noted_all o2 (fit_notes k p ++ fit_notes k q) → r ≡ noted_all o (walk n a ++ (walk n b ++ pair_own n (pair_clock n a b) a b))
  pair_behind a b p q k o o1 o2 r i j d e f g =
      three o o1 o2 r (walk n a) (walk n b) (pair_own n (pair_clock n a b) a b) e f (g ∙ ap (noted_all o2) (pair_noted a b p q k i j d))

  pub triple_behind : (a b c : Expression) (p q s : Part) (k : Option Clock) (o o1 o2 o3 r : Option Refused) → IsPart n a p → IsPart n b q
      → IsPart n c s → k ≡ or_else (clocks_seen p.clock) (or_else (clocks_seen q.clock) (clocks_seen s.clock)) → o1 ≡ noted_all o (walk n a)
      → o2 ≡ noted_all o1 (walk n b) → o3 ≡ noted_all o2 (walk n c) → r ≡ noted_all o3 (fit_notes k p ++ (fit_notes k q ++ fit_notes k s))
      → r ≡ noted_all o (walk n a ++ (walk n b ++ (walk n c ++ triple_own n (triple_clock n a b c) a b c)))
  triple_behind a b c p q s k o o1 o2 o3 r i j h d e f g l =
      four o o1 o2 o3 r (walk n a) (walk n b) (walk n c) (triple_own n (triple_clock n a b c) a b c) e f g
      (l ∙ ap (noted_all o3) (triple_noted a b c p q s k i j h d))

  pub stand_behind : (k c : Clock) (e : Expression) (p : Part) (o o1 q : Option Refused) → IsPart n e p → k ≡ c → o1 ≡ noted_all o (walk n e)
      → q ≡ noted_all o1 (stand_notes k p) → q ≡ noted_all o (walk n e ++ stands_on n c e)
  stand_behind k c e p o o1 q i d f g =
      two o o1 q (walk n e) (stands_on n c e) f (g ∙ ap (noted_all o1) (stand_noted k e p i ∙ ap (λ z. stands_on n z e) d))

  pub branches_behind : (x : Spelled) (a b : Expression) (p q : Part) (o o1 o2 r : Option Refused) → IsPart n a p → IsPart n b q
      → o1 ≡ noted_all o (walk n a) → o2 ≡ noted_all o1 (walk n b)
      → r ≡ noted_all o2 (stand_notes (sampled_by true x.text) p ++ stand_notes (sampled_by false x.text) q)
      → r ≡ noted_all o (walk n a ++ (walk n b ++ branches_own n x a b))
  branches_behind x a b p q o o1 o2 r i j e f g =
      three o o1 o2 r (walk n a) (walk n b) (branches_own n x a b) e f (g ∙ ap (λ z. noted_all o2
      (z ++ stand_notes (sampled_by false x.text) q)) (stand_noted (sampled_by true x.text) a p i) ∙ ap (λ z. noted_all o2
      (stands_on n (sampled_by true x.text) a ++ z)) (stand_noted (sampled_by false x.text) b q j))

  pub condact_behind : (a : Expression) (as_ ds : Expressions) (p : Part) (k : Option Clock) (l : Clock) (o o1 o2 o3 r : Option Refused) → IsPart n a p
      → k ≡ clock_among n as_ → l ≡ unwrap_or k base → o1 ≡ noted_all o (walk n a) → o2 ≡ noted_all o1 (walk_among n None as_)
      → o3 ≡ noted_all o2 (walk_each n ds) → r ≡ noted_all o3 (stand_notes l p)
      → r ≡ noted_all o (walk n a ++ (walk_among n None as_ ++ (walk_each n ds ++ condition_own n a as_)))
  condact_behind a as_ ds p k l o o1 o2 o3 r i d h e f g m =
      four o o1 o2 o3 r (walk n a) (walk_among n None as_) (walk_each n ds) (condition_own n a as_) e f g
      (m ∙ ap (noted_all o3) (stand_noted l a p i ∙ ap (λ z. stands_on n z a) (h ∙ ap (λ z. unwrap_or z base) d)))

  pub among_behind : (e : Expression) (p : Part) (k l : Option Clock) (o o1 q : Option Refused) → IsPart n e p
      → l ≡ or_else k (clocks_seen p.clock) → o1 ≡ noted_all o (walk n e) → q ≡ noted_all o1 (fit_notes l p)
      → q ≡ noted_all o (walk n e ++ fits_on n (or_else k (clock_in n e)) e)
  among_behind e p k l o o1 q i d f g =
      two o o1 q (walk n e) (fits_on n (or_else k (clock_in n e)) e) f
      (g ∙ ap (noted_all o1) (fit_noted l e p i ∙ ap (λ z. fits_on n z e) (d ∙ ap (or_else k) i.clock)))

  -- ---- values

  pub among_step : (xs : List Expr) (i : ℕ) (x : Expr) (k k' : Option Clock) (o o' : Option Refused) → i < length xs → x ≡ get_or xs i x
      → k' ≡ or_else k (clock_in n (expr_view x))
      → o' ≡ noted_all o (walk n (expr_view x) ++ fits_on n (or_else k (clock_in n (expr_view x))) (expr_view x))
      → noted_all o' (walk_among n k' (joined (map expr_view (drop (i + 1) xs)))) ≡ noted_all o (walk_among n k (joined (map expr_view (drop i xs))))
  among_step xs i x k k' o o' h e d g =
      let a : i + 1 ≡ suc i = omega arith in
      let l : drop i xs ≡ x ∷ drop (suc i) xs = drop-cons xs i x h ∙ ap (λ y. y ∷ drop (suc i) xs) (sym e) in
      let c : Option Clock = or_else k (clock_in n (expr_view x)) in
      let own : List Refused = walk n (expr_view x) ++ fits_on n c (expr_view x) in
      let rest : Expressions = joined (map expr_view (drop (suc i) xs)) in
      rw a
      (ap (λ z. noted_all o' (walk_among n z rest)) d ∙ ap (λ z. noted_all z (walk_among n c rest)) g
      ∙ sym (noted_append o own (walk_among n c rest))
      ∙ ap (λ ys. noted_all o (walk_among n k (joined (map expr_view ys)))) (sym l))

  pub clock_step : (xs : List Expr) (i : ℕ) (x : Expr) (k k' : Option Clock) → i < length xs → x ≡ get_or xs i x
      → k' ≡ or_else k (clock_in n (expr_view x))
      → or_else k' (clock_among n (joined (map expr_view (drop (i + 1) xs)))) ≡ or_else k (clock_among n (joined (map expr_view (drop i xs))))
  clock_step xs i x k k' h e d =
      let a : i + 1 ≡ suc i = omega arith in
      let l : drop i xs ≡ x ∷ drop (suc i) xs = drop-cons xs i x h ∙ ap (λ y. y ∷ drop (suc i) xs) (sym e) in
      let rest : Option Clock = clock_among n (joined (map expr_view (drop (suc i) xs))) in
      rw a
      (ap (λ z. or_else z rest) d ∙ or_else_of_three k (clock_in n (expr_view x)) rest
      ∙ ap (λ ys. or_else k (clock_among n (joined (map expr_view ys)))) (sym l))

  pub each_step : (xs : List Expr) (i : ℕ) (x : Expr) (o o' : Option Refused) → i < length xs → x ≡ get_or xs i x
      → o' ≡ noted_all o (walk n (expr_view x))
      → noted_all o' (walk_each n (joined (map expr_view (drop (i + 1) xs)))) ≡ noted_all o (walk_each n (joined (map expr_view (drop i xs))))
  each_step xs i x o o' h e g =
      let a : i + 1 ≡ suc i = omega arith in
      let l : drop i xs ≡ x ∷ drop (suc i) xs = drop-cons xs i x h ∙ ap (λ y. y ∷ drop (suc i) xs) (sym e) in
      let rest : Expressions = joined (map expr_view (drop (suc i) xs)) in
      rw a
      (ap (λ z. noted_all z (walk_each n rest)) g ∙ sym (noted_append o (walk n (expr_view x)) (walk_each n rest))
      ∙ ap (λ ys. noted_all o (walk_each n (joined (map expr_view ys)))) (sym l))
