-- Each form by its parts: what is known of it, and that its faults are noted behind those of its parts.
use Rattle.std.proofs.Common.{◌≡◌, ℕ, suc, ◌+◌, ◌<◌, arith, drop, get_or, drop-cons, Bool, true, false, ◌&&◌, ◌||◌, List, ◌∷◌, ◌++◌, ap, sym, ◌∙◌, Option, Some, None, map, length}
use Rattle.std.specs.Prelude.{option_and_then, slice_get}
use Rattle.lus_tree.specs.declared.place.Sort.TheVariants.{Bool as Flags, Int as Numbers}
use Rattle.lus_tree.specs.declared.expression.Operator.{Operator}
use Rattle.lus_tree.specs.declared.expression.Expr.{Expr}
use Rattle.lus_tree.specs.Tree.{Place, Spelled, Expression, minus, pre, arrow, binary, choice, sampled, merged, call, condact, mode_name, Variable, Component}
use Rattle.lus_tree.specs.View.{expr_view, joined}
use Rattle.lus_tree.specs.declared.place.Sort.{Sort}
use Rattle.lus_tree.specs.Reason.{Refused, type_clash}
use Rattle.lus_meaning.specs.Occurrences.{begin}
use Rattle.lus_meaning.specs.Faults.{if_so, differ}
use Rattle.lus_meaning.specs.Run.{sort_of_operator}
use Rattle.lus_meaning.specs.Value.{minus_value}
use Rattle.lus_meaning.specs.Scope.{Scope, Worth, worth, weighing, greater, choice_worth, operator_worth, worth_of, is_constant, only_sort, node_named, type_of}
use Rattle.lus_meaning.specs.ExpressionFaults.{used_as_clock, needs_sort, agree}
use Rattle.lus_scopes.specs.declared.found.Part.{Part}
use Rattle.lus_scopes.specs.Cut.{cut_worth}
use Rattle.lus_scopes.specs.Worth.{worth_view}
use Rattle.lus_scopes.specs.Made.{IsMade}
use Rattle.lus_scopes.specs.Least.{noted_all}
use Rattle.lus_scopes.specs.Parts.{IsPart, sort_notes, agree_notes, operator_notes}
use Rattle.lus_scopes.specs.Walk.{walk, walk_among, whole_walk, fits_stream, inputs_for, outputs_for, call_own, default_own, is_division, operator_own}
use Rattle.lus_scopes.proofs.Leasts.{noted_append}
use Rattle.lus_scopes.proofs.Parts.{sort_noted, agree_noted, operator_noted}
use Rattle.lus_scopes.proofs.CallParts.{count_listed}
use Rattle.lus_scopes.proofs.CutWorths.{minus_of_cut, either_of_cut, operator_of_cut, choice_of_cut}

-- ---- what is known

module _ (s : Scope) where
  -- of an expression that is that one
  pub part_of : (x y : Expression) (r : Part) → x ≡ y → IsPart s y r → IsPart s x r
  part_of x y r e i = rw e i

  pub minus_is : (pl : Place) (a : Expression) (p r : Part) → IsPart s a p → IsMade pl.from (Some Numbers) p.constant
      (worth (minus_value (worth_view p.worth).value) (worth_view p.worth).weight) r → IsPart s (minus pl a) r
  minus_is pl a p r i m = record {
    from = m.from;
    sort = m.sort;
    constant = m.constant ∙ i.constant;
    worth = m.worth ∙ ap
        (λ (w : Worth). worth (minus_value w.value) w.weight) i.worth ∙ minus_of_cut (worth_of s a);
  }

  pub pre_is : (pl : Place) (k : ℕ) (a : Expression) (p r : Part) → IsPart s a p → IsMade pl.from p.sort false (weighing (Some 1)) r → IsPart s (pre pl k a) r
  pre_is pl k a p r i m = record { from = m.from; sort = m.sort ∙ i.sort; constant = m.constant; worth = m.worth }

  either_is : (a b : Expression) (p q : Part) → IsPart s a p → IsPart s b q → cut_worth
      (weighing (greater (worth_view p.worth).weight (worth_view q.worth).weight)) ≡ cut_worth
      (weighing (greater (worth_of s a).weight (worth_of s b).weight))
  either_is a b p q i j =
      ap (λ (u : Worth). cut_worth (weighing (greater u.weight (worth_view q.worth).weight))) i.worth ∙ ap
      (λ (u : Worth). cut_worth (weighing (greater (cut_worth (worth_of s a)).weight u.weight))) j.worth
      ∙ either_of_cut (worth_of s a) (worth_of s b)

  pub arrow_is : (pl : Place) (k : ℕ) (a b : Expression) (p q r : Part) → IsPart s a p → IsPart s b q → IsMade pl.from p.sort false
      (cut_worth (weighing (greater (worth_view p.worth).weight (worth_view q.worth).weight))) r → IsPart s (arrow pl k a b) r
  arrow_is pl k a b p q r i j m = record { from = m.from; sort = m.sort ∙ i.sort; constant = m.constant; worth = m.worth ∙ either_is a b p q i j }

  pub merged_is : (pl : Place) (x : Spelled) (a b : Expression) (p q r : Part) → IsPart s a p → IsPart s b q → IsMade pl.from p.sort false
      (cut_worth (weighing (greater (worth_view p.worth).weight (worth_view q.worth).weight))) r → IsPart s (merged pl x a b) r
  merged_is pl x a b p q r i j m = record { from = m.from; sort = m.sort ∙ i.sort; constant = m.constant; worth = m.worth ∙ either_is a b p q i j }

  pub operator_is : (pl : Place) (o : Operator) (a b : Expression) (p q r : Part) → IsPart s a p → IsPart s b q →
      IsMade pl.from (Some (sort_of_operator o)) (p.constant && q.constant)
      (cut_worth (operator_worth o p.constant (worth_view p.worth) (worth_view q.worth))) r → IsPart s (binary pl o a b) r
  operator_is pl o a b p q r i j m = record {
    from = m.from;
    sort = m.sort;
    constant = m.constant ∙ ap (λ c. c && q.constant) i.constant ∙ ap (λ c. is_constant s a && c) j.constant;
    worth =
        m.worth ∙ ap (λ c. cut_worth (operator_worth o c (worth_view p.worth) (worth_view q.worth))) i.constant ∙ ap
        (λ u. cut_worth (operator_worth o (is_constant s a) u (worth_view q.worth))) i.worth
        ∙ ap (λ u. cut_worth (operator_worth o (is_constant s a) (cut_worth (worth_of s a)) u)) j.worth ∙ operator_of_cut o
        (is_constant s a) (worth_of s a) (worth_of s b);
  }

  pub choice_is : (pl : Place) (a b d : Expression) (p q t r : Part) → IsPart s a p → IsPart s b q → IsPart s d t →
      IsMade pl.from q.sort (p.constant && (q.constant && t.constant))
      (cut_worth (choice_worth (worth_view p.worth) (worth_view q.worth) (worth_view t.worth))) r → IsPart s (choice pl a b d) r
  choice_is pl a b d p q t r i j k m = record {
    from = m.from;
    sort = m.sort ∙ j.sort;
    constant = m.constant ∙ ap (λ c. c && (q.constant && t.constant)) i.constant ∙ ap (λ c. is_constant s a && (c && t.constant)) j.constant
        ∙ ap (λ c. is_constant s a && (is_constant s b && c)) k.constant;
    worth =
        m.worth ∙ ap (λ u. cut_worth (choice_worth u (worth_view q.worth) (worth_view t.worth))) i.worth ∙ ap
        (λ u. cut_worth (choice_worth (cut_worth (worth_of s a)) u (worth_view t.worth))) j.worth
        ∙ ap (λ u. cut_worth (choice_worth (cut_worth (worth_of s a)) (cut_worth (worth_of s b)) u)) k.worth ∙ choice_of_cut (worth_of s a)
        (worth_of s b) (worth_of s d);
  }

  pub condact_is : (pl : Place) (k : ℕ) (a : Expression) (f : Spelled) (es ds : List Expr) (n : Option Component) (r : Part)
      → n ≡ node_named s.program f.text → IsMade pl.from (option_and_then (λ n. only_sort n.outputs) n) false (weighing (Some 1)) r →
      IsPart s (condact pl k a f (joined (map expr_view es)) (joined (map expr_view ds))) r
  condact_is pl k a f es ds n r e m = record {
    from = m.from;
    sort = m.sort ∙ ap
        (option_and_then (λ n. only_sort n.outputs)) e;
    constant = m.constant;
    worth = m.worth;
  }

  pub mode_is : (pl : Place) (c : Option Spelled) (m : Spelled) (r : Part) → IsMade pl.from (Some Flags) false (weighing None) r → IsPart s (mode_name pl c m) r
  mode_is pl c m r d = record { from = d.from; sort = d.sort; constant = d.constant; worth = d.worth }

-- ---- what is noted

-- first these, and then those
then : (o p q : Option Refused) (fs gs : List Refused) → p ≡ noted_all o fs → q ≡ noted_all p gs → q ≡ noted_all o (fs ++ gs)
then o p q fs gs e f = f ∙ ap (λ z. noted_all z gs) e ∙ sym (noted_append o fs gs)

module _ (s : Scope) (w k : Bool) where
  pub walk_of : (x y : Expression) (o q : Option Refused) → x ≡ y → q ≡ noted_all o (walk s w k y) → q ≡ noted_all o (walk s w k x)
  walk_of x y o q e i = rw e i

  pub arrow_noted : (pl : Place) (n : ℕ) (a b : Expression) (p p' : Part) (o o1 o2 q : Option Refused) → IsPart s a p → IsPart s b p'
      → o1 ≡ noted_all o (whole_walk s false k a) → o2 ≡ noted_all o1 (whole_walk s false k b) → q ≡ noted_all o2 (agree_notes p p') →
      q ≡ noted_all o (walk s w k (arrow pl n a b))
  arrow_noted pl n a b p p' o o1 o2 q i j e f g =
      then o o1 q (whole_walk s false k a) (whole_walk s false k b ++ agree s a b) e
      (then o1 o2 q (whole_walk s false k b) (agree s a b) f (g ∙ ap (noted_all o2) (agree_noted s a b p p' i j)))

  pub operator_noted_all : (pl : Place) (c : Operator) (a b : Expression) (p p' : Part) (h : Bool) (o o1 o2 q : Option Refused)
      → IsPart s a p → IsPart s b p' → h ≡ (k || is_division c) → o1 ≡ noted_all o (whole_walk s false k a) → o2 ≡ noted_all o1
      (whole_walk s false h b) →
      q ≡ noted_all o2 (operator_notes pl.at c p p') → q ≡ noted_all o (walk s w k (binary pl c a b))
  operator_noted_all pl c a b p p' h o o1 o2 q i j d e f g =
      then o o1 q (whole_walk s false k a) (whole_walk s false (k || is_division c) b ++ operator_own s pl.at c a b) e
      (then o1 o2 q (whole_walk s false (k || is_division c) b) (operator_own s pl.at c a b)
      (f ∙ ap (λ z. noted_all o1 (whole_walk s false z b)) d) (g ∙ ap (noted_all o2) (operator_noted s pl.at c a b p p' i j)))

  pub choice_noted : (pl : Place) (a b d : Expression) (p p' t : Part) (o o1 o2 o3 q : Option Refused) → IsPart s a p → IsPart s b p'
      → IsPart s d t → o1 ≡ noted_all o (whole_walk s false k a) → o2 ≡ noted_all o1 (whole_walk s false k b) →
      o3 ≡ noted_all o2 (whole_walk s false k d) → q ≡ noted_all o3 (sort_notes Flags p ++ agree_notes p' t) → q ≡ noted_all o (walk s w k (choice pl a b d))
  choice_noted pl a b d p p' t o o1 o2 o3 q i j l e f g h =
      then o o1 q (whole_walk s false k a) (whole_walk s false k b ++ (whole_walk s false k d ++ (needs_sort s Flags a ++ agree s b d))) e
      (then o1 o2 q (whole_walk s false k b) (whole_walk s false k d ++ (needs_sort s Flags a ++ agree s b d)) f
      (then o2 o3 q (whole_walk s false k d) (needs_sort s Flags a ++ agree s b d) g
      (h ∙ ap (λ fs. noted_all o3 (fs ++ agree_notes p' t)) (sort_noted s Flags a p i) ∙ ap
      (λ fs. noted_all o3 (needs_sort s Flags a ++ fs)) (agree_noted s b d p' t j l))))

  pub sampled_noted : (pl : Place) (a : Expression) (b : Bool) (x : Spelled) (o o1 q : Option Refused) → o1 ≡ noted_all o
      (whole_walk s false k a) → q ≡ noted_all o1 (used_as_clock s x) → q ≡ noted_all o (walk s w k (sampled pl a b x))
  sampled_noted pl a b x o o1 q e f = then o o1 q (whole_walk s false k a) (used_as_clock s x) e f

  pub merged_noted : (pl : Place) (x : Spelled) (a b : Expression) (p p' : Part) (o o1 o2 q : Option Refused) → IsPart s a p → IsPart s b p'
      → o1 ≡ noted_all o (whole_walk s false k a) → o2 ≡ noted_all o1 (whole_walk s false k b) → q ≡ noted_all o2
      (used_as_clock s x ++ agree_notes p p') →
      q ≡ noted_all o (walk s w k (merged pl x a b))
  merged_noted pl x a b p p' o o1 o2 q i j e f g =
      then o o1 q (whole_walk s false k a) (whole_walk s false k b ++ (used_as_clock s x ++ agree s a b)) e
      (then o1 o2 q (whole_walk s false k b) (used_as_clock s x ++ agree s a b) f
      (g ∙ ap (λ fs. noted_all o2 (used_as_clock s x ++ fs)) (agree_noted s a b p p' i j)))

  pub call_noted : (pl : Place) (m : ℕ) (f : Spelled) (es : List Expr) (n : Option Component) (o o1 q : Option Refused)
      → n ≡ node_named s.program f.text → o1 ≡ noted_all o
      (walk_among s k (inputs_for (node_named s.program f.text) (length es)) 0 (joined (map expr_view es))) →
      q ≡ noted_all o1 (call_own w f (length es) n) → q ≡ noted_all o (walk s w k (call pl m f (joined (map expr_view es))))
  call_noted pl m f es n o o1 q d e g =
      rw (count_listed es)
      (then o o1 q (walk_among s k (inputs_for (node_named s.program f.text) (length es)) 0 (joined (map expr_view es)))
      (call_own w f (length es) (node_named s.program f.text)) e (g ∙ ap (λ z. noted_all o1 (call_own w f (length es) z)) d))

  pub condact_noted : (pl : Place) (m : ℕ) (a : Expression) (f : Spelled) (es ds : List Expr) (n : Option Component)
      (given held : ℕ) (o o1 o2 o3 q : Option Refused) → n ≡ node_named s.program f.text → given ≡ length es → held ≡ length ds →
      o1 ≡ noted_all o (whole_walk s false k a ++ needs_sort s Flags a) → o2 ≡ noted_all o1
      (walk_among s k (inputs_for (node_named s.program f.text) (length es)) 0 (joined (map expr_view es))) → o3 ≡ noted_all o2
      (walk_among s true (outputs_for n (length ds)) 0 (joined (map expr_view ds))) →
      q ≡ noted_all o3 (call_own w f given n ++ default_own f held n) → q ≡ noted_all o
      (walk s w k (condact pl m a f (joined (map expr_view es)) (joined (map expr_view ds))))
  condact_noted pl m a f es ds n given held o o1 o2 o3 q d gs hs e g h l =
      rw (count_listed es, count_listed ds, sym d)
      (then o o1 q (whole_walk s false k a ++ needs_sort s Flags a)
      (walk_among s k (inputs_for n (length es)) 0 (joined (map expr_view es)) ++
      (walk_among s true (outputs_for n (length ds)) 0 (joined (map expr_view ds)) ++
      (call_own w f (length es) n ++ default_own f (length ds) n))) e
      (then o1 o2 q (walk_among s k (inputs_for n (length es)) 0 (joined (map expr_view es)))
      (walk_among s true (outputs_for n (length ds)) 0 (joined (map expr_view ds)) ++
      (call_own w f (length es) n ++ default_own f (length ds) n))
      (g ∙ ap (λ z. noted_all o1 (walk_among s k (inputs_for z (length es)) 0 (joined (map expr_view es)))) (sym d))
      (then o2 o3 q (walk_among s true (outputs_for n (length ds)) 0 (joined (map expr_view ds)))
      (call_own w f (length es) n ++ default_own f (length ds) n) h
      (l ∙ ap (λ z. noted_all o3 (call_own w f z n ++ default_own f held n)) gs ∙ ap
      (λ z. noted_all o3 (call_own w f (length es) n ++ default_own f z n)) hs))))

-- ---- values

pub values_step : (s : Scope) (k : Bool) (vs : List Variable) (xs : List Expr) (i : ℕ) (x : Expr) (o o' : Option Refused) → i < length xs → x ≡ get_or xs i x →
    o' ≡ noted_all o (whole_walk s false k (expr_view x) ++ fits_stream s (slice_get vs i) (expr_view x)) →
    noted_all o' (walk_among s k vs (i + 1) (joined (map expr_view (drop (i + 1) xs)))) ≡ noted_all o (walk_among s k vs i (joined (map expr_view (drop i xs))))
values_step s k vs xs i x o o' h e g =
    let a : i + 1 ≡ suc i = omega arith in
    let l : drop i xs ≡ x ∷ drop (suc i) xs = drop-cons xs i x h ∙ ap (λ y. y ∷ drop (suc i) xs) (sym e) in
    rw a
    (ap (λ z. noted_all z (walk_among s k vs (suc i) (joined (map expr_view (drop (suc i) xs))))) g
    ∙ sym (noted_append o (whole_walk s false k (expr_view x) ++ fits_stream s (slice_get vs i) (expr_view x))
    (walk_among s k vs (suc i) (joined (map expr_view (drop (suc i) xs)))))
    ∙ ap (λ ys. noted_all o (walk_among s k vs i (joined (map expr_view ys)))) (sym l))

-- ---- behind an expression

pub sort_behind : (s : Scope) (q : Sort) (e : Expression) (p : Part) (fs : List Refused) (o o1 o2 : Option Refused) → IsPart s e p
    → o1 ≡ noted_all o fs → o2 ≡ noted_all o1 (sort_notes q p) → o2 ≡ noted_all o (fs ++ needs_sort s q e)
sort_behind s q e p fs o o1 o2 i d g = then o o1 o2 fs (needs_sort s q e) d (g ∙ ap (noted_all o1) (sort_noted s q e p i))

pub clash_behind : (s : Scope) (q : Option Sort) (e : Expression) (p : Part) (b : Bool) (fs : List Refused) (o o1 o2 : Option Refused)
    → IsPart s e p → b ≡ differ q p.sort → o1 ≡ noted_all o fs → o2 ≡ noted_all o1 (if_so b type_clash p.from) →
    o2 ≡ noted_all o (fs ++ if_so (differ q (type_of s e)) type_clash (begin e))
clash_behind s q e p b fs o o1 o2 i h d g =
    then o o1 o2 fs (if_so (differ q (type_of s e)) type_clash (begin e)) d
    (g ∙ ap (λ z. noted_all o1 (if_so z type_clash p.from)) h ∙ ap (λ z. noted_all o1 (if_so (differ q z) type_clash p.from)) i.sort ∙ ap
    (λ z. noted_all o1 (if_so (differ q (type_of s e)) type_clash z)) i.from)
