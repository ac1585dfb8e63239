-- The faults and orders of all declarations, one by one.
use Rattle.std.proofs.Common.{◌≡◌, ℕ, zero, suc, ◌<◌, ◌+◌, List, [], ◌∷◌, ◌++◌, map, flat_map, take, length, get_or, Option, None, IfOk, IsErr, MatchResult, Result, Ok, Err, refl, sym, ap, ◌∙◌, subst, arith}
use Rattle.std.specs.Prelude.{Contains}
use Rattle.std.proofs.Math.Logic.{◌⊎◌, inl, inr}
use Rattle.std.proofs.lemmas.List.{take_more}
use Rattle.lus_tree.specs.Tree.{Component, Program}
use Rattle.lus_tree.specs.Reason.{Refused}
use Rattle.lus_meaning.specs.ClockFaults.{components}
use Rattle.lus_meaning.specs.EquationFaults.{left_faults, IsEquationFault, of_left, of_circle}
use Rattle.lus_meaning.specs.Faults.{IsFirst}
use Rattle.lus_meaning.specs.Grammatical.{IsGrammatical}
use Rattle.lus_meaning.specs.Refusals.{HasNone, IsTyped}
use Rattle.lus_meaning.specs.Scene.{variables}
use Rattle.lus_meaning.specs.WellMade.{AreDistinct}
use Rattle.lus_meaning.proofs.Lists.{map_append}
use Rattle.lus_scopes.specs.Least.{IsLeast, noted_all}
use Rattle.lus_scopes.specs.Notes.{Notes}
use Rattle.lus_scopes.proofs.Leasts.{noted_append}
use Rattle.lus_scopes.proofs.Noting.{all_noted, both_noted}
use Rattle.way_laws.specs.Circles.{IsOwnCircle}
use Rattle.way_laws.specs.OwnGraph.{Summaries}
use Rattle.lus_order.specs.declared.library.Library.{Library}
use Rattle.lus_order.specs.Checked.{IsCircleAmong, AllNoted, AreOrdered, AreLeastOrders, IsCheckedBy}
use Rattle.lus_order.specs.Learned.{IsLibraryOf}
use Rattle.lus_order.specs.Library.{library_view}
use Rattle.lus_order.specs.Ordered.{NotesCircles, IsOrdered}
use Rattle.lus_order.proofs.OwnCircles.{contains_left, contains_right, contains_either}
use Rattle.lus_order.specs.Streams.{names_of}
use Rattle.lus_order.proofs.NextLearned.{streams_once}
use Rattle.lus_order.proofs.WholeOrders.{circles_by_library, orders_by_library}

stands_left : (ns : List Component) (m n : Component) → Contains ns n → Contains (ns ++ m ∷ []) n
stands_left [] m n (k, l, e) = absurd (omega arith)
stands_left (c ∷ ns) m n (zero, l, e) = (0, omega arith, e)
stands_left (c ∷ ns) m n (suc k, l, e) = later (stands_left ns m n (k, omega arith, e))
  where
    later : Contains (ns ++ m ∷ []) n → Contains (c ∷ ns ++ m ∷ []) n
    later (j, i, h) = (suc j, omega arith, h)

stands_last : (ns : List Component) (m : Component) → Contains (ns ++ m ∷ []) m
stands_last [] m = (0, omega arith, refl)
stands_last (c ∷ ns) m = later (stands_last ns m)
  where
    later : Contains (ns ++ m ∷ []) m → Contains (c ∷ ns ++ m ∷ []) m
    later (j, i, h) = (suc j, omega arith, h)

stands_either : (ns : List Component) (m n : Component) → Contains (ns ++ m ∷ []) n → Contains ns n ⊎ (m ≡ n)
stands_either [] m n (zero, l, e) = inr e
stands_either [] m n (suc k, l, e) = absurd (omega arith)
stands_either (c ∷ ns) m n (zero, l, e) = inl (0, omega arith, e)
stands_either (c ∷ ns) m n (suc k, l, e) = later (stands_either ns m n (k, omega arith, e))
  where
    later : Contains ns n ⊎ (m ≡ n) → Contains (c ∷ ns) n ⊎ (m ≡ n)
    later (inl (j, i, h)) = inl (suc j, omega arith, h)
    later (inr h) = inr h

pub none_noted : (g : Summaries) (o : Option Refused) → AllNoted [] g o o
none_noted g o = record { faults = []; noted = refl; all = λ r. (no_fault r, no_circle r) }
  where
    no_fault : (r : Refused) → Contains [] r → IsCircleAmong [] g r
    no_fault r (k, l, e) = absurd (omega arith)

    no_circle : (r : Refused) → IsCircleAmong [] g r → Contains [] r
    no_circle r (n, (k, l, e), c) = absurd (omega arith)

noted_more : (ns : List Component) (n : Component) (g : Summaries) (o p q : Option Refused) → AllNoted ns g o p → NotesCircles n g p q
    → AllNoted (ns ++ n ∷ []) g o q
noted_more ns n g o p q a b = record {
  faults = a.faults ++ b.faults;
  noted = b.noted ∙ ap (λ z. noted_all z b.faults) a.noted ∙ sym (noted_append o a.faults b.faults);
  all = λ r. (λ c. to r (contains_either a.faults b.faults r c), from r);
}
  where
    to : (r : Refused) → Contains a.faults r ⊎ Contains b.faults r → IsCircleAmong (ns ++ n ∷ []) g r
    to r (inl c) = let i : IsCircleAmong ns g r = (a.all r).0 c in (i.0, stands_left ns n i.0 i.1, i.2)
    to r (inr c) = (n, stands_last ns n, (b.all r).0 c)

    from : (r : Refused) → IsCircleAmong (ns ++ n ∷ []) g r → Contains (a.faults ++ b.faults) r
    from r (m, s, c) = go (stands_either ns n m s)
      where
        go : Contains ns m ⊎ (n ≡ m) → Contains (a.faults ++ b.faults) r
        go (inl h) = contains_left a.faults b.faults r ((a.all r).1 (m, h, c))
        go (inr h) = contains_right a.faults b.faults r ((b.all r).1 (subst (λ z. IsOwnCircle z g r) (sym h) c))

ordered_more : (g : Summaries) (ns : List Component) (kss : List (List ℕ)) (n : Component) (ks : List ℕ) → AreOrdered g ns kss → IsOrdered n g ks
    → AreOrdered g (ns ++ n ∷ []) (kss ++ ks ∷ [])
ordered_more g [] [] n ks a o = (o, tt)
ordered_more g [] (j ∷ kss) n ks a o = absurd a
ordered_more g (m ∷ ns) [] n ks a o = absurd a
ordered_more g (m ∷ ns) (j ∷ kss) n ks a o = (a.0, ordered_more g ns kss n ks a.1 o)

-- one turn
module _ {A : Type 0} (f : A → Component) (xs : List A) (i : ℕ) (x : A) (below : i < length xs) (is : x ≡ get_or xs i x) where
  one_more : map f (take (i + 1) xs) ≡ map f (take i xs) ++ f x ∷ []
  one_more = ap (map f) (take_more xs i x below) ∙ map_append f (take i xs) (get_or xs i x ∷ []) ∙ ap (λ z. map f (take i xs) ++ f z ∷ []) (sym is)

  pub turn_noted : (g : Summaries) (o p q : Option Refused) → AllNoted (map f (take i xs)) g o p → NotesCircles (f x) g p q
      → AllNoted (map f (take (i + 1) xs)) g o q
  turn_noted g o p q a b = subst (λ ns. AllNoted ns g o q) (sym one_more) (noted_more (map f (take i xs)) (f x) g o p q a b)

  pub turn_ordered : (g : Summaries) (kss new : List (List ℕ)) (ks : List ℕ) → AreOrdered g (map f (take i xs)) kss → IsOrdered (f x) g ks
      → new ≡ kss ++ ks ∷ [] → AreOrdered g (map f (take (i + 1) xs)) new
  turn_ordered g kss new ks a o e = subst (λ ns. AreOrdered g ns new) (sym one_more)
      (subst (AreOrdered g (map f (take i xs) ++ f x ∷ [])) (sym e) (ordered_more g (map f (take i xs)) kss (f x) ks a o))

  pub turn_stands : Contains (map f xs) (f x)
  turn_stands = stands xs i below is
    where
      stands : (ys : List A) (k : ℕ) → k < length ys → x ≡ get_or ys k x → Contains (map f ys) (f x)
      stands [] k l e = absurd (omega arith)
      stands (y ∷ ys) zero l e = (0, omega arith, ap f (sym e))
      stands (y ∷ ys) (suc k) l e = later (stands ys k (omega arith) e)
        where
          later : Contains (map f ys) (f x) → Contains (f y ∷ map f ys) (f x)
          later (j, m, h) = (suc j, omega arith, h)

-- ---- the whole program

module _ (p : Program) (grammatical : IsGrammatical p) (typed : IsTyped p) (l : Library) (is : IsLibraryOf p l) where
  all_least : HasNone (IsEquationFault p) → (ns : List Component) → ((n : Component) → Contains ns n → Contains (components p) n) → (kss : List (List ℕ))
      → AreOrdered (library_view l) ns kss → AreLeastOrders p ns kss
  all_least none [] d [] a = tt
  all_least none [] d (ks ∷ kss) a = absurd a
  all_least none (n ∷ ns) d [] a = absurd a
  all_least none (n ∷ ns) d (ks ∷ kss) a = (
    orders_by_library p grammatical typed l is none n (d n (0, omega arith, refl)) ks a.0,
    all_least none ns (λ m i. d m (behind m i)) kss a.1,
  )
    where
      behind : (m : Component) → Contains ns m → Contains (n ∷ ns) m
      behind m (k, j, e) = (suc k, omega arith, e)

  pub program_checked : (before after : Option Refused) (kss : List (List ℕ)) → Notes None before (flat_map left_faults (components p))
      → IsLeast None [] → AllNoted (components p) (library_view l) before after → AreOrdered (library_view l) (components p) kss
      → IsCheckedBy p after kss
  program_checked before after kss a i b o = record {
    faults = lefts ++ b.faults;
    least = both_noted None before after lefts b.faults a (all_noted before after b.faults b.noted) [] i;
    all = λ r. (λ c. to r (contains_either lefts b.faults r c), from r);
    orders = λ none. all_least none (components p) (λ n d. d) kss o;
  }
    where
      lefts : List Refused
      lefts = flat_map left_faults (components p)

      to : (r : Refused) → Contains lefts r ⊎ Contains b.faults r → IsEquationFault p r
      to r (inl c) = of_left c
      to r (inr c) = let q : IsCircleAmong (components p) (library_view l) r = (b.all r).0 c in
          of_circle q.0 q.1 ((circles_by_library p grammatical typed l is q.0 q.1 r).0 q.2)

      from : (r : Refused) → IsEquationFault p r → Contains (lefts ++ b.faults) r
      from r (of_left c) = contains_left lefts b.faults r c
      from r (of_circle n d c) = contains_right lefts b.faults r
          ((b.all r).1 (n, d, (circles_by_library p grammatical typed l is n d r).1 c))

pub no_faults_least : IsLeast None []
no_faults_least r (k, l, e) = absurd (omega arith)

pub owners_stand : (p : Program) → IsTyped p → (ns : List Component) → ns ≡ components p → (n : Component) → Contains ns n
    → AreDistinct (names_of (variables n))
owners_stand p typed ns e n c = streams_once p typed n (subst (λ z. Contains z n) e c)

pub none_here : (p : Program) (o : Option Refused) (kss : List (List ℕ)) → IsCheckedBy p o kss
    → ((fs : List Refused) → IsLeast o fs → HasNone (Contains fs)) → HasNone (IsEquationFault p) × AreLeastOrders p (components p) kss
none_here p o kss c h = (none, c.orders none)
  where
    none : HasNone (IsEquationFault p)
    none r f = h c.faults c.least r ((c.all r).1 f)

pub first_here : (p : Program) (o : Option Refused) (kss : List (List ℕ)) (r : Refused) → IsCheckedBy p o kss
    → ((fs : List Refused) → IsLeast o fs → IsFirst (Contains fs) r) → IsFirst (IsEquationFault p) r
first_here p o kss r c h =
    let f : IsFirst (Contains c.faults) r = h c.faults c.least in
    record { broken = (c.all r).0 f.broken; first = λ s g. f.first s ((c.all s).1 g) }

-- where there is a fault nothing is given
pub refused_for : {A E : Type 0} (p : Program) (r : Result A E) → IfOk r (λ _. HasNone (IsEquationFault p)) → (x : Refused) → IsEquationFault p x → IsErr r
refused_for p (Ok a) h x f = absurd (h x f)
refused_for p (Err e) h x f = refl

pub sound_of : {A E : Type 0} (Q : A → Type 0) (R : E → Type 0) (p : Program) (r : Result A E)
    → MatchResult r (λ v. HasNone (IsEquationFault p) × Q v) R → IfOk r (λ _. HasNone (IsEquationFault p))
sound_of Q R p (Ok a) h = h.0
sound_of Q R p (Err e) h = tt
