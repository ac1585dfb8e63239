-- Verdicts on properties, one after the other, and their lines.
use Rattle.std.proofs.Common.{◌≡◌, ◌≤◌, ◌<◌, ◌+◌, ℕ, zero, suc, List, [], ◌∷◌, ◌++◌, length, Some, refl, ap, ◌∙◌, subst, arith, slice_get, take}
use Rattle.std.proofs.lemmas.List.{take_all}
use Rattle.lus_tree.specs.Tree.{Program, Component}
use Rattle.lus_meaning.specs.Program.{instance_of}
use Rattle.lus_meaning.specs.Contract.{Property}
use Rattle.lus_meaning.specs.Property.{properties}
use Rattle.board_core.specs.Entries.{Posting}
use Rattle.kind_main.specs.declared.options.Options.{Options}
use Rattle.kind_main.specs.Verdicts.{Verdict, IsTrueVerdict, AreTrueVerdicts, IsTrueOfNumber}

-- as many verdicts as properties
pub as_many_verdicts : (o : Options) (p : Program) (d : Component) (book : List Posting) (k : ℕ) (qs : List Property) (vs : List Verdict) → AreTrueVerdicts o p d book k qs vs → length qs ≡ length vs
as_many_verdicts o p d book k [] [] h = refl
as_many_verdicts o p d book k (q ∷ qs) (v ∷ vs) h = ap suc (as_many_verdicts o p d book (suc k) qs vs h.1)
as_many_verdicts o p d book k [] (v ∷ vs) h = absurd h
as_many_verdicts o p d book k (q ∷ qs) [] h = absurd h

-- verdicts that are true of the first properties, one for each, as far as there are any
abbrev pub AreTrueOfFirst : Options → Program → Component → List Posting → ℕ → List Property → List Verdict → Type 0
AreTrueOfFirst o p d book k qs vs = AreTrueVerdicts o p d book k (take (length vs) qs) vs

first_more : (o : Options) (p : Program) (d : Component) (book : List Posting) (k : ℕ) (qs : List Property) (vs : List Verdict) (v : Verdict) → length vs < length qs
    → AreTrueOfFirst o p d book k qs vs → ((q : Property) → slice_get qs (length vs) ≡ Some q → IsTrueVerdict o p d book (k + length vs) q v)
    → AreTrueOfFirst o p d book k qs (vs ++ v ∷ [])
first_more o p d book k [] vs v lt h f = absurd (omega (arith, lt))
first_more o p d book k (q ∷ qs) [] v lt h f = (subst (λ j. IsTrueVerdict o p d book j q v) (omega arith) (f q refl), tt)
first_more o p d book k (q ∷ qs) (w ∷ vs) v lt h f =
    (h.0, first_more o p d book (suc k) qs vs v (omega (arith, lt)) h.1 (λ r e. subst (λ j. IsTrueVerdict o p d book j r v) (omega arith) (f r e)))

pub none_yet : (o : Options) (p : Program) (d : Component) (book : List Posting) → AreTrueOfFirst o p d book 0 (properties (instance_of p d)) []
none_yet o p d book = tt

same_place : (i n : ℕ) → i ≡ n → i ≡ 0 + n
same_place i n e = omega (arith, e)

pub one_more : (o : Options) (p : Program) (d : Component) (book : List Posting) (vs : List Verdict) (v : Verdict) (i : ℕ) → i ≡ length vs → i < length (properties (instance_of p d))
    → AreTrueOfFirst o p d book 0 (properties (instance_of p d)) vs → IsTrueOfNumber o p d book i v
    → AreTrueOfFirst o p d book 0 (properties (instance_of p d)) (vs ++ v ∷ [])
one_more o p d book vs v i e lt h f = first_more o p d book 0 (properties (instance_of p d)) vs v (subst (λ j. j < length (properties (instance_of p d))) e lt) h
    (λ q g. subst (λ j. IsTrueVerdict o p d book j q v) (same_place i (length vs) e) (f q (ap (slice_get (properties (instance_of p d))) e ∙ g)))

pub all_done : (o : Options) (p : Program) (d : Component) (book : List Posting) (vs : List Verdict) → length (properties (instance_of p d)) ≡ length vs
    → AreTrueOfFirst o p d book 0 (properties (instance_of p d)) vs → AreTrueVerdicts o p d book 0 (properties (instance_of p d)) vs
all_done o p d book vs e h = subst (λ qs. AreTrueVerdicts o p d book 0 qs vs) (take_all (length vs) (properties (instance_of p d)) (omega (arith, e))) h

-- ---- a loop over the properties

-- verdicts on the first i properties
pub record DecidingUpTo (o : Options) (p : Program) (d : Component) (book : List Posting) (i : ℕ) (vs : List Verdict) : Type 0 where
  pub count : i ≡ length vs
  pub right : AreTrueOfFirst o p d book 0 (properties (instance_of p d)) vs

pub deciding_start : (o : Options) (p : Program) (d : Component) (book : List Posting) → DecidingUpTo o p d book 0 []
deciding_start o p d book = record { count = refl; right = none_yet o p d book }

counted_more : {X : Type 0} (xs : List X) (x : X) (i : ℕ) → i ≡ length xs → i + 1 ≡ length (xs ++ x ∷ [])
counted_more [] x i e = omega (arith, e)
counted_more (y ∷ ys) x zero e = absurd (omega (arith, e))
counted_more (y ∷ ys) x (suc i) e = let f : i + 1 ≡ length (ys ++ x ∷ []) = counted_more ys x i (omega (arith, e)) in omega (arith, f)

pub deciding_next : (o : Options) (p : Program) (d : Component) (book : List Posting) (i : ℕ) (vs : List Verdict) (v : Verdict) → DecidingUpTo o p d book i vs
    → i < length (properties (instance_of p d)) → IsTrueOfNumber o p d book i v → DecidingUpTo o p d book (i + 1) (vs ++ v ∷ [])
deciding_next o p d book i vs v r lt f = record {
  count = counted_more vs v i r.count;
  right = one_more o p d book vs v i r.count lt r.right f;
}

pub deciding_end : (o : Options) (p : Program) (d : Component) (book : List Posting) (i : ℕ) (vs : List Verdict) → DecidingUpTo o p d book i vs
    → length (properties (instance_of p d)) ≤ i → i ≤ length (properties (instance_of p d))
    → AreTrueVerdicts o p d book 0 (properties (instance_of p d)) vs
deciding_end o p d book i vs r le ge =
    let e = r.count in
    all_done o p d book vs (omega (arith, le, ge, e)) r.right
