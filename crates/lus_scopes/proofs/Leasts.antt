-- What is kept of all faults is a first one.
use Rattle.std.proofs.Common.{◌≡◌, Bool, true, false, cond, List, [], ◌∷◌, ◌++◌, refl, subst, inl, inr, arith, append_assoc, Option, Some, None}
use Rattle.std.proofs.lemmas.List.{append-nil}
use Rattle.std.specs.Prelude.{Contains}
use Rattle.std.proofs.lemmas.List.Elements.{Contains-append_left, Contains-push, Contains-push_cases}
use Rattle.lus_tree.specs.Reason.{Refused}
use Rattle.lus_meaning.specs.Faults.{comes_before, IsFirst}
use Rattle.lus_scopes.specs.Least.{IsLeast, noted, noted_all}
use Rattle.lus_scopes.proofs.Order.{never_before_itself, not_before_earlier}

pub noted_append : (o : Option Refused) (fs gs : List Refused) → noted_all o (fs ++ gs) ≡ noted_all (noted_all o fs) gs
noted_append o [] gs = refl
noted_append o (f ∷ fs) gs = noted_append (noted o f) fs gs

none_in : (r : Refused) → Contains [] r → ⊥
none_in r (k, l, e) = omega arith

first_kept : (s r : Refused) (fs : List Refused) (b : Bool) → comes_before r s ≡ b → IsFirst (Contains fs) s → IsLeast (cond b (Some r) (Some s)) (fs ++ r ∷ [])
first_kept s r fs true e i = record {
  broken = Contains-push fs r;
  first = λ q c. elim (Contains-push_cases fs r q c) [
    | inl d ↦ not_before_earlier q r s e (i.first q d)
    | inr d ↦ subst
        (λ (z : Refused). comes_before z r ≡ false) d (never_before_itself r)
  ];
}
first_kept s r fs false e i = record {
  broken = Contains-append_left fs (r ∷ []) s i.broken;
  first = λ q c. elim (Contains-push_cases fs r q c) [ inl d ↦ i.first q d | inr d ↦ subst (λ (z : Refused). comes_before z s ≡ false) d e ];
}

pub least_noted : (o : Option Refused) (fs : List Refused) (r : Refused) → IsLeast o fs → IsLeast (noted o r) (fs ++ r ∷ [])
least_noted None fs r i = record {
  broken = Contains-push fs r;
  first = λ q c. elim (Contains-push_cases fs r q c) [
    | inl d ↦ absurd (i q d)
    | inr d ↦ subst (λ (z : Refused). comes_before z r ≡ false) d
        (never_before_itself r)
  ];
}
least_noted (Some s) fs r i = first_kept s r fs (comes_before r s) refl i

-- of faults that are noted behind others
pub least_noted_all : (o : Option Refused) (fs gs : List Refused) → IsLeast o fs → IsLeast (noted_all o gs) (fs ++ gs)
least_noted_all o fs [] i = rw (append-nil fs) i
least_noted_all o fs (g ∷ gs) i = subst (λ (hs : List Refused). IsLeast (noted_all (noted o g) gs) hs) (append_assoc fs (g ∷ []) gs)
    (least_noted_all (noted o g) (fs ++ g ∷ []) gs (least_noted o fs g i))

-- of all that are noted
pub least_of_all : (fs : List Refused) → IsLeast (noted_all None fs) fs
least_of_all fs = least_noted_all None [] fs none_in
