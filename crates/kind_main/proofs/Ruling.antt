-- What the checks of rules refuse is refused by the first fault of the earliest phase that has one.
use Rattle.std.proofs.Common.{◌≡◌, inl, inr, ap, subst, Result, Ok, Err, IfOk}
use Rattle.lus_tree.specs.Tree.{Program}
use Rattle.lus_tree.specs.Reason.{Refused}
use Rattle.std.specs.Prelude.{None}
use Rattle.lus_meaning.specs.Refusals.{IsTyped, IsClocked, by_typing, by_clocks, by_equations, by_limits}
use Rattle.lus_types.specs.Refusals as T
use Rattle.lus_clocks.specs.Program as C
use Rattle.lus_checked.specs.Refusals as K
use Rattle.lus_meaning.specs.Refusals.{IsChecked, IsWithinLimits}
use Rattle.kind_main.specs.Source.{FollowsAll, IsRuling}

pub typing_ruling : (p : Program) (r : Refused) → T.IsRefusal p r → IsRuling p r
typing_ruling p r (inl m) = inl (ap (λ (x : Refused). x.reason) m)
typing_ruling p r (inr f) = inr (by_typing f)

pub clocks_ruling : (p : Program) (r : Refused) → IsTyped p → C.IsRefusal p r → IsRuling p r
clocks_ruling p r t (inl m) = inl (ap (λ (x : Refused). x.reason) m)
clocks_ruling p r t (inr f) = inr (by_clocks t f)

pub checked_ruling : (p : Program) (r : Refused) → IsClocked p → K.IsRefusal p None r → IsRuling p r
checked_ruling p r c (K.no_memory m) = inl (ap (λ (x : Refused). x.reason) m)
checked_ruling p r c (K.by_equations f) = inr (by_equations c f)
checked_ruling p r c (K.by_limits rules f) = inr (by_limits rules f)

-- what is checked follows all rules, of a program that is the same
pub all_followed : {A B : Type 0} (r : Result A B) (q p : Program) → q ≡ p → IfOk r (λ _. IsChecked q) → IfOk r (λ _. IsWithinLimits q None)
    → IfOk r (λ _. FollowsAll p)
all_followed (Ok a) q p e c w = record { rules = subst IsChecked e c; limits = subst (λ x. IsWithinLimits x None) e w }
all_followed (Err b) q p e c w = tt
