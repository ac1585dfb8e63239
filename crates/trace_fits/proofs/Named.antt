-- The node that a trace names.
use Rattle.std.proofs.Common.{◌≡◌, zero, suc, Bool, true, false, cond, List, [], ◌∷◌, Option, Some, None, sym, ap, ◌∙◌, arith, subst, Result, Ok, Err}
use Rattle.std.specs.Prelude.{Contains, IfOk}
use Rattle.std.specs.Str.{bytes_eq}
use Rattle.lus_tree.specs.Tree.{Name, Component, Program}
use Rattle.lus_tree.specs.Lookup.{nodes_of}
use Rattle.lus_meaning.specs.Fits.{first_failed, first_named, misfit, node_tests}
use Rattle.lus_meaning.specs.TraceView.{Listing}
use Rattle.sys_meaning.proofs.Follows.{some_same, none_some}

pub named_contained : (ns : List Component) (x : Name) (d : Component) → first_named x ns ≡ Some d → Contains ns d
named_contained [] x d e = absurd (none_some d e)
named_contained (n ∷ ns) x d e = go (bytes_eq x n.name.text) e (named_contained ns x d)
  where
    go : (b : Bool) → cond b (Some n) (first_named x ns) ≡ Some d → (first_named x ns ≡ Some d → Contains ns d) → Contains (n ∷ ns) d
    go true e r = (zero, omega arith, some_same n d e)
    go false e r = let k = r e in (suc k.0, omega (arith, k.1), k.2)

-- a name that no node has doesn't fit
pub unnamed : (p : Program) (t : Listing) → None ≡ first_named t.node (nodes_of p) → misfit p t ≡ Some t.node_at
unnamed p t e = ap (λ o. first_failed (node_tests p o t)) (sym e)

-- what is found of the named node is found of each that is the first of that name
pub of_named : {V E : Type 0} (P : V → Component → Type 0) (o : Option Component) (d : Component) → o ≡ Some d → (r : Result V E)
    → IfOk r (λ v. P v d) → IfOk r (λ v. (n : Component) → o ≡ Some n → P v n)
of_named P o d e (Ok v) h = λ n f. subst (P v) (some_same d n (sym e ∙ f)) h
of_named P o d e (Err x) h = tt
