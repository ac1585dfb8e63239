-- Which frames have no more variables than the limit.
use Rattle.std.proofs.Common.{◌≡◌, ℕ, zero, suc, ◌+◌, ◌<◌, ◌≤◌, Bool, true, false, cond, List, [], ◌∷◌, ◌++◌, length, get_or, Option, Some, None, refl, sym, ap, ◌∙◌, subst, arith}
use Rattle.std.specs.Prelude.{Contains, find, nat_lt, option_map, option_to_list}
use Rattle.std.proofs.lemmas.Option.{none-some}
use Rattle.std.proofs.lemmas.Bool.Decides.{nat_tests}
use Rattle.lus_tree.specs.Lookup.{nodes_of}
use Rattle.lus_tree.specs.Reason.{Refused, too_many}
use Rattle.lus_tree.specs.Tree.{Spelled, Component, declared_constant, declared_node, declared_contract, Program}
use Rattle.lus_meaning.specs.Faults.{fault}
use Rattle.lus_meaning.specs.Limits.{Limit, limit_fault, limit_faults, main_faults, passed, system_limits, text_limits}
use Rattle.lus_meaning.specs.Program.{all_sites, instance_of}
use Rattle.lus_meaning.specs.Refusals.{HasNone}
use Rattle.lus_meaning.specs.RuleLaws.{sites_width}
use Rattle.lus_meaning.specs.Scene.{Site}
use Rattle.lus_meaning.specs.Slots.{own_cells, width}
use Rattle.lus_limits.specs.Instances.{callee}
use Rattle.lus_limits.specs.Summaries.{bound}
use Rattle.lus_limits.specs.Widths.{frame_width}
use Rattle.lus_limits.proofs.Widths.{width_by_text}
use Rattle.lus_layouts.specs.Fitting.{CalleesFit, NodesFit}

-- ---- lists

stands_first : {A : Type 0} (xs ys : List A) (x : A) → Contains xs x → Contains (xs ++ ys) x
stands_first [] ys x (k, l, e) = absurd (omega (arith, l))
stands_first (y ∷ xs) ys x (zero, l, e) = (zero, omega arith, e)
stands_first (y ∷ xs) ys x (suc k, l, e) = behind (stands_first xs ys x (k, omega (arith, l), e))
  where
    behind : Contains (xs ++ ys) x → Contains (y ∷ (xs ++ ys)) x
    behind (j, m, h) = (suc j, omega (arith, m), h)

stands_later : {A : Type 0} (xs ys : List A) (x : A) → Contains ys x → Contains (xs ++ ys) x
stands_later [] ys x c = c
stands_later (y ∷ xs) ys x c = behind (stands_later xs ys x c)
  where
    behind : Contains (xs ++ ys) x → Contains (y ∷ (xs ++ ys)) x
    behind (j, m, h) = (suc j, omega (arith, m), h)

-- ---- a limit of which there is no fault isn't passed

-- where none is passed, neither is one of them
not_passed : (ls : List Limit) (l : Limit) → passed ls ≡ None → Contains ls l → l.0 ≡ false
not_passed [] l e (k, h, f) = absurd (omega (arith, h))
not_passed (m ∷ ls) l e (k, h, f) = go m.0 refl e (λ j g q p. not_passed ls l p (j, g, q))
  where
    rest : (k : ℕ) → k < length (m ∷ ls) → get_or (m ∷ ls) k l ≡ l → passed ls ≡ None → m.0 ≡ false
        → ((j : ℕ) → j < length ls → get_or ls j l ≡ l → passed ls ≡ None → l.0 ≡ false) → l.0 ≡ false
    rest zero h f p b r = ap (λ (z : Limit). z.0) (sym f) ∙ b
    rest (suc k) h f p b r = r k (omega (arith, h)) f p

    go : (b : Bool) → m.0 ≡ b → option_map (λ (l : Limit). l.1) (cond b (Some m) (find (λ (l : Limit). l.0) ls)) ≡ None
        → ((j : ℕ) → j < length ls → get_or ls j l ≡ l → passed ls ≡ None → l.0 ≡ false) → l.0 ≡ false
    go true b p r = absurd (none-some m.1 (sym p))
    go false b p r = rest k h f p b r

-- no fault, so none is passed
none_passed : (w : Spelled) (ls : List Limit) (fs : List Refused) → HasNone (Contains (limit_fault w ls ++ fs)) → passed ls ≡ None
none_passed w ls fs h = go (passed ls) h
  where
    go : (o : Option ℕ) → HasNone (Contains (option_to_list (option_map (λ limit. fault (too_many limit) w.at) o) ++ fs)) → o ≡ None
    go None h = refl
    go (Some k) h = absurd (h (fault (too_many k) w.at) (zero, omega arith, refl))

below_limit : (k : ℕ) → nat_lt 20000 k ≡ false → k < bound
below_limit k e = grind (arith, nat_tests)

-- the width is among the limits of a node
node_fits : (p : Program) (k : ℕ) (n : Component) (fs : List Refused)
    → HasNone (Contains (limit_fault n.name (text_limits k n ++ system_limits (instance_of p n)) ++ fs)) → width (instance_of p n) < bound
node_fits p k n fs h =
    below_limit (width (instance_of p n))
    (not_passed (text_limits k n ++ system_limits (instance_of p n)) (nat_lt 20000 (width (instance_of p n)), 20000)
    (none_passed n.name (text_limits k n ++ system_limits (instance_of p n)) fs h) (3, omega arith, refl))

later_none : (fs gs : List Refused) → HasNone (Contains (fs ++ gs)) → HasNone (Contains gs)
later_none fs gs h r c = h r (stands_later fs gs r c)

each_fits : (p : Program) (k : ℕ) (ds : Program) → HasNone (Contains (limit_faults p k ds)) → (n : Component) → Contains (nodes_of ds) n
    → width (instance_of p n) < bound
each_fits p k [] h n (j, l, e) = absurd (omega (arith, l))
each_fits p k (declared_constant c ∷ ds) h n i = each_fits p k ds h n i
each_fits p k (declared_contract m ∷ ds) h n i = each_fits p (suc k) ds (later_none (limit_fault m.name (text_limits k m)) (limit_faults p (suc k) ds) h) n i
each_fits p k (declared_node m ∷ ds) h n (zero, l, e) = subst (λ z. width (instance_of p z) < bound) e (node_fits p k m (limit_faults p (suc k) ds) h)
each_fits p k (declared_node m ∷ ds) h n (suc j, l, e) =
    each_fits p (suc k) ds
    (later_none (limit_fault m.name (text_limits k m ++ system_limits (instance_of p m))) (limit_faults p (suc k) ds) h) n (j, omega (arith, l), e)

pub nodes_fit : NodesFit
nodes_fit p main h n i = each_fits p 0 p (later_none (main_faults p main) (limit_faults p 0 p) h) n i

-- ---- what is called

called_fits : (p : Program) (ss : List Site) (s : Site) → Contains ss s → frame_width p s.manner (callee p s.callee) ≤ sites_width (frame_width p) p ss
called_fits p [] s (k, l, e) = absurd (omega (arith, l))
called_fits p (t ∷ ss) s (zero, l, e) = subst (λ z. frame_width p z.manner (callee p z.callee) ≤ sites_width (frame_width p) p (t ∷ ss)) e (omega arith)
called_fits p (t ∷ ss) s (suc k, l, e) =
    let r : frame_width p s.manner (callee p s.callee) ≤ sites_width (frame_width p) p ss = called_fits p ss s (k, omega (arith, l), e) in
    omega (arith, r)

pub callees_fit : CalleesFit
callees_fit p c n i m l s j =
    let w : frame_width p m n ≡ length (own_cells m n) + sites_width (frame_width p) p (all_sites n) = width_by_text p c n i m in
    let r : frame_width p s.manner (callee p s.callee) ≤ sites_width (frame_width p) p (all_sites n) = called_fits p (all_sites n) s j in
    omega (arith, w, r, l)
