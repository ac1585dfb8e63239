-- The callee of the call or import with a number.
use Rattle.std.proofs.Common.{◌≡◌, ℕ, zero, suc, pred, ◌-◌, ◌<◌, ◌≤◌, List, [], ◌∷◌, map, length, get_or, slice_get, Some, None, refl, sym, ap, ◌∙◌, arith}
use Rattle.lus_tree.specs.Tree.{Name}
use Rattle.lus_tree.specs.View.{word_view}
use Rattle.lus_limits.specs.declared.calls.Call.{Call}
use Rattle.lus_limits.specs.Calls.{call_view}
use Rattle.lus_properties.specs.Marks.{callees_of}

pred_less : (k : ℕ) → pred k ≡ k - 1
pred_less zero = omega arith
pred_less (suc k) = omega arith

at : (cs : List Call) (i : ℕ) (c : Call) → i < length cs → c ≡ get_or cs i c → slice_get (callees_of (map call_view cs)) i ≡ Some (word_view c.callee.now).text
at [] i c l e = absurd (omega (arith, l))
at (d ∷ ds) zero c l e = ap (λ (z : Call). Some (word_view z.callee.now).text) (sym e)
at (d ∷ ds) (suc j) c l e = at ds j c (omega (arith, l)) e

past : (cs : List Call) (i : ℕ) → length cs ≤ i → slice_get (callees_of (map call_view cs)) i ≡ None
past [] i l = refl
past (d ∷ ds) zero l = absurd (omega (arith, l))
past (d ∷ ds) (suc j) l = past ds j (omega (arith, l))

pub callee_there : (cs : List Call) (k i : ℕ) (c : Call) (x : Name) → i ≡ k - 1 → i < length cs → c ≡ get_or cs i c → x ≡ (word_view c.callee.now).text
    → Some x ≡ slice_get (callees_of (map call_view cs)) (pred k)
callee_there cs k i c x e l f g =
    ap (λ z. Some z) g ∙ sym (at cs i c l f) ∙ ap (slice_get (callees_of (map call_view cs))) (e ∙ sym (pred_less k))

pub none_there : (cs : List Call) (k i : ℕ) → i ≡ k - 1 → length cs ≤ i → None ≡ slice_get (callees_of (map call_view cs)) (pred k)
none_there cs k i e l = sym (past cs i l) ∙ ap (slice_get (callees_of (map call_view cs))) (e ∙ sym (pred_less k))
