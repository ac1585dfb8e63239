-- The contract of a callee, one call or import deeper.
use Rattle.std.proofs.Common.{◌≡◌, ℕ, zero, suc, ◌-◌, ◌<◌, [], Some, None, unwrap_or, refl, sym, ap, ◌∙◌, arith}
use Rattle.lus_tree.specs.Tree.{Name, Component, Program}
use Rattle.lus_meaning.specs.Scene.{no_component}
use Rattle.lus_meaning.specs.Program.{component_named}
use Rattle.lus_properties.specs.declared.items.ItemKind.{ItemKind}
use Rattle.lus_properties.specs.Marks.{marks_below, marks_within}

pub step_below : (d : ℕ) (w : ItemKind) (p : Program) (x : Name) (n : Component) → 0 < d → Some n ≡ component_named p x
    → marks_within (d - 1) w p n ≡ marks_below d w p x
step_below zero w p x n l e = absurd (omega (arith, l))
step_below (suc d) w p x n l e =
    let f : suc d - 1 ≡ d = omega arith in
    ap (λ k. marks_within k w p n) f ∙ ap (λ o. marks_within d w p (unwrap_or o no_component)) e

pub none_there : (d : ℕ) (w : ItemKind) (p : Program) (x : Name) → None ≡ component_named p x → marks_below d w p x ≡ []
none_there zero w p x e = refl
none_there (suc d) w p x e = ap (λ o. marks_within d w p (unwrap_or o no_component)) (sym e)

pub none_below : (d : ℕ) (w : ItemKind) (p : Program) (x : Name) → d ≡ 0 → marks_below d w p x ≡ []
none_below zero w p x e = refl
none_below (suc d) w p x e = absurd (omega (arith, e))
