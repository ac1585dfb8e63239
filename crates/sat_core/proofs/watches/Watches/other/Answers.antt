use Rattle.std.specs.Prelude.{◌≡◌, ◌≤◌, Some, None, length}
use Rattle.std.proofs.Common.{sym, subst}
use Rattle.proof_steps.specs.Meaning.{at}
use Rattle.sat_core.specs.Watching.{Watching}
use Rattle.sat_core.proofs.Rows.{at-read}
use Rattle.sat_core.proofs.Pairs.{other_second, other_first, other_none, other_never}
use Rattle.sat_core.proofs.watches.Watches.other.Goals as goal

pub returns-then-same : goal.returns-then-same
returns-then-same c =
    let v = c.self.view_is in
    other_second c.args.self.now c.args.number c.in-Some.first c.in-Some.second c.args.literal
    (subst (λ (w : Watching). at w.pairs c.args.number ≡ Some (Some (c.in-Some.first, c.in-Some.second))) v
    (at-read c.self.inside.pairs.items c.args.number c.index.result.now _ c.requires.positive
    (subst (λ (w : Watching). c.args.number ≤ length w.pairs) (sym v) c.requires.within) c.index.ensures c.in-Some.is))
    c.if-same.ensures

pub returns-then-same-2 : goal.returns-then-same-2
returns-then-same-2 c =
    let v = c.self.view_is in
    other_first c.args.self.now c.args.number c.in-Some.first c.in-Some.second c.args.literal
    (subst (λ (w : Watching). at w.pairs c.args.number ≡ Some (Some (c.in-Some.first, c.in-Some.second))) v
    (at-read c.self.inside.pairs.items c.args.number c.index.result.now _ c.requires.positive
    (subst (λ (w : Watching). c.args.number ≤ length w.pairs) (sym v) c.requires.within) c.index.ensures c.in-Some.is))
    c.if-same-2.ensures

pub returns-else-same-2 : goal.returns-else-same-2
returns-else-same-2 c =
    let v = c.self.view_is in
    other_none c.args.self.now c.args.number c.in-Some.first c.in-Some.second c.args.literal
    (subst (λ (w : Watching). at w.pairs c.args.number ≡ Some (Some (c.in-Some.first, c.in-Some.second))) v
    (at-read c.self.inside.pairs.items c.args.number c.index.result.now _ c.requires.positive
    (subst (λ (w : Watching). c.args.number ≤ length w.pairs) (sym v) c.requires.within) c.index.ensures c.in-Some.is))
    c.if-same.ensures c.if-same-2.ensures

pub returns-in-None : goal.returns-in-None
returns-in-None c =
    let v = c.self.view_is in
    other_never c.args.self.now c.args.number c.args.literal
    (subst (λ (w : Watching). at w.pairs c.args.number ≡ Some None) v
    (at-read c.self.inside.pairs.items c.args.number c.index.result.now None c.requires.positive
    (subst (λ (w : Watching). c.args.number ≤ length w.pairs) (sym v) c.requires.within) c.index.ensures c.in-None.is))
