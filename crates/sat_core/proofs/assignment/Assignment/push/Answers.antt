use Rattle.std.specs.Prelude.{◌≡◌, ◌==◌, ◌++◌, ◌∷◌, [], cond, length, false, vec_len}
use Rattle.std.proofs.Common.{sym, ◌∙◌, ap, subst, arith}
use Rattle.proof_checker.specs.Derived.{has}
use Rattle.sat_core.specs.Trail.{trues, falses}
use Rattle.sat_core.specs.Decisions.{decisions_from}
use Rattle.sat_core.proofs.Assigning.{assigned_more, assigned_same}
use Rattle.sat_core.proofs.Decisions.{more_decisions}
use Rattle.std.specs.declared.vec.Vec.{Vec}
use Rattle.std.specs.declared.alloc.Global.{Global}
use Rattle.sat_core.specs.declared.assigned.Assigned.{Assigned}
use Rattle.sat_core.proofs.assignment.Assignment.push.Goals as goal

vec_len_is : (v : Vec Assigned Global) → vec_len v ≡ length v.items
vec_len_is v = omega arith

pub invariant_of-self-in_err-push : goal.invariant_of-self-in_err-push
invariant_of-self-in_err-push c =
    let e = c.in_err-push.ensures.items in
    let k = assigned_same _ _ _ _ (c.self.invariant.0, c.self.invariant.1) c.in_ok-widen.ensures.widened e in
    (k.0, k.1, c.reserve_if.ensures.same ∙ c.self.invariant.2 ∙ ap (decisions_from 0) (sym e))

pub invariant_of-self-2 : goal.invariant_of-self-2
invariant_of-self-2 c =
    let k = assigned_more _ _ _ c.self.inside.entries.items _ record { literal = c.args.literal; reason = c.args.reason }
    (c.self.invariant.0, c.self.invariant.1)
    (subst (λ t. has (trues t) c.args.literal ≡ false) (sym c.self.view_is) c.requires.not_true)
    (subst (λ t. has (falses t) c.args.literal ≡ false) (sym c.self.view_is) c.requires.not_false)
    c.in_ok-widen.ensures.widened c.in_ok-widen.ensures.ok c.in_ok-push.ensures.items c.mark.ensures in (
      k.0,
      k.1,
      more_decisions c.self.inside.entries.items _ record { literal = c.args.literal; reason = c.args.reason } c.self.inside.decisions.items _
          c.in_ok-push.ensures.items c.self.invariant.2
          (c.push_if.ensures ∙ ap (λ n. c.reserve_if.new.decisions.items ++ cond (c.args.reason == 0) (n ∷ []) []) (c.len-place.ensures ∙ vec_len_is c.self.inside.entries)
          ∙ ap (λ ps. ps ++ cond (c.args.reason == 0) (length c.self.inside.entries.items ∷ []) []) c.in_ok-reserve_if.ensures.same),
    )
