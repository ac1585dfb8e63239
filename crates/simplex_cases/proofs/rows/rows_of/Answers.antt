use Rattle.std.specs.Prelude.{ℕ, List, ◌≡◌, ◌+◌, map}
use Rattle.std.proofs.Common.{subst, sym, ap, ◌∙◌, arith}
use lib.IntN.{ℤ}
use Rattle.proof_steps.specs.View.{row_view}
use Rattle.int_simplex.specs.Given.{AreGiven}
use Rattle.simplex_cases.specs.Made.{AreMade}
use Rattle.simplex_cases.proofs.Build.{made_given, made_more, views_more}
use Rattle.simplex_cases.proofs.rows.rows_of.Goals as goal

pub loop-j-preserved : goal.loop-j-preserved
loop-j-preserved c =
    let P : List (List (ℕ × ℤ)) → Type 0 = λ rs. AreMade c.args.variables (c.loop-j.j + 1) rs in
    subst P (sym (ap (map row_view) c.in_ok-push.ensures.items ∙ views_more c.loop-j.rows.items c.in_ok-row_of.field-0))
    (made_more c.args.variables c.loop-j.j (map row_view c.loop-j.rows.items) (row_view c.in_ok-row_of.field-0) c.loop-j.invariant c.in_ok-row_of.ensures)

pub returns : goal.returns
returns c =
    let a = c.loop-j-test.false in let b = c.loop-j.auto.j-end in
    let e : c.loop-j.j ≡ c.args.count = omega arith in
    let P : ℕ → Type 0 = λ k. AreGiven (map row_view c.loop-j.rows.items) (c.args.variables + k) in
    subst P e (made_given c.args.variables c.loop-j.j (map row_view c.loop-j.rows.items) c.loop-j.invariant)
