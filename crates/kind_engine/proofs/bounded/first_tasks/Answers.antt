use Rattle.std.proofs.Common.{rules, arith, ◌≡◌, ◌++◌, ◌∷◌, [], length, ◌+◌, subst, sym}
use Rattle.kind_engine.specs.declared.task.Task.TheVariants as t
use Rattle.kind_engine.specs.Tasks.{AreTasks}
use Rattle.kind_engine.proofs.Tasks.{none-refuted, all-push}
use Rattle.kind_engine.proofs.bounded.first_tasks.Goals as goal

pub loop-i-preserved : goal.loop-i-preserved
loop-i-preserved c =
    let tasks = c.loop-i.tasks.items in
    let e : c.push.new.self.items ≡ tasks ++ t.Refuted c.new.result ∷ [] = search rules in
    let none : c.new.result.items ≡ [] = search rules in
    let n : length c.push.new.self.items ≡ c.loop-i.i + 1 = search (rules, arith) in (
      n,
      λ m plan known.
          subst (AreTasks m plan known 0 0 0) (sym e)
          (all-push m plan known 0 0 tasks (t.Refuted c.new.result) (c.loop-i.invariant.1 m plan known)
          (none-refuted m plan known (length tasks) c.new.result none)),
    )
