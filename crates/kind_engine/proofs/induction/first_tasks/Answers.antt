use Rattle.std.proofs.Common.{rules, arith, ◌≡◌, ◌++◌, ◌∷◌, [], length, ◌+◌, subst, sym}
use Rattle.kind_engine.specs.declared.task.Task.TheVariants as t
use Rattle.kind_engine.specs.Tasks.{AreTasks}
use Rattle.kind_engine.proofs.Tasks.{none-run, all-push}
use Rattle.kind_engine.proofs.induction.first_tasks.Goals as goal

pub loop-i-preserved : goal.loop-i-preserved
loop-i-preserved c =
    let tasks = c.loop-i.tasks.items in
    let e : c.push.new.self.items ≡ tasks ++ t.Run c.new.result ∷ [] = search rules in
    let n : length c.push.new.self.items ≡ c.loop-i.i + 1 = search (rules, arith) in (
      n,
      λ m plan known d.
          subst (AreTasks m plan known 1 1 0) (sym e)
          (all-push m plan known 1 1 tasks (t.Run c.new.result) (c.loop-i.invariant.1 m plan known d)
          (none-run m plan known (length tasks) c.new.result d)),
    )
