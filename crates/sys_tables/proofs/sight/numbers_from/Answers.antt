use Rattle.std.proofs.Common.{◌+◌, ◌-◌, ◌++◌, ◌∷◌, [], ap, ◌∙◌, sym, append_assoc}
use Rattle.lus_tree.specs.Numbers.{counting}
use Rattle.sys_tables.proofs.Counted.{counting_step}
use Rattle.sys_tables.proofs.sight.numbers_from.Goals as goal

pub loop-number-preserved : goal.loop-number-preserved
loop-number-preserved c =
    let k = c.loop-number.number in
    let end = c.args.first + c.args.count in
    let done = c.loop-number.numbers.items in
    ap (λ ns. ns ++ counting (k + 1) (end - (k + 1))) c.in_ok-push.ensures.items
    ∙ append_assoc done (k ∷ []) (counting (k + 1) (end - (k + 1)))
    ∙ ap (λ ns. done ++ ns) (sym (counting_step k end c.loop-number-test.true)) ∙ c.loop-number.invariant
