use Rattle.std.proofs.Common.{rules, map}
use Rattle.lus_tree.specs.View.{word_view}
use Rattle.lus_limits.specs.Calls.{call_view}
use Rattle.lus_limits.proofs.Occurring.{condition_pushed}
use Rattle.lus_limits.proofs.calls.push_condition.Goals as goal

pub returns : goal.returns
returns c = condition_pushed (map call_view c.push_counted.new.calls.items) (map call_view c.args.calls.now.items) c.args.number
    (word_view c.args.callee.now) c.args.defaults.now (search rules)
