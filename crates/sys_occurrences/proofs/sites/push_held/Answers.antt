use Rattle.std.proofs.Common.{rules, map}
use Rattle.lus_tree.specs.View.{expr_view, exprs_view, word_view}
use Rattle.lus_streams.specs.Clocks.{clock_seen}
use Rattle.sys_occurrences.specs.Views.{site_view}
use Rattle.sys_occurrences.proofs.Occurring.{held_pushed}
use Rattle.sys_occurrences.proofs.sites.push_held.Goals as goal

pub returns : goal.returns
returns c = held_pushed (map site_view c.push_held_site.new.sites.items) (map site_view c.args.sites.now.items) c.args.number
    (word_view c.args.callee.now) (clock_seen c.args.clock) (expr_view c.args.condition.now) (exprs_view c.args.arguments.now)
    (exprs_view c.args.defaults.now) (search rules)
