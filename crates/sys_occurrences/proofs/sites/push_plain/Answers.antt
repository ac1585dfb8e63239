use Rattle.std.proofs.Common.{rules, map}
use Rattle.lus_tree.specs.View.{exprs_view, word_view}
use Rattle.lus_streams.specs.Clocks.{clock_seen}
use Rattle.sys_occurrences.specs.Views.{site_view}
use Rattle.sys_occurrences.proofs.Occurring.{plain_pushed}
use Rattle.sys_occurrences.proofs.sites.push_plain.Goals as goal

pub returns : goal.returns
returns c = plain_pushed (map site_view c.push_plain_site.new.sites.items) (map site_view c.args.sites.now.items) c.args.number
    (word_view c.args.callee.now) (clock_seen c.args.clock) (exprs_view c.args.arguments.now) (search rules)
