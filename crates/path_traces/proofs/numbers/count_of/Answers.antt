use Rattle.std.proofs.Common.{rules, ◌≡◌, ap, ◌∙◌, length}
use Rattle.lus_streams.specs.Owner.{owner_view}
use Rattle.path_traces.proofs.Gathered.{all_gathered}
use Rattle.path_traces.proofs.numbers.count_of.Goals as goal

pub returns : goal.returns
returns c =
    let many : c.len.result ≡ length c.push_body.new.numbers.items = search rules in
    many ∙ ap length (all_gathered c.args.kind (owner_view c.args.owner) _ _ _ c.push_body.new.numbers.items _ _ _ c.new-numbers.ensures.items
    c.in_ok-push_contract.ensures c.contract.ensures c.in_ok-push_constants.ensures c.constants.ensures c.in_ok-push_body.ensures c.body.ensures)
