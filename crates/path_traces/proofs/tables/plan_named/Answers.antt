use Rattle.std.proofs.Common.{rules, ◌≡◌, ◌<◌, ◌≤◌, ◌∙◌, length, get_or}
use Rattle.path_traces.proofs.Indexes.{plan_some, plan_none}
use Rattle.path_traces.proofs.tables.plan_named.Goals as goal

pub returns-in-Some : goal.returns-in-Some
returns-in-Some c =
    let many : c.len.result ≡ length c.args.tables.now.plans.items = search rules in
    let within : c.place_or-place.result < length c.args.tables.now.plans.items = search rules in
    let there : c.in-Some.plan.now ≡ get_or c.args.tables.now.plans.items c.place_or-place.result c.in-Some.plan.now = search rules in
    plan_some c.args.tables.now.plans.items c.args.name.now _ c.len.result c.place_or-place.result c.in-Some.plan.now
    (c.args.tables.now.indexed c.args.name.now) many c.place_or-place.ensures within there

pub returns : goal.returns
returns c =
    let many : c.len.result ≡ length c.args.tables.now.plans.items = search rules in
    let past : length c.args.tables.now.plans.items ≤ c.place_or-place.result = search rules in
    c.args.tables.now.missing
    ∙ plan_none c.args.tables.now.plans.items c.args.name.now _ c.len.result c.place_or-place.result
    (c.args.tables.now.indexed c.args.name.now) many c.place_or-place.ensures past
