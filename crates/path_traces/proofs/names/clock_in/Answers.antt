use Rattle.std.proofs.Common.{rules, ◌≡◌, ◌<◌, ◌≤◌, ◌∙◌, length, get_or, sym}
use Rattle.path_traces.proofs.Indexes.{clock_some, clock_none}
use Rattle.path_traces.proofs.names.clock_in.Goals as goal

pub returns-in-Some : goal.returns-in-Some
returns-in-Some c =
    let within : c.place_in.result < length c.args.names.now.params.items = search rules in
    let there : c.in-Some.param.now ≡ get_or c.args.names.now.params.items c.place_in.result c.in-Some.param.now = search rules in
    c.declared.ensures
    ∙ sym (clock_some c.args.names.now.params.items c.args.name.now c.place_in.result c.in-Some.param.now c.place_in.ensures.place within there)

pub returns-in-None : goal.returns-in-None
returns-in-None c =
    let past : length c.args.names.now.params.items ≤ c.place_in.result = search rules in
    sym (clock_none c.args.names.now.params.items c.args.name.now c.place_in.result c.place_in.ensures.place past)
