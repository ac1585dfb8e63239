use Rattle.std.proofs.Common.{◌≤◌, ◌<◌, length, sym, rules}
use Rattle.lus_tree.specs.View.{program_view}
use Rattle.lus_meaning.specs.Program.{instance_of}
use Rattle.lus_meaning.specs.Slots.{slots}
use Rattle.lus_streams.specs.Owner.{owner_view}
use Rattle.path_traces.proofs.Placed.{beyond, picked}
use Rattle.path_traces.proofs.places.place_of.Goals as goal

pub returns-then-number-len : goal.returns-then-number-len
returns-then-number-len c =
    let inside : c.args.number < length c.in_ok-places.places.items = search rules in
    record {
      exact = picked c.in_ok-places.places.items (slots (instance_of (program_view c.args.program.now) (owner_view c.args.node))) c.args.number
          c.swap_remove.result c.in_ok-places.ensures.exact inside c.swap_remove.ensures.value;
    }

pub returns : goal.returns
returns c =
    let past : length c.in_ok-places.places.items ≤ c.args.number = search rules in
    record {
      exact = sym (beyond c.in_ok-places.places.items (slots (instance_of (program_view c.args.program.now) (owner_view c.args.node))) c.args.number
          c.in_ok-places.ensures.exact past);
    }
