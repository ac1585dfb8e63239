use Rattle.trace_fits.proofs.Keys.{noted_new, noted_there}
use Rattle.std.proofs.Common.{rules}
use Rattle.trace_fits.proofs.table.note.Goals as goal

pub returns-in_ok-insert : goal.returns-in_ok-insert
returns-in_ok-insert c =
    noted_new c.args.places.now.entries c.insert.new.self.entries c.args.place c.args.listable (search rules) c.in_ok-insert.ensures.entries

pub returns-else-not-contains_key : goal.returns-else-not-contains_key
returns-else-not-contains_key c = noted_there c.args.places.now.entries c.args.place c.args.listable (search rules)
