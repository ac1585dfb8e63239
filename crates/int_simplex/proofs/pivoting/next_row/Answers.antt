use Rattle.int_simplex.proofs.Sparse.{sparse_differ}
use Rattle.int_simplex.proofs.pivoting.next_row.Goals as goal

pub entry_in-requires : goal.entry_in-requires
entry_in-requires c = sparse_differ 0 c.args.columns c.args.row.now c.requires.row
