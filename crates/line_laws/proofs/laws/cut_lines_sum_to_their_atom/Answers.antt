use Rattle.line_laws.proofs.CutLines.{line_sums}
use Rattle.line_laws.proofs.laws.cut_lines_sum_to_their_atom.Goals as goal

pub returns : goal.returns
returns c = λ g parts d terms plain are variables sum n. line_sums g plain parts sum.0 d terms are variables sum.1 n
