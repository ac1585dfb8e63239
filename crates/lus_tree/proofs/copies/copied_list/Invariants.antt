use Rattle.std.proofs.Common.{◌≡◌, take, map}
use Rattle.lus_tree.proofs.copies.copied_list.Given as goal

abbrev pub invariant-loop-one : goal.invariant-loop-one
invariant-loop-one g l = map g.T.Copied.view l.copies.items ≡ map g.T.Copied.view (take l.one-index l.all)
