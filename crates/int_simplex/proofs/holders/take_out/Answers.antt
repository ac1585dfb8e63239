use Rattle.std.specs.Prelude.{◌≡◌, ◌+◌, ℕ, List, Some, length, slice_get}
use Rattle.std.proofs.Common.{◌∙◌, arith, subst}
use Rattle.int_simplex.proofs.Holding.{taken_is, same_read}
use Rattle.int_simplex.proofs.holders.take_out.Goals as goal

pub returns-in-Some : goal.returns-in-Some
returns-in-Some c =
    let a = c.swap_remove-place.ensures.len in let x = c.swap_remove-place.new.self.ok in let y = c.index_mut.result.now.ok in
    let l : length c.swap_remove-place.new.self.items + 1 ≡ length c.index_mut.result.now.items = omega arith in
    let n : c.index_mut.result.now.len ≡ length c.index_mut.result.now.items = omega arith in
    let s = same_read c.args.lists.now.items c.args.column c.index.result.now c.index_mut.result.now c.requires c.index.ensures c.index_mut.ensures.value in
    taken_is c.args.lists.now.items c.args.column c.args.k c.in-Some.at c.index_mut.result.now c.swap_remove-place.new.self
    c.index_mut.result.now.len c.requires c.index_mut.ensures.value
    (subst (λ (xs : List ℕ). slice_get xs c.in-Some.at ≡ Some c.args.k) (c.deref.ensures.value ∙ s) c.in-Some.ensures) n l
    c.swap_remove-place.ensures.by_index.0 c.swap_remove-place.ensures.by_index.1
