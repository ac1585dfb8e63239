use Rattle.std.proofs.Common.{arith, refl, map, flat_map}
use Rattle.lus_tree.specs.View.{named_view}
use Rattle.path_traces.specs.Kinds.{numbers_of}
use Rattle.path_traces.proofs.Steps.{one_added}
use Rattle.path_traces.proofs.numbers.push_labelled.Goals as goal

pub loop-named-preserved : goal.loop-named-preserved
loop-named-preserved c =
    one_added (λ z. numbers_of c.args.kind (named_view z).value) (λ zs. flat_map (numbers_of c.args.kind) (map (λ l. l.value) (map named_view zs)))
    (λ z zs. refl) c.args.labelled.now c.loop-named.named-index c.named-item.result c.loop-named.numbers.items
    c.push_numbers.new.numbers.items _ (omega arith) c.named-item.is c.loop-named.invariant c.in_ok-push_numbers.ensures
