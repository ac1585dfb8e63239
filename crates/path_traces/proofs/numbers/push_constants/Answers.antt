use Rattle.std.proofs.Common.{arith, refl, map, flat_map}
use Rattle.lus_tree.specs.View.{definition_view}
use Rattle.path_traces.specs.Kinds.{numbers_of}
use Rattle.path_traces.proofs.Steps.{one_added}
use Rattle.path_traces.proofs.numbers.push_constants.Goals as goal

pub loop-constant-preserved : goal.loop-constant-preserved
loop-constant-preserved c =
    one_added (λ z. numbers_of c.args.kind (definition_view z).value) (λ zs. flat_map (numbers_of c.args.kind) (map (λ d. d.value) (map definition_view zs)))
    (λ z zs. refl) c.args.constants.now c.loop-constant.constant-index c.constant-item.result c.loop-constant.numbers.items
    c.push_numbers.new.numbers.items _ (omega arith) c.constant-item.is c.loop-constant.invariant c.in_ok-push_numbers.ensures
