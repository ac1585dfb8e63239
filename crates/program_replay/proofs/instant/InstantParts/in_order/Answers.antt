use Rattle.std.proofs.Common.{◌≡◌, ◌<◌, Some, None, sym, subst}
use Rattle.lus_tree.specs.View.{program_view}
use Rattle.lus_tree.specs.Tree.{Program}
use Rattle.lus_checked.specs.Program.{tree_of}
use Rattle.lus_meaning.specs.ClockFaults.{components}
use Rattle.lus_meaning.specs.Program.{instance_of}
use Rattle.lus_meaning.specs.Refusals.{IsChecked}
use Rattle.lus_meaning.specs.Slots.{width}
use Rattle.lus_evaluation.specs.Evaluation.{IsEvaluation}
use Rattle.evaluation_parts.specs.PartViews.{parts_view}
use Rattle.evaluation_turns.specs.Turned.{OfDeclaration}
use Rattle.program_replay.specs.Named.{numbers_from}
use Rattle.program_replay.specs.NamedView.{named_view}
use Rattle.program_replay.proofs.Evaluated.{no_parts, parts_declared, parts_named}
use Rattle.program_replay.proofs.Joined.{node_declared, node_place, node_small}
use Rattle.program_replay.proofs.Numbers.{place_below}
use Rattle.program_replay.proofs.instant.InstantParts.in_order.Goals as goal

pub evaluation-requires : goal.evaluation-requires
evaluation-requires c =
    let p = tree_of c.args.self.now.checked.now in
    let x = c.args.self.now.name.now in
    let m = named_view c.in-Some.named in
    let e : numbers_from 0 0 x p ≡ Some m = subst (λ p. numbers_from 0 0 x p ≡ Some m) c.program-program.ensures.same (sym c.in-Some.ensures) in
    place_below (components p) m.place m.node (node_place p x m e)

pub resolved-requires : goal.resolved-requires
resolved-requires c =
    let q = program_view c.program-program.result.now in
    let x = c.args.self.now.name.now in
    let m = named_view c.in-Some.named in
    let e : numbers_from 0 0 x q ≡ Some m = sym c.in-Some.ensures in
    let f : numbers_from 0 0 x (tree_of c.args.self.now.checked.now) ≡ Some m = subst (λ p. numbers_from 0 0 x p ≡ Some m) c.program-program.ensures.same e in
    record {
      checked = subst IsChecked (sym c.program-program.ensures.same) c.program-program.ensures.rules;
      declared = node_declared q x m e;
      small = subst (λ (p : Program). width (instance_of p m.node) < 20001) (sym c.program-program.ensures.same)
          (node_small (tree_of c.args.self.now.checked.now) x m f c.program-program.ensures.within);
    }

pub returns-in_ok-parts-in-Some : goal.returns-in_ok-parts-in-Some
returns-in_ok-parts-in-Some c =
    let p = tree_of c.args.self.now.checked.now in
    let x = c.args.self.now.name.now in
    let m = named_view c.in-Some.named in
    let e : numbers_from 0 0 x p ≡ Some m = subst (λ p. numbers_from 0 0 x p ≡ Some m) c.program-program.ensures.same (sym c.in-Some.ensures) in
    let qs = parts_view c.deref.result.now in
    let ev : OfDeclaration p m.place (λ i. IsEvaluation i qs) =
    subst (λ xs. OfDeclaration p m.place (λ i. IsEvaluation i (parts_view xs))) (sym c.deref.ensures.value) c.in_ok-parts-in-Some.ensures in
    parts_named p x m e c.resolved.result
    (parts_declared p (program_view c.program-program.result.now) c.program-program.ensures.same m.place m.node (node_place p x m e) qs ev c.resolved.result c.resolved.ensures.exact)

pub returns-in-None : goal.returns-in-None
returns-in-None c =
    let p = tree_of c.args.self.now.checked.now in
    let x = c.args.self.now.name.now in
    no_parts p x (subst (λ p. None ≡ numbers_from 0 0 x p) c.program-program.ensures.same c.in-None.ensures) _
