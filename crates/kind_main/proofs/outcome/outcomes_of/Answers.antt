use Rattle.std.proofs.Common.{◌≡◌, ◌+◌, ◌<◌, ◌≤◌, length, arith, ap, ◌∙◌, sym, subst}
use Rattle.std.proofs.lemmas.List.{map-append}
use Rattle.lus_tree.specs.View.{node_view, program_view}
use Rattle.lus_meaning.specs.Program.{instance_of}
use Rattle.lus_meaning.specs.Property.{properties}
use Rattle.sys_terms.specs.View.{Machine}
use Rattle.board_core.specs.Books.{machine_of, history_of}
use Rattle.kind_main.specs.Verdicts.{outcome_view, outcomes_view}
use Rattle.kind_main.proofs.Deciding.{DecidingUpTo, deciding_next, deciding_end}
use Rattle.kind_main.proofs.Ready.{component}
use Rattle.kind_main.proofs.outcome.outcomes_of.Goals as goal

pub loop-i-preserved : goal.loop-i-preserved
loop-i-preserved c =
    let p = program_view c.args.program.now in
    let d = node_view c.args.node.now in
    let book = history_of c.args.book.now in
    let inside : c.loop-i.i < c.args.count = c.loop-i-test.true in
    let counted = c.requires.counted in
    let many : length (machine_of c.args.book.now).properties ≡ length (properties (instance_of p d)) =
    ap (λ (m : Machine). length m.properties) c.requires.system
    ∙ c.as_many_formulas.ensures p c.requires.analysed.follows.rules d (component p d c.requires.analysed) in
    subst (DecidingUpTo c.args.options p d book (c.loop-i.i + 1))
    (sym (ap outcomes_view c.in_ok-push.ensures.items ∙ map-append outcome_view c.loop-i.outcomes.items _))
    (deciding_next c.args.options p d book c.loop-i.i (outcomes_view c.loop-i.outcomes.items) _ c.loop-i.invariant
    (omega (arith, inside, counted, many)) c.in_ok-said_of.ensures)

pub returns : goal.returns
returns c =
    let p = program_view c.args.program.now in
    let d = node_view c.args.node.now in
    let end : c.args.count ≤ c.loop-i.i = c.loop-i-test.false in
    let within : c.loop-i.i ≤ c.args.count = c.loop-i.auto.i-end in
    let counted = c.requires.counted in
    let many : length (machine_of c.args.book.now).properties ≡ length (properties (instance_of p d)) =
    ap (λ (m : Machine). length m.properties) c.requires.system
    ∙ c.as_many_formulas.ensures p c.requires.analysed.follows.rules d (component p d c.requires.analysed) in
    deciding_end c.args.options p d (history_of c.args.book.now) c.loop-i.i (outcomes_view c.loop-i.outcomes.items) c.loop-i.invariant
    (omega (arith, end, counted, many)) (omega (arith, within, counted, many))

pub said_of-requires-clause-named : goal.said_of-requires-clause-named
said_of-requires-clause-named c =
    let inside : c.loop-i.i < c.args.count = c.loop-i-test.true in
    let counted = c.requires.counted in
    let few = c.requires.played.ready.few_properties in omega (arith, inside, counted, few)
