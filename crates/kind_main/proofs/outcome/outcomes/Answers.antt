use Rattle.std.proofs.Common.{◌≡◌, length, ◌∙◌, sym, ap, subst}
use Rattle.lus_tree.specs.View.{node_view, program_view}
use Rattle.lus_meaning.specs.Program.{instance_of}
use Rattle.sys_terms.specs.View.{Machine, system_view, term_view}
use Rattle.sys_meaning.specs.System.{system_of}
use Rattle.board_core.specs.Books.{machine_of, plan_of, history_of}
use Rattle.board_core.specs.Entries.{AreSound}
use Rattle.kind_main.specs.Verdicts.{outcomes_view}
use Rattle.kind_main.proofs.Judging.{ok_as}
use Rattle.kind_main.proofs.Lists.{as_long}
use Rattle.kind_main.proofs.outcome.outcomes.Goals as goal

pub outcomes_of-requires-clause-counted : goal.outcomes_of-requires-clause-counted
outcomes_of-requires-clause-counted c =
    let view : length (system_view c.args.system).properties ≡ length c.args.system.properties.items = as_long term_view
    c.args.system.properties.items in
    let len : c.len-count.result ≡ length c.args.system.properties.items = c.len-count.ensures ∙ c.args.system.properties.ok.0 in
    len ∙ sym view ∙ sym (ap (λ (m : Machine). length m.properties) c.in_ok-book.ensures.system)

pub returns : goal.returns
returns c =
    let b = c.in_ok-book.book in
    let p = program_view c.args.program.now in
    let d = node_view c.args.node.now in
    ok_as _ _ (λ v h. record {
      book = history_of b;
      sound = subst (λ plan. AreSound (system_of (instance_of p d)) plan (history_of b)) c.in_ok-book.ensures.played.plan
          (subst (λ m. AreSound m (plan_of b) (history_of b)) (c.in_ok-book.ensures.system ∙ c.requires.system) c.in_ok-book.ensures.played.sound);
      each = h;
    })
    c.outcomes_of.result c.outcomes_of.ensures
