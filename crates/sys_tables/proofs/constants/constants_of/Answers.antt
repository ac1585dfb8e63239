use Rattle.std.proofs.Common.{ap, ◌∙◌, map}
use Rattle.lus_tree.specs.Tree.{Component}
use Rattle.lus_meaning.specs.Program.{contract_statement_constants}
use Rattle.lus_meaning.specs.Scene.{contract_statements}
use Rattle.lus_streams.specs.Owner.{owner_view}
use Rattle.sys_tables.specs.Known.{values_seen}
use Rattle.sys_tables.specs.Tabled.{small_values}
use Rattle.sys_tables.specs.Views.{fixed_view}
use Rattle.sys_tables.proofs.Noted.{values_append}
use Rattle.sys_tables.proofs.constants.constants_of.Goals as goal

pub returns-clause-values : goal.returns-clause-values
returns-clause-values c =
    let n : Component = owner_view c.args.owner in
    c.in_ok-push_constants.ensures.values ∙ ap (small_values (values_seen c.push_items.new.known)) c.constants.ensures
    ∙ ap (λ z. small_values z n.constants)
    (c.in_ok-push_items.ensures.values ∙ ap (λ z. small_values (values_seen c.in_ok-known.known) (contract_statement_constants z)) c.contract.ensures
    ∙ ap (λ z. small_values z (contract_statement_constants (contract_statements n))) c.in_ok-known.ensures.values)
    ∙ values_append (map fixed_view c.args.outer.now) (contract_statement_constants (contract_statements n)) n.constants
