use Rattle.std.proofs.Common.{rules, ap, ◌∙◌}
use Rattle.std.specs.Option.{option_or}
use Rattle.lus_tree.specs.Tree.{Component}
use Rattle.lus_meaning.specs.Run.{body_equations, ghost_equations}
use Rattle.lus_meaning.specs.Scene.{contract_statements}
use Rattle.lus_streams.specs.Owner.{owner_view}
use Rattle.sys_conditions.specs.Named.{right_of}
use Rattle.sys_tables.specs.Rights.{right_in}
use Rattle.sys_tables.proofs.Placed.{both_noted}
use Rattle.sys_tables.proofs.rights.rights_of.Goals as goal

pub returns : goal.returns
returns c =
    let n : Component = owner_view c.args.owner in
    λ x. both_noted (ghost_equations (contract_statements n)) (body_equations n.body) x (right_in c.new-rights.result x)
    (right_in c.note_ghosts.new.rights x) (right_in c.note_body.new.rights x) (search rules)
    (c.in_ok-note_ghosts.ensures x ∙ ap (λ z. option_or (right_in c.new-rights.result x) (right_of (ghost_equations z) x)) c.contract.ensures)
    (c.in_ok-note_body.ensures x ∙ ap (λ z. option_or (right_in c.note_ghosts.new.rights x) (right_of (body_equations z) x)) c.body.ensures)
