use Rattle.std.proofs.Common.{flat_map, rules}
use Rattle.lus_meaning.specs.Scene.{contract_statements}
use Rattle.lus_scopes.specs.Scopes.{owner_view}
use Rattle.lus_types.specs.Called.{constant_sides, contract_sides, statement_sides}
use Rattle.lus_types.specs.Sides.{sides_view}
use Rattle.lus_types.proofs.Occurring.{three_steps}
use Rattle.lus_types.proofs.sides.sides_of.Goals as goal

pub returns : goal.returns
returns c = three_steps
    (sides_view c.push_contract.new.sides.items) (sides_view c.push_constants.new.sides.items) (sides_view c.push_body.new.sides.items)
    (flat_map contract_sides (contract_statements (owner_view c.args.owner)))
    (constant_sides (owner_view c.args.owner).constants) (flat_map statement_sides (owner_view c.args.owner).body)
    (search rules) (search rules) (search rules)
