-- A node of a program within the limits has few properties.
use Rattle.std.proofs.Common.{◌≤◌, arith, length}
use Rattle.std.specs.Prelude.{Contains, None}
use Rattle.lus_tree.specs.Tree.{Program, Component, declared_node}
use Rattle.lus_meaning.specs.Program.{instance_of}
use Rattle.lus_meaning.specs.Property.{properties}
use Rattle.term_laws.specs.Laws.{EachFormulas, SmallSystems}
use Rattle.trace_laws.proofs.Named.{node_component}
use Rattle.kind_main.specs.Source.{FollowsAll}

pub few : (p : Program) (d : Component) → FollowsAll p → Contains p (declared_node d) → SmallSystems → EachFormulas →
    length (properties (instance_of p d)) ≤ 500
few p d follows declared small formulas =
    let most = (small p None follows.limits d declared).properties in
    let many = formulas p follows.rules d (node_component p d declared) in
    omega (arith, most, many)
