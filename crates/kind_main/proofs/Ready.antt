-- The system of a node or function that is analysed is one whose properties can be decided.
use Rattle.std.proofs.Common.{◌<◌, ◌≤◌, ◌^◌, ℕ, arith, length}
use Rattle.lus_tree.specs.Tree.{Program, Component}
use Rattle.lus_meaning.specs.ClockFaults.{components}
use Rattle.lus_meaning.specs.Program.{instance_of}
use Rattle.lus_meaning.specs.Property.{properties}
use Rattle.lus_meaning.specs.Slots.{slots, width}
use Rattle.lus_meaning.proofs.Exists.{length_mapped}
use Rattle.std.specs.Prelude.{Contains, None}
use Rattle.sys_meaning.specs.System.{shape_of, system_of}
use Rattle.term_laws.specs.Laws.{EachFormulas, MildSystems, SmallSystems}
use Rattle.trace_laws.proofs.Named.{node_component}
use Rattle.kind_engine.specs.Ready.{IsReady}
use Rattle.kind_main.specs.declared.options.Options.{Options}
use Rattle.kind_main.specs.Options.{IsInRange, options_plan}
use Rattle.kind_main.specs.Verdicts.{IsAnalysed}
use Rattle.kind_main.proofs.Few.{few}

less-than-all : (k n : ℕ) → n ≤ k → k ≤ 20000 → n < 2 ^ 32
less-than-all k n le most = omega (arith, le, most)

module _ (p : Program) (d : Component) (a : IsAnalysed p d) where
  pub component : Contains (components p) d
  component = node_component p d a.declared

  pub narrow : SmallSystems → width (instance_of p d) ≤ 20000
  narrow small =
      let few = (small p None a.follows.limits d a.declared).variables in
      let many = length_mapped (λ q. shape_of q.sort) (slots (instance_of p d)) in
      omega (arith, few, many)

  pub narrow_enough : SmallSystems → width (instance_of p d) < 20001
  narrow_enough small = let l = narrow small in omega (arith, l)

  pub narrow_of_all : SmallSystems → width (instance_of p d) < 2 ^ 32
  narrow_of_all small = less-than-all 20000 (width (instance_of p d)) (narrow small) (omega arith)

  pub few_properties : SmallSystems → EachFormulas → length (properties (instance_of p d)) ≤ 500
  few_properties = few p d a.follows a.declared

  pub ready_system : MildSystems → SmallSystems → (o : Options) → IsInRange o → IsReady (system_of (instance_of p d)) (options_plan o)
  ready_system mild small o range =
      let few = small p None a.follows.limits d a.declared in
      record {
        mild = mild p a.follows.rules d component;
        few = less-than-all 20000 (length (system_of (instance_of p d)).shapes) few.variables (omega arith);
        few_properties = less-than-all 500 (length (system_of (instance_of p d)).properties) few.properties (omega arith);
        ranges = record {
          depth = range;
          frames = (omega arith, omega arith);
          blocked = (omega arith, omega arith);
          conflicts = (omega arith, omega arith);
          splits = (omega arith, omega arith);
          pivots = (omega arith, omega arith);
        };
      }
