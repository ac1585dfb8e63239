-- All that a proof says.
use Rattle.std.specs.Prelude.{◌≡◌, ◌++◌, ℕ, map, List, [], ◌∷◌, Some, None}
use Rattle.lus_tree.specs.Lookup.{node_at}
use Rattle.lus_tree.specs.Tree.{Program, Component}
use Rattle.lus_meaning.specs.Program.{instance_of}
use Rattle.lus_meaning.specs.Property.{properties}
use Rattle.lus_meaning.specs.Label.{label_of}
use Rattle.lus_checked.specs.Main.{main_node}
use Rattle.kind_main.specs.declared.options.Options.{Options}
use Rattle.kind_main.specs.Lines.{Line}
use Rattle.kind_main.specs.Verdicts.{Verdict, AreOfOneBook, verdict_report, summary_line, tally_of, tally_code}
use Rattle.kind_main.specs.Complete.{AreComplete}

-- Each property of the node has the verdict of one book, in order, printed with its label, and then comes the summary. What
-- an engine that was not cut short can decide up to the depth is decided.
pub record IsProofOf (o : Options) (p : Program) (d : Component) (lines : List Line) (code : ℕ) : Type 0 where
  pub verdicts : List Verdict
  pub right : AreOfOneBook o p d verdicts
  pub complete : AreComplete o (instance_of p d) 0 (properties (instance_of p d)) verdicts
  pub printed : lines ≡ verdict_report (instance_of p d) (map label_of (properties (instance_of p d))) verdicts
      ++ summary_line (tally_of verdicts) ∷ []
  pub status : code ≡ tally_code (tally_of verdicts)

-- so it is of the program's main node: the first with a mark, else the last
pub record IsProof (o : Options) (p : Program) (lines : List Line) (code : ℕ) : Type 0 where
  pub number : ℕ
  pub is_main : main_node p None ≡ Some number
  pub node : Component
  pub stands : node_at number p ≡ Some node
  pub proof : IsProofOf o p node lines code
