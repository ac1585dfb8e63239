use Rattle.std.proofs.Common.{ap, ◌∙◌, []}
use Rattle.lus_tree.specs.View.{expr_view}
use Rattle.sys_texts.specs.Texts.{folded}
use Rattle.sys_tables.specs.Tabled.{value_of}
use Rattle.sys_tables.proofs.Sighted.{bared}
use Rattle.sys_tables.proofs.constants.value.Goals as goal

pub returns : goal.returns
returns c =
    c.value_of.ensures
    ∙ ap value_of (c.in_ok-found.ensures ∙ ap (λ s. folded s [] (expr_view c.args.e.now)) (bared c.args.known.now c.requires))
