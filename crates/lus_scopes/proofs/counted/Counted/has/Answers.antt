use Rattle.std.proofs.Common.{◌∙◌, ap, map}
use Rattle.std.specs.Prelude.{is_some}
use Rattle.lus_meaning.specs.Depends.{named_in}
use Rattle.lus_scopes.proofs.Counting.{seen_often}
use Rattle.lus_scopes.proofs.counted.Counted.has.Goals as goal

pub returns : goal.returns
returns c =
    c.contains_key.ensures ∙ ap is_some (c.self.invariant c.args.name.now)
    ∙ seen_often c.args.name.now (map (λ y. y.now) c.self.inside.names.items) ∙ ap (named_in c.args.name.now) c.self.view_is
