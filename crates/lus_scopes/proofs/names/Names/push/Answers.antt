use Rattle.std.proofs.Common.{◌∙◌, ap, sym, subst, cond, Some, None}
use Rattle.std.specs.Option.{option_or}
use Rattle.std.specs.Str.{bytes_eq}
use Rattle.lus_tree.specs.Tree.{Name}
use Rattle.lus_scopes.specs.Meanings.{IsTable, by_name}
use Rattle.lus_scopes.proofs.Tables.{one_more}
use Rattle.lus_scopes.proofs.names.Names.push.Goals as goal

pub invariant_of-self-in-Ok : goal.invariant_of-self-in-Ok
invariant_of-self-in-Ok c =
    subst (λ es. IsTable es c.note.new.table) (sym c.in_ok-push.ensures.items)
    (one_more c.self.inside.entries.items c.self.inside.table c.note.new.table c.args.entry c.self.invariant
    (λ x. c.in-Ok.ensures.noted x
    ∙ ap (λ (z : Name). option_or (by_name c.self.inside.table x) (cond (bytes_eq x z) (Some c.args.entry) None))
    (c.as_str-name.ensures.value ∙ ap (λ w. w.text) c.word.ensures)))
