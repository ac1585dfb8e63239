use Rattle.std.proofs.Common.{ap, ◌∙◌}
use Rattle.indexmap.specs.IndexMap.{get_by_text}
use Rattle.lus_types.proofs.Noted.{one_noted}
use Rattle.lus_types.proofs.tables.note_name.Goals as goal

pub returns : goal.returns
returns c = λ x.
    one_noted c.args.entry.now.meaning c.args.number x c.as_str-name.result.now c.found_as.result (get_by_text c.args.table.now x)
    (get_by_text c.note.new.table x) (c.as_str-name.ensures.value ∙ ap (λ w. w.text) c.word.ensures) c.found_as.ensures
    (c.in_ok-note.ensures x)
