use Rattle.std.proofs.Common.{map, sym, ap, ◌∙◌, subst}
use Rattle.std.specs.List.{AllByRecursion}
use Rattle.lus_tree.specs.View.{program_view}
use Rattle.sys_tables.specs.Views.{tables_view}
use Rattle.frame_names.specs.Known.{HasNamesOnce, known_of}
use Rattle.frame_names.specs.Slots.{KnowsSlots}
use Rattle.frame_names.specs.Walk.{slot_of}
use Rattle.frame_names.proofs.Once.{all_once}
use Rattle.frame_names.proofs.Walks.{knows_slots}
use Rattle.frame_names.proofs.names.frame_names.Goals as goal

pub all_known-requires : goal.all_known-requires
all_known-requires c =
    let p = program_view c.args.program.now in
    subst (AllByRecursion (λ t. HasNamesOnce t.streams)) (sym (ap tables_view c.deref.ensures.value ∙ c.in_ok-tables.ensures))
    (all_once c.names_once.ensures p c.requires.checked)

pub returns : goal.returns
returns c =
    let p = program_view c.args.program.now in
    subst (λ ks. KnowsSlots p c.args.place (slot_of ks c.args.place))
    (sym (c.in_ok-all_known.ensures ∙ ap (map known_of) (ap tables_view c.deref.ensures.value ∙ c.in_ok-tables.ensures)))
    (knows_slots p c.requires.checked c.stands_at_calls.ensures.all c.own_variables_stand.ensures c.frames_fit.ensures.callees
    c.callees_are_there.ensures.stand c.callees_are_there.ensures.there c.stands_at_root.ensures c.args.place)
