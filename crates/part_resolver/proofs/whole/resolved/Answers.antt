use Rattle.std.proofs.Common.{rules, ◌≡◌, IfOk, length, map, sym, ap, ◌∙◌, subst}
use Rattle.evaluation_parts.specs.PartViews.{parts_view}
use Rattle.lus_tree.specs.View.{decl_view, program_view}
use Rattle.lus_meaning.proofs.Exists.{length_mapped}
use Rattle.lus_streams.specs.Owner.{owner_view}
use Rattle.name_table.specs.Names.{number_of}
use Rattle.slot_replay.specs.Parts.{part_view}
use Rattle.sys_tables.specs.Views.{tables_view}
use Rattle.sys_frames.specs.Systems.{names_in}
use Rattle.sys_frames.proofs.Checked.{Laws}
use Rattle.sys_frames.proofs.Once.{declared_once}
use Rattle.sys_frames.proofs.Whole.{room_there}
use Rattle.part_resolver.proofs.Exact.{parts_exact}
use Rattle.part_resolver.proofs.whole.resolved.Goals as goal

pub parts_from-requires : goal.parts_from-requires
parts_from-requires c =
    let many : c.len-depth.result ≡ length c.args.program.now.decls.items = search rules in
    let deep : c.len-depth.result ≡ length (program_view c.args.program.now) =
    many ∙ sym (length_mapped decl_view c.args.program.now.decls.items) in
    let laws : Laws = record {
      sights = c.sights_are_sights.ensures.sights;
      defaults = c.constants_are_known.ensures.defaults;
      constants = c.constants_are_kept.ensures.instances;
      memories = c.texts_are_steady.ensures.ordered_memories;
      sites = c.texts_are_steady.ensures.sites;
      equations = c.texts_are_steady.ensures.equations;
      items = c.texts_are_steady.ensures.items;
      statements = c.texts_are_steady.ensures.statements;
      calls = c.sights_are_sights.ensures.calls;
      stand = c.callees_are_there.ensures.stand;
      there = c.callees_are_there.ensures.there;
      room = c.frames_have_room.ensures;
    } in
    record {
      room = room_there laws (program_view c.args.program.now) c.requires.checked (declared_once (program_view c.args.program.now) c.requires.checked)
          (owner_view c.args.node) c.requires.declared c.requires.small (tables_view c.deref-3.result.now) c.deref-2.result.now c.place_named-place.result
          c.len-depth.result c.missing_at-missing.result (ap tables_view c.deref-3.ensures.value ∙ c.in_ok-all.ensures) (c.deref-2.ensures.value ∙ c.in_ok-sizes.ensures)
          (c.place_named-place.ensures ∙ (ap (λ z. number_of (names_in (tables_view z)) c.name.result.now) (c.deref.ensures.value ∙ sym c.deref-3.ensures.value)
          ∙ ap (number_of (names_in (tables_view c.deref-3.result.now))) c.name.ensures))
          deep c.missing_at-missing.ensures;
    }

pub returns : goal.returns
returns c =
    let many : c.len-depth.result ≡ length c.args.program.now.decls.items = search rules in
    let deep : c.len-depth.result ≡ length (program_view c.args.program.now) =
    many ∙ sym (length_mapped decl_view c.args.program.now.decls.items) in
    let laws : Laws = record {
      sights = c.sights_are_sights.ensures.sights;
      defaults = c.constants_are_known.ensures.defaults;
      constants = c.constants_are_kept.ensures.instances;
      memories = c.texts_are_steady.ensures.ordered_memories;
      sites = c.texts_are_steady.ensures.sites;
      equations = c.texts_are_steady.ensures.equations;
      items = c.texts_are_steady.ensures.items;
      statements = c.texts_are_steady.ensures.statements;
      calls = c.sights_are_sights.ensures.calls;
      stand = c.callees_are_there.ensures.stand;
      there = c.callees_are_there.ensures.there;
      room = c.frames_have_room.ensures;
    } in
    record {
      exact = subst (λ m. IfOk c.parts_from.result (λ v. map part_view v.items ≡ m))
          (parts_exact laws (program_view c.args.program.now) c.requires.checked (declared_once (program_view c.args.program.now) c.requires.checked)
          (owner_view c.args.node) c.requires.declared c.requires.small (tables_view c.deref-3.result.now) c.deref-2.result.now c.place_named-place.result
          c.len-depth.result c.missing_at-missing.result (ap tables_view c.deref-3.ensures.value ∙ c.in_ok-all.ensures)
          (c.deref-2.ensures.value ∙ c.in_ok-sizes.ensures)
          (c.place_named-place.ensures ∙ (ap (λ z. number_of (names_in (tables_view z)) c.name.result.now) (c.deref.ensures.value ∙ sym c.deref-3.ensures.value)
          ∙ ap (number_of (names_in (tables_view c.deref-3.result.now))) c.name.ensures))
          deep c.missing_at-missing.ensures (parts_view c.args.parts.now))
          c.parts_from.ensures;
    }
