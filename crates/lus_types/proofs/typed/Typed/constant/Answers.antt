use Rattle.std.proofs.Common.{ap, option_map, sym, ◌∙◌}
use Rattle.lus_tree.specs.View.{program_view}
use Rattle.lus_types.specs.Names.{found_view}
use Rattle.lus_types.proofs.NamedSorts.{constant_sorted}
use Rattle.lus_types.proofs.typed.Typed.constant.Goals as goal

pub typed-requires : goal.typed-requires
typed-requires c =
    constant_sorted (program_view c.self.inside.program) c.self.invariant.0 c.args.name.now (found_view c.in-Some.found)
    (sym (c.self.invariant.1.constants c.args.name.now) ∙ sym c.found.ensures ∙ ap (option_map found_view) c.in-Some.is)
