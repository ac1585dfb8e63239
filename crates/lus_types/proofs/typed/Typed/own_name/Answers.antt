use Rattle.std.proofs.Common.{◌≡◌, ◌<◌, ◌≤◌, arith, ap, length, subst, sym, ◌∙◌, None}
use Rattle.std.specs.Option.{option_and_then}
use Rattle.lus_tree.specs.View.{program_view}
use Rattle.lus_types.specs.Names.{found_in, known_among, name_in}
use Rattle.lus_types.proofs.AtPlace.{Same, name_there, no_place}
use Rattle.lus_types.proofs.typed.Typed.own_name.Goals as goal

pub returns-in-Some : goal.returns-in-Some
returns-in-Some c =
    let l : c.args.declaration < length c.deref.result.now = grind (arith, c.in-Some.ensures.lookup.0) in
    let s : Same (program_view c.self.inside.program) 0 (program_view c.self.inside.program) c.deref.result.now =
    subst (λ ts. Same (program_view c.self.inside.program) 0 (program_view c.self.inside.program) ts) (sym c.deref.ensures.value)
    c.self.invariant.1.own in
    c.found.ensures
    ∙ subst (λ p. found_in c.in-Some.own.now c.args.name.now ≡ name_in (program_view p) c.args.declaration c.args.name.now) c.self.view_is
    (name_there (program_view c.self.inside.program) c.deref.result.now c.args.declaration c.in-Some.own.now c.args.name.now s l
    c.in-Some.ensures.lookup.1)

pub returns-in-None : goal.returns-in-None
returns-in-None c =
    let l : length c.deref.result.now ≤ c.args.declaration = grind (arith, c.in-None.ensures.lookup.0) in
    let s : Same (program_view c.self.inside.program) 0 (program_view c.self.inside.program) c.deref.result.now =
    subst (λ ts. Same (program_view c.self.inside.program) 0 (program_view c.self.inside.program) ts) (sym c.deref.ensures.value)
    c.self.invariant.1.own in
    sym (subst (λ p. name_in (program_view p) c.args.declaration c.args.name.now ≡ None) c.self.view_is
    (ap (option_and_then (λ es. known_among es c.args.name.now))
    (no_place (program_view c.self.inside.program) 0 (program_view c.self.inside.program) c.deref.result.now c.args.declaration s l).names))
