use Rattle.std.proofs.Common.{◌≡◌, ◌<◌, ◌≤◌, arith, ap, length, map, subst, sym, ◌∙◌, Option, None}
use Rattle.std.specs.Prelude.{slice_get}
use Rattle.std.specs.Option.{option_and_then, option_or}
use Rattle.indexmap.specs.IndexMap.{get_by_text}
use Rattle.lus_tree.specs.Tree.{Program}
use Rattle.lus_tree.specs.View.{decl_view, expr_view, program_view}
use Rattle.lus_meaning.specs.Scope.{type_of}
use Rattle.lus_types.specs.Names.{Known, found_in, output_sort, sort_by, sort_in}
use Rattle.lus_types.specs.declared.place.Place.{Place}
use Rattle.lus_types.specs.Places.{calls_at, names_at}
use Rattle.lus_types.proofs.AtPlace.{Same, no_place, sort_there}
use Rattle.lus_types.proofs.typed.Typed.type_of.Goals as goal

pub returns-in-Some : goal.returns-in-Some
returns-in-Some c =
    let l : c.args.declaration < length c.deref.result.now = grind (arith, c.in-Some.ensures.lookup.0) in
    let s : Same (program_view c.self.inside.program) 0 (program_view c.self.inside.program) c.deref.result.now =
    subst (λ ts. Same (program_view c.self.inside.program) 0 (program_view c.self.inside.program) ts) (sym c.deref.ensures.value)
    c.self.invariant.1.own in
    let here : Place =
    record { own = c.in-Some.own; tables = record { ref_ptr = (0, 0); now = c.self.inside.tables }; decls = c.deref-in-Some.result } in
    let decls : map decl_view c.deref-in-Some.result.now ≡ program_view c.self.inside.program = ap (map decl_view) c.deref-in-Some.ensures.value in
    c.sort_of.ensures
    ∙ subst (λ p. sort_by (names_at here) (calls_at here) (expr_view c.args.e.now) ≡ sort_in (program_view p) c.args.declaration (expr_view c.args.e.now))
    c.self.view_is
    (sort_there (program_view c.self.inside.program) c.deref.result.now c.args.declaration c.in-Some.own.now (names_at here) (calls_at here)
    (expr_view c.args.e.now) s l c.in-Some.ensures.lookup.1
    (λ x. ap (λ (o : Option Known). option_and_then (λ q. q.sort) (option_or (found_in c.in-Some.own.now x) o)) (c.self.invariant.1.constants x))
    (λ f. ap (λ (ds : Program). option_and_then (λ i. option_and_then output_sort (slice_get ds i)) (get_by_text c.self.inside.tables.declared f)) decls
    ∙ ap (λ o. option_and_then (λ i. option_and_then output_sort (slice_get (program_view c.self.inside.program) i)) o) (c.self.invariant.1.declared f)))

pub returns-in-None : goal.returns-in-None
returns-in-None c =
    let l : length c.deref.result.now ≤ c.args.declaration = grind (arith, c.in-None.ensures.lookup.0) in
    let s : Same (program_view c.self.inside.program) 0 (program_view c.self.inside.program) c.deref.result.now =
    subst (λ ts. Same (program_view c.self.inside.program) 0 (program_view c.self.inside.program) ts) (sym c.deref.ensures.value)
    c.self.invariant.1.own in
    sym (subst (λ p. sort_in (program_view p) c.args.declaration (expr_view c.args.e.now) ≡ None) c.self.view_is
    (ap (option_and_then (λ z. type_of z (expr_view c.args.e.now)))
    (no_place (program_view c.self.inside.program) 0 (program_view c.self.inside.program) c.deref.result.now c.args.declaration s l).scope))
