use Rattle.std.proofs.Common.{◌≡◌, ap, ◌∙◌, subst, map}
use Rattle.std.specs.Prelude.{IfOk}
use Rattle.lus_tree.specs.View.{program_view}
use Rattle.lus_meaning.specs.ClockFaults.{components}
use Rattle.lus_streams.specs.Owner.{owner_view}
use Rattle.lus_layouts.specs.Layouts.{layout_view}
use Rattle.sys_tables.specs.Tabled.{names_of}
use Rattle.sys_tables.specs.Views.{fixed_view, tables_view}
use Rattle.sys_tables.proofs.Joined.{tables_are}
use Rattle.sys_tables.proofs.Once.{words_there, words_numbered}
use Rattle.sys_tables.proofs.tables.tables.Goals as goal

pub unwrap-names-requires : goal.unwrap-names-requires
unwrap-names-requires c =
    let same : map (λ x. x.now) c.deref-2.result.now ≡ names_of (components (program_view c.args.program.now)) =
    ap (map (λ x. x.now)) c.deref-2.ensures.value ∙ c.in_ok-words.ensures ∙ ap (λ z. names_of (map owner_view z)) c.deref.ensures.value
    ∙ ap names_of c.in_ok-parts.ensures in
    words_there (program_view c.args.program.now) c.requires.checked (map (λ x. x.now) c.deref-2.result.now) same c.in_ok-distinct.field-0
    c.in_ok-distinct.ensures

pub returns : goal.returns
returns c =
    let p = program_view c.args.program.now in
    let same : map (λ x. x.now) c.deref-2.result.now ≡ names_of (components p) =
    ap (map (λ x. x.now)) c.deref-2.ensures.value ∙ c.in_ok-words.ensures ∙ ap (λ z. names_of (map owner_view z)) c.deref.ensures.value
    ∙ ap names_of c.in_ok-parts.ensures in
    let names : c.unwrap-names.result ≡ names_of (components p) =
    words_numbered p c.requires.checked (map (λ x. x.now) c.deref-2.result.now) same c.in_ok-distinct.field-0 c.unwrap-names.result
    c.in_ok-distinct.ensures c.unwrap-names.ensures in
    subst (λ ts. IfOk c.all_tables.result (λ v. tables_view v.items ≡ ts))
    (tables_are p c.unwrap-names.result (map owner_view c.deref-3.result.now) (map fixed_view c.deref-4.result.now)
    (map layout_view c.deref-5.result.now) names (ap (map owner_view) c.deref-3.ensures.value ∙ c.in_ok-parts.ensures)
    (ap (map fixed_view) c.deref-4.ensures.value ∙ c.in_ok-outer.ensures.values)
    (ap (map layout_view) c.deref-5.ensures.value ∙ c.in_ok-layouts.ensures))
    c.all_tables.ensures
