use Rattle.std.proofs.Common.{◌≡◌, ◌++◌, OnOk, ap, ◌∙◌, subst}
use Rattle.sys_tables.specs.Numbers.{behind_own}
use Rattle.sys_tables.specs.Views.{table_view, tables_view}
use Rattle.sys_texts.specs.Views.{sight_view}
use Rattle.frame_sources.specs.Views.{all_asked_view}
use Rattle.frame_sources.specs.Walked.{modes_seen}
use Rattle.frame_conditions.specs.Conditioned.{asserts_by}
use Rattle.frame_conditions.specs.Views.{resolutions_view}
use Rattle.frame_conditions.proofs.walk.push_own.Goals as goal

pub returns : goal.returns
returns c =
    let modes : all_asked_view c.deref.result.now ≡ modes_seen c.args.depth (tables_view c.args.tables.all.now) c.args.tables.missing (table_view c.args.table.now)
    (sight_view c.in_ok-sight.sight) (behind_own c.args.way (table_view c.args.table.now) c.args.base) =
    ap all_asked_view c.deref.ensures.value
    ∙ (c.in_ok-modes.ensures ∙ ap (modes_seen c.args.depth (tables_view c.args.tables.all.now) c.args.tables.missing (table_view c.args.table.now)
    (sight_view c.in_ok-sight.sight)) c.behind_own.ensures) in
    subst (λ y. OnOk c.push_seen.result (resolutions_view c.push_seen.new.resolutions.items ≡ resolutions_view c.args.resolutions.now.items ++ y))
    (ap (λ k. asserts_by (sight_view c.in_ok-sight.sight) k (table_view c.args.table.now).component.body) modes
    ∙ ap (λ s. asserts_by s (modes_seen c.args.depth (tables_view c.args.tables.all.now) c.args.tables.missing (table_view c.args.table.now) s
    (behind_own c.args.way (table_view c.args.table.now) c.args.base)) (table_view c.args.table.now).component.body)
    c.in_ok-sight.ensures)
    c.push_seen.ensures
