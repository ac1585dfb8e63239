use Rattle.std.proofs.Common.{rules, ◌≡◌, ◌++◌, OnOk, map, length, ap, ◌∙◌, subst}
use Rattle.std.specs.Prelude.{slice_range}
use Rattle.sys_tables.specs.Views.{named_view}
use Rattle.sys_texts.specs.Views.{sight_view}
use Rattle.frame_sources.specs.OwnSources.{stream_source}
use Rattle.frame_sources.specs.Views.{all_asked_view, sources_view}
use Rattle.frame_sources.proofs.Placed.{whole_rest}
use Rattle.frame_sources.proofs.own.push_from.Goals as goal

pub returns-in-Some : goal.returns-in-Some
returns-in-Some c =
    let rest : c.in-Some.rest.now ≡ slice_range c.args.streams.now c.args.count (length c.args.streams.now) = search rules in
    subst (λ z. OnOk c.push_others.result (sources_view c.push_others.new.sources.items ≡ sources_view c.args.sources.now.items
    ++ map (stream_source (sight_view c.args.sight.now) (all_asked_view c.args.modes.now)) z))
    (ap (map named_view) rest ∙ whole_rest named_view c.args.streams.now c.args.count)
    c.push_others.ensures
