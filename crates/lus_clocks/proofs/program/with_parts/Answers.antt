use Rattle.std.proofs.Common.{IfOk, Result, Ok, Err, ◌∙◌, ap}
use Rattle.lus_scopes.specs.Least.{least_view, noted_all}
use Rattle.lus_clocks.specs.Items.{component_walk}
use Rattle.lus_clocks.proofs.program.with_parts.Goals as goal

-- what holds whatever is answered
where_ok : {A E : Type 0} (P : Type 0) (r : Result A E) → P → IfOk r (λ _. P)
where_ok P (Ok x) h = h
where_ok P (Err e) h = tt

pub returns-clause-noted : goal.returns-clause-noted
returns-clause-noted c =
    where_ok _ c.table_of.result
    (c.component.ensures ∙ ap (λ z. noted_all (least_view c.args.least.now) (component_walk z)) c.with_streams-names.ensures)
