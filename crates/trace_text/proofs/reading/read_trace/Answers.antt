use Rattle.std.proofs.Common.{Result, subst}
use Rattle.lus_tree.specs.declared.place.Pos.{Pos}
use Rattle.lus_meaning.specs.TraceView.{Listing, trace_view}
use Rattle.trace_text.specs.Reading.{Gives}
use Rattle.trace_text.proofs.Unique.{trace_read, misfit_read, is_found, is_refused}
use Rattle.trace_text.proofs.reading.read_trace.Goals as goal

pub returns-clause-found : goal.returns-clause-found
returns-clause-found c = is_found c.args.bytes.now c.whole.result c.whole.ensures

pub returns-clause-form : goal.returns-clause-form
returns-clause-form c = is_refused c.args.bytes.now c.whole.result c.whole.ensures

pub returns-clause-only : goal.returns-clause-only
returns-clause-only c = λ t a. subst (λ (r : Result Listing Pos). Gives trace_view c.whole.result r) (trace_read c.args.bytes.now t a) c.whole.ensures

pub returns-clause-told : goal.returns-clause-told
returns-clause-told c = λ p m. subst (λ (r : Result Listing Pos). Gives trace_view c.whole.result r) (misfit_read c.args.bytes.now p m) c.whole.ensures
