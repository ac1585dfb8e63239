use Rattle.std.proofs.Common.{ℕ, ◌∙◌, ◌++◌, List, ap}
use Rattle.std.specs.List.{flat_map}
use Rattle.lus_meaning.specs.declared.trace.PlacedValue.{PlacedValue}
use Rattle.lus_meaning.specs.TraceView.{spot_view, values_view}
use Rattle.trace_text.proofs.Texts.{line_is}
use Rattle.trace_text.specs.Words.{step_text}
use Rattle.trace_text.specs.Traces.{item_text}
use Rattle.trace_text.proofs.writing.put_line.Goals as goal

pub returns : goal.returns
returns c =
    line_is c.args.out.now.items c.put_path.new.out.items c.put_spot.new.out.items c.put_values.new.out.items c.push.new.self.items
    c.args.line.now.path.items (spot_view c.args.line.now.what) (values_view c.args.line.now.values.items)
    (c.in_ok-put_path.ensures ∙ ap (λ (x : List ℕ). c.args.out.now.items ++ flat_map step_text x) c.deref.ensures.value) c.in_ok-put_spot.ensures
    (c.in_ok-put_values.ensures ∙ ap (λ (x : List PlacedValue). c.put_spot.new.out.items ++ flat_map item_text (values_view x))
    c.deref-2.ensures.value) c.in_ok-push.ensures.items
