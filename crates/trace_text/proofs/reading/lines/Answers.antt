use Rattle.std.proofs.Common.{rules, ◌≡◌, ◌++◌, ◌∷◌, [], Ok, map, ap, ◌∙◌}
use Rattle.std.proofs.lemmas.Result.{err_from_is_err_and}
use Rattle.std.proofs.lemmas.List.{map_push}
use Rattle.lus_meaning.specs.TraceView.{line_view}
use Rattle.trace_text.specs.declared.reading.Next.{Next}
use Rattle.trace_text.specs.Reading.{left_of, lines_left, next_view}
use Rattle.trace_text.proofs.Lines.{fewer, lines_end_with, lines_go_on, lines_done}
use Rattle.trace_text.proofs.reading.lines.Goals as goal

pub returns-in_err-line : goal.returns-in_err-line
returns-in_err-line c =
    let p = err_from_is_err_and c.from_residual.result c.from_residual.ensures.1 in
    rw (p.1, p.2) (lines_end_with c.in_err-line.field-0.0 (map line_view c.loop-lines.lines.items) (left_of c.loop-lines.here)
    (lines_left (left_of c.args.start)) c.in_err-line.ensures.line c.loop-lines.invariant.same)

pub loop-lines-smaller : goal.loop-lines-smaller
loop-lines-smaller c = fewer (left_of c.loop-lines.here) (line_view c.in-Line.line) (left_of c.in-Line.after)
    (c.in_ok-line.ensures.line ∙ ap (λ (o : Next). Ok (next_view o)) c.in-Line.is)

pub loop-lines-preserved : goal.loop-lines-preserved
loop-lines-preserved c = record {
  same =
      let x = line_view c.in-Line.line in
      let f : map line_view c.push.new.self.items ≡ map line_view c.loop-lines.lines.items ++ x ∷ [] = rw c.in_ok-push-in-Line.ensures.items
      (map_push _ c.loop-lines.lines.items c.in-Line.line) in
      lines_go_on (map line_view c.loop-lines.lines.items) _ (left_of c.loop-lines.here) x (left_of c.in-Line.after) _ f
      (c.in_ok-line.ensures.line ∙ ap (λ (o : Next). Ok (next_view o)) c.in-Line.is) c.loop-lines.invariant.same;
  within = search rules;
}

pub returns-in-End : goal.returns-in-End
returns-in-End c = lines_done (map line_view c.loop-lines.lines.items) (left_of c.loop-lines.here) c.in-End.at
    (lines_left (left_of c.args.start)) (c.in_ok-line.ensures.line ∙ ap (λ (o : Next). Ok (next_view o)) c.in-End.is)
    c.loop-lines.invariant.same
