use Rattle.std.proofs.Common.{ap, ◌∙◌}
use Rattle.kind_main.specs.Ending.{line_bytes}
use Rattle.kind_main.proofs.Reporting.{pushed-line}
use Rattle.kind_main.proofs.report.push_break.Goals as goal

pub returns-in_ok-push : goal.returns-in_ok-push
returns-in_ok-push c =
    rw c.in-Some.is (pushed-line line_bytes c.args.lines.now.items c.push.new.self.items c.into_bytes.result _ c.in_ok-push.ensures.items
    (ap line_bytes c.into_bytes.ensures.value ∙ c.in_ok-line.ensures))
