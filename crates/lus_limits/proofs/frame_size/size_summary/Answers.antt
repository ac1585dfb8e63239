use Rattle.std.proofs.Common.{map, ap, ◌∙◌}
use Rattle.lus_limits.specs.Contracted.{summaries_seen, summary_seen}
use Rattle.lus_limits.specs.Measured.{size_view}
use Rattle.lus_limits.specs.SizeCuts.{cut_peaks}
use Rattle.lus_limits.specs.SizeSummaries.{contract_at, no_peaks, peaks_after}
use Rattle.lus_streams.specs.Names.{names_view}
use Rattle.lus_limits.proofs.Frames.{summary_made}
use Rattle.lus_limits.proofs.frame_size.size_summary.Goals as goal

pub returns : goal.returns
returns c =
    summary_made (names_view c.args.names) (map (λ d. d.way) c.args.calls.now) (summaries_seen c.args.links.now)
    (summary_seen (record { contract = c.in_ok-contract.contract; called = c.in_ok-called.called; imported = c.in_ok-imported.imported }))
    (size_view c.frames-callees.result)
    (c.in_ok-contract.ensures
    ∙ ap (λ cs. cut_peaks (peaks_after (names_view c.args.names) (contract_at (summaries_seen c.args.links.now)) no_peaks cs)) c.contract.ensures)
    c.frames-callees.ensures c.in_ok-called.ensures c.in_ok-imported.ensures
