use Rattle.lus_limits.proofs.SizeSummaries.{size_summary_by_text, terms_by_summaries, limits_by_peaks}
use Rattle.lus_limits.proofs.laws.size_summary_by_text.Goals as goal

pub returns-clause-summaries : goal.returns-clause-summaries
returns-clause-summaries c = size_summary_by_text

pub returns-clause-terms : goal.returns-clause-terms
returns-clause-terms c = terms_by_summaries

pub returns-clause-limits : goal.returns-clause-limits
returns-clause-limits c = limits_by_peaks
