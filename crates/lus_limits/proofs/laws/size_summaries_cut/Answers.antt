use Rattle.lus_limits.proofs.SizeCuts.{size_summary_cuts, terms_cut}
use Rattle.lus_limits.proofs.laws.size_summaries_cut.Goals as goal

pub returns-clause-summaries : goal.returns-clause-summaries
returns-clause-summaries c = size_summary_cuts

pub returns-clause-terms : goal.returns-clause-terms
returns-clause-terms c = terms_cut
