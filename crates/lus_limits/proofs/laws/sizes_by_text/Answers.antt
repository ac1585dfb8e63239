use Rattle.lus_limits.proofs.Sizes.{contract_sizes_by_text, frames_by_text, terms_by_text, beside_cuts, above_cuts}
use Rattle.lus_limits.proofs.laws.sizes_by_text.Goals as goal

pub returns-clause-contracts : goal.returns-clause-contracts
returns-clause-contracts c = contract_sizes_by_text

pub returns-clause-frames : goal.returns-clause-frames
returns-clause-frames c = frames_by_text

pub returns-clause-terms : goal.returns-clause-terms
returns-clause-terms c = terms_by_text

pub returns-clause-beside : goal.returns-clause-beside
returns-clause-beside c = beside_cuts

pub returns-clause-above : goal.returns-clause-above
returns-clause-above c = above_cuts
