use Rattle.evaluation_rows.proofs.PastRows.{merging_within, sampling_past}
use Rattle.evaluation_rows.proofs.past_rows.clocks_row.Goals as goal

pub returns-clause-merge_within : goal.returns-clause-merge_within
returns-clause-merge_within c = merging_within

pub returns-clause-sampled_past : goal.returns-clause-sampled_past
returns-clause-sampled_past c = sampling_past
