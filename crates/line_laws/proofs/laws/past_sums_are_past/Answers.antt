use Rattle.line_laws.proofs.PastSteps.{sum_is_past}
use Rattle.line_laws.proofs.laws.past_sums_are_past.Goals as goal

pub returns : goal.returns
returns c = λ f pairs parts first x past h e s. sum_is_past f pairs parts first h e x past s
