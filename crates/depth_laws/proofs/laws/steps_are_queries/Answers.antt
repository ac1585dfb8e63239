use Rattle.std.specs.Prelude.{[], refl}
use Rattle.sys_terms.specs.View.{step}
use Rattle.depth_laws.proofs.Parts.{citing-step-query, step-query}
use Rattle.depth_laws.proofs.laws.steps_are_queries.Goals as goal

pub returns-clause-alone : goal.returns-clause-alone
returns-clause-alone c = λ m p k fit property.
    step-query m p k (citing-step-query m p k [] fit property refl
    (c.values_that_meet_are_answers.ensures m (step p k) []) (c.joined_states_come_back.ensures m))

pub returns-clause-cited : goal.returns-clause-cited
returns-clause-cited c = λ m p k terms fit property cited.
    citing-step-query m p k terms fit property cited
    (c.values_that_meet_are_answers.ensures m (step p k) terms) (c.joined_states_come_back.ensures m)
