use Rattle.sys_texts.proofs.Terms.{parts_are, presence_is, rights_are}
use Rattle.sys_texts.proofs.laws.parts_are_terms.Goals as goal

pub returns-clause-parts : goal.returns-clause-parts
returns-clause-parts c = λ s ms g e h u. parts_are s ms g h e u

pub returns-clause-rights : goal.returns-clause-rights
returns-clause-rights c = λ s ms g e h u. rights_are s ms g h e u

pub returns-clause-presence : goal.returns-clause-presence
returns-clause-presence c = λ s ms g k h. presence_is s ms g h k
