use Rattle.sys_contracts.proofs.Itemized.{items_are}
use Rattle.sys_contracts.proofs.laws.items_are_translated.Goals as goal

pub returns : goal.returns
returns c = λ s i at h a. items_are s i at h a
