use Rattle.std.proofs.Common.{refl}
use Rattle.lus_lexer.proofs.table.signs_from.Goals as goal

pub returns-in-40 : goal.returns-in-40
returns-in-40 c = rw c.in-40.is refl

pub returns-in-41 : goal.returns-in-41
returns-in-41 c = rw c.in-41.is refl

pub returns-in-44 : goal.returns-in-44
returns-in-44 c = rw c.in-44.is refl

pub returns-in-59 : goal.returns-in-59
returns-in-59 c = rw c.in-59.is refl

pub returns-in-58 : goal.returns-in-58
returns-in-58 c = rw c.in-58.is refl

pub returns-in-61 : goal.returns-in-61
returns-in-61 c = rw c.in-61.is refl

pub returns-in-60 : goal.returns-in-60
returns-in-60 c = rw c.in-60.is refl

pub returns-in-62 : goal.returns-in-62
returns-in-62 c = rw c.in-62.is refl

pub returns-in-43 : goal.returns-in-43
returns-in-43 c = rw c.in-43.is refl

pub returns-in-45 : goal.returns-in-45
returns-in-45 c = rw c.in-45.is refl

pub returns-in-42 : goal.returns-in-42
returns-in-42 c = rw c.in-42.is refl

pub returns-in-47 : goal.returns-in-47
returns-in-47 c = rw c.in-47.is refl

pub returns-in-94 : goal.returns-in-94
returns-in-94 c = rw c.in-94.is refl

pub returns-in-91 : goal.returns-in-91
returns-in-91 c = rw c.in-91.is refl

pub returns-in-93 : goal.returns-in-93
returns-in-93 c = rw c.in-93.is refl

pub returns-in-123 : goal.returns-in-123
returns-in-123 c = rw c.in-123.is refl

pub returns-in-125 : goal.returns-in-125
returns-in-125 c = rw c.in-125.is refl

pub returns-in-46 : goal.returns-in-46
returns-in-46 c = rw c.in-46.is refl

pub returns-in-35 : goal.returns-in-35
returns-in-35 c = rw c.in-35.is refl

pub returns-in-124 : goal.returns-in-124
returns-in-124 c = rw c.in-124.is refl
