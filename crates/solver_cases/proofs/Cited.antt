-- Nothing cited is cited rightly.
use Rattle.std.specs.Prelude.{[], List}
use Rattle.std.proofs.Common.{arith}
use Rattle.cert_rules.specs.Facts.{Fact, AreCited}

pub none-cited : (facts : List Fact) → AreCited facts []
none-cited facts k d l = absurd (omega arith)
