-- What is listed is no default.
use Rattle.std.proofs.Common.{◌≡◌, refl}
use Rattle.kind_num.specs.declared.Shape.{Shape}
use Rattle.kind_num.specs.declared.Shape.TheVariants.{Flag, Number}
use Rattle.lus_meaning.specs.CodeValue.{value_view}
use Rattle.lus_meaning.specs.declared.value.Value.{Value}
use Rattle.lus_meaning.specs.declared.value.Value.TheVariants.{Truth, Whole}
use Rattle.replay_laws.specs.Chosen.{shape_default}

pub listed_stays : (s : Shape) (v : Value) → value_view v ≡ shape_default s (value_view v)
listed_stays Flag (Truth b) = refl
listed_stays Flag (Whole z) = refl
listed_stays Number (Truth b) = refl
listed_stays Number (Whole z) = refl
