use Rattle.std.specs.Prelude.{refl}
use Rattle.cnf_maker.proofs.PlainForms.{atoms-are-plain}
use Rattle.smt_solver.proofs.NumberValued.{number-valued}
use Rattle.smt_solver.proofs.laws.whole_values_meet.Goals as goal

pub returns : goal.returns
returns c = λ q n count f more ms trail t fit e full h.
    number-valued c.bounds_say_what_literals_say.ensures f more ms trail t h full.apart q n count fit e
    (atoms-are-plain q fit f e) full _ refl
