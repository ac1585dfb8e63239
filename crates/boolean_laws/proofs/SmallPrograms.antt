-- Small programs with and without integers.
use Rattle.std.specs.Prelude.{[], ◌∷◌, refl}
use Rattle.std.proofs.Common.{sym}
use Rattle.lus_meaning.specs.Program.{instance_of}
use Rattle.term_laws.proofs.Weights.{no_number}
use Rattle.boolean_laws.specs.Integers.{HasNoneItself, HasNoIntegers, IsWithoutIntegers}
use Rattle.boolean_laws.specs.Worked.{calls_node, comparing, negating, flags_alone, with_a_counter, with_literals}

negating_has_none : HasNoneItself (instance_of flags_alone negating)
negating_has_none = record { streams = (refl, (refl, tt)); expressions = (refl, (refl, tt)) }

calling_has_none : HasNoneItself (instance_of flags_alone (calls_node (110 ∷ [])))
calling_has_none = record { streams = (refl, (refl, tt)); expressions = (refl, (refl, tt)) }

pub flags_have_none : IsWithoutIntegers flags_alone
flags_have_none = (negating_has_none, (calling_has_none, tt))

pub callers_have_none : HasNoIntegers (instance_of flags_alone (calls_node (110 ∷ [])))
callers_have_none = (calling_has_none, ((record { streams = (refl, (refl, tt)); expressions = (refl, (refl, tt)) }, tt), tt))

pub literals_are_integers : ¬ HasNoIntegers (instance_of with_literals comparing)
literals_are_integers h = no_number (sym h.0.expressions.0)

pub callees_count : ¬ HasNoIntegers (instance_of with_a_counter (calls_node (107 ∷ [])))
callees_count h = no_number (sym h.1.0.0.streams.1.1.0)
