-- What is found of declarations, as contracts see it.
use Rattle.std.specs.Prelude.{ℕ, List, map}
use Rattle.lus_order.specs.declared.dependence.Dependence.{Dependence}

abbrev pub orders_seen : List Dependence → List (List ℕ)
orders_seen ds = map (λ d. d.order.items) ds

abbrev pub inputs_seen : Dependence → List (List ℕ)
inputs_seen d = map (λ r. r.items) d.reads.items

abbrev pub reads_seen : List Dependence → List (List (List ℕ))
reads_seen ds = map inputs_seen ds
