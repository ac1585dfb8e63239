-- Computations that do not stop.
use Rattle.std.specs.Prelude.{◌≡◌, Bool, true, false, cond, refl}
use Rattle.proof_checker.specs.Theory.{Outcome, value, past, stopped, and_then}

-- the computation ends with such a value, or past 128 bits
abbrev pub Gives : {X : Type 0} → (X → Type 0) → Outcome X → Type 0
Gives P (value x) = P x
Gives P past = Unit
Gives P stopped = ⊥

pub gives-then : {X Y : Type 0} (P : X → Type 0) (Q : Y → Type 0) (o : Outcome X) (f : X → Outcome Y) → Gives P o
    → ((x : X) → P x → Gives Q (f x)) → Gives Q (and_then o f)
gives-then P Q (value x) f h k = k x h
gives-then P Q past f h k = tt
gives-then P Q stopped f h k = absurd h

pub gives-kept : {X : Type 0} (P : X → Type 0) (b : Bool) (o : Outcome X) → Gives P o → Gives P (cond b o past)
gives-kept P true o h = h
gives-kept P false o h = tt

-- with the value that it is
pub gives-with : {X : Type 0} (P Q : X → Type 0) (o : Outcome X) → Gives P o → ((x : X) → o ≡ value x → P x → Q x)
    → Gives Q o
gives-with P Q (value x) h k = k x refl h
gives-with P Q past h k = tt
gives-with P Q stopped h k = absurd h
