-- How results of the code stand for outcomes.
use Rattle.std.specs.Prelude.{◌≡◌, Result, Ok, Err}
use Rattle.proof_checker.specs.declared.trouble.Trouble.{Trouble}
use Rattle.proof_checker.specs.declared.trouble.Trouble.TheVariants.{Past, Stopped, Memory}
use Rattle.proof_checker.specs.Theory.{Outcome, value, past, stopped}

-- out of memory may come at any time
abbrev pub Fails : {X : Type 0} → Outcome X → Trouble → Type 0
Fails o Past = o ≡ past
Fails o Stopped = o ≡ stopped
Fails o Memory = Unit

-- the outcome is what a result and the value left behind say
abbrev pub Leaves : {X Y : Type 0} → Outcome X → Result Y Trouble → X → Type 0
Leaves o (Ok u) x = o ≡ value x
Leaves o (Err t) x = Fails o t

-- a made value is the outcome's
abbrev pub Makes : {X Y : Type 0} → (Y → X) → Outcome X → Result Y Trouble → Type 0
Makes view o (Ok y) = o ≡ value (view y)
Makes view o (Err t) = Fails o t
