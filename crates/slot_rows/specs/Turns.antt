-- The slots of a row in turn, each with its source: those that are given their values at their instant, and those to which something is brought.
use Rattle.std.specs.Prelude.{ℕ, suc, Bool, true, false, cond, List, [], ◌∷◌, ◌++◌, Option, Some, None, slice_get}
use Rattle.slot_sources.specs.Source.{Source, remembered, starting, held, source_view}
use Rattle.slot_rows.specs.Table.{is_brought}
use Rattle.slot_rows.specs.declared.turn.Turn.{Turn as CodeTurn}

pub record Turn : Type 0 where
  pub slot : ℕ
  pub source : Source

abbrev pub turn_view : CodeTurn → Turn
turn_view t = record { slot = t.slot; source = source_view t.source.now }

-- ---- those that are given their values at their instant, in an order

abbrev pub turn_given : ℕ → Option Source → List Turn
turn_given k None = []
turn_given k (Some e) = cond (is_brought e) [] (record { slot = k; source = e } ∷ [])

abbrev pub turns_given : List Source → List ℕ → List Turn
turns_given es [] = []
turns_given es (k ∷ ks) = turn_given k (slice_get es k) ++ turns_given es ks

-- ---- those to which something is brought

abbrev pub takes_over : Source → Bool
takes_over (remembered w e) = true
takes_over (starting w) = true
takes_over (held b o d) = true
takes_over _ = false

abbrev pub turn_brought : ℕ → Source → List Turn
turn_brought k e = cond (takes_over e) (record { slot = k; source = e } ∷ []) []

-- from the number k on
abbrev pub turns_brought : ℕ → List Source → List Turn
turns_brought k [] = []
turns_brought k (e ∷ es) = turn_brought k e ++ turns_brought (suc k) es
