-- Looking at one token.
use Rattle.std.specs.Prelude.{◌≡◌, ℕ, ◌⊎◌, Bool, true, false}
use Rattle.lus_tree.specs.Reason.{Refused, memory}
use Rattle.lus_lexer.specs.declared.token.Class.{Class}
use Rattle.lus_lexer.specs.declared.token.Class.TheVariants.{LeftOut}
use Rattle.lus_grammar.specs.Stream.{Stream}
use Rattle.lus_grammar.specs.Syntax.{Syntax}
use Rattle.lus_grammar.specs.Run.{unexpected}
use Rattle.lus_grammar.specs.Source.{IsReason}

-- the refusal of a mark that can't be taken, or memory ran out
abbrev pub RefusesMark : Stream → ℕ → Refused → Type 0
RefusesMark s k r = (r.reason ≡ memory) ⊎ ((r.at ≡ (s k).at) × IsReason (s k) unexpected r.reason)

-- a class that the grammar has
abbrev pub is_kept : Class → Bool
is_kept (LeftOut w) = false
is_kept _ = true

-- what stands there says nothing
abbrev pub nothing_of : Syntax → Unit {0}
nothing_of x = tt
